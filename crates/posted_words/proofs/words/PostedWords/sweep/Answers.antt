use Rattle.std.proofs.Common.{rules, ℕ, ◌*◌, ◌<◌, ap, arith}
use Rattle.posted_words.proofs.Steps.{sweeps_as}
use Rattle.posted_words.proofs.words.PostedWords.sweep.Goals as goal

pub swap-requires : goal.swap-requires
swap-requires c =
    let i = c.self.invariant in
    let there : c.args.vp < c.self.inside.processors = search rules in
    let inside : c.word_of.result < 4 * c.self.inside.processors = omega (arith, c.word_of.ensures) in (
      search rules,
      omega (arith, i.1),
      sweeps_as _ _ _ _ _ _ c.sweeper.invariant (omega (arith, ap (λ (k : ℕ × ℕ). k.0) i.0)),
    )
