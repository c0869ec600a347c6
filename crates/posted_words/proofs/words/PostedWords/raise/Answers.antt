use Rattle.std.proofs.Common.{rules, ℕ, ◌*◌, ◌<◌, ap, arith}
use Rattle.posted_words.proofs.Steps.{raises_as}
use Rattle.posted_words.proofs.words.PostedWords.raise.Goals as goal

pub fetch_or-found-requires : goal.fetch_or-found-requires
fetch_or-found-requires c =
    let i = c.self.invariant in
    let there : c.args.vp < c.self.inside.processors = search rules in
    let inside : c.word_of.result < 4 * c.self.inside.processors = omega (arith, c.word_of.ensures) in (
      search rules,
      omega (arith, i.1),
      raises_as _ _ _ _ _ _ _ c.line.invariant (omega (arith, ap (λ (k : ℕ × ℕ). k.0) i.0)) (omega arith),
    )
