use Rattle.std.proofs.Common.{rules, ◌≡◌, [], ◌∷◌, ◌++◌, ap, ◌∙◌, arith}
use Rattle.posted_words.specs.Words.{Token}
use Rattle.actor_calls.proofs.Taking.{taken-on}
use Rattle.board_threads.proofs.Following.{raised-on}
use Rattle.board_threads.proofs.workers.raise.Goals as goal

pub loop-vp-preserved : goal.loop-vp-preserved
loop-vp-preserved g c =
    let i = c.loop-vp.invariant in
    let s = c.loop-vp-item.result in
    let more = taken-on c.args.script.now c.loop-vp.vp-index s c.loop-vp-test.true c.loop-vp-item.is in
    let now : c.push_reserved.new.self.items ≡ c.loop-vp.answers.items ++ c.raise.result ∷ [] = search rules in
    let t = raised-on _ _ c.loop-vp.answers.items c.push_reserved.new.self.items c.loop-vp.line.actions
    c.raise.new.line.actions s c.raise.result more i.1 i.2 now
    (ap (λ (x : Token). x.actions) c.raise.ensures) in
    (ap (λ (x : Token). x.of) c.raise.ensures ∙ i.0, t.0, t.1, omega (arith, i.3))
