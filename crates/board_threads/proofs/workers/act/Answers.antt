use Rattle.std.proofs.Common.{ap, ◌∙◌, arith}
use Rattle.board_threads.specs.Sharing.{Acting}
use Rattle.actor_calls.proofs.Taking.{taken-on}
use Rattle.board_threads.proofs.Following.{acted, swept_on}
use Rattle.board_threads.proofs.workers.act.Goals.{in-Act+in_ok-perform-in-Act, in-Sweep+in_ok-absorb-in-Sweep}
use Rattle.board_threads.proofs.workers.act.Goals as goal

pub loop-step-preserved : goal.loop-step-preserved
loop-step-preserved g c =
    let s = c.step-item.result in
    let i = c.loop-step.invariant in
    let more = taken-on c.args.script.now c.loop-step.step-index s c.loop-step-test.true c.step-item.is in
    elim c.match-step.branch [
      | in-Act+in_ok-perform-in-Act w ↦ (
        acted _ _ s c.args.actor c.loop-step.actor c.match-step.actor _ _ _ _ more i.0 w.in-Act.is w.copy.ensures
            (w.actor-is ∙ w.in_ok-perform-in-Act.ensures.ok),
        omega (arith, i.1),
      )
      | in-Sweep+in_ok-absorb-in-Sweep w ↦ (
        swept_on _ _ s c.args.actor c.loop-step.actor c.match-step.actor _ _ _ _ _ more i.0 w.in-Sweep.is
            (w.actor-is ∙ w.in_ok-absorb-in-Sweep.ensures.ok.1)
            (λ refused. ap (λ (a : Acting). a.calls) w.actor-is ∙ w.in_ok-absorb-in-Sweep.ensures.refused refused),
        omega (arith, i.1),
      )
    ]
