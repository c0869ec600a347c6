use Rattle.actor_calls.proofs.Taking.{taken-on}
use Rattle.board_threads.proofs.Following.{performed}
use Rattle.board_threads.proofs.workers.perform_setup.Goals as goal

pub loop-event-preserved : goal.loop-event-preserved
loop-event-preserved g c =
    performed _ _ c.event-item.result _ c.args.actor c.loop-event.actor _ _ _
    (taken-on c.args.events.now c.loop-event.event-index c.event-item.result c.loop-event-test.true c.event-item.is)
    c.loop-event.invariant c.in_ok-perform.ensures.ok c.copy.ensures
