use Rattle.std.proofs.Common.{refl, ap, arith}
use Rattle.synic_board.specs.State.{BoardModel, processors}
use Rattle.synic_board.proofs.Restored.{kept-queued}
use Rattle.synic_board.proofs.machine.Machine.accept_post.Goals as goal

pub invariant_of-self : goal.invariant_of-self
invariant_of-self c =
    let b = c.self.inside in
    let on = ap (λ (h : BoardModel). processors h.state) c.self.view_is in
    kept-queued b c.args.vp c.args.sint c.count-count.result _ _ c.append_post.new.self b.slots b.space
    c.write.new.self c.self.invariant
    (omega (arith, c.self.invariant.queues, on, c.requires.on)) c.append_post.ensures.queued
    c.count-count.ensures.value refl refl refl c.write.ensures
