use Rattle.std.proofs.Common.{◌<◌, refl, ap, ◌∙◌, arith}
use Rattle.message_queues.specs.Queues.{processors_of, is_timer_free}
use Rattle.synic_board.specs.State.{BoardModel, processors}
use Rattle.synic_board.proofs.Restored.{kept-queued}
use Rattle.synic_board.proofs.machine.Machine.accept_expiry.Goals as goal

pub invariant_of-self : goal.invariant_of-self
invariant_of-self c =
    let b = c.self.inside in
    let on = ap (λ (h : BoardModel). processors h.state) c.self.view_is in
    kept-queued b c.args.vp c.args.sint c.count-count.result _ _ c.append_expiry.new.self b.slots b.space
    c.write.new.self c.self.invariant
    (omega (arith, c.self.invariant.queues, on, c.requires.on)) c.append_expiry.ensures.queued
    c.count-count.ensures.value refl refl refl c.write.ensures

pub append_expiry-requires-clause-buffer : goal.append_expiry-requires-clause-buffer
append_expiry-requires-clause-buffer c =
    let b = c.self.inside in
    let on = ap (λ (h : BoardModel). processors h.state) c.self.view_is in
    let there : c.args.timer.0 < processors_of b.queues =
    omega (arith, c.self.invariant.queues, on, c.requires.timer) in
    (there, ap (λ (h : BoardModel). is_timer_free h.state.queues c.args.timer) c.self.view_is ∙ c.requires.free)
