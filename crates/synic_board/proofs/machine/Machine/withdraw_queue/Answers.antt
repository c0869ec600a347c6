use Rattle.std.proofs.Common.{◌≡◌, ◌<◌, [], length, refl, ap, sym, ◌∙◌, arith, get_or-set_same}
use Rattle.board_terms.specs.Sources.{source_number}
use Rattle.message_queues.specs.Queues.{Queues, queue_of}
use Rattle.synic_board.specs.State.{BoardModel, processors}
use Rattle.synic_board.proofs.Restored.{kept-queued}
use Rattle.synic_board.proofs.machine.Machine.withdraw_queue.Goals as goal

pub invariant_of-self : goal.invariant_of-self
invariant_of-self c =
    let b = c.self.inside in
    let on = ap (λ (h : BoardModel). processors h.state) c.self.view_is in
    let within : source_number c.args.vp c.args.sint < length b.queues =
    omega (arith, c.self.invariant.queues, on, c.requires.on) in
    let none : 0 ≡ length (queue_of c.withdraw_all-tickets.new.queues c.args.vp c.args.sint) =
    sym (ap (λ (qs : Queues). length (queue_of qs c.args.vp c.args.sint)) c.withdraw_all-tickets.ensures.rest
    ∙ ap length (get_or-set_same b.queues (source_number c.args.vp c.args.sint) [] [] within)) in
    kept-queued b c.args.vp c.args.sint 0 b.next_ticket [] c.withdraw_all-tickets.new.queues b.slots b.space
    c.write.new.self c.self.invariant within
    c.withdraw_all-tickets.ensures.rest none refl refl refl c.write.ensures
