use Rattle.std.proofs.Common.{refl, ap, sym, subst, ◌∙◌, ◌<◌}
use Rattle.std.specs.List.{All}
use Rattle.board_terms.specs.Messages.{ticket_of}
use Rattle.synic_board.specs.State.{State}
use Rattle.message_queues.specs.Queues.{HasBuffer, queue_of}
use Rattle.synic_board.specs.Timed.{HasExpired}
use Rattle.synic_board.specs.Restoring.{IsUnplaced}
use Rattle.synic_board.proofs.draft.Draft.may_join.Goals as goal

pub returns-then-is_behind_slot : goal.returns-then-is_behind_slot
returns-then-is_behind_slot c =
    let message = c.if-not-is_message.ensures.0 refl in
    let home = c.if-not-is_home.ensures.0 refl in
    let buffer =
    subst (λ (s : State). HasBuffer s.queues c.args.message.now) c.self.view_is
    (c.if-not-has_buffer.ensures.0 refl) in
    let time = subst (λ m. HasExpired m c.args.sint c.args.message.now)
    (c.moment.ensures ∙ ap (λ (s : State). s.moment) c.self.view_is) (c.if-not-is_timely.ensures.0 refl) in
    let order = c.if-not-is_in_order.ensures.0 refl in
    let behind = c.is_behind_slot.ensures.0 c.if-is_behind_slot.true in (
      λ loose. record {
        message = message;
        home = home.0;
        buffer = buffer;
        share = home.1;
        ticket = subst (λ t. IsUnplaced c.args.self.now t) c.ticket-ticket.ensures
            (c.is_unplaced.ensures.0 loose);
        order = subst (λ t. All (λ x. ticket_of x < t) (queue_of c.args.self.now.queues c.args.vp c.args.sint))
            c.ticket-ticket.ensures order;
        behind = λ t held. subst (λ x. t < x) c.ticket-ticket.ensures (behind t held);
        time = time;
      },
      λ may. c.is_unplaced.ensures.1
          (subst (λ t. IsUnplaced c.args.self.now t) (sym c.ticket-ticket.ensures) may.ticket),
    )
