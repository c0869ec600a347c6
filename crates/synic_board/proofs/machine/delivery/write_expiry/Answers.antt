use Rattle.std.proofs.Common.{ap, ◌∙◌}
use Rattle.gpa_space.specs.Page.{message_bytes}
use Rattle.gpa_space.specs.Space.{after_slot}
use Rattle.message_queues.specs.Image.{timer_payload}
use Rattle.synic_board.proofs.machine.delivery.write_expiry.Goals as goal

pub returns : goal.returns
returns c =
    let payload =
    c.timer_payload-payload.ensures
    ∙ ap (λ i. timer_payload i c.args.expiration c.args.moment) c.index.ensures.value in
    c.write_message.ensures ∙
    (λ j. after_slot c.args.space.now c.args.vp c.args.sint (message_bytes (c.timer_header.ensures j) (payload j)))
