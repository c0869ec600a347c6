use Rattle.std.proofs.Common.{ap, sym, ◌∙◌}
use Rattle.gpa_space.specs.Page.{message_bytes}
use Rattle.gpa_space.specs.Space.{after_slot}
use Rattle.message_queues.specs.Image.{header, image}
use Rattle.synic_board.proofs.AtOnce.{post-image, timer-image}
use Rattle.synic_board.proofs.machine.delivery.write_image.Goals as goal

pub returns-in-FromPort : goal.returns-in-FromPort
returns-in-FromPort c =
    let m = c.in-FromPort in
    let front = c.header-header.ensures ∙ ap (λ n. header m.kind n c.args.pending m.port) c.len.ensures.value in
    let bytes = (λ j. message_bytes (front j) (c.as_slice.ensures.value j))
    ∙ sym (post-image m.ticket m.port m.kind c.args.moment m.payload.items c.args.pending) in
    c.write_message.ensures ∙ ap (after_slot c.args.space.now c.args.vp c.args.sint)
    (bytes ∙ ap (λ x. image x c.args.pending c.args.moment) (sym m.is))

pub returns-in-FromTimer : goal.returns-in-FromTimer
returns-in-FromTimer c =
    let m = c.in-FromTimer in
    let bytes = sym (timer-image m.ticket m.timer m.expiration c.args.moment c.args.pending)
    ∙ ap (λ x. image x c.args.pending c.args.moment) (sym m.is) in
    c.write_expiry.ensures ∙ ap (after_slot c.args.space.now c.args.vp c.args.sint) bytes
