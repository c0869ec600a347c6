use Rattle.std.proofs.Common.{◌∙◌, refl}
use Rattle.message_queues.proofs.ImageLemmas.{four-bytes, eight-bytes}
use Rattle.message_queues.proofs.slots.timer_payload.Goals as goal

pub returns : goal.returns
returns c =
    let index = c.copy_from_slice.ensures.after ∙ c.to_le_bytes.ensures ∙ four-bytes c.args.index in
    let expiration = c.copy_from_slice-2.ensures.after ∙ c.to_le_bytes-2.ensures ∙ eight-bytes c.args.expiration in
    let delivery = c.copy_from_slice-3.ensures.after ∙ c.to_le_bytes-3.ensures ∙ eight-bytes c.args.delivery in
    rw (index, expiration, delivery) refl
