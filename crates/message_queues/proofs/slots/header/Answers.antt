use Rattle.std.proofs.Common.{◌∙◌, arith, refl}
use Rattle.message_queues.proofs.ImageLemmas.{eight-bytes, first-word}
use Rattle.message_queues.proofs.slots.header.Goals as goal

pub returns : goal.returns
returns c =
    let first = c.copy_from_slice.ensures.after ∙ c.to_le_bytes.ensures ∙ eight-bytes _
    ∙ first-word c.args.kind c.args.size c.flags_of.result (omega arith) (omega arith) (omega arith) in
    let second = c.copy_from_slice-2.ensures.after ∙ c.to_le_bytes-2.ensures ∙ eight-bytes c.args.port in
    rw (first, second, c.flags_of.ensures) refl
