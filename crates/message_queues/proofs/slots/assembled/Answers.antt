use Rattle.std.proofs.Common.{refl}
use Rattle.message_queues.proofs.ImageLemmas.{assembled-is}
use Rattle.message_queues.proofs.slots.assembled.Goals as goal

pub returns : goal.returns
returns c = rw (c.copy_from_slice.ensures.after, c.copy_from_slice-2.ensures.after)
    (assembled-is c.args.header.now c.args.payload.now _ refl c.told-header c.requires)
