use Rattle.std.proofs.Common.{refl}
use Rattle.message_queues.specs.Image.{image}
use Rattle.message_queues.proofs.slots.image.Goals as goal

pub returns-in-FromPort : goal.returns-in-FromPort
unfolding image
returns-in-FromPort c =
    rw (c.assembled.ensures, c.header-header.ensures, c.as_slice.ensures.value, c.len.ensures.value, c.in-FromPort.is)
    refl

pub returns-in-FromTimer : goal.returns-in-FromTimer
unfolding image
returns-in-FromTimer c =
    rw (
      c.assembled-in-FromTimer.ensures,
      c.timer_header-header.ensures,
      c.timer_payload.ensures,
      c.index.ensures.value,
      c.in-FromTimer.is,
    ) refl
