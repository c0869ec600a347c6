-- The step function: for each event the next state, the reply and the notices.
use Rattle.synic_board.specs.declared.event.Event.{Event}
use Rattle.synic_board.specs.declared.event.Event.TheVariants.{OpenPort, ClosePort, Write, Read, Post, Signal, Assert, Absorb, Store, Load, Tick, Take, Suspend, Resume, Reset, Send}
use Rattle.synic_board.specs.declared.event.Reply.TheVariants.{Done}
use Rattle.synic_board.specs.State.{State}
use Rattle.synic_board.specs.Effects.{Outcome, at_processor, answered, unchanged}
use Rattle.synic_board.specs.Interrupts.{requested, taken}
use Rattle.synic_board.specs.Absorbing.{absorbed}
use Rattle.synic_board.specs.Registers.{written, read}
use Rattle.synic_board.specs.Posts.{opened_port, closed, posted, signalled}
use Rattle.synic_board.specs.Timers.{ticked}
use Rattle.synic_board.specs.Stores.{stored_bytes, read_bytes}
use Rattle.synic_board.specs.Suspending.{suspended, resumed}
use Rattle.synic_board.specs.Resetting.{reset}
use Rattle.synic_board.specs.Sending.{sent}

unfoldable pub step : State → Event → Outcome
step s (OpenPort port p i shape) = opened_port s port p i shape
step s (ClosePort port) = closed s port
step s (Write p number value) = at_processor s p (written s p number value)
step s (Read p number) = at_processor s p (unchanged s (read s p number))
step s (Post port kind payload) = posted s port kind payload
step s (Signal port flag) = signalled s port flag
step s (Assert p v) = at_processor s p (answered Done (requested s p v))
step s (Absorb p part bits) = at_processor s p (absorbed s p part bits)
step s (Store address bytes) = stored_bytes s address bytes.items
step s (Load address count) = unchanged s (read_bytes s address count)
step s (Tick moment) = ticked s moment
step s (Take p) = at_processor s p (taken s p)
step s (Suspend p) = at_processor s p (suspended s p)
step s (Resume p) = at_processor s p (resumed s p)
step s (Reset p) = at_processor s p (reset s p)
step s (Send v mask) = sent s v mask
