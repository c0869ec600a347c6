-- A signal: the flag that it sets, and what it does where the guest sees the event flags page.
use Rattle.std.specs.Prelude.{◌≡◌, ℕ, ◌+◌, ◌%◌, ◌==◌, ◌&&◌, Bool, true, false, nat_lt, List, ◌∷◌, Option, Some, None, if◌then◌else◌}
use Rattle.std.specs.Int.{bit_at}
use Rattle.board_terms.specs.declared.messages.PortShape.{PortShape}
use Rattle.board_terms.specs.declared.messages.PortShape.TheVariants.{Messages, Flags}
use Rattle.board_terms.specs.declared.pages.Kind.TheVariants.{Sief}
use Rattle.event_ports.specs.Ports.{port_at}
use Rattle.event_ports.specs.declared.ports.Port.{Port}
use Rattle.synic_regs.specs.Regs.{has, enable}
use Rattle.synic_board.specs.declared.event.Reply.{Reply}
use Rattle.synic_board.specs.declared.event.Reply.TheVariants.{FlagWasSet, FlagWasClear}
use Rattle.synic_board.specs.State.{State, regs_of, ports_of}
use Rattle.live_pages.specs.declared.access.Access.{Access}
use Rattle.live_pages.specs.declared.access.Access.TheVariants.{FetchOr}
use Rattle.live_pages.specs.Words.{flag_word, flag_mask}
use Rattle.live_board.specs.Live.{LiveModel, IsShown, log_of}

-- the flag that a signal of an open port sets, if it is accepted
abbrev pub flag_by : State → ℕ → ℕ → PortShape → Option ℕ
flag_by s p flag (Messages buffers) = None
flag_by s p flag (Flags base count) =
    if nat_lt flag count && (has (regs_of s p).control enable && has (regs_of s p).sief enable)
    then Some (base + flag) else None

abbrev pub signalled_flag : State → ℕ → Port → Option ℕ
signalled_flag s flag port = flag_by s port.vp flag port.shape

-- the reply to a signal that is accepted: whether the flag was set
abbrev pub signal_reply : Bool → Reply
signal_reply true = FlagWasSet
signal_reply false = FlagWasClear

-- one more access: the atomic or of a flag's bit, and the reply is the bit that it found
abbrev pub IsSet : ℕ → ℕ → List Access → List Access → Reply → Type 0
IsSet sint place log now reply =
    (found : ℕ) × (now ≡ FetchOr (flag_word sint place) (flag_mask place) found ∷ log)
    × (reply ≡ signal_reply (bit_at found (place % 64) == 1))

-- a signal that the board accepts, of a flag in a page that the guest sees, sets the flag there, and no more is
-- accessed there
abbrev pub HasSetAt : ℕ → ℕ → LiveModel → LiveModel → Reply → Type 0
HasSetAt port flag old now reply =
    (target : Port) (place : ℕ) → port_at (ports_of old.board.state) port ≡ Some target
    → signalled_flag old.board.state flag target ≡ Some place → IsShown old.board.state target.vp Sief
    → IsSet target.sint place (log_of old target.vp Sief) (log_of now target.vp Sief) reply
