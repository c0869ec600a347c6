-- One interrupt sent to several processors (SDM volume 3, "Issuing Interprocessor Interrupts"; TLFS,
-- HvCallSendSyntheticClusterIpi).
use Rattle.std.specs.Prelude.{ℕ, zero, suc, ◌^◌, ◌==◌, nat_lt, if◌then◌else◌}
use Rattle.std.specs.Int.{bit_at}
use Rattle.board_terms.specs.Quantities.{Processor, Vector, Word}
use Rattle.board_terms.specs.declared.refusal.Refusal.TheVariants.{NoSuchProcessor}
use Rattle.synic_board.specs.declared.event.Reply.TheVariants.{Done}
use Rattle.synic_board.specs.State.{State, processors}
use Rattle.synic_board.specs.Effects.{Effect, Outcome, nothing, after, answered, refused}
use Rattle.synic_board.specs.Interrupts.{requested}

-- bit p of a mask is processor p: the vector is requested there if the bit is set
abbrev pub sent_to : State → Vector → Word → Processor → Effect
sent_to s v mask p = if bit_at mask p == 1 then requested s p v else nothing s

-- the processors below n, lowest first
unfoldable pub sent_below : State → Vector → Word → ℕ → Effect
sent_below s v mask zero = nothing s
sent_below s v mask (suc p) = after (sent_below s v mask p) (sent_to (sent_below s v mask p).0 v mask p)

-- a mask with a bit of a processor that is not on the board is refused
abbrev pub sent : State → Vector → Word → Outcome
sent s v mask =
    if nat_lt mask (2 ^ processors s) then answered Done (sent_below s v mask 64) else refused s NoSuchProcessor
