-- Absorbing posted vectors (SDM volume 3, "Posted-Interrupt Processing").
use Rattle.std.specs.Prelude.{ℕ, zero, suc, ◌+◌, ◌*◌, ◌==◌, ◌&&◌, nat_le, Bool, if◌then◌else◌}
use Rattle.std.specs.Int.{bit_at}
use Rattle.board_terms.specs.Quantities.{Processor}
use Rattle.board_terms.specs.declared.refusal.Refusal.TheVariants.{BadTarget}
use Rattle.synic_board.specs.declared.event.Reply.TheVariants.{Done}
use Rattle.synic_board.specs.State.{State}
use Rattle.synic_board.specs.Effects.{Effect, Outcome, nothing, after, answered, refused}
use Rattle.synic_board.specs.Interrupts.{requested}

-- bit i of a part is vector 64 * part + i, unless that is below 16
abbrev pub is_posted : ℕ → ℕ → ℕ → Bool
is_posted part bits i = bit_at bits i == 1 && nat_le 16 (64 * part + i)

-- the vector of one bit is requested, if it is posted
abbrev pub absorbed_bit : State → Processor → ℕ → ℕ → ℕ → Effect
absorbed_bit s p part bits i = if is_posted part bits i then requested s p (64 * part + i) else nothing s

-- the vectors of the bits below n, smallest first
unfoldable pub absorbed_below : State → Processor → ℕ → ℕ → ℕ → Effect
absorbed_below s p part bits zero = nothing s
absorbed_below s p part bits (suc i) =
    after (absorbed_below s p part bits i) (absorbed_bit (absorbed_below s p part bits i).0 p part bits i)

-- there are four parts of 64 vectors
abbrev pub absorbed : State → Processor → ℕ → ℕ → Outcome
absorbed s p part bits = if nat_le part 3 then answered Done (absorbed_below s p part bits 64) else refused s BadTarget
