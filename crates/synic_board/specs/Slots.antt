-- What events leave unchanged in an occupied message slot (TLFS, "SynIC Message Flags").
use Rattle.std.specs.Prelude.{◌≡◌, ◌≢◌, ℕ, ◌+◌, ◌*◌, ◌<◌, slice_index_or}
use Rattle.std.specs.Int.{bit_at}
use Rattle.board_terms.specs.declared.pages.Kind.TheVariants.{Sim}
use Rattle.gpa_space.specs.Space.{own_page}
use Rattle.synic_board.specs.declared.event.Event.{Event}
use Rattle.synic_board.specs.declared.event.Event.TheVariants.{Store, Reset}
use Rattle.synic_board.specs.State.{State, space_of, slot_of}

-- an event that is neither a guest store nor a reset of the processor
abbrev pub IsApart : ℕ → Event → Type 0
IsApart p (Store address bytes) = ⊥
IsApart p (Reset q) = q ≢ p
IsApart p event = Unit {0}

-- one of the 256 bytes of a slot
abbrev pub slot_byte : State → ℕ → ℕ → ℕ → ℕ
slot_byte s p i k = slice_index_or (own_page (space_of s) p Sim) (256 * i + k) 0

-- a slot has the same ticket, and the same bytes except MessagePending, which is bit 0 of byte 5
pub record LeavesSlot (s now : State) (p i : ℕ) : Type 0 where
  pub ticket : slot_of now p i ≡ slot_of s p i
  pub bytes : (k : ℕ) → k < 256 → k ≢ 5 → slot_byte now p i k ≡ slot_byte s p i k
  pub flags : (bit : ℕ) → bit ≢ 0 → bit_at (slot_byte now p i 5) bit ≡ bit_at (slot_byte s p i 5) bit
