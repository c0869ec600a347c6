-- A guest that reads its message while the host continues (TLFS, "SIM Page"), on a processor that keeps loads in their
-- order (x86-TSO): each of its loads is of the memory that a history leaves.
use Rattle.std.specs.Prelude.{◌≡◌, ◌≢◌, ℕ, ◌+◌, ◌&&◌, Bool, true, false, nat_le, nat_lt, List, [], ◌∷◌}
use Rattle.std.specs.Int.{bit_at}
use Rattle.live_pages.specs.Words.{known, pending_mask}
use Rattle.live_pages.specs.Traces.{memory, accesses, Finds}
use Rattle.live_pages.specs.declared.access.Access.{Access}
use Rattle.live_pages.specs.declared.access.Access.TheVariants.{Load, FetchOr, Store}
use Rattle.live_pages.specs.Headers.{is_occupied}
use Rattle.law_slots.specs.Slots.{guest_is, taken, ending}
use Rattle.law_slots.specs.Pages.{PageState, Move, Act, touches, writes, moved, AreMoves, moved_by, entered, AreActs, acted_by, opened}

-- the words of the slot with header x
abbrev pub is_in : ℕ → ℕ → Bool
is_in x w = nat_le x w && nat_lt w (x + 32)

-- what the host may do in a slot, by its log: it stores only while it knows the slot to be empty, and an atomic or is
-- one of MessagePending
abbrev pub KeepsSlot : ℕ → List Access → Access → Type 0
KeepsSlot x log (Load w found) = Unit {0}
KeepsSlot x log (FetchOr w mask found) = is_in x w ≡ true → (w ≡ x) × (mask ≡ pending_mask)
KeepsSlot x log (Store w value) = is_in x w ≡ true → is_occupied (known log x) ≡ false

-- what the host does, and what anybody writes elsewhere, while the guest reads
abbrev pub MayMeanwhile : ℕ → PageState → Move → Type 0
MayMeanwhile x s (touches a) = Finds (memory s.turns) a × KeepsSlot x (accesses s.turns) a
MayMeanwhile x s (writes w value) = is_in x w ≡ false
MayMeanwhile x s _ = ⊥

abbrev pub AreMeanwhile : ℕ → PageState → List Move → Type 0
AreMeanwhile x s [] = Unit {0}
AreMeanwhile x s (m ∷ ms) = MayMeanwhile x s m × AreMeanwhile x (moved x s m) ms

-- the page in the middle of a call, after some acts
abbrev pub amid : ℕ → List Act → Bool → List Move → PageState
amid x acts ends moves = moved_by x (entered (acted_by x opened acts).page ends) moves

-- the words of a slot are the same, except for MessagePending
pub record IsSameMessage (x : ℕ) (before after : ℕ → ℕ) : Type 0 where
  pub payload : (w : ℕ) → is_in x w ≡ true → w ≢ x → after w ≡ before w
  pub header : (b : ℕ) → b ≢ 40 → bit_at (after x) b ≡ bit_at (before x) b

-- From the load that finds a type in the header until the guest empties its slot the message stays unchanged,
-- whatever the host does: so all its loads are of one message
abbrev pub NoMessageIsTorn : Type 0
NoMessageIsTorn =
    (x : ℕ) (acts : List Act) (ends : Bool) (moves meanwhile : List Move) → AreActs x opened acts
    → (ends ≡ true → guest_is (acted_by x opened acts).page.guest ending ≡ true)
    → AreMoves x (entered (acted_by x opened acts).page ends) moves
    → guest_is (amid x acts ends moves).guest taken ≡ true → AreMeanwhile x (amid x acts ends moves) meanwhile
    → IsSameMessage x (memory (amid x acts ends moves).turns)
    (memory (moved_by x (amid x acts ends moves) meanwhile).turns)
