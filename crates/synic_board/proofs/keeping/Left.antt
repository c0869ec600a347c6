-- Occupied slots, and what effects leave unchanged in them.
use Rattle.std.proofs.Common.{◌≡◌, ◌≢◌, ◌⊎◌, inl, inr, ℕ, ◌+◌, ◌*◌, ◌%◌, ◌^◌, ◌<◌, ◌≤◌, max, get_or, set, false, List, [], ◌++◌, length, take, drop, refl, ap, sym, subst, ◌∙◌, arith}
use Rattle.std.specs.Prelude.{Option, None, bit_or}
use Rattle.std.specs.Int.{bit_at}
use Rattle.std.proofs.Math.Nat.{max-eq_left}
use Rattle.std.proofs.lemmas.Bool.{cases_eq, cases_lt}
use Rattle.std.proofs.lemmas.List.{get_or-set_same, get_or-set_other, set_past}
use Rattle.std.proofs.lemmas.Nat.Bits.{bit_at_or, bit_at-pow_other}
use Rattle.board_terms.specs.declared.pages.Kind.TheVariants.{Sim, Sief}
use Rattle.board_terms.specs.Sources.{source_number}
use Rattle.gpa_space.specs.Page.{with_slot, with_bit, pending_place, flag_place}
use Rattle.gpa_space.specs.Space.{own_page}
use Rattle.synic_board.specs.State.{State, space_of, slot_of}
use Rattle.synic_board.specs.Delivery.{is_slot_empty, marked}
use Rattle.synic_board.specs.Posts.{with_flag}
use Rattle.synic_board.specs.Slots.{slot_byte, LeavesSlot}
use Rattle.synic_board.proofs.keeping.Slots.{overwritten-other}

-- each occupied slot is left unchanged
abbrev pub Leaves : ℕ → State → State → Type 0
Leaves n s now = (p i : ℕ) → p < n → i < 16 → is_slot_empty s p i ≡ false → LeavesSlot s now p i

-- it is occupied afterwards
still-occupied : (s now : State) (p i : ℕ) → LeavesSlot s now p i → is_slot_empty now p i ≡ is_slot_empty s p i
still-occupied s now p i h = rw (
  h.bytes 0 (omega arith) (λ e. omega (arith, e)),
  h.bytes 1 (omega arith) (λ e. omega (arith, e)),
  h.bytes 2 (omega arith) (λ e. omega (arith, e)),
  h.bytes 3 (omega arith) (λ e. omega (arith, e)),
) refl

pub leaves-after : (n : ℕ) (s now next : State) → Leaves n s now → Leaves n now next → Leaves n s next
leaves-after n s now next h k p i below under full =
    let first = h p i below under full in
    let second = k p i below under (still-occupied s now p i first ∙ full) in
    record {
      ticket = second.ticket ∙ first.ticket;
      bytes = λ b bound ne. second.bytes b bound ne ∙ first.bytes b bound ne;
      flags = λ bit ne. second.flags bit ne ∙ first.flags bit ne;
    }

-- the page and the ticket are the same
pub leaves-page : (s now : State) (p i : ℕ) → own_page (space_of now) p Sim ≡ own_page (space_of s) p Sim
    → slot_of now p i ≡ slot_of s p i → LeavesSlot s now p i
leaves-page s now p i page ticket = record {
  ticket = ticket;
  bytes = λ k _ _. ap (λ (l : List ℕ). get_or l (256 * i + k) 0) page;
  flags = λ bit _. ap (λ (l : List ℕ). bit_at (get_or l (256 * i + 5) 0) bit) page;
}

pub leaves-same : (n : ℕ) (s now : State) → now.own ≡ s.own → now.slots ≡ s.slots → Leaves n s now
leaves-same n s now own slots p i _ _ _ =
    leaves-page s now p i (ap (λ (l : List (List ℕ)). get_or l (2 * p) []) own)
    (ap (λ (l : List (Option ℕ)). get_or l (source_number p i) None) slots)

-- event flags are in other pages
pub leaves-flag : (n : ℕ) (s : State) (q j flag : ℕ) → Leaves n s (with_flag s q j flag)
leaves-flag n s q j flag p i _ _ _ = leaves-page s (with_flag s q j flag) p i
    (get_or-set_other s.own (2 * q + 1) (2 * p)
    (with_bit (own_page (space_of s) q Sief) (flag_place j flag) (flag % 8)) [] (λ e. omega (arith, e))) refl

-- MessagePending of a slot
pub leaves-marked : (n : ℕ) (s : State) (q j : ℕ) → length s.own ≡ 2 * n → q < n → Leaves n s (marked s q j).0
leaves-marked n s q j long within p i below under _ = by (cases_eq p q)
  where
    page : List ℕ
    page = own_page (space_of s) q Sim

    byte : ℕ
    byte = bit_or (get_or page (pending_place j) 0) (2 ^ 0)

    new : List ℕ
    new = with_bit page (pending_place j) 0

    now : State
    now = (marked s q j).0

    by : (p ≡ q) ⊎ (p ≢ q) → LeavesSlot s now p i
    by (inr ne) =
        leaves-page s now p i (get_or-set_other s.own (2 * q) (2 * p) new [] (λ e. ne (omega (arith, e)))) refl
    by (inl same) = record {
      ticket = refl;
      bytes = λ k bound ne. here k
          ∙ get_or-set_other page (pending_place j) (256 * i + k) byte 0 (λ e. ne (omega (arith, e, bound))) ∙ was k;
      flags = λ bit ne. ap (λ b. bit_at b bit) (here 5) ∙ flagged bit ne (cases_eq (256 * i + 5) (pending_place j))
          ∙ ap (λ b. bit_at b bit) (was 5);
    }
      where
        here : (k : ℕ) → slot_byte now p i k ≡ get_or new (256 * i + k) 0
        here k = ap (λ m. get_or (get_or (set s.own (2 * q) new) (2 * m) []) (256 * i + k) 0) same
            ∙ ap (λ (l : List ℕ). get_or l (256 * i + k) 0)
            (get_or-set_same s.own (2 * q) new [] (omega (arith, long, within)))

        was : (k : ℕ) → get_or page (256 * i + k) 0 ≡ slot_byte s p i k
        was k = ap (λ m. get_or (own_page (space_of s) m Sim) (256 * i + k) 0) (sym same)

        set-bit : (bit : ℕ) → bit ≢ 0 → bit_at byte bit ≡ bit_at (get_or page (pending_place j) 0) bit
        set-bit bit ne =
            bit_at_or (get_or page (pending_place j) 0) (2 ^ 0) bit
            ∙ ap (max (bit_at (get_or page (pending_place j) 0) bit)) (bit_at-pow_other 0 bit ne)
            ∙ max-eq_left (omega arith)

        flagged : (bit : ℕ) → bit ≢ 0 → (256 * i + 5 ≡ pending_place j) ⊎ (256 * i + 5 ≢ pending_place j)
            → bit_at (get_or new (256 * i + 5) 0) bit ≡ bit_at (get_or page (256 * i + 5) 0) bit
        flagged bit ne (inr other) =
            ap (λ b. bit_at b bit) (get_or-set_other page (pending_place j) (256 * i + 5) byte 0 other)
        flagged bit ne (inl one) =
            subst (λ at. bit_at (get_or new at 0) bit ≡ bit_at (get_or page at 0) bit) (sym one)
            (inside (cases_lt (pending_place j) (length page)))
          where
            inside : (pending_place j < length page) ⊎ (length page ≤ pending_place j)
                → bit_at (get_or new (pending_place j) 0) bit ≡ bit_at (get_or page (pending_place j) 0) bit
            inside (inl low) =
                ap (λ b. bit_at b bit) (get_or-set_same page (pending_place j) byte 0 low) ∙ set-bit bit ne
            inside (inr past) =
                ap (λ (l : List ℕ). bit_at (get_or l (pending_place j) 0) bit)
                (set_past page (pending_place j) byte past)

-- another slot of a page in which one is written
pub slot-other : (page bytes : List ℕ) (j i k : ℕ) → length page ≡ 4096 → length bytes ≡ 256 → j < 16 → i < 16 → i ≢ j
    → k < 256 →
    get_or (with_slot page j bytes) (256 * i + k) 0 ≡ get_or page (256 * i + k) 0
slot-other page bytes j i k long size inside under ne bound =
    ap (λ m. get_or (take (256 * j) page ++ bytes ++ drop (256 * j + m) page) (256 * i + k) 0) (sym size)
    ∙ overwritten-other page bytes (256 * j) (256 * i + k) (omega (arith, long, size)) (side (cases_lt i j))
  where
    side : (i < j) ⊎ (j ≤ i) → (256 * i + k < 256 * j) ⊎ (256 * j + length bytes ≤ 256 * i + k)
    side (inl less) = inl (omega arith)
    side (inr le) = inr (let more : j < i = omega (arith, ne) in omega (arith, size))
