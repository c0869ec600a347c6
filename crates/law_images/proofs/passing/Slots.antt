-- The tickets in the slots.
use Rattle.std.proofs.Common.{◌≡◌, ◌⊎◌, inl, inr, ℕ, suc, ◌+◌, ◌*◌, ◌<◌, ◌≤◌, Bool, true, false, List, [], cond, length, get_or, set, replicate, refl, sym, ap, subst, ◌∙◌, arith}
use Rattle.std.specs.Prelude.{◌==◌, Option, None, Some}
use Rattle.std.proofs.lemmas.Bool.{cases_lt}
use Rattle.std.specs.List.{All}
use Rattle.board_terms.specs.Messages.{ticket_of}
use Rattle.board_terms.specs.declared.pages.Kind.TheVariants.{Sim}
use Rattle.gpa_space.specs.Space.{own_page}
use Rattle.message_queues.specs.Image.{slot_type}
use Rattle.message_queues.specs.Queues.{queue_of}
use Rattle.synic_board.specs.Delivery.{is_slot_empty}
use Rattle.synic_board.specs.Locations.{times, locations}
use Rattle.synic_board.specs.Restoring.{MayOccupy}
use Rattle.synic_board.specs.State.{State, processors, slot_of, space_of}
use Rattle.synic_board.specs.Timed.{Precedes}
use Rattle.synic_board.proofs.keeping.Counts.{in_slot, in_queues, in_slots, times-locations}
use Rattle.text_image.specs.declared.piece.Piece.TheVariants as pieces
use Rattle.text_image.specs.Image.{each_below, slot_line, slot_lines, slots_lines}
use Rattle.text_restore.specs.Restoring.{rank}
use Rattle.law_images.specs.States.{IsBoardState}
use Rattle.law_images.proofs.Fronts.{front, front-none, front-more, front-start, front-still, front-new, front-whole, front-sum-room}
use Rattle.law_images.proofs.Tests.{test-same, same}
use Rattle.law_images.proofs.Walks.{Point, point, Passes, passes-one, passes-none, passes-each, passes-from, passes-to}

module _ (s : State) (h : IsBoardState s) (t : State) (full : processors t ≡ processors s)
    (next : t.next_ticket ≡ s.next_ticket) (pages : t.own ≡ s.own) (queues : t.queues ≡ s.queues) where
  abbrev with_slots : List (Option ℕ) → State
  with_slots slots = record t { slots = slots }

  abbrev slots-at : ℕ → ℕ → Point
  slots-at p i = point (with_slots (front (16 * p + i) s.slots None)) (processors s) (rank 9 p i 0)

  -- A ticket of a board in a slot.
  module _ (p i x : ℕ) (below : p < processors s) (low : i < 16) (is : slot_of s p i ≡ Some x) where
    abbrev j : ℕ
    j = 16 * p + i

    abbrev board : State
    board = with_slots (front (16 * p + i) s.slots None)

    inside : 16 * p + i < length s.slots
    inside = omega (arith, h.shape.slots, below, low)

    there : in_slots x (front (16 * p + i) s.slots None) + 1 ≤ in_slots x s.slots
    there =
        let same = ap (in_slots x) (front-start j s.slots None inside) in
        let last : in_slot x (get_or s.slots j None) ≡ 1 =
        ap (in_slot x) is ∙ ap (λ (b : Bool). cond b 1 0) (test-same x) in
        omega (arith, same, front-sum-room (in_slot x) j 1 s.slots None None refl inside (omega (arith, last)))

    total : times x (locations s) ≡ in_queues x s.queues + in_slots x s.slots
    total = times-locations x s

    given : x < s.next_ticket
    given = by (cases_lt x s.next_ticket)
      where
        by : (x < s.next_ticket) ⊎ (s.next_ticket ≤ x) → x < s.next_ticket
        by (inl under) = under
        by (inr over) = absurd (omega (arith, there, total, h.sound.tickets.given_before x over))

    nowhere : times x (locations board) ≡ 0
    nowhere = omega (arith, there, total, h.sound.tickets.once x, times-locations x board, ap (in_queues x) queues)

    occupied : is_slot_empty board p i ≡ false
    occupied = ap (λ (own : List (List ℕ)). slot_type (get_or own (2 * p) []) i == 0) pages
        ∙ by (slot_type (own_page (space_of s) p Sim) i == 0) refl
      where
        by : (b : Bool) → (slot_type (own_page (space_of s) p Sim) i == 0) ≡ b → b ≡ false
        by true e =
            let none = h.sound.empty p i below low (same (slot_type (own_page (space_of s) p Sim) i) 0 e) in
            absurd (cc)
        by false e = refl

    first : (o : Option ℕ) → o ≡ Some x → Precedes s.next_ticket o (queue_of s.queues p i)
        → All (λ m. x < ticket_of m) (queue_of s.queues p i)
    first None e before = absurd (cc)
    first (Some y) e before =
        let same : y ≡ x = cc in subst (λ n. All (λ m. n < ticket_of m) (queue_of s.queues p i)) same before.1

    occupies : MayOccupy board p i x
    occupies = record {
      occupied = occupied;
      free = front-new j j s.slots None None (omega arith) inside;
      ahead = subst (λ qs. All (λ m. x < ticket_of m) (queue_of qs p i)) (sym queues)
          (first (slot_of s p i) is (h.buffers.timed.ahead j));
      ticket = record { given = omega (arith, given, next); nowhere = nowhere };
    }

  slot-passed : (p i : ℕ) → p < processors s → i < 16 → Passes (slots-at p i) (slot_lines s p i) (slots-at p (suc i))
  slot-passed p i below low = by (slot_of s p i) refl
    where
      following : front (16 * p + suc i) s.slots None ≡ front (suc (16 * p + i)) s.slots None
      following = let e : 16 * p + suc i ≡ suc (16 * p + i) = omega arith in ap (λ (n : ℕ). front n s.slots None) e

      by : (o : Option ℕ) → slot_of s p i ≡ o → Passes (slots-at p i) (slot_line p i o) (slots-at p (suc i))
      by None e = passes-none (slots-at p i) (slots-at p (suc i))
          (ap with_slots (following ∙ front-still (16 * p + i) s.slots None e)) refl (omega arith)
      by (Some x) e = passes-one (slots-at p i) (pieces.Slot p i x) (slots-at p (suc i)) (record {
        fits = (
          omega (arith, h.settled.bound, below),
          omega (arith, low),
          omega (arith, given p i x below low e, h.ranges.next_ticket),
        );
        later = λ last before. before;
        turn = sym full;
        restores = (
          omega (arith, full, below),
          low,
          occupies p i x below low e,
          ap with_slots (following ∙ front-more (16 * p + i) s.slots None None (inside p i x below low e)
              ∙ ap (set (front (16 * p + i) s.slots None) (16 * p + i)) e),
        );
        count = refl;
        before = omega arith;
      })

  pub slots-passed : Passes (point (with_slots (replicate (16 * processors s) None)) (processors s) (rank 9 0 0 0))
      (each_below (processors s) (slots_lines s))
      (point (with_slots s.slots) (processors s) (rank 10 0 0 0))
  slots-passed =
      passes-from (point (with_slots (replicate (16 * processors s) None)) (processors s) (rank 9 0 0 0))
      (slots-at 0 0) (point (with_slots s.slots) (processors s) (rank 10 0 0 0))
      (each_below (processors s) (slots_lines s)) (ap with_slots (sym none)) refl (omega arith)
      (passes-to (slots-at 0 0) (slots-at (processors s) 0)
      (point (with_slots s.slots) (processors s) (rank 10 0 0 0)) (each_below (processors s) (slots_lines s))
      (ap with_slots (sym (front-whole s.slots None (16 * processors s + 0) (omega (arith, h.shape.slots))))) refl
      (omega (arith, h.settled.bound))
      (passes-each (processors s) (slots_lines s) (λ p. slots-at p 0) step))
    where
      none : replicate (16 * processors s) None ≡ front 0 s.slots None
      none = ap (λ (n : ℕ). replicate {A = Option ℕ} n None) (sym h.shape.slots) ∙ front-none s.slots None

      step : (p : ℕ) → p < processors s → Passes (slots-at p 0) (slots_lines s p) (slots-at (suc p) 0)
      step p below =
          let e : 16 * suc p + 0 ≡ 16 * p + 16 = omega arith in
          passes-to (slots-at p 0) (slots-at p 16) (slots-at (suc p) 0) (slots_lines s p)
          (ap (λ (n : ℕ). with_slots (front n s.slots None)) e) refl (omega arith)
          (passes-each 16 (slot_lines s p) (slots-at p) (λ i low. slot-passed p i below low))
