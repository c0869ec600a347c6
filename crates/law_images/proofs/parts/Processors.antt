-- The present time, and the local APIC of a processor.
use Rattle.std.proofs.Common.{◌≡◌, ◌≢◌, ◌⊎◌, inl, inr, ℕ, ◌+◌, ◌<◌, ◌≤◌, Bool, true, false, [], ◌∷◌, cond, refl, sym, ap, ◌∙◌, arith, nat_lt}
use Rattle.std.specs.Prelude.{◌==◌}
use Rattle.std.proofs.lemmas.Bool.{cases_lt}
use Rattle.std.proofs.lemmas.Bool.Decides.{nat_tests}
use Rattle.std.proofs.lemmas.List.{get_or-set_same, get_or-set_other, length-set}
use Rattle.lapic_core.specs.Apic.{Apic, empty_apic}
use Rattle.synic_board.specs.State.{State, apic_of}
use Rattle.synic_board.specs.Timers.{at_moment}
use Rattle.synic_board.specs.Restoring.{with_processor}
use Rattle.text_image.specs.declared.piece.Piece.TheVariants as pieces
use Rattle.text_image.specs.Image.{moment_fields, lapic_line, lapic_lines}
use Rattle.text_restore.specs.Restoring.{rank_of}
use Rattle.law_images.proofs.Spots.{Time, Lapics, IsSpot, AgreeElsewhere}
use Rattle.law_images.proofs.Printed.{printed}
use Rattle.law_images.proofs.Extending.{IsShaped, IsBlank, Extends, first-added}

pub moment-extends : (n m ticket : ℕ) (s : State) (last lapics t : ℕ) → IsShaped n m ticket s
    → IsBlank n m s last lapics →
    last < rank_of (pieces.Moment t) → t ≢ 0 → Extends n m ticket s lapics (pieces.Moment t) (at_moment s t) lapics
moment-extends n m ticket s last lapics t h blank later ne = record {
  shaped = record {
    apics = h.apics;
    pages = h.pages;
    next = h.next;
    regs = h.regs;
    own = h.own;
    ports = h.ports;
    timers = h.timers;
    queues = h.queues;
    slots = h.slots;
    sints = h.sints;
    page_bytes = h.page_bytes;
    own_bytes = h.own_bytes;
  };
  section = Time;
  a = 0;
  b = 0;
  c = 0;
  spot = spot;
  is = refl;
  frame = frame;
  added = first-added (printed s lapics Time 0 0 0) (printed (at_moment s t) lapics Time 0 0 0) (moment_fields t)
      (blank Time 0 0 0 spot later)
      (ap (λ (y : Bool). cond y [] (moment_fields t ∷ [])) off);
}
  where
    spot : IsSpot n m Time 0 0 0
    spot = (omega arith, omega arith, omega arith)

    off : (t == 0) ≡ false
    off = grind (arith, nat_tests)

    frame : AgreeElsewhere n m (rank_of (pieces.Moment t)) (printed s lapics) (printed (at_moment s t) lapics)
    frame Time i j k h' other = absurd (other (omega (arith, h'.0, h'.1, h'.2)))
    frame σ i j k h' other = refl

-- processor p is the next one
pub lapic-extends : (n m ticket : ℕ) (s : State) (last lapics p : ℕ) (a : Apic) → IsShaped n m ticket s
    → IsBlank n m s last lapics →
    last < rank_of (pieces.Lapic p a) → p < n → p ≡ lapics
    → Extends n m ticket s lapics (pieces.Lapic p a) (with_processor s p a) (lapics + 1)
lapic-extends n m ticket s last lapics p a h blank later on turn = record {
  shaped = record {
    apics = length-set s.apics p a ∙ h.apics;
    pages = h.pages;
    next = h.next;
    regs = h.regs;
    own = h.own;
    ports = h.ports;
    timers = h.timers;
    queues = h.queues;
    slots = h.slots;
    sints = h.sints;
    page_bytes = h.page_bytes;
    own_bytes = h.own_bytes;
  };
  section = Lapics;
  a = p;
  b = 0;
  c = 0;
  spot = spot;
  is = refl;
  frame = frame;
  added = first-added (printed s lapics Lapics p 0 0) (printed (with_processor s p a) (lapics + 1) Lapics p 0 0)
      (lapic_line p a) (blank Lapics p 0 0 spot later)
      (ap (λ (y : Bool). cond y (lapic_lines (with_processor s p a) p) []) yes
      ∙ ap (λ (y : Apic). lapic_line p y ∷ []) same);
}
  where
    spot : IsSpot n m Lapics p 0 0
    spot = (on, omega arith, omega arith)

    yes : nat_lt p (lapics + 1) ≡ true
    yes = grind (arith, nat_tests)

    same : apic_of (with_processor s p a) p ≡ a
    same = get_or-set_same s.apics p a empty_apic (omega (arith, h.apics, on))

    still : (q : ℕ) → q ≢ p → nat_lt q (lapics + 1) ≡ nat_lt q lapics
    still q ne = by (cases_lt q lapics)
      where
        by : (q < lapics) ⊎ (lapics ≤ q) → nat_lt q (lapics + 1) ≡ nat_lt q lapics
        by (inl low) =
            let one : nat_lt q (lapics + 1) ≡ true =
            grind (arith, nat_tests) in let two : nat_lt q lapics ≡ true = grind (arith, nat_tests) in one ∙ sym two
        by (inr high) =
            let one : nat_lt q (lapics + 1) ≡ false =
            grind (arith, nat_tests) in let two : nat_lt q lapics ≡ false = grind (arith, nat_tests) in one ∙ sym two

    frame : AgreeElsewhere n m (rank_of (pieces.Lapic p a)) (printed s lapics)
        (printed (with_processor s p a) (lapics + 1))
    frame Lapics q j k h' other =
        let ne : q ≢ p = λ e. other (omega (arith, e, h'.1, h'.2)) in
        ap (λ (y : Bool). cond y (lapic_lines (with_processor s p a) q) []) (still q ne)
        ∙ ap (λ (y : Apic). cond (nat_lt q lapics) (lapic_line q y ∷ []) [])
        (get_or-set_other s.apics p q a empty_apic ne)
    frame σ i j k h' other = refl
