-- The present time, and the local APICs.
use Rattle.std.proofs.Common.{◌≡◌, ℕ, suc, ◌<◌, Bool, false, List, set, replicate, refl, sym, ap, ◌∙◌, arith}
use Rattle.std.specs.Prelude.{◌==◌}
use Rattle.std.proofs.lemmas.List.{get_or_past}
use Rattle.lapic_core.specs.Apic.{Apic, empty_apic}
use Rattle.synic_board.specs.State.{State, processors, apic_of}
use Rattle.synic_board.specs.Timers.{at_moment}
use Rattle.text_image.specs.declared.piece.Piece.TheVariants as pieces
use Rattle.text_image.specs.Image.{each_below, moment_lines, lapic_lines}
use Rattle.text_restore.specs.Restoring.{rank}
use Rattle.law_images.specs.States.{IsBoardState}
use Rattle.law_images.proofs.Fronts.{front, length-front, front-none, front-more, front-all, front-whole}
use Rattle.law_images.proofs.Tests.{same, other}
use Rattle.law_images.proofs.Walks.{Point, point, Passes, passes-unless, passes-one, passes-none, passes-each, passes-from, passes-to}

pub moment-passed : (s : State) → IsBoardState s → (t : State)
    → Passes (point (at_moment t 0) 0 (rank 1 0 0 0)) (moment_lines s.moment)
    (point (at_moment t s.moment) 0 (rank 2 0 0 0))
moment-passed s h t =
    passes-unless (s.moment == 0) old (pieces.Moment s.moment) new
    (λ e. passes-none old new (ap (at_moment t) (same s.moment 0 e)) refl (omega arith)) (λ e. record {
      fits = h.ranges.moment;
      later = λ last below. below;
      turn = refl;
      restores = (other s.moment 0 e, omega arith, refl);
      count = refl;
      before = omega arith;
    })
  where
    old : Point
    old = point (at_moment t 0) 0 (rank 1 0 0 0)

    new : Point
    new = point (at_moment t s.moment) 0 (rank 2 0 0 0)

module _ (s : State) (h : IsBoardState s) (t : State) where
  abbrev with_lapics : List Apic → List Bool → State
  with_lapics apics marks = record t { apics = apics; suspended = marks }

  abbrev lapics-at : ℕ → Point
  lapics-at k = point (with_lapics (front k s.apics empty_apic) (front k s.suspended false)) k (rank 2 k 0 0)

  lapic-passed : (k : ℕ) → k < processors s → Passes (lapics-at k) (lapic_lines s k) (lapics-at (suc k))
  lapic-passed k below = passes-one (lapics-at k) (pieces.Lapic k (apic_of s k)) (lapics-at (suc k)) (record {
    fits = (omega (arith, h.settled.bound, below), h.ranges.apics k empty_apic below);
    later = λ last before. before;
    turn = refl;
    restores = (
      omega (arith, length-front k s.apics empty_apic, below),
      (λ i. with_lapics (front-more k s.apics empty_apic empty_apic below i) (marks i)),
    );
    count = omega arith;
    before = omega arith;
  })
    where
      marks : front (suc k) s.suspended false ≡ set (front k s.suspended false) k (apic_of s k).suspended
      marks = front-more k s.suspended false false (omega (arith, h.settled.marks, below))
          ∙ ap (set (front k s.suspended false) k) (h.settled.suspended k)

  pub lapics-passed : Passes
      (point (with_lapics (replicate (processors s) empty_apic) (replicate (processors s) false)) 0 (rank 2 0 0 0))
      (each_below (processors s) (lapic_lines s))
      (point (with_lapics s.apics s.suspended) (processors s) (rank 3 0 0 0))
  lapics-passed =
      passes-from (point (with_lapics (replicate (processors s) empty_apic) (replicate (processors s) false)) 0
      (rank 2 0 0 0)) (lapics-at 0)
      (point (with_lapics s.apics s.suspended) (processors s) (rank 3 0 0 0))
      (each_below (processors s) (lapic_lines s))
      (λ i. with_lapics (sym (front-none s.apics empty_apic) i) (sym none i)) refl (omega arith)
      (passes-to (lapics-at 0) (lapics-at (processors s))
      (point (with_lapics s.apics s.suspended) (processors s) (rank 3 0 0 0))
      (each_below (processors s) (lapic_lines s))
      (λ i. with_lapics (sym whole i) (sym all i)) refl (omega (arith, h.settled.bound))
      (passes-each (processors s) (lapic_lines s) lapics-at lapic-passed))
    where
      none : replicate (processors s) false ≡ front 0 s.suspended false
      none = ap (λ (n : ℕ). replicate n false) (sym h.settled.marks) ∙ front-none s.suspended false

      whole : front (processors s) s.apics empty_apic ≡ s.apics
      whole = front-whole s.apics empty_apic (processors s) (omega arith)

      all : front (processors s) s.suspended false ≡ s.suspended
      all = front-all (processors s) s.suspended false
          (λ j up below. h.settled.suspended j ∙ ap (λ (a : Apic). a.suspended) (get_or_past s.apics j empty_apic up))
