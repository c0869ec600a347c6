-- The registers of the processors.
use Rattle.std.proofs.Common.{◌≡◌, ◌≢◌, ℕ, suc, ◌+◌, ◌<◌, ◌≤◌, ◌^◌, Bool, true, not, List, [], ◌∷◌, ◌++◌, cond, length, set, replicate, refl, sym, ap, ◌∙◌, arith, codes}
use Rattle.std.specs.Prelude.{◌==◌}
use Rattle.std.proofs.lemmas.List.{get_or-set_same, set-set}
use Rattle.board_terms.specs.declared.pages.Kind.TheVariants as kinds
use Rattle.synic_regs.specs.declared.register.Register.{Register}
use Rattle.synic_regs.specs.declared.register.Register.TheVariants as registers
use Rattle.synic_regs.specs.Regs.{Regs, with_value, source_of, reset_regs, masked, is_legal}
use Rattle.synic_board.specs.declared.event.Reply.TheVariants.{Done, GeneralProtection}
use Rattle.synic_board.specs.Effects.{unchanged}
use Rattle.synic_board.specs.Registers.{stored}
use Rattle.synic_board.specs.State.{State, processors, regs_of, with_regs}
use Rattle.text_image.specs.declared.piece.Piece.{Piece}
use Rattle.text_image.specs.declared.piece.Piece.TheVariants as pieces
use Rattle.text_image.specs.Image.{each_below, changed_line, source_lines, register_lines}
use Rattle.text_image.specs.Pieces.{piece_fields}
use Rattle.text_restore.specs.Restoring.{rank}
use Rattle.synic_regs.specs.Ranges.{AreRegs}
use Rattle.law_images.specs.States.{IsBoardState}
use Rattle.law_images.proofs.Fronts.{front, length-front, front-none, front-more, front-start, front-whole}
use Rattle.law_images.proofs.Tests.{same as same-value, other as other-value}
use Rattle.law_images.proofs.Walks.{Point, point, Passes, Fits, passes-unless, passes-none, passes-append, passes-each, passes-from, passes-to}

-- a write that is not refused
legal-stored : (s : State) (p i value : ℕ) (new : State) → is_legal value ≡ true
    → new ≡ with_regs s p (with_value (regs_of s p) (registers.Source i) value) →
    (new, Done, []) ≡ stored s p (registers.Source i) value
legal-stored s p i value new legal e =
    ap (λ (x : State). unchanged x Done) e
    ∙ sym (ap (λ (b : Bool). cond (not b) (unchanged s GeneralProtection)
    (unchanged (with_regs s p (with_value (regs_of s p) (registers.Source i) value)) Done)) legal)

module _ (s : State) (h : IsBoardState s) (t : State) (full : processors t ≡ processors s) where
  abbrev with_all : List Regs → State
  with_all regs = record t { regs = regs }

  -- the processors below p have their registers, and processor p has these
  abbrev board : ℕ → Regs → State
  board p r = with_all (set (front p s.regs reset_regs) p r)

  abbrev to : ℕ → Regs → ℕ → Point
  to p r at = point (board p r) (processors s) at

  put : (p : ℕ) (r : Regs) (register : Register) (value : ℕ) → p < processors s →
      board p (with_value r register value)
      ≡ with_regs (board p r) p (with_value (regs_of (board p r) p) register value)
  put p r register value below =
      let regs = front p s.regs reset_regs in
      let same = get_or-set_same (front p s.regs reset_regs) p r reset_regs
      (omega (arith, length-front p s.regs reset_regs, h.sound.whole.registers, below)) in
      ap with_all (sym (set-set (front p s.regs reset_regs) p r (with_value r register value)))
      ∙ (λ i. with_all (set (set (front p s.regs reset_regs) p r) p (with_value (sym same i) register value)))

  -- a register, by its value; it is left out where it has its first one
  changed : (p : ℕ) (r : ℕ → Regs) (x : Piece) (value first from upto : ℕ) → from ≤ upto
      → (value ≢ first → Fits (to p (r first) from) x (to p (r value) upto)) →
      Passes (to p (r first) from) (cond (value == first) [] (piece_fields x ∷ [])) (to p (r value) upto)
  changed p r x value first from upto order new =
      passes-unless (value == first) (to p (r first) from) x (to p (r value) upto)
      (λ e. passes-none (to p (r first) from) (to p (r value) upto)
      (ap (λ (v : ℕ). board p (r v)) (same-value value first e)) refl order)
      (λ e. new (other-value value first e))

  module _ (p : ℕ) (below : p < processors s) where
    abbrev now : Regs
    now = regs_of s p

    are : AreRegs (regs_of s p)
    are = h.ranges.regs p reset_regs (omega (arith, h.sound.whole.registers, below))

    abbrev no_sources : List ℕ
    no_sources = replicate 16 masked

    abbrev with_control : ℕ → Regs
    with_control value = record { control = value; sief = 0; sim = 0; sints = no_sources }

    abbrev with_sief : ℕ → Regs
    with_sief value = record { control = now.control; sief = value; sim = 0; sints = no_sources }

    abbrev with_sim : ℕ → Regs
    with_sim value = record { control = now.control; sief = now.sief; sim = value; sints = no_sources }

    abbrev with_sources : List ℕ → Regs
    with_sources sints = record { control = now.control; sief = now.sief; sim = now.sim; sints = sints }

    low : p < 256
    low = omega (arith, h.settled.bound, below)

    on : p < processors t
    on = omega (arith, full, below)

    control-passed : Passes (to p (with_control 0) (rank 3 p 0 0)) (changed_line p (codes "scontrol") now.control 0)
        (to p (with_control now.control) (rank 3 p 1 0))
    control-passed =
        changed p with_control (pieces.Control p now.control) now.control 0 (rank 3 p 0 0) (rank 3 p 1 0)
        (omega arith) (λ ne. record {
          fits = (low, are.control);
          later = λ last before. before;
          turn = sym full;
          restores = (on, ne, put p (with_control 0) registers.Control now.control below);
          count = refl;
          before = omega arith;
        })

    sief-passed : Passes (to p (with_sief 0) (rank 3 p 1 0)) (changed_line p (codes "siefp") now.sief 0)
        (to p (with_sief now.sief) (rank 3 p 2 0))
    sief-passed =
        changed p with_sief (pieces.Overlay p kinds.Sief now.sief) now.sief 0 (rank 3 p 1 0) (rank 3 p 2 0)
        (omega arith) (λ ne. record {
          fits = (low, are.sief);
          later = λ last before. before;
          turn = sym full;
          restores = (on, ne, put p (with_sief 0) registers.Sief now.sief below);
          count = refl;
          before = omega arith;
        })

    sim-passed : Passes (to p (with_sim 0) (rank 3 p 2 0)) (changed_line p (codes "simp") now.sim 0)
        (to p (with_sim now.sim) (rank 3 p 3 0))
    sim-passed =
        changed p with_sim (pieces.Overlay p kinds.Sim now.sim) now.sim 0 (rank 3 p 2 0) (rank 3 p 3 0)
        (omega arith) (λ ne. record {
          fits = (low, are.sim);
          later = λ last before. before;
          turn = sym full;
          restores = (on, ne, put p (with_sim 0) registers.Sim now.sim below);
          count = refl;
          before = omega arith;
        })

    abbrev sources-at : ℕ → Point
    sources-at i = to p (with_sources (front i now.sints masked)) (rank 3 p (3 + i) 0)

    abbrev with_source : ℕ → ℕ → Regs
    with_source i value = with_sources (set (front i now.sints masked) i value)

    source-passed : (i : ℕ) → i < 16 → Passes (sources-at i) (source_lines s p i) (sources-at (suc i))
    source-passed i within =
        passes-from (sources-at i) (to p (with_source i masked) (rank 3 p (3 + i) 0)) (sources-at (suc i))
        (source_lines s p i)
        (ap (λ (xs : List ℕ). board p (with_sources xs)) (front-start i now.sints masked inside)) refl (omega arith)
        (passes-to (to p (with_source i masked) (rank 3 p (3 + i) 0))
        (to p (with_source i value) (rank 3 p (3 + suc i) 0)) (sources-at (suc i)) (source_lines s p i)
        (ap (λ (xs : List ℕ). board p (with_sources xs)) (front-more i now.sints masked 0 inside)) refl (omega arith)
        (changed p (with_source i) (pieces.Source p i value) value masked (rank 3 p (3 + i) 0)
        (rank 3 p (3 + suc i) 0) (omega arith) (λ ne. record {
          fits = (low, within, is.0);
          later = λ last before. before;
          turn = sym full;
          restores = (
            on,
            ne,
            legal-stored (board p (with_source i masked)) p i value (board p (with_source i value)) is.1
                (ap (λ (xs : List ℕ). board p (with_sources xs))
                (sym (set-set (front i now.sints masked) i masked value))
                ∙ put p (with_source i masked) (registers.Source i) value below),
          );
          count = refl;
          before = omega arith;
        })))
      where
        value : ℕ
        value = source_of now i

        inside : i < length now.sints
        inside = omega (arith, are.sixteen, within)

        is : (source_of now i < 2 ^ 64) × (is_legal (source_of now i) ≡ true)
        is = are.sources i 0 inside

    registers-passed : Passes (to p reset_regs (rank 3 p 0 0)) (register_lines s p) (to p now (rank 3 (suc p) 0 0))
    registers-passed =
        passes-append (to p (with_control 0) (rank 3 p 0 0)) (to p (with_control now.control) (rank 3 p 1 0))
        (to p now (rank 3 (suc p) 0 0))
        (changed_line p (codes "scontrol") now.control 0)
        (changed_line p (codes "siefp") now.sief 0
        ++ (changed_line p (codes "simp") now.sim 0 ++ each_below 16 (source_lines s p)))
        control-passed
        (passes-append (to p (with_sief 0) (rank 3 p 1 0)) (to p (with_sief now.sief) (rank 3 p 2 0))
        (to p now (rank 3 (suc p) 0 0))
        (changed_line p (codes "siefp") now.sief 0)
        (changed_line p (codes "simp") now.sim 0 ++ each_below 16 (source_lines s p))
        sief-passed
        (passes-append (to p (with_sim 0) (rank 3 p 2 0)) (to p (with_sim now.sim) (rank 3 p 3 0))
        (to p now (rank 3 (suc p) 0 0))
        (changed_line p (codes "simp") now.sim 0) (each_below 16 (source_lines s p))
        sim-passed
        (passes-from (to p (with_sim now.sim) (rank 3 p 3 0)) (sources-at 0) (to p now (rank 3 (suc p) 0 0))
        (each_below 16 (source_lines s p))
        (ap (λ (xs : List ℕ). board p (with_sources xs)) (sym none)) refl (omega arith)
        (passes-to (sources-at 0) (sources-at 16) (to p now (rank 3 (suc p) 0 0)) (each_below 16 (source_lines s p))
        (ap (λ (xs : List ℕ). board p (with_sources xs))
        (sym (front-whole now.sints masked 16 (omega (arith, are.sixteen))))) refl (omega arith)
        (passes-each 16 (source_lines s p) sources-at source-passed)))))
      where
        none : no_sources ≡ front 0 now.sints masked
        none = ap (λ (n : ℕ). replicate n masked) (sym are.sixteen) ∙ front-none now.sints masked

  abbrev regs-at : ℕ → Point
  regs-at p = point (with_all (front p s.regs reset_regs)) (processors s) (rank 3 p 0 0)

  pub regs-passed : Passes (point (with_all (replicate (processors s) reset_regs)) (processors s) (rank 3 0 0 0))
      (each_below (processors s) (register_lines s))
      (point (with_all s.regs) (processors s) (rank 4 0 0 0))
  regs-passed =
      passes-from (point (with_all (replicate (processors s) reset_regs)) (processors s) (rank 3 0 0 0)) (regs-at 0)
      (point (with_all s.regs) (processors s) (rank 4 0 0 0))
      (each_below (processors s) (register_lines s)) (ap with_all (sym none)) refl (omega arith)
      (passes-to (regs-at 0) (regs-at (processors s)) (point (with_all s.regs) (processors s) (rank 4 0 0 0))
      (each_below (processors s) (register_lines s))
      (ap with_all (sym (front-whole s.regs reset_regs (processors s) (omega (arith, h.sound.whole.registers))))) refl
      (omega (arith, h.settled.bound))
      (passes-each (processors s) (register_lines s) regs-at step))
    where
      none : replicate (processors s) reset_regs ≡ front 0 s.regs reset_regs
      none = ap (λ (n : ℕ). replicate n reset_regs) (sym h.sound.whole.registers) ∙ front-none s.regs reset_regs

      step : (p : ℕ) → p < processors s → Passes (regs-at p) (register_lines s p) (regs-at (suc p))
      step p below =
          let inside : p < length s.regs = omega (arith, h.sound.whole.registers, below) in
          passes-from (regs-at p) (to p reset_regs (rank 3 p 0 0)) (regs-at (suc p)) (register_lines s p)
          (ap with_all (front-start p s.regs reset_regs inside)) refl (omega arith)
          (passes-to (to p reset_regs (rank 3 p 0 0)) (to p (regs_of s p) (rank 3 (suc p) 0 0)) (regs-at (suc p))
          (register_lines s p)
          (ap with_all (front-more p s.regs reset_regs reset_regs inside)) refl (omega arith)
          (registers-passed p below))
