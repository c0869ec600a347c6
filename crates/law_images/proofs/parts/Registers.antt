-- A register of a processor.
use Rattle.std.proofs.Common.{◌≡◌, ◌≢◌, ◌⊎◌, inl, inr, ℕ, zero, suc, ◌<◌, Bool, true, false, List, [], ◌∷◌, cond, length, refl, sym, ap, subst, ◌∙◌, arith, codes}
use Rattle.std.specs.Prelude.{◌==◌}
use Rattle.std.proofs.lemmas.Bool.{cases_eq}
use Rattle.std.proofs.lemmas.Bool.Decides.{nat_tests}
use Rattle.std.proofs.lemmas.List.{get_or-set_same, get_or-set_other, length-set}
use Rattle.std.proofs.lemmas.List.Elements.{All-set}
use Rattle.board_terms.specs.declared.pages.Kind.{Kind}
use Rattle.board_terms.specs.declared.pages.Kind.TheVariants as kinds
use Rattle.synic_regs.specs.Regs.{Regs, reset_regs, masked, with_value, after_write, is_refused}
use Rattle.synic_regs.specs.declared.register.Register.TheVariants as registers
use Rattle.synic_board.specs.declared.event.Reply.TheVariants.{Done, GeneralProtection}
use Rattle.synic_board.specs.Effects.{Outcome, unchanged}
use Rattle.synic_board.specs.State.{State, regs_of, with_regs}
use Rattle.synic_board.specs.Registers.{stored}
use Rattle.synic_board.specs.Restoring.{overlay_register}
use Rattle.text_image.specs.declared.piece.Piece.{Piece}
use Rattle.text_image.specs.declared.piece.Piece.TheVariants as pieces
use Rattle.text_image.specs.Image.{changed_line, register_fields, source_name}
use Rattle.text_image.specs.Pieces.{piece_fields}
use Rattle.text_restore.specs.Restoring.{rank_of}
use Rattle.law_images.proofs.Spots.{Registers, IsSpot, rank_at, AgreeElsewhere}
use Rattle.law_images.proofs.Printed.{printed, register_printed}
use Rattle.law_images.proofs.Extending.{IsShaped, IsBlank, Extends, first-added}

regs-shaped : (n m ticket : ℕ) (s : State) (p : ℕ) (r : Regs) → IsShaped n m ticket s → length r.sints ≡ 16
    → IsShaped n m ticket (with_regs s p r)
regs-shaped n m ticket s p r h whole = record {
  apics = h.apics;
  pages = h.pages;
  next = h.next;
  regs = length-set s.regs p r ∙ h.regs;
  own = h.own;
  ports = h.ports;
  timers = h.timers;
  queues = h.queues;
  slots = h.slots;
  sints = All-set (λ (r : Regs). length r.sints ≡ 16) s.regs p r whole h.sints;
  page_bytes = h.page_bytes;
  own_bytes = h.own_bytes;
}

-- one register of a processor gets a value
record Sets (p b : ℕ) (old new : Regs) (line : List (List ℕ)) : Type 0 where
  whole : length new.sints ≡ 16
  others : (j : ℕ) → j < 19 → j ≢ b → register_printed p new j ≡ register_printed p old j
  here : register_printed p new b ≡ line ∷ []

regs-extends : (n m ticket : ℕ) (s : State) (last lapics p b : ℕ) (r : Regs) (x : Piece) → IsShaped n m ticket s
    → IsBlank n m s last lapics → last < rank_of x →
    rank_of x ≡ rank_at Registers p b 0 → p < n → b < 19 → Sets p b (regs_of s p) r (piece_fields x)
    → Extends n m ticket s lapics x (with_regs s p r) lapics
regs-extends n m ticket s last lapics p b r x shaped blank later at on few h = record {
  shaped = regs-shaped n m ticket s p r shaped h.whole;
  section = Registers;
  a = p;
  b = b;
  c = 0;
  spot = spot;
  is = at;
  frame = frame;
  added = first-added (register_printed p (regs_of s p) b) (register_printed p (regs_of (with_regs s p r) p) b)
      (piece_fields x) (blank Registers p b 0 spot (omega (arith, at, later)))
      (ap (λ (y : Regs). register_printed p y b) same ∙ h.here);
}
  where
    spot : IsSpot n m Registers p b 0
    spot = (on, few, omega arith)

    same : regs_of (with_regs s p r) p ≡ r
    same = get_or-set_same s.regs p r reset_regs (omega (arith, shaped.regs, on))

    by : (q j : ℕ) → j < 19 → (q ≡ p) ⊎ (q ≢ p) → (q ≡ p → j ≢ b)
        → register_printed q (regs_of (with_regs s p r) q) j ≡ register_printed q (regs_of s q) j
    by q j below (inl e) apart =
        subst (λ (y : ℕ). register_printed y (regs_of (with_regs s p r) y) j ≡ register_printed y (regs_of s y) j)
        (sym e)
        (ap (λ (y : Regs). register_printed p y j) same ∙ h.others j below (apart e))
    by q j below (inr ne) apart =
        ap (λ (y : Regs). register_printed q y j) (get_or-set_other s.regs p q r reset_regs ne)

    frame : AgreeElsewhere n m (rank_of x) (printed s lapics) (printed (with_regs s p r) lapics)
    frame Registers q j k h' ne = by q j h'.1 (cases_eq q p) (λ e f. ne (omega (arith, at, e, f, h'.2)))
    frame σ i j k h' ne = refl

changed : (p : ℕ) (name : List ℕ) (value first : ℕ) → value ≢ first
    → changed_line p name value first ≡ register_fields p name value ∷ []
changed p name value first ne =
    let off : (value == first) ≡ false =
    grind (arith, nat_tests) in ap (λ (t : Bool). cond t [] (register_fields p name value ∷ [])) off

-- SCONTROL
pub control-extends : (n m ticket : ℕ) (s : State) (last lapics p value : ℕ) → IsShaped n m ticket s
    → IsBlank n m s last lapics →
    last < rank_of (pieces.Control p value) → p < n → value ≢ 0 →
    Extends n m ticket s lapics (pieces.Control p value)
    (with_regs s p (with_value (regs_of s p) registers.Control value)) lapics
control-extends n m ticket s last lapics p value shaped blank later on ne =
    regs-extends n m ticket s last lapics p 0 (with_value (regs_of s p) registers.Control value)
    (pieces.Control p value) shaped blank later refl on (omega arith) (record {
      whole = shaped.sints p reset_regs (omega (arith, shaped.regs, on));
      others = others;
      here = changed p (codes "scontrol") value 0 ne;
    })
  where
    others : (j : ℕ) → j < 19 → j ≢ 0
        → register_printed p (with_value (regs_of s p) registers.Control value) j ≡ register_printed p (regs_of s p) j
    others zero below other = absurd (other refl)
    others (suc zero) below other = refl
    others (suc (suc zero)) below other = refl
    others (suc (suc (suc i))) below other = refl

-- SIEFP and SIMP
pub overlay-extends : (n m ticket : ℕ) (s : State) (last lapics p : ℕ) (kind : Kind) (value : ℕ)
    → IsShaped n m ticket s → IsBlank n m s last lapics →
    last < rank_of (pieces.Overlay p kind value) → p < n → value ≢ 0 →
    Extends n m ticket s lapics (pieces.Overlay p kind value)
    (with_regs s p (after_write (regs_of s p) (overlay_register kind) value)) lapics
overlay-extends n m ticket s last lapics p kinds.Sief value shaped blank later on ne =
    regs-extends n m ticket s last lapics p 1 (with_value (regs_of s p) registers.Sief value)
    (pieces.Overlay p kinds.Sief value) shaped blank later refl on (omega arith) (record {
      whole = shaped.sints p reset_regs (omega (arith, shaped.regs, on));
      others = others;
      here = changed p (codes "siefp") value 0 ne;
    })
  where
    others : (j : ℕ) → j < 19 → j ≢ 1
        → register_printed p (with_value (regs_of s p) registers.Sief value) j ≡ register_printed p (regs_of s p) j
    others zero below other = refl
    others (suc zero) below other = absurd (other refl)
    others (suc (suc zero)) below other = refl
    others (suc (suc (suc i))) below other = refl
overlay-extends n m ticket s last lapics p kinds.Sim value shaped blank later on ne =
    regs-extends n m ticket s last lapics p 2 (with_value (regs_of s p) registers.Sim value)
    (pieces.Overlay p kinds.Sim value) shaped blank later refl on (omega arith) (record {
      whole = shaped.sints p reset_regs (omega (arith, shaped.regs, on));
      others = others;
      here = changed p (codes "simp") value 0 ne;
    })
  where
    others : (j : ℕ) → j < 19 → j ≢ 2
        → register_printed p (with_value (regs_of s p) registers.Sim value) j ≡ register_printed p (regs_of s p) j
    others zero below other = refl
    others (suc zero) below other = refl
    others (suc (suc zero)) below other = absurd (other refl)
    others (suc (suc (suc i))) below other = refl

-- SINT registers
source-extends : (n m ticket : ℕ) (s : State) (last lapics p i value : ℕ) → IsShaped n m ticket s
    → IsBlank n m s last lapics →
    last < rank_of (pieces.Source p i value) → p < n → i < 16 → value ≢ masked →
    Extends n m ticket s lapics (pieces.Source p i value)
    (with_regs s p (with_value (regs_of s p) (registers.Source i) value)) lapics
source-extends n m ticket s last lapics p i value shaped blank later on low ne =
    regs-extends n m ticket s last lapics p (suc (suc (suc i))) (with_value (regs_of s p) (registers.Source i) value)
    (pieces.Source p i value)
    shaped blank later (omega arith) on (omega arith) (record {
      whole = length-set (regs_of s p).sints i value ∙ sixteen;
      others = others;
      here = ap (λ (y : ℕ). changed_line p (source_name i) y masked)
          (get_or-set_same (regs_of s p).sints i value 0 (omega (arith, sixteen, low)))
          ∙ changed p (source_name i) value masked ne;
    })
  where
    sixteen : length (regs_of s p).sints ≡ 16
    sixteen = shaped.sints p reset_regs (omega (arith, shaped.regs, on))

    others : (j : ℕ) → j < 19 → j ≢ suc (suc (suc i))
        → register_printed p (with_value (regs_of s p) (registers.Source i) value) j
        ≡ register_printed p (regs_of s p) j
    others zero below other = refl
    others (suc zero) below other = refl
    others (suc (suc zero)) below other = refl
    others (suc (suc (suc j))) below other = ap (λ (y : ℕ). changed_line p (source_name j) y masked)
        (get_or-set_other (regs_of s p).sints i j value 0 (λ e. other (ap (λ (y : ℕ). suc (suc (suc y))) e)))

is-stored : (s : State) (p i value : ℕ) (new : State) → (new, Done, []) ≡ stored s p (registers.Source i) value
    → new ≡ with_regs s p (with_value (regs_of s p) (registers.Source i) value)
is-stored s p i value new e = by (is_refused (registers.Source i) value) e
  where
    by : (t : Bool) → (new, Done, [])
        ≡ cond t (unchanged s GeneralProtection)
        (unchanged (with_regs s p (with_value (regs_of s p) (registers.Source i) value)) Done) →
        new ≡ with_regs s p (with_value (regs_of s p) (registers.Source i) value)
    by true e = let reply : Done ≡ GeneralProtection = ap (λ (o : Outcome). o.1) e in cc
    by false e = ap (λ (o : Outcome). o.0) e

pub stored-extends : (n m ticket : ℕ) (s : State) (last lapics p i value : ℕ) (new : State) → IsShaped n m ticket s
    → IsBlank n m s last lapics →
    last < rank_of (pieces.Source p i value) → p < n → i < 16 → value ≢ masked
    → (new, Done, []) ≡ stored s p (registers.Source i) value →
    Extends n m ticket s lapics (pieces.Source p i value) new lapics
stored-extends n m ticket s last lapics p i value new shaped blank later on low ne e =
    subst (λ (t : State). Extends n m ticket s lapics (pieces.Source p i value) t lapics)
    (sym (is-stored s p i value new e))
    (source-extends n m ticket s last lapics p i value shaped blank later on low ne)
