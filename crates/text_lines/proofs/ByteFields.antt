-- Bytes that are written as two digits each.
use Rattle.std.proofs.Common.{◌≡◌, ℕ, zero, suc, ◌<◌, ◌≤◌, List, [], ◌∷◌, length, Option, Some, None, MatchOption, is_some, refl, sym, ap, ◌∙◌, cond, if◌then◌else◌, arith, Bool, true, false, not, nat_le, leb-true, le-leb, codes, ◌==◌}
use Rattle.std.specs.Option.{option_map, option_and_then}
use Rattle.std.specs.Str.{bytes_eq}
use Rattle.std.proofs.lemmas.List.Elements.{All-nil, All-cons, All-head, All-tail}
use Rattle.std.proofs.lemmas.Bool.Decides.{Decides-eqb}
use Rattle.std.proofs.lemmas.Slice.Eq.{bytes_eq-Decides}
use Rattle.text_base.specs.Numbers.{spelled, byte_at, IsByte, AreBytes}
use Rattle.text_base.proofs.NumberLemmas.{byte_at-spelled, byte_at-only}
use Rattle.text_lines.specs.Events.{bytes_text, AtMostBytes}
use Rattle.arrayvec.specs.ArrayVec.{ArrayVec}
use Rattle.text_lines.specs.Reading.{spelled_at, some_bytes, bytes_at, first_read, TakesBytes}

pub record Spells (text bytes : List ℕ) : Type 0 where
  pub same : text ≡ spelled bytes
  pub all : AreBytes bytes

pub spelled_at-only : (text bytes : List ℕ) → spelled_at text ≡ Some bytes → Spells text bytes
spelled_at-only [] [] e = record { same = refl; all = All-nil IsByte }
spelled_at-only [] (b ∷ bytes) e = cc
spelled_at-only (high ∷ []) bytes e = cc
spelled_at-only (high ∷ low ∷ text) bytes e =
    go (byte_at (high ∷ low ∷ [])) refl (spelled_at text) refl (λ bs was. spelled_at-only text bs was) e
  where
    go : (r : Option ℕ) → byte_at (high ∷ low ∷ []) ≡ r → (more : Option (List ℕ)) → spelled_at text ≡ more
        → ((bs : List ℕ) → more ≡ Some bs → Spells text bs) →
        option_and_then (λ (b : ℕ). option_map (λ (bs : List ℕ). b ∷ bs) more) r ≡ Some bytes
        → Spells (high ∷ low ∷ text) bytes
    go None is more was tails e = cc
    go (Some b) is None was tails e = cc
    go (Some b) is (Some bs) was tails e =
        let h = byte_at-only (high ∷ low ∷ []) b is in
        let tail = tails bs refl in
        let same : b ∷ bs ≡ bytes = cc in
        let digits = h.1 in
        let rest = tail.same in
        rw (← same) (record { same = cc; all = All-cons IsByte b bs h.0 tail.all })

pub spelled_at-spelled : (bytes : List ℕ) → AreBytes bytes → spelled_at (spelled bytes) ≡ Some bytes
spelled_at-spelled [] all = refl
spelled_at-spelled (b ∷ bytes) all =
    ap (option_and_then (λ (c : ℕ). option_map (λ (bs : List ℕ). c ∷ bs) (spelled_at (spelled bytes))))
    (byte_at-spelled b (All-head IsByte b bytes all))
    ∙ ap (option_map (λ (bs : List ℕ). b ∷ bs)) (spelled_at-spelled bytes (All-tail IsByte b bytes all))

pub record Reads (most : ℕ) (text bytes : List ℕ) : Type 0 where
  pub same : text ≡ bytes_text bytes
  pub bound : AtMostBytes most bytes

some-only : (most : ℕ) (text some bytes : List ℕ) → Spells text some → some_bytes most some ≡ Some bytes
    → Reads most text bytes
some-only most text [] bytes h e = cc
some-only most text (b ∷ some) bytes h e = go (nat_le (length (b ∷ some)) most) refl e
  where
    go : (t : Bool) → nat_le (length (b ∷ some)) most ≡ t → cond t (Some (b ∷ some)) None ≡ Some bytes
        → Reads most text bytes
    go true is e =
        let same : b ∷ some ≡ bytes =
        cc in rw (← same) (record { same = h.same; bound = (h.all, leb-true (length (b ∷ some)) most is) })
    go false is e = cc

pub bytes_at-only : (most : ℕ) (text bytes : List ℕ) → bytes_at most text ≡ Some bytes → Reads most text bytes
bytes_at-only most text bytes e = go (bytes_eq text (codes "-")) refl (spelled_at text) refl e
  where
    go : (t : Bool) → bytes_eq text (codes "-") ≡ t → (r : Option (List ℕ)) → spelled_at text ≡ r
        → cond t (Some []) (option_and_then (some_bytes most) r) ≡ Some bytes → Reads most text bytes
    go true is r was e =
        let none : [] ≡ bytes = cc in
        rw (← none) (record { same = (bytes_eq-Decides text (codes "-")).0 is; bound = (All-nil IsByte, omega arith) })
    go false is None was e = cc
    go false is (Some some) was e = some-only most text some bytes (spelled_at-only text some was) e

-- digits are no dash
pub no-dash : (b : ℕ) (bytes : List ℕ) → bytes_eq (spelled (b ∷ bytes)) (codes "-") ≡ false
no-dash b bytes = go (bytes_eq (spelled (b ∷ bytes)) (codes "-")) refl
  where
    go : (t : Bool) → bytes_eq (spelled (b ∷ bytes)) (codes "-") ≡ t → t ≡ false
    go false is = refl
    go true is =
        let same = ap length ((bytes_eq-Decides (spelled (b ∷ bytes)) (codes "-")).0 is) in absurd (omega arith)

pub bytes_at-spelled : (most : ℕ) (bytes : List ℕ) → AtMostBytes most bytes
    → bytes_at most (bytes_text bytes) ≡ Some bytes
bytes_at-spelled most [] h = refl
bytes_at-spelled most (b ∷ bytes) h =
    ap (λ (t : Bool). cond t (Some []) (option_and_then (some_bytes most) (spelled_at (spelled (b ∷ bytes)))))
    (no-dash b bytes)
    ∙ ap (option_and_then (some_bytes most)) (spelled_at-spelled (b ∷ bytes) h.0)
    ∙ ap (λ (t : Bool). cond t (Some (b ∷ bytes)) None) (le-leb (length (b ∷ bytes)) most h.1)

-- what is parsed from a text that spells these bytes
pub read-bytes : (most : ℕ) (text bytes : List ℕ) → Spells text bytes → 0 < length bytes → length bytes ≤ most
    → bytes_at most text ≡ Some bytes
read-bytes most text [] h some bound = absurd (omega arith)
read-bytes most text (b ∷ bytes) h some bound =
    ap (bytes_at most) h.same ∙ bytes_at-spelled most (b ∷ bytes) (h.all, bound)

-- the text of no bytes
pub read-none : (most : ℕ) (text : List ℕ) → bytes_eq text (codes "-") ≡ false
    → ((bytes : List ℕ) → AreBytes bytes → length bytes ≤ most → text ≡ spelled bytes → ⊥) → bytes_at most text ≡ None
read-none most text dash never = go (bytes_at most text) refl
  where
    go : (r : Option (List ℕ)) → bytes_at most text ≡ r → r ≡ None
    go None is = refl
    go (Some []) is =
        let h = bytes_at-only most text [] is in let same = (bytes_eq-Decides text (codes "-")).1 h.same in cc
    go (Some (b ∷ bytes)) is =
        let h = bytes_at-only most text (b ∷ bytes) is in absurd (never (b ∷ bytes) h.bound.0 h.bound.1 h.same)

not-empty : (n : ℕ) → (n == 0) ≡ false → 0 < n
not-empty zero e = cc
not-empty (suc n) e = omega arith

-- the first field, and what is parsed from it
taken-none : (most : ℕ) (old new : List (List ℕ)) (field : List ℕ) → old ≡ field ∷ new → bytes_at most field ≡ None
    → first_read (bytes_at most) old ≡ None
taken-none most old new field at read = rw (at, read) refl

taken-some : (most : ℕ) (old new : List (List ℕ)) (field bytes : List ℕ) → old ≡ field ∷ new
    → bytes_at most field ≡ Some bytes → first_read (bytes_at most) old ≡ Some (bytes, new)
taken-some most old new field bytes at read = rw (at, read) refl

-- a first field that is neither a dash nor bytes
pub no-bytes : (most : ℕ) (old : List (List ℕ)) → ((rest : List (List ℕ)) → old ≡ codes "-" ∷ rest → ⊥) →
    ((bytes : List ℕ) (rest : List (List ℕ)) → AreBytes bytes → length bytes ≤ most → old ≡ spelled bytes ∷ rest → ⊥)
    → first_read (bytes_at most) old ≡ None
no-bytes most [] other never = refl
no-bytes most (field ∷ rest) other never =
    taken-none most (field ∷ rest) rest field refl
    (read-none most field (dash (bytes_eq field (codes "-")) refl)
    (λ bytes all fits is. never bytes rest all fits (ap (λ (f : List ℕ). f ∷ rest) is)))
  where
    dash : (t : Bool) → bytes_eq field (codes "-") ≡ t → t ≡ false
    dash false is = refl
    dash true is = absurd (other rest (ap (λ (f : List ℕ). f ∷ rest) ((bytes_eq-Decides field (codes "-")).0 is)))

some : (n : ℕ) → (suc n == 0) ≡ true → ⊥
some n e = let zero : suc n ≡ 0 = (Decides-eqb (suc n) 0).0 e in omega (arith, zero)

-- bytes, unless there are none
pub takes-bytes : (most : ℕ) (old new : List (List ℕ)) (out : ArrayVec ℕ) (empty : Bool)
    → empty ≡ (length out.items == 0) → (old ≡ spelled out.items ∷ new) × AreBytes out.items →
    length out.items ≤ most → TakesBytes most (if not empty then Some out else None) old new
takes-bytes most old new out true is h fits = none out.items (sym is) h.0
  where
    none : (bytes : List ℕ) → (length bytes == 0) ≡ true → old ≡ spelled bytes ∷ new
        → first_read (bytes_at most) old ≡ None
    none [] e at = taken-none most old new [] at refl
    none (b ∷ bytes) e at = absurd (some (length bytes) e)
takes-bytes most old new out false is h fits =
    taken-some most old new (spelled out.items) out.items h.0
    (read-bytes most (spelled out.items) out.items (record { same = refl; all = h.1 })
    (not-empty (length out.items) (sym is)) fits)

-- what was decoded, if anything was
pub decoded : (r : Option (Unit {0})) (P Q : Type 0) → true ≡ is_some r → MatchOption r P (λ _. Q) → Q
decoded None P Q e h = cc
decoded (Some u) P Q e h = h

pub not-decoded : (r : Option (Unit {0})) (P Q : Type 0) → false ≡ is_some r → MatchOption r P (λ _. Q) → P
not-decoded None P Q e h = h
not-decoded (Some u) P Q e h = cc
