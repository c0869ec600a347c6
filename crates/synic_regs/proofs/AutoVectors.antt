-- The auto-EOI vectors: their members, and one more source.
use Rattle.std.proofs.Common.{◌≡◌, ℕ, ◌+◌, ◌<◌, ◌≤◌, Bool, true, false, ◌&&◌, ◌||◌, not, nat_lt, List, [], take, take_all, length, get_or, refl, sym, ap, ◌∙◌, arith}
use Rattle.std.specs.Prelude.{Option, None, Some, ◌==◌, if◌then◌else◌}
use Rattle.std.specs.Ordering.{nat_cmp}
use Rattle.std.specs.Cmp.{nat_cmp_total}
use Rattle.std.specs.List.{list_any}
use Rattle.std.specs.Option.{option_map_or}
use Rattle.std.specs.FinSet as set
use Rattle.std.specs.FinSet.{nat_cmp-IsAntisymmetric}
use Rattle.std.proofs.lemmas.Bool.Decides.{nat_tests}
use Rattle.std.proofs.lemmas.List.Folds.{list_any_none, list_any_more}
use Rattle.lapic_core.specs.Vectors.{Vectors}
use Rattle.lapic_core.proofs.Members.{contains-numbers_where}
use Rattle.synic_regs.specs.Regs.{Regs, has, auto_eoi, is_silent, vector_of, is_auto_source, raised_by_word, auto_eoi_of, auto_vectors}

-- no source has a vector above 255
above_none : (v word : ℕ) → 256 ≤ v → is_auto_source v word ≡ false
above_none v word above =
    let below : vector_of word < 256 = omega arith in
    let other : (vector_of word == v) ≡ false = grind (arith, nat_tests) in
    grind (arith, nat_tests)

contains-auto_eoi_of : (sints : List ℕ) (v : ℕ) → set.contains (auto_eoi_of sints) v ≡ list_any (is_auto_source v) sints
unfolding auto_eoi_of
contains-auto_eoi_of sints v =
    contains-numbers_where (λ v. list_any (is_auto_source v) sints) 256 v
    ∙ (elim (nat_lt v 256) as
    (λ b. nat_lt v 256 ≡ b → (b && list_any (is_auto_source v) sints) ≡ list_any (is_auto_source v) sints) [
      | true ↦ λ e. refl
      | false ↦ λ e.
          sym (list_any_none (is_auto_source v) sints
          (λ k d h. above_none v (get_or sints k d) (grind (arith, nat_tests))))
    ] refl)

-- a vector is auto-EOI iff some source makes it so
pub contains-auto_vectors : (r : Regs) (v : ℕ) → set.contains (auto_vectors r) v ≡ list_any (is_auto_source v) r.sints
contains-auto_vectors r v = contains-auto_eoi_of r.sints v

-- the vector that a source makes auto-EOI
abbrev pub auto_of_word : ℕ → Option ℕ
auto_of_word word = if has word auto_eoi then raised_by_word word else None

-- the set with the vector that was found
abbrev pub with_found : Vectors → Option ℕ → Vectors
with_found s o = option_map_or (λ v. set.insert s v) o s

contains-with_found : (s : Vectors) (auto silent : Bool) (v q : ℕ) →
    set.contains (with_found s (if auto then (if silent then None else Some v) else None)) q
    ≡ (set.contains s q || (auto && not silent && (v == q)))
contains-with_found s true true v q = grind (arith, nat_tests)
contains-with_found s true false v q = set.contains-insert nat_cmp_total s v q ∙ grind (arith, nat_tests)
contains-with_found s false silent v q = grind (arith, nat_tests)

-- one more source
pub auto_eoi_of-more : (sints : List ℕ) (i : ℕ) → i < length sints
    → auto_eoi_of (take (i + 1) sints) ≡ with_found (auto_eoi_of (take i sints)) (auto_of_word (get_or sints i 0))
auto_eoi_of-more sints i h =
    set.same_set nat_cmp_total nat_cmp-IsAntisymmetric _ _ (λ q.
    contains-auto_eoi_of (take (i + 1) sints) q
    ∙ list_any_more (is_auto_source q) sints i 0 h
    ∙ ap (λ b. b || is_auto_source q (get_or sints i 0)) (sym (contains-auto_eoi_of (take i sints) q))
    ∙ sym (contains-with_found (auto_eoi_of (take i sints)) (has (get_or sints i 0) auto_eoi)
    (is_silent (get_or sints i 0)) (vector_of (get_or sints i 0)) q))

pub auto_eoi_of-none : auto_eoi_of [] ≡ set.empty
auto_eoi_of-none =
    set.same_set nat_cmp_total nat_cmp-IsAntisymmetric _ _
    (λ q. contains-auto_eoi_of [] q ∙ sym (set.contains-empty nat_cmp q))

pub more_found : (sints : List ℕ) (i : ℕ) (auto now : Vectors) (word v : ℕ) (o : Option ℕ)
    → auto ≡ auto_eoi_of (take i sints) → i < length sints →
    word ≡ get_or sints i 0 → o ≡ auto_of_word word → o ≡ Some v → now ≡ set.insert auto v
    → now ≡ auto_eoi_of (take (i + 1) sints)
more_found sints i auto now word v o so_far h same found is put =
    let e : auto_of_word (get_or sints i 0) ≡ Some v = ap auto_of_word (sym same) ∙ sym found ∙ is in
    put ∙ ap (λ s. set.insert s v) so_far ∙ ap (with_found (auto_eoi_of (take i sints))) (sym e)
    ∙ sym (auto_eoi_of-more sints i h)

pub more_none : (sints : List ℕ) (i : ℕ) (auto now : Vectors) (word : ℕ) (o : Option ℕ)
    → auto ≡ auto_eoi_of (take i sints) → i < length sints →
    word ≡ get_or sints i 0 → o ≡ auto_of_word word → o ≡ None → now ≡ auto → now ≡ auto_eoi_of (take (i + 1) sints)
more_none sints i auto now word o so_far h same found is kept =
    let e : auto_of_word (get_or sints i 0) ≡ None = ap auto_of_word (sym same) ∙ sym found ∙ is in
    kept ∙ so_far ∙ ap (with_found (auto_eoi_of (take i sints))) (sym e) ∙ sym (auto_eoi_of-more sints i h)

pub all_of_them : (sints : List ℕ) (i n : ℕ) (auto : Vectors) → length sints ≡ n → n ≤ i
    → auto ≡ auto_eoi_of (take i sints) → auto ≡ auto_eoi_of sints
all_of_them sints i n auto len h so_far = so_far ∙ ap auto_eoi_of (take_all i sints (omega arith))
