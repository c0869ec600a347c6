-- What an access of the host does to a header in memory and in the host's log.
use Rattle.std.proofs.Common.{◌≡◌, inl, inr, ℕ, Bool, true, false, List, ◌∷◌, refl, sym, ap, ◌∙◌, arith}
use Rattle.std.specs.Prelude.{◌==◌, not, bit_or, if◌then◌else◌}
use Rattle.std.specs.Int.{bit_at}
use Rattle.std.proofs.lemmas.Nat.{or_mod, le_or_l}
use Rattle.std.proofs.lemmas.Nat.Bits.{bit_at_or, bit_at-lt}
use Rattle.std.proofs.Math.Nat.{max-eq_left}
use Rattle.std.proofs.lemmas.Bool.Decides.{nat_tests}
use Rattle.live_pages.specs.Words.{known, type_of, is_pending}
use Rattle.live_pages.specs.Traces.{memory, accesses, Finds, is_of}
use Rattle.live_pages.specs.declared.access.Turn.{Turn}
use Rattle.live_pages.specs.declared.access.Turn.TheVariants.{ByHost}
use Rattle.live_pages.specs.declared.access.Access.{Access}
use Rattle.live_pages.specs.declared.access.Access.TheVariants.{Load, FetchOr, Store}
use Rattle.live_pages.specs.Headers.{is_occupied}
use Rattle.law_slots.specs.Pages.{is_store_of, Keeps}
use Rattle.law_slots.proofs.Views.{Effect}

pub equal : (a b : ℕ) → (a == b) ≡ true → a ≡ b
equal a b e = grind (arith, nat_tests)

is-one : (w : ℕ) → is_pending w ≡ true → bit_at w 40 ≡ 1
is-one w e = grind (arith, nat_tests)

empty : (n : ℕ) → n ≡ 0 → not (n == 0) ≡ true → ⊥
empty n z f = let g = sym (ap (λ n. not (n == 0)) z) ∙ f in cc

or-type : (found mask : ℕ) → is_occupied found ≡ true → is_occupied (bit_or found mask) ≡ true
or-type found mask full = by (type_of (bit_or found mask) == 0) refl
  where
    type : type_of (bit_or found mask) ≡ bit_or (type_of found) (type_of mask)
    type = or_mod found mask 32

    by : (b : Bool) → (type_of (bit_or found mask) == 0) ≡ b → is_occupied (bit_or found mask) ≡ true
    by false e = ap not e
    by true e =
        let more = le_or_l (type_of found) (type_of mask) in
        let none : bit_or (type_of found) (type_of mask) ≡ 0 = sym type ∙ equal (type_of (bit_or found mask)) 0 e in
        let zero_type : type_of found ≡ 0 = omega arith in
        absurd (empty (type_of found) zero_type full)

or-pending : (found mask : ℕ) → is_pending found ≡ true → is_pending (bit_or found mask) ≡ true
or-pending found mask e =
    let one = is-one found e in
    let small = bit_at-lt mask 40 in
    ap (λ b. b == 1) (bit_at_or found mask 40 ∙ max-eq_left (omega arith) ∙ one)

abbrev pub EffectOf : ℕ → List Turn → Access → Type 0
EffectOf x turns a =
    Effect (is_occupied (memory turns x)) (is_pending (memory turns x)) (is_occupied (known (accesses turns) x))
    (is_pending (known (accesses turns) x)) (is_occupied (memory (ByHost a ∷ turns) x))
    (is_pending (memory (ByHost a ∷ turns) x)) (is_occupied (known (a ∷ accesses turns) x))
    (is_pending (known (a ∷ accesses turns) x)) (is_of x a) (is_store_of x a)

by-load : (x w found : ℕ) (turns : List Turn) (b : Bool) → (x == w) ≡ b → found ≡ memory turns w
    → EffectOf x turns (Load w found)
by-load x w found turns true of is =
    let same : known (Load w found ∷ accesses turns) x ≡ memory turns x =
    ap (λ (b : Bool). if b then found else known (accesses turns) x) of ∙ is ∙ ap (memory turns) (sym (equal x w of)) in
    inr (ap is_occupied same, ap is_pending same, inl (λ o. o, λ p. p))
by-load x w found turns false of is =
    let same : known (Load w found ∷ accesses turns) x ≡ known (accesses turns) x =
    ap (λ (b : Bool). if b then found else known (accesses turns) x) of in
    inl (refl, refl, ap is_occupied same, ap is_pending same, of)

by-or : (x w mask found : ℕ) (turns : List Turn) (b : Bool) → (x == w) ≡ b → found ≡ memory turns w
    → EffectOf x turns (FetchOr w mask found)
by-or x w mask found turns true of is =
    let same : memory (ByHost (FetchOr w mask found) ∷ turns) x ≡ bit_or found mask =
    ap (λ (b : Bool). if b then bit_or found mask else memory turns x) of in
    let known_too : known (FetchOr w mask found ∷ accesses turns) x ≡ bit_or found mask =
    ap (λ (b : Bool). if b then bit_or found mask else known (accesses turns) x) of in
    let was : found ≡ memory turns x = is ∙ ap (memory turns) (sym (equal x w of)) in
    inr (
      ap is_occupied (known_too ∙ sym same),
      ap is_pending (known_too ∙ sym same),
      inl (
        λ o. ap is_occupied same ∙ or-type found mask (ap is_occupied was ∙ o),
        λ p. ap is_pending same ∙ or-pending found mask (ap is_pending was ∙ p),
      ),
    )
by-or x w mask found turns false of is =
    let same : memory (ByHost (FetchOr w mask found) ∷ turns) x ≡ memory turns x =
    ap (λ (b : Bool). if b then bit_or found mask else memory turns x) of in
    let known_too : known (FetchOr w mask found ∷ accesses turns) x ≡ known (accesses turns) x =
    ap (λ (b : Bool). if b then bit_or found mask else known (accesses turns) x) of in
    inl (ap is_occupied same, ap is_pending same, ap is_occupied known_too, ap is_pending known_too, of)

by-store : (x w value : ℕ) (turns : List Turn) (b : Bool) → (x == w) ≡ b
    → ((x == w) ≡ true → is_occupied (known (accesses turns) x) ≡ false) → EffectOf x turns (Store w value)
by-store x w value turns true of keeps =
    let same : memory (ByHost (Store w value) ∷ turns) x ≡ value =
    ap (λ (b : Bool). if b then value else memory turns x) of in
    let known_too : known (Store w value ∷ accesses turns) x ≡ value =
    ap (λ (b : Bool). if b then value else known (accesses turns) x) of in
    inr (ap is_occupied (known_too ∙ sym same), ap is_pending (known_too ∙ sym same), inr (of, keeps of))
by-store x w value turns false of keeps =
    let same : memory (ByHost (Store w value) ∷ turns) x ≡ memory turns x =
    ap (λ (b : Bool). if b then value else memory turns x) of in
    let known_too : known (Store w value ∷ accesses turns) x ≡ known (accesses turns) x =
    ap (λ (b : Bool). if b then value else known (accesses turns) x) of in
    inl (ap is_occupied same, ap is_pending same, ap is_occupied known_too, ap is_pending known_too, of)

pub effect : (x : ℕ) (turns : List Turn) (a : Access) → Finds (memory turns) a → Keeps x (accesses turns) a
    → EffectOf x turns a
effect x turns (Load w found) is keeps = by-load x w found turns (x == w) refl is
effect x turns (FetchOr w mask found) is keeps = by-or x w mask found turns (x == w) refl is
effect x turns (Store w value) is keeps = by-store x w value turns (x == w) refl keeps
