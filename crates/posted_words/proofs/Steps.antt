-- A raise and a sweep preserve the rule.
use Rattle.std.proofs.Common.{◌≡◌, ℕ, ◌+◌, ◌<◌, ◌≤◌, Bool, List, [], ◌∷◌, ◌++◌, length, set, refl, sym, ap, ◌∙◌, subst, arith, length-set}
use Rattle.std.specs.Prelude.{◌==◌, bit_or, slice_index}
use Rattle.std.specs.Int.{bit_at}
use Rattle.std.proofs.lemmas.List.Elements.{All-nil, All-cons, All-head, All-set, All-weaker}
use mathlib.Core.Option.{none, some}
use lib.ListN.{get_elem?}
use Rattle.atomic_table.specs.Table.{State, Me, step, keeps, Allows}
use Rattle.posted_words.specs.declared.rule.Action.{Action}
use Rattle.posted_words.specs.declared.rule.Action.TheVariants.{Raise, Sweep}
use Rattle.posted_words.specs.declared.rule.View.{View}
use Rattle.posted_words.specs.Action.{is_fresh_at, takes_at, times_taken, fresh, one_if}
use Rattle.posted_words.specs.Settled.{all_fresh, all_taken, Bounded}
use Rattle.posted_words.specs.inside.Posted.{view_of, views_fresh, views_taken, IsIdle, IsBounded, Posted, mask_of, raised_as, swept_as}
use Rattle.posted_words.proofs.Lists.{All-found, sum_by-set_found, found-le-sum_by}
use Rattle.posted_words.proofs.Bits.{raised_stands, raised-bit, mask_of-injective, swept_is_clear, swept-bit}

-- a token without steps
pub Bounded-nil : (F T : ℕ → ℕ → ℕ) → Bounded F T []
Bounded-nil F T =
    record {
      raises = λ w b later before f is. absurd (none later (Raise w b f) before is);
      sweeps = λ w b bits later before is. absurd (none later (Sweep w bits) before is);
    }
  where
    none : (later : List Action) (d : Action) (before : List Action) → [] ≡ later ++ d ∷ before → ⊥
    none [] d before is = cc
    none (x ∷ later) d before is = cc

-- lower bounds stay true while the counts of all tokens grow
pub Bounded-more : (F T F' T' : ℕ → ℕ → ℕ) (ds : List Action) → ((w b : ℕ) → F w b ≤ F' w b)
    → ((w b : ℕ) → T w b ≤ T' w b) → Bounded F T ds → Bounded F' T' ds
Bounded-more F T F' T' ds f t h = record {
  raises = λ w b later before g is. (let p = h.raises w b later before g is in let q = f w b in omega arith);
  sweeps = λ w b bits later before is. (let p = h.sweeps w b bits later before is in let q = t w b in omega arith);
}

-- One more step: its own bounds hold, and those of the earlier steps are unchanged.
Bounded-cons : (F T : ℕ → ℕ → ℕ) (d : Action) (ds : List Action)
    → ((w b : ℕ) (g : Bool) → d ≡ Raise w b g → times_taken w b ds + 1 ≤ F w b) →
    ((w b bits : ℕ) → d ≡ Sweep w bits → fresh w b ds ≤ T w b) → Bounded F T ds → Bounded F T (d ∷ ds)
Bounded-cons F T d ds raise sweep h = record { raises = raised; sweeps = swept }
  where
    raised : (w b : ℕ) (later before : List Action) (g : Bool) → d ∷ ds ≡ later ++ Raise w b g ∷ before
        → times_taken w b before + 1 ≤ F w b
    raised w b [] before g is =
        let here : d ≡ Raise w b g =
        cc in let rest : ds ≡ before =
        cc in subst (λ (l : List Action). times_taken w b l + 1 ≤ F w b) rest (raise w b g here)
    raised w b (x ∷ later) before g is =
        let rest : ds ≡ later ++ Raise w b g ∷ before = cc in h.raises w b later before g rest

    swept : (w b bits : ℕ) (later before : List Action) → d ∷ ds ≡ later ++ Sweep w bits ∷ before
        → fresh w b before ≤ T w b
    swept w b bits [] before is =
        let here : d ≡ Sweep w bits =
        cc in let rest : ds ≡ before = cc in subst (λ (l : List Action). fresh w b l ≤ T w b) rest (sweep w b bits here)
    swept w b bits (x ∷ later) before is =
        let rest : ds ≡ later ++ Sweep w bits ∷ before = cc in h.sweeps w b bits later before rest

pub IsBounded-more : (F T F' T' : ℕ → ℕ → ℕ) (v : View) → ((w b : ℕ) → F w b ≤ F' w b) → ((w b : ℕ) → T w b ≤ T' w b)
    → IsBounded F T v → IsBounded F' T' v
IsBounded-more F T F' T' v f t = All-weaker (Bounded F T) (Bounded F' T') (λ ds. Bounded-more F T F' T' ds f t) v.logs

-- the steps of a seat's tokens
abbrev pub fresh_of : ℕ → ℕ → View → ℕ
fresh_of w b v = all_fresh v.logs w b

abbrev pub taken_of : ℕ → ℕ → View → ℕ
taken_of w b v = all_taken v.logs w b

-- the seat of one token
abbrev pub own : List Action → View
own ds = view_of 1 (ds ∷ [])

own_bounded : (F T : ℕ → ℕ → ℕ) (ds : List Action) → IsBounded F T (own ds) → Bounded F T ds
own_bounded F T ds all = All-head (Bounded F T) ds [] all

pub bounded_own : (F T : ℕ → ℕ → ℕ) (ds : List Action) → Bounded F T ds → IsBounded F T (own ds)
bounded_own F T ds one = All-cons (Bounded F T) ds [] one (All-nil (Bounded F T))

-- a state in which one view has changed, by a step that decreases no count
module _ (key : ℕ × ℕ) (s : State (Unit {0}) View) (id : ℕ) (v w : View) (words : List ℕ) where
  abbrev views' : List View
  views' = set s.views id w

  changed : Posted key s → get_elem? s.views id ≡ some v → length words ≡ key.0 → w.parts ≡ v.parts → IsIdle w
      → ((x b : ℕ) → fresh_of x b v ≤ fresh_of x b w) → ((x b : ℕ) → taken_of x b v ≤ taken_of x b w)
      → ((x b : ℕ) → x < key.0 → views_fresh views' x b ≡ views_taken views' x b + bit_at (slice_index words x) b)
      → IsBounded (views_fresh views') (views_taken views') w
      → Posted key record { words = words; homes = s.homes; views = views' }
  changed h at long same idle more_fresh more_taken even mine =
      let F = views_fresh s.views in
      let T = views_taken s.views in
      let F' = views_fresh views' in
      let T' = views_taken views' in
      let f : (x b : ℕ) → F x b ≤ F' x b =
      λ x b. (let e = sum_by-set_found (fresh_of x b) s.views id v w at in let m = more_fresh x b in omega arith) in
      let t : (x b : ℕ) → T x b ≤ T' x b =
      λ x b. (let e = sum_by-set_found (taken_of x b) s.views id v w at in let m = more_taken x b in omega arith) in
      record {
        width = long;
        whole = (let e = sum_by-set_found (λ (u : View). u.parts) s.views id v w at in let p = h.whole in omega arith);
        idle = All-set IsIdle s.views id w idle h.idle;
        even = even;
        bounded = All-set (IsBounded F' T') s.views id w mine
            (All-weaker (IsBounded F T) (IsBounded F' T') (λ u. IsBounded-more F T F' T' u f t) s.views h.bounded);
      }

raises : (key : ℕ × ℕ) (slots id w k : ℕ) (ds : List Action) → w < key.0 → k < 64
    → Allows (Posted key) slots id (own ds, []) w (λ n. bit_or n (mask_of k))
    (raised_as (step slots w (mask_of k) 0 none) (own ds, []))
raises key slots id w k ds in_words small s h _ at _ =
    let n : ℕ = slice_index s.words w in
    let d : Action = Raise w k (bit_at n k == 0) in
    let u : View = own (d ∷ ds) in
    let words : List ℕ = set s.words w (bit_or n (mask_of k)) in
    let views : List View = set s.views id u in
    let wide : w < length s.words = omega (arith, h.width) in
    let F : (x b : ℕ) → views_fresh views x b ≡ views_fresh s.views x b + one_if (is_fresh_at x b d) =
    λ x b. (let e = sum_by-set_found (fresh_of x b) s.views id (own ds) u at in omega arith) in
    let T : (x b : ℕ) → views_taken views x b ≡ views_taken s.views x b =
    λ x b. (let e = sum_by-set_found (taken_of x b) s.views id (own ds) u at in omega arith) in
    let even : (x b : ℕ) → x < key.0
    → views_fresh views x b ≡ views_taken views x b + bit_at (slice_index words x) b = λ x b lt.
    (let p = F x b in let q = T x b in let r = raised-bit s.words w k x b n wide refl small in
    let e = h.even x b lt in omega (arith, p, q, r, e)) in
    let before : Bounded (views_fresh s.views) (views_taken s.views) ds =
    own_bounded (views_fresh s.views) (views_taken s.views) ds
    (All-found (IsBounded (views_fresh s.views) (views_taken s.views)) s.views id (own ds) at h.bounded) in
    let mine : Bounded (views_fresh views) (views_taken views) (d ∷ ds) =
    Bounded-cons (views_fresh views) (views_taken views) d ds
    (λ x b g is.
    let word : x ≡ w = cc in
    let bit : b ≡ k = cc in
    let e = even x b (omega (arith, word)) in
    let q = T x b in
    let o = found-le-sum_by (taken_of x b) s.views id (own ds) at in
    let stands : bit_at (slice_index words x) b ≡ 1 = raised_stands s.words w k x b n wide small word bit in
    omega (arith, e, q, o, stands))
    (λ x b bits is. absurd (cc))
    (Bounded-more (views_fresh s.views) (views_taken s.views) (views_fresh views) (views_taken views) ds
    (λ x b. (let q = F x b in omega arith)) (λ x b. (let q = T x b in omega arith)) before) in (
      u,
      keeps,
      tt,
      changed key s id (own ds) u words h at (length-set s.words w (bit_or n (mask_of k)) ∙ h.width) refl
          (λ (z : 1 ≡ 0). absurd (omega arith))
          (λ x b. omega arith) (λ x b. omega arith) even
          (bounded_own (views_fresh views) (views_taken views) (d ∷ ds) mine),
      (
        (λ j little e. ap (λ (i : ℕ). own (Raise w i (bit_at n i == 0) ∷ ds))
            (sym (mask_of-injective k j small little e))),
        refl,
      ),
    )

sweeps : (key : ℕ × ℕ) (slots id w : ℕ) (ds : List Action) → w < key.0
    → Allows (Posted key) slots id (own ds, []) w (λ _. 0) (swept_as (step slots w 0 0 none) (own ds, []))
sweeps key slots id w ds in_words s h _ at _ =
    let n : ℕ = slice_index s.words w in
    let d : Action = Sweep w n in
    let u : View = own (d ∷ ds) in
    let words : List ℕ = set s.words w 0 in
    let views : List View = set s.views id u in
    let wide : w < length s.words = omega (arith, h.width) in
    let F : (x b : ℕ) → views_fresh views x b ≡ views_fresh s.views x b =
    λ x b. (let e = sum_by-set_found (fresh_of x b) s.views id (own ds) u at in omega arith) in
    let T : (x b : ℕ) → views_taken views x b ≡ views_taken s.views x b + takes_at x b d =
    λ x b. (let e = sum_by-set_found (taken_of x b) s.views id (own ds) u at in omega arith) in
    let even : (x b : ℕ) → x < key.0
    → views_fresh views x b ≡ views_taken views x b + bit_at (slice_index words x) b = λ x b lt.
    (let p = F x b in let q = T x b in let r = swept-bit s.words w x b n wide refl in let e = h.even x b lt in
    omega (arith, p, q, r, e)) in
    let before : Bounded (views_fresh s.views) (views_taken s.views) ds =
    own_bounded (views_fresh s.views) (views_taken s.views) ds
    (All-found (IsBounded (views_fresh s.views) (views_taken s.views)) s.views id (own ds) at h.bounded) in
    let mine : Bounded (views_fresh views) (views_taken views) (d ∷ ds) =
    Bounded-cons (views_fresh views) (views_taken views) d ds
    (λ x b g is. absurd (cc))
    (λ x b bits is.
    let word : x ≡ w = cc in
    let e = even x b (omega (arith, word)) in
    let q = F x b in
    let o = found-le-sum_by (fresh_of x b) s.views id (own ds) at in
    let gone : bit_at (slice_index words x) b ≡ 0 = swept_is_clear s.words w x b wide word in
    omega (arith, e, q, o, gone))
    (Bounded-more (views_fresh s.views) (views_taken s.views) (views_fresh views) (views_taken views) ds
    (λ x b. (let q = F x b in omega arith)) (λ x b. (let q = T x b in omega arith)) before) in (
      u,
      keeps,
      tt,
      changed key s id (own ds) u words h at (length-set s.words w 0 ∙ h.width) refl
          (λ (z : 1 ≡ 0). absurd (omega arith))
          (λ x b. omega arith) (λ x b. omega arith) even
          (bounded_own (views_fresh views) (views_taken views) (d ∷ ds) mine),
      (refl, refl),
    )

-- a raise by a seat of one token
pub raises_as : (key : ℕ × ℕ) (slots id w k : ℕ) (me : Me (Unit {0}) View) (ds : List Action) → me ≡ (own ds, [])
    → w < key.0 → k < 64
    → Allows (Posted key) slots id me w (λ n. bit_or n (mask_of k)) (raised_as (step slots w (mask_of k) 0 none) me)
raises_as key slots id w k me ds is in_words small =
    subst (λ (m : Me (Unit {0}) View). Allows (Posted key) slots id m w (λ n. bit_or n (mask_of k))
    (raised_as (step slots w (mask_of k) 0 none) m)) (sym is)
    (raises key slots id w k ds in_words small)

-- a sweep by a seat of one token
pub sweeps_as : (key : ℕ × ℕ) (slots id w : ℕ) (me : Me (Unit {0}) View) (ds : List Action) → me ≡ (own ds, [])
    → w < key.0
    → Allows (Posted key) slots id me w (λ _. 0) (swept_as (step slots w 0 0 none) me)
sweeps_as key slots id w me ds is in_words =
    subst (λ (m : Me (Unit {0}) View). Allows (Posted key) slots id m w (λ _. 0) (swept_as (step slots w 0 0 none) m))
    (sym is) (sweeps key slots id w ds in_words)
