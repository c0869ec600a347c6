-- Opening, splitting and joining seats preserve the rule.
use Rattle.std.proofs.Common.{◌≡◌, ℕ, zero, suc, ◌+◌, ◌-◌, ◌<◌, List, [], ◌∷◌, ◌++◌, set, All, refl, ap, ◌∙◌, ⊎_elim, arith, replicate}
use Rattle.std.specs.Prelude.{slice_index}
use Rattle.std.specs.Int.{bit_at}
use Rattle.std.proofs.lemmas.Nat.Bits.{bit_at-zero}
use Rattle.std.proofs.lemmas.List.{length-replicate}
use Rattle.std.proofs.lemmas.List.Sums.{sum_by-append}
use Rattle.std.proofs.lemmas.List.Elements.{All-nil, All-cons, All-append, All-push, All-set, All-weaker}
use mathlib.Core.Option.{some}
use lib.ListN.{get_elem?}
use Rattle.atomic_table.specs.Table.{opening, Splits, Joins}
use Rattle.atomic_table.proofs.Lists.{at_set}
use Rattle.posted_words.specs.declared.rule.View.{View}
use Rattle.posted_words.specs.Action.{times_taken, fresh}
use Rattle.posted_words.specs.Settled.{Bounded}
use Rattle.posted_words.specs.inside.Posted.{view_of, views_fresh, views_taken, IsIdle, IsBounded, Posted}
use Rattle.posted_words.proofs.Lists.{All-found, sum_by-set_found}
use Rattle.posted_words.proofs.Steps.{fresh_of, taken_of, Bounded-nil, IsBounded-more, bounded_own}

-- if the counts of all views are unchanged, each view keeps its lower bounds
kept : (F T F' T' : ℕ → ℕ → ℕ) (views : List View) → ((w b : ℕ) → F' w b ≡ F w b) → ((w b : ℕ) → T' w b ≡ T w b)
    → All (IsBounded F T) views → All (IsBounded F' T') views
kept F T F' T' views f t =
    All-weaker (IsBounded F T) (IsBounded F' T')
    (λ v. IsBounded-more F T F' T' v (λ w b. (let e = f w b in omega arith))
    (λ w b. (let e = t w b in omega arith))) views

-- a token without steps
abbrev pub unused : View
unused = view_of 1 ([] ∷ [])

pub deals : (key : ℕ × ℕ) (id : ℕ) (v : View) → 1 < v.parts
    → Splits (Posted key) id v (view_of (v.parts - 1) v.logs) unused
deals key id v more s h at =
    let rest = view_of (v.parts - 1) v.logs in
    let views : List View = set s.views id rest in
    let last : List View = views ++ unused ∷ [] in
    let F : (w b : ℕ) → views_fresh last w b ≡ views_fresh s.views w b = λ w b.
    (let e = sum_by-set_found (fresh_of w b) s.views id v rest at in
    let a = sum_by-append (fresh_of w b) views (unused ∷ []) in omega arith) in
    let T : (w b : ℕ) → views_taken last w b ≡ views_taken s.views w b = λ w b.
    (let e = sum_by-set_found (taken_of w b) s.views id v rest at in
    let a = sum_by-append (taken_of w b) views (unused ∷ []) in omega arith) in
    let P = IsBounded (views_fresh last) (views_taken last) in
    let bounds : All P s.views =
    kept (views_fresh s.views) (views_taken s.views) (views_fresh last) (views_taken last) s.views F T h.bounded in
    record {
      width = h.width;
      whole = (let e = sum_by-set_found (λ (u : View). u.parts) s.views id v rest at in
          let a = sum_by-append (λ (u : View). u.parts) views (unused ∷ []) in let p = h.whole in omega arith);
      idle = All-push IsIdle views unused (All-set IsIdle s.views id rest (λ z. absurd (omega arith)) h.idle)
          (λ (z : 1 ≡ 0). absurd (omega arith));
      even = λ w b lt. (let p = F w b in let q = T w b in let e = h.even w b lt in omega arith);
      bounded = All-push P views unused (All-set P s.views id rest (All-found P s.views id v at bounds) bounds)
          (bounded_own (views_fresh last) (views_taken last) [] (Bounded-nil (views_fresh last) (views_taken last)));
    }

pub joins : (key : ℕ × ℕ) (id : ℕ) (v : View) (other : ℕ) (w : View) → 0 < v.parts
    → Joins (Posted key) id v other w (view_of (v.parts + w.parts) (w.logs ++ v.logs)) (view_of 0 [])
joins key id v other w some_part s h at apart there =
    let both = view_of (v.parts + w.parts) (w.logs ++ v.logs) in
    let gone = view_of 0 [] in
    let views : List View = set s.views id both in
    let last : List View = set views other gone in
    let was : get_elem? s.views other ≡ some w =
    ⊎_elim (λ x. absurd (apart x.0)) (λ x. x.1) (at_set s.views id other both w there) in
    let F : (x b : ℕ) → views_fresh last x b ≡ views_fresh s.views x b = λ x b. (let e = sum_by-set_found
    (fresh_of x b) s.views id v both at in let e' =
    sum_by-set_found (fresh_of x b) views other w gone there in let a =
    sum_by-append (fresh x b) w.logs v.logs in omega arith) in
    let T : (x b : ℕ) → views_taken last x b ≡ views_taken s.views x b = λ x b. (let e = sum_by-set_found
    (taken_of x b) s.views id v both at in let e' =
    sum_by-set_found (taken_of x b) views other w gone there in let a =
    sum_by-append (times_taken x b) w.logs v.logs in omega arith) in
    let B = Bounded (views_fresh last) (views_taken last) in
    let P = IsBounded (views_fresh last) (views_taken last) in
    let bounds : All P s.views =
    kept (views_fresh s.views) (views_taken s.views) (views_fresh last) (views_taken last) s.views F T h.bounded in
    record {
      width = h.width;
      whole = (let e = sum_by-set_found (λ (u : View). u.parts) s.views id v both at in
          let e' = sum_by-set_found (λ (u : View). u.parts) views other w gone there in let p = h.whole in omega arith);
      idle = All-set IsIdle views other gone (λ _. refl)
          (All-set IsIdle s.views id both (λ z. absurd (omega arith)) h.idle);
      even = λ x b lt. (let p = F x b in let q = T x b in let e = h.even x b lt in omega arith);
      bounded = All-set P views other gone (All-nil B)
          (All-set P s.views id both
          (All-append B w.logs v.logs (All-found P s.views other w was bounds) (All-found P s.views id v at bounds))
          bounds);
    }

slice_index-zeros : (n i : ℕ) → slice_index (replicate n 0) i ≡ 0
slice_index-zeros zero i = refl
slice_index-zeros (suc n) zero = refl
slice_index-zeros (suc n) (suc i) = slice_index-zeros n i

pub opens : (n tokens : ℕ) → 0 < tokens → Posted (n, tokens) (opening (replicate n 0) [] (view_of tokens ([] ∷ [])))
opens n tokens some_token =
    let first = view_of tokens ([] ∷ []) in
    let views : List View = first ∷ [] in
    record {
      width = length-replicate n 0;
      whole = omega arith;
      idle = All-cons IsIdle first [] (λ z. absurd (omega arith)) (All-nil IsIdle);
      even = λ w b lt. (let z : bit_at (slice_index (replicate n 0) w) b
          ≡ 0 = ap (λ m. bit_at m b) (slice_index-zeros n w) ∙ bit_at-zero b in omega arith);
      bounded = All-cons (IsBounded (views_fresh views) (views_taken views)) first []
          (bounded_own (views_fresh views) (views_taken views) []
          (Bounded-nil (views_fresh views) (views_taken views))) (All-nil _);
    }
