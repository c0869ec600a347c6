-- The rule at the end, when one seat holds all tokens.
use Rattle.std.proofs.Common.{◌≡◌, ℕ, ◌+◌, ◌<◌, ◌≤◌, Bool, false, List, [], ◌∷◌, ◌++◌, length, All, sym, ap, ◌∙◌, subst, map, arith, length-append}
use Rattle.std.specs.Prelude.{slice_index, sum_by}
use Rattle.std.specs.Int.{bit_at}
use Rattle.std.proofs.lemmas.Bool.Decides.{nat_tests}
use Rattle.std.proofs.lemmas.List.Elements.{All-append, All-head, All-tail, All-take, All-drop, All-weaker}
use Rattle.std.proofs.lemmas.List.Sums.{sum_by-cons, sum_by-append}
use Rattle.std.proofs.Math.Seq.{take-append_seam, drop-append_seam}
use mathlib.Core.List.{map-append}
use mathlib.Core.Logic.{dite}
use native.Mathlib.Decide.{ℕ_discrete}
use Rattle.atomic_table.specs.Table.{Final, Seen}
use Rattle.posted_words.specs.declared.rule.Action.{Action}
use Rattle.posted_words.specs.declared.rule.View.{View}
use Rattle.posted_words.specs.declared.rule.Action.TheVariants.{Raise, Sweep}
use Rattle.posted_words.specs.Action.{raises_at, times_raised, fresh, times_taken, one_if}
use Rattle.posted_words.specs.Settled.{all_fresh, all_taken, Bounded, Settled}
use Rattle.posted_words.specs.inside.Posted.{view_of, views_fresh, views_taken, IsIdle, IsBounded, Posted}
use Rattle.posted_words.specs.Words.{Token, actions_of}
use Rattle.posted_words.proofs.Lists.{All-found, found-le-sum_by, Follows, sum_by-alone}
use Rattle.posted_words.proofs.Steps.{fresh_of, taken_of, Bounded-more}

pub closes : (key : ℕ × ℕ) (id : ℕ) (v : View) (words : List ℕ) (slots : List (Unit {0}))
    → Final (Seen (Posted key) id v) words slots → key.1 ≤ v.parts → Settled key.0 v.logs words
closes key id v words slots final whole =
    let s = final.0 in
    let h = final.1.0 in
    let at = final.1.1 in
    let parts : View → ℕ = λ u. u.parts in
    let o = found-le-sum_by parts s.views id v at in
    let all : sum_by parts s.views ≡ parts v = omega (arith, h.whole) in
    let F : (w b : ℕ) → views_fresh s.views w b ≡ all_fresh v.logs w b =
    λ w b. sum_by-alone parts (fresh_of w b) s.views id v at all
    (All-weaker IsIdle (Follows parts (fresh_of w b))
    (λ u idle z. ap (λ logs. all_fresh logs w b) (idle z)) s.views h.idle) in
    let T : (w b : ℕ) → views_taken s.views w b ≡ all_taken v.logs w b =
    λ w b. sum_by-alone parts (taken_of w b) s.views id v at all
    (All-weaker IsIdle (Follows parts (taken_of w b))
    (λ u idle z. ap (λ logs. all_taken logs w b) (idle z)) s.views h.idle) in
    record {
      even = λ w b lt. (let p = F w b in let q = T w b in let e = h.even w b lt in
          let is = ap (λ ws. bit_at (slice_index ws w) b) final.2 in omega arith);
      bounded = All-weaker (Bounded (views_fresh s.views) (views_taken s.views))
          (Bounded (all_fresh v.logs) (all_taken v.logs))
          (λ ds. Bounded-more (views_fresh s.views) (views_taken s.views) (all_fresh v.logs) (all_taken v.logs) ds
          (λ w b. (let p = F w b in omega arith)) (λ w b. (let p = T w b in omega arith)))
          v.logs (All-found (IsBounded (views_fresh s.views) (views_taken s.views)) s.views id v at h.bounded);
    }

-- the order of the tokens does not matter
Settled-append_comm : (n : ℕ) (xs ys : List (List Action)) (words : List ℕ) → Settled n (xs ++ ys) words
    → Settled n (ys ++ xs) words
Settled-append_comm n xs ys words h =
    let F : (w b : ℕ) → all_fresh (xs ++ ys) w b ≡ all_fresh (ys ++ xs) w b =
    λ w b. (let l = sum_by-append (fresh w b) xs ys in let r = sum_by-append (fresh w b) ys xs in omega arith) in
    let T : (w b : ℕ) → all_taken (xs ++ ys) w b ≡ all_taken (ys ++ xs) w b =
    λ w b. (let l = sum_by-append (times_taken w b) xs ys in let r = sum_by-append (times_taken w b) ys xs in
    omega arith) in
    let B = Bounded (all_fresh (ys ++ xs)) (all_taken (ys ++ xs)) in
    let both : All B (xs ++ ys) = All-weaker (Bounded (all_fresh (xs ++ ys)) (all_taken (xs ++ ys))) B
    (λ ds. Bounded-more (all_fresh (xs ++ ys)) (all_taken (xs ++ ys)) (all_fresh (ys ++ xs)) (all_taken (ys ++ xs)) ds
    (λ w b. (let p = F w b in omega arith)) (λ w b. (let p = T w b in omega arith)))
    (xs ++ ys) h.bounded in
    record {
      even = λ w b lt. (let p = F w b in let q = T w b in let e = h.even w b lt in omega arith);
      bounded = All-append B ys xs
          (subst (All B) (drop-append_seam xs ys) (All-drop B (length xs) (xs ++ ys) both))
          (subst (All B) (take-append_seam xs ys) (All-take B (length xs) (xs ++ ys) both));
    }

-- a seat that held the last of some tokens, after it took over the others
pub stands_for_all : (seat : View) (rest all : List Token) (t : Token) (n : ℕ) → seat ≡ view_of 1 (t.actions ∷ [])
    → all ≡ rest ++ t ∷ [] → n ≡ length rest
    → view_of (seat.parts + n) (map actions_of rest ++ seat.logs) ≡ view_of (length all) (map actions_of all)
stands_for_all seat rest all t n own is many =
    let parts : seat.parts + n ≡ length all =
    omega (
      arith,
      ap (λ (v : View). v.parts) own,
      many,
      ap (λ (ts : List Token). length ts) is,
      length-append rest (t ∷ []),
    ) in
    let logs : map actions_of rest ++ seat.logs ≡ map actions_of all =
    ap (λ (v : View). map actions_of rest ++ v.logs) own ∙ sym (map-append actions_of rest (t ∷ []))
    ∙ ap (map actions_of) (sym is) in
    λ i. view_of (parts i) (logs i)

-- a seat that held all sweepers, after it took over the lines
pub gathered : (key : ℕ × ℕ) (n tokens id : ℕ) (seat v : View) (words : List ℕ) (slots : List (Unit {0}))
    (sweepers lines : List Token) (m : ℕ)
    → key ≡ (n, tokens) → Final (Seen (Posted key) id v) words slots
    → seat ≡ view_of (length sweepers) (map actions_of sweepers)
    → v ≡ view_of (seat.parts + m) (map actions_of lines ++ seat.logs) → m ≡ length lines
    → tokens ≤ length sweepers + length lines → Settled n (map actions_of (sweepers ++ lines)) words
gathered key n tokens id seat v words slots sweepers lines m is final first last many enough =
    let parts : key.1 ≤ v.parts =
    omega (arith, ap (λ (k : ℕ × ℕ). k.1) is, ap (λ (u : View). u.parts) first, ap (λ (u : View). u.parts) last) in
    let logs : v.logs ≡ map actions_of lines ++ map actions_of sweepers =
    ap (λ (u : View). u.logs) last ∙ ap (λ (u : View). map actions_of lines ++ u.logs) first in
    let all : Settled n (map actions_of lines ++ map actions_of sweepers) words =
    subst (λ (z : ℕ × List (List Action)). Settled z.0 z.1 words) (λ i. ((is i).0, logs i))
    (closes key id v words slots final parts) in
    subst (λ ls. Settled n ls words) (sym (map-append actions_of sweepers lines))
    (Settled-append_comm n (map actions_of lines) (map actions_of sweepers) words all)

-- a log has a raise of the bit
abbrev HasRaise : ℕ → ℕ → List Action → Type 0
HasRaise w b ds = (later before : List Action) × (g : Bool) × (ds ≡ later ++ Raise w b g ∷ before)

before-it : (d : Action) (w b : ℕ) (ds : List Action) → HasRaise w b ds → HasRaise w b (d ∷ ds)
before-it d w b ds r = (d ∷ r.0, r.1, r.2, ap (λ (l : List Action). d ∷ l) r.3)

-- a bit that a token raised was raised at some step
raise-found : (w b : ℕ) (ds : List Action) → 0 < times_raised w b ds → HasRaise w b ds
raise-found w b [] some = absurd (omega arith)
raise-found w b (Sweep word bits ∷ ds) some =
    before-it (Sweep word bits) w b ds (raise-found w b ds (omega (arith, some)))
raise-found w b (Raise word bit g ∷ ds) some =
    let later = λ (none : raises_at w b (Raise word bit g) ≡ false).
    let zero : one_if (raises_at w b (Raise word bit g)) ≡ 0 = ap one_if none in
    let r = raise-found w b ds (omega (arith, some, zero)) in
    before-it (Raise word bit g) w b ds r in
    dite (ℕ_discrete w word)
    (λ p. dite (ℕ_discrete b bit) (λ q. ([], ds, g, (λ i. Raise (sym p i) (sym q i) g ∷ ds)))
    (λ q. later (grind (arith, nat_tests))))
    (λ p. later (grind (arith, nat_tests)))

-- if a token raised a bit at all, some raise of that bit was fresh
pub fresh-once : (F T : ℕ → ℕ → ℕ) (w b : ℕ) (ds : List Action) → Bounded F T ds → 0 < times_raised w b ds → 0 < F w b
fresh-once F T w b ds here some =
    let r = raise-found w b ds some in let p = here.raises w b r.0 r.1 r.2 r.3 in omega (arith, p)

pub some_fresh : (F T : ℕ → ℕ → ℕ) (w b : ℕ) (logs : List (List Action)) → All (Bounded F T) logs
    → 0 < sum_by (times_raised w b) logs → 0 < F w b
some_fresh F T w b [] all some = absurd (omega arith)
some_fresh F T w b (ds ∷ logs) all some =
    let sum = sum_by-cons (times_raised w b) ds logs in
    dite (ℕ_discrete (times_raised w b ds) 0)
    (λ none. some_fresh F T w b logs (All-tail (Bounded F T) ds logs all) (omega (arith, sum, none, some)))
    (λ actions. fresh-once F T w b ds (All-head (Bounded F T) ds logs all) (omega (arith, actions)))
