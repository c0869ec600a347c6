-- The raises of lines equal what a history absorbed plus the bits that are set, whoever swept.
use Rattle.std.proofs.Common.{◌≡◌, ℕ, ◌+◌, true, false, List, [], ◌∷◌, ◌++◌, length, All, map, refl, ◌∙◌, arith, reverse}
use Rattle.std.specs.Prelude.{if◌then◌else◌}
use Rattle.std.specs.List.{flat_map, sum_by}
use Rattle.std.proofs.lemmas.List.Elements.{All-head, All-tail}
use Rattle.std.proofs.lemmas.List.Sorted.{sum_by-IsPermutation, IsPermutation-reverse}
use Rattle.std.proofs.lemmas.List.Sums.{sum_by-append, sum_by-cons}
use Rattle.synic_board.specs.declared.event.Event.{Event}
use Rattle.synic_board.specs.declared.event.Event.TheVariants.{Absorb}
use Rattle.synic_board.specs.declared.event.Reply.{Reply}
use Rattle.synic_board.specs.declared.history.Entry.{Entry}
use Rattle.posted_words.specs.declared.rule.Action.{Action}
use Rattle.posted_words.specs.declared.rule.Action.TheVariants.{Raise, Sweep}
use Rattle.posted_words.specs.Action.{times_raised, fresh, times_taken}
use Rattle.posted_words.specs.Settled.{Settled}
use Rattle.posted_words.proofs.Closing.{some_fresh}
use Rattle.posted_words.specs.Words.{Token, actions_of, sweep_of}
use Rattle.actor_calls.specs.Calls.{Call}
use Rattle.actor_calls.specs.Sweeps.{is_refusal, sweep_in, sweeps_of}
use Rattle.actor_calls.specs.Absorbed.{AreAbsorbed, only_raises}

module _ {A B : Type 0} where
  pub sum-map : (f : B → ℕ) (g : A → B) (xs : List A) → sum_by f (map g xs) ≡ sum_by (λ x. f (g x)) xs
  sum-map f g [] = refl
  sum-map f g (x ∷ xs) = omega (arith, sum_by-cons f (g x) (map g xs), sum_by-cons (λ y. f (g y)) x xs, sum-map f g xs)

-- a call sweeps nothing, or a word
one-sweep : (P : List Action → Type 0) (e : Event) (r : Reply) → P [] → ((w n : ℕ) → P (Sweep w n ∷ []))
    → P (sweep_in e r)
one-sweep P (Absorb p part bits) r none some =
    elim (is_refusal r) as (λ b. P (if b then [] else sweep_of p part bits ∷ [])) [
      | true ↦ none
      | false ↦ some _ bits
    ]
one-sweep P e r none some = none

abbrev swept : Call → List Action
swept c = sweep_in c.0 c.1

module _ (w b : ℕ) where
  fresh-none : (calls : List Call) → fresh w b (flat_map swept calls) ≡ 0
  fresh-none [] = refl
  fresh-none (c ∷ calls) =
      one-sweep (λ l. fresh w b (l ++ flat_map swept calls) ≡ 0) c.0 c.1 (fresh-none calls)
      (λ _ _. let r = fresh-none calls in omega arith)

  taken-append : (xs ys : List Action) → times_taken w b (xs ++ ys) ≡ times_taken w b xs + times_taken w b ys
  taken-append [] ys = omega arith
  taken-append (x ∷ xs) ys = let r = taken-append xs ys in omega arith

  taken-flat : (calls : List Call)
      → times_taken w b (flat_map swept calls) ≡ sum_by (λ (c : Call). times_taken w b (swept c)) calls
  taken-flat [] = refl
  taken-flat (c ∷ calls) =
      omega (
        arith,
        taken-append (swept c) (flat_map swept calls),
        taken-flat calls,
        sum_by-cons (λ (d : Call). times_taken w b (swept d)) c calls,
      )

  taken-all : (calls : List Call)
      → times_taken w b (sweeps_of calls) ≡ sum_by (λ (c : Call). times_taken w b (swept c)) calls
  taken-all calls =
      taken-flat (reverse calls)
      ∙ sum_by-IsPermutation (λ (c : Call). times_taken w b (swept c)) calls (reverse calls)
      (IsPermutation-reverse calls)

  -- a line takes nothing
  only-raised : (log : List Action) → only_raises log ≡ true → times_taken w b log ≡ 0
  only-raised [] only = refl
  only-raised (Raise word bit fresh ∷ log) only = let r = only-raised log only in omega arith
  only-raised (Sweep word bits ∷ log) only = absurd (cc)

  lines-take : (lines : List Token) → All (λ (t : Token). only_raises t.actions ≡ true) lines
      → sum_by (times_taken w b) (map actions_of lines) ≡ 0
  lines-take [] only = refl
  lines-take (t ∷ lines) only =
      let P = λ (x : Token). only_raises x.actions ≡ true in
      omega (
        arith,
        only-raised t.actions (All-head P t lines only),
        lines-take lines (All-tail P t lines only),
        sum_by-cons (times_taken w b) t.actions (map actions_of lines),
      )

module _ {A : Type 0} where
  none : (f : A → ℕ) (xs : List A) → ((x : A) → f x ≡ 0) → sum_by f xs ≡ 0
  none f [] zeros = refl
  none f (x ∷ xs) zeros = omega (arith, zeros x, none f xs zeros, sum_by-cons f x xs)

  same : (f g : A → ℕ) (xs : List A) → ((x : A) → f x ≡ g x) → sum_by f xs ≡ sum_by g xs
  same f g [] e = refl
  same f g (x ∷ xs) e = omega (arith, e x, same f g xs e, sum_by-cons f x xs, sum_by-cons g x xs)

-- whoever swept: the sweeps are those of some lists of calls, and the history has these calls and no others
pub absorbed : (n : ℕ) (calls : List (List Call)) (lines : List Token) (h : List Entry) (standing : List ℕ)
    → ((f : Event → Reply → ℕ)
    → sum_by (λ (e : Entry). f e.event e.reply) h
    ≡ sum_by (λ (cs : List Call). sum_by (λ (c : Call). f c.0 c.1) cs) calls)
    → All (λ (t : Token). only_raises t.actions ≡ true) lines
    → length standing ≡ n → Settled n (map sweeps_of calls ++ map actions_of lines) standing
    → AreAbsorbed n (map actions_of lines) h standing
absorbed n calls lines h standing counts only width settled =
    let logs = map sweeps_of calls in
    record {
      words = width;
      even = λ w b lt.
          omega (
            arith,
            settled.even w b lt,
            sum_by-append (fresh w b) logs (map actions_of lines),
            sum_by-append (times_taken w b) logs (map actions_of lines),
            sum-map (fresh w b) sweeps_of calls,
            none (λ cs. fresh w b (sweeps_of cs)) calls (λ cs. fresh-none w b (reverse cs)),
            lines-take w b lines only,
            sum-map (times_taken w b) sweeps_of calls,
            same (λ cs. times_taken w b (sweeps_of cs))
                (λ cs. sum_by (λ (c : Call). times_taken w b (swept c)) cs) calls (λ cs. taken-all w b cs),
            counts (λ e r. times_taken w b (sweep_in e r)),
          );
      some = λ w b raise.
          omega (
            arith,
            some_fresh _ _ w b (logs ++ map actions_of lines) settled.bounded
                (omega (arith, raise, sum_by-append (times_raised w b) logs (map actions_of lines))),
            sum_by-append (fresh w b) logs (map actions_of lines),
            sum-map (fresh w b) sweeps_of calls,
            none (λ cs. fresh w b (sweeps_of cs)) calls (λ cs. fresh-none w b (reverse cs)),
          );
    }
