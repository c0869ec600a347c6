-- Where the setup and the last absorbs are in the history.
use Rattle.std.proofs.Common.{◌≡◌, ℕ, zero, suc, ◌+◌, ◌<◌, true, false, List, [], ◌∷◌, ◌++◌, All, map, length, length-append, Vec, Global, refl, sym, ap, ◌∙◌, subst, arith, append-nil}
use Rattle.std.specs.Prelude.{◌==◌, ◌*◌, if◌then◌else◌, filter}
use Rattle.std.specs.List.{AllZip, range_with_len, sum_by}
use Rattle.std.proofs.lemmas.Bool.{eq-eqb}
use Rattle.std.proofs.lemmas.Bool.Decides.{nat_tests}
use Rattle.std.proofs.lemmas.List.{length-map}
use Rattle.std.proofs.lemmas.List.Elements.{All-head, All-tail}
use Rattle.std.proofs.lemmas.List.FromFn.{length-map-range_with_len}
use Rattle.std.proofs.lemmas.List.Sums.{sum_by-cons}
use Rattle.atomic_table.specs.Seated.{TableId}
use Rattle.synic_board.specs.declared.event.Event.{Event}
use Rattle.synic_board.specs.declared.history.Entry.{Entry}
use Rattle.actor_calls.specs.Calls.{Call, call_of, calls_by}
use Rattle.board_threads.specs.Sharing.{Acting}
use Rattle.board_threads.specs.Settling.{calls_held, calls_given}
use Rattle.board_threads.specs.Crew.{AreSteps, acts, last_step, last_steps, EachFollows, IsCrewHistory, lists}
use Rattle.board_threads.specs.inside.Work.{HasActed, HasServed, InPlace}
use Rattle.board_threads.specs.declared.script.Step.{Step}
use Rattle.board_threads.specs.declared.script.Step.TheVariants.{Act}
use Rattle.board_threads.specs.declared.settling.ActorCalls.{ActorCalls}
use Rattle.board_threads.proofs.Matching.{calls_by-append}

abbrev IsMain : Entry → Type 0
IsMain e = e.actor ≡ 0

-- all entries are by actor 0
all-main : (xs : List Entry) → All IsMain xs → filter (λ e. 0 == e.actor) xs ≡ xs
all-main [] main = refl
all-main (x ∷ xs) main =
    let test : (0 == x.actor) ≡ true = eq-eqb 0 x.actor (sym (All-head IsMain x xs main)) in
    λ i. if test i then x ∷ all-main xs (All-tail IsMain x xs main) i else all-main xs (All-tail IsMain x xs main) i

-- no entry is by another actor
none-other : (n : ℕ) (xs : List Entry) → 0 < n → All IsMain xs → filter (λ e. n == e.actor) xs ≡ []
none-other n [] some main = refl
none-other n (x ∷ xs) some main =
    let own : x.actor ≡ 0 = All-head IsMain x xs main in
    let test : (n == x.actor) ≡ false = grind (arith, nat_tests) in
    λ i. if test i then x ∷ none-other n xs some (All-tail IsMain x xs main) i
    else none-other n xs some (All-tail IsMain x xs main) i

module _ {A : Type 0} where
  same-cut : (xs ys zs ws : List A) → xs ++ ys ≡ zs ++ ws → length xs ≡ length zs → (xs ≡ zs) × (ys ≡ ws)
  same-cut [] ys [] ws e n = (refl, e)
  same-cut [] ys (z ∷ zs) ws e n = absurd (omega arith)
  same-cut (x ∷ xs) ys [] ws e n = absurd (omega arith)
  same-cut (x ∷ xs) ys (z ∷ zs) ws e n =
      let tail : xs ++ ys ≡ zs ++ ws = cc in
      let head : x ≡ z = cc in
      let r = same-cut xs ys zs ws tail (omega arith) in
      ((λ i. head i ∷ r.0 i), r.1)

  no-more : (xs ys zs : List A) → xs ++ ys ≡ zs → length ys ≡ length zs → (xs ≡ []) × (ys ≡ zs)
  no-more [] ys zs e n = (refl, e)
  no-more (x ∷ xs) ys zs e n = absurd (omega (arith, ap (λ (l : List A). length l) e, length-append (x ∷ xs) ys))

same-length : (steps : List Step) (calls : List Call) → AreSteps steps calls → length calls ≡ length steps
same-length [] [] f = refl
same-length [] (c ∷ calls) f = absurd f
same-length (s ∷ steps) [] f = absurd f
same-length (s ∷ steps) (c ∷ calls) f = let r = same-length steps calls f.1 in omega arith

between-calls : (n : ℕ) (first between last : List Entry) → 0 < n → All IsMain first → All IsMain last
    → calls_by n (first ++ (between ++ last)) ≡ calls_by n between
between-calls n first between last some f l =
    calls_by-append n first (between ++ last)
    ∙ (λ i. map call_of (none-other n first some f i) ++ calls_by-append n between last i)
    ∙ (λ i. calls_by n between ++ map call_of (none-other n last some l i)) ∙ append-nil (calls_by n between)

others-between : (n : ℕ) (scripts : List (List Step)) (h first between last : List Entry) → 0 < n
    → h ≡ first ++ (between ++ last) → All IsMain first → All IsMain last →
    EachFollows n scripts h → EachFollows n scripts between
others-between n [] h first between last some is f l each = tt
others-between n (s ∷ scripts) h first between last some is f l each = (
  subst (AreSteps s) (ap (calls_by n) is ∙ between-calls n first between last some f l) each.0,
  others-between (n + 1) scripts h first between last (omega arith) is f l each.1,
)

-- the calls of actor 0 are at the ends, and the others' scripts between
pub crewed : (name : TableId) (n : ℕ) (setup : List Event) (scripts : List (List Step)) (h : List Entry)
    (main : Acting) → InPlace (length setup) (4 * n) h → HasServed name n setup main
    → calls_by 0 h ≡ main.calls → EachFollows 1 scripts h
    → length h ≡ length main.calls + sum_by (λ (s : List Step). length s) scripts → IsCrewHistory n setup scripts h
crewed name n setup scripts h main place served own each many =
    let first = place.first in
    let between = place.between in
    let last = place.last in
    let joined : map call_of first ++ (calls_by 0 between ++ map call_of last) ≡ served.before ++ served.after =
    (λ i. map call_of (sym (all-main first place.main_first) i)
    ++ (calls_by 0 between ++ map call_of (sym (all-main last place.main_last) i)))
    ∙ (λ i. calls_by 0 first ++ sym (calls_by-append 0 between last) i)
    ∙ sym (calls_by-append 0 first (between ++ last)) ∙ ap (calls_by 0) (sym place.is) ∙ own ∙ served.calls in
    let before : length served.before ≡ length setup =
    omega (arith, same-length (acts setup) served.before served.begins, length-map setup (λ e. Act e)) in
    let after : length served.after ≡ 4 * n =
    omega (
      arith,
      same-length (last_steps n) served.after served.ends,
      length-map-range_with_len last_step 0 (4 * n),
    ) in
    let cut = same-cut (map call_of first) (calls_by 0 between ++ map call_of last) served.before served.after joined
    (omega (arith, length-map first call_of, place.begins, before)) in
    let rest = no-more (calls_by 0 between) (map call_of last) served.after cut.1
    (omega (arith, length-map last call_of, place.ends_so, after)) in
    record {
      first = first;
      between = between;
      last = last;
      is = place.is;
      begins = record { number = place.main_first; follow = subst (AreSteps (acts setup)) (sym cut.0) served.begins };
      ends = record { number = place.main_last; follow = subst (AreSteps (last_steps n)) (sym rest.1) served.ends };
      main = rest.0;
      others = others-between 1 scripts h first between last
          (omega arith) place.is place.main_first place.main_last each;
      all = omega (
        arith,
        many,
        ap (λ (l : List Call). length l) served.calls,
        length-append served.before served.after,
        before,
        after,
      );
    }

-- the actors' calls are as many as were returned
pub calls-add-up : (ended : List ActorCalls) (actors : List Acting) → map calls_given ended ≡ map calls_held actors →
    sum_by (λ (a : ActorCalls). length a.calls.items) ended ≡ sum_by (λ (a : Acting). length a.calls) actors
calls-add-up [] [] is = refl
calls-add-up [] (a ∷ actors) is = absurd (cc)
calls-add-up (e ∷ ended) [] is = absurd (cc)
calls-add-up (e ∷ ended) (a ∷ actors) is =
    let head : calls_given e ≡ calls_held a = cc in
    let tail : map calls_given ended ≡ map calls_held actors = cc in
    let same : length e.calls.items ≡ length a.calls = ap (λ (x : ℕ × List Call). length x.1) head in
    omega (
      arith,
      same,
      calls-add-up ended actors tail,
      sum_by-cons (λ (b : ActorCalls). length b.calls.items) e ended,
      sum_by-cons (λ (b : Acting). length b.calls) a actors,
    )

-- and as the steps of their scripts
pub steps-add-up : (name : TableId) (scripts : List (Vec Step Global)) (others : List Acting)
    → AllZip (λ (s : Vec Step Global) (a : Acting). HasActed name a.number s.items a) scripts others
    → sum_by (λ (a : Acting). length a.calls) others ≡ sum_by (λ (s : List Step). length s) (lists scripts)
steps-add-up name [] [] acted = refl
steps-add-up name [] (a ∷ others) acted = absurd acted
steps-add-up name (s ∷ scripts) [] acted = absurd acted
steps-add-up name (s ∷ scripts) (a ∷ others) acted =
    omega (
      arith,
      same-length s.items a.calls acted.0.follows,
      steps-add-up name scripts others acted.1,
      sum_by-cons (λ (b : Acting). length b.calls) a others,
      sum_by-cons (λ (t : List Step). length t) s.items (lists scripts),
    )

abbrev pub StandsIn : List Entry → Acting → Type 0
StandsIn h a = calls_by a.number h ≡ a.calls

-- the entries of each actor are its calls, in its order
pub stand : (h : List Entry) (ended : List ActorCalls) (actors : List Acting)
    → map calls_given ended ≡ map calls_held actors →
    All (λ (a : ActorCalls). calls_by a.number h ≡ a.calls.items) ended → All (StandsIn h) actors
stand h [] [] is own k d lt = absurd (omega arith)
stand h [] (a ∷ actors) is own k d lt = absurd (cc)
stand h (e ∷ ended) [] is own k d lt = absurd (omega arith)
stand h (e ∷ ended) (a ∷ actors) is own zero d lt =
    let head : calls_given e ≡ calls_held a = cc in
    ap (λ (x : ℕ × List Call). calls_by x.0 h) (sym head)
    ∙ All-head (λ (b : ActorCalls). calls_by b.number h ≡ b.calls.items) e ended own
    ∙ ap (λ (x : ℕ × List Call). x.1) head
stand h (e ∷ ended) (a ∷ actors) is own (suc k) d lt =
    let tail : map calls_given ended ≡ map calls_held actors = cc in
    stand h ended actors tail (All-tail (λ (b : ActorCalls). calls_by b.number h ≡ b.calls.items) e ended own) k d
    (omega arith)

-- each script is in the history, by the actor with its number
pub each-stands : (name : TableId) (n : ℕ) (scripts : List (Vec Step Global)) (others : List Acting) (h : List Entry)
    → map (λ (a : Acting). a.number) others ≡ range_with_len n (length scripts)
    → AllZip (λ (s : Vec Step Global) (a : Acting). HasActed name a.number s.items a) scripts others
    → All (StandsIn h) others → EachFollows n (lists scripts) h
each-stands name n [] [] h numbers acted own = tt
each-stands name n [] (a ∷ others) h numbers acted own = absurd acted
each-stands name n (s ∷ scripts) [] h numbers acted own = absurd acted
each-stands name n (s ∷ scripts) (a ∷ others) h numbers acted own =
    let head : a.number ≡ n = cc in
    let tail : map (λ (b : Acting). b.number) others ≡ range_with_len (n + 1) (length scripts) = cc in (
      subst (AreSteps s.items) (sym (All-head (StandsIn h) a others own) ∙ ap (λ k. calls_by k h) head) acted.0.follows,
      each-stands name (n + 1) scripts others h tail acted.1 (All-tail (StandsIn h) a others own),
    )

pub numbers-are : (ended : List ActorCalls) (actors : List Acting) → map calls_given ended ≡ map calls_held actors
    → map (λ (a : ActorCalls). a.number) ended ≡ map (λ (a : Acting). a.number) actors
numbers-are [] [] is = refl
numbers-are [] (a ∷ actors) is = absurd (cc)
numbers-are (e ∷ ended) [] is = absurd (cc)
numbers-are (e ∷ ended) (a ∷ actors) is =
    let head : calls_given e ≡ calls_held a = cc in
    let tail : map calls_given ended ≡ map calls_held actors = cc in
    λ i. ap (λ (x : ℕ × List Call). x.0) head i ∷ numbers-are ended actors tail i
