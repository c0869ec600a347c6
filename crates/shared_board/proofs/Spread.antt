-- A history of numbered actors has the calls of these actors, and no others.
use Rattle.std.proofs.Common.{◌≡◌, ◌≢◌, ◌⊎◌, inl, inr, ℕ, zero, suc, ◌+◌, ◌<◌, ◌≤◌, Bool, true, false, List, [], ◌∷◌, ◌++◌, length, All, map, cond, refl, sym, ap, ◌∙◌, subst, arith}
use Rattle.std.specs.Prelude.{◌==◌, filter}
use Rattle.std.specs.List.{sum_by, range_with_len}
use Rattle.std.proofs.lemmas.Bool.{cases_eq}
use Rattle.std.proofs.lemmas.Bool.Decides.{nat_tests}
use Rattle.std.proofs.lemmas.List.Elements.{All-head, All-tail}
use Rattle.std.proofs.lemmas.List.Sums.{sum_by-cons}
use mathlib.Core.List.{map-append}
use Rattle.posted_words.specs.Settled.{Settled}
use Rattle.posted_words.specs.Words.{Token, actions_of}
use Rattle.synic_board.specs.State.{State}
use Rattle.synic_board.specs.declared.event.Event.{Event}
use Rattle.synic_board.specs.declared.event.Reply.{Reply}
use Rattle.synic_board.specs.declared.history.Entry.{Entry}
use Rattle.synic_board.specs.History.{IsLegal}
use Rattle.ghost_history.specs.Rows.{Answer}
use Rattle.actor_calls.specs.Calls.{Call, call_of}
use Rattle.actor_calls.specs.Sweeps.{sweeps_of}
use Rattle.actor_calls.specs.Absorbed.{AreAbsorbed}
use Rattle.actor_calls.proofs.Absorbed.{sum-map}
use Rattle.actor_calls.proofs.Absorbed.{absorbed}
use Rattle.shared_board.specs.Calling.{Calling, Said, said_from, said_to, call_in}
use Rattle.shared_board.specs.Sweeping.{OnlyRaises, swept_by}
use Rattle.shared_board.specs.Witnessed.{IsEnded}
use Rattle.shared_board.proofs.Saying.{said-few, said-legal}

-- the calls of an actor, without notices
abbrev calls_of : Calling → List Call
calls_of a = map call_in a.calls

module _ {A : Type 0} where
  plus : (f g : A → ℕ) (xs : List A) → sum_by (λ x. f x + g x) xs ≡ sum_by f xs + sum_by g xs
  plus f g [] = refl
  plus f g (x ∷ xs) =
      omega (arith, plus f g xs, sum_by-cons f x xs, sum_by-cons g x xs, sum_by-cons (λ y. f y + g y) x xs)

  same : (f g : A → ℕ) (xs : List A) → ((x : A) → f x ≡ g x) → sum_by f xs ≡ sum_by g xs
  same f g [] e = refl
  same f g (x ∷ xs) e = omega (arith, e x, same f g xs e, sum_by-cons f x xs, sum_by-cons g x xs)

  zeros : (f : A → ℕ) (xs : List A) → ((x : A) → f x ≡ 0) → sum_by f xs ≡ 0
  zeros f [] e = refl
  zeros f (x ∷ xs) e = omega (arith, e x, zeros f xs e, sum_by-cons f x xs)

-- a number of a range is in it once
hit : ℕ → ℕ → ℕ → ℕ
hit x a k = cond (k == a) x 0

missed : (x a k : ℕ) → k ≢ a → hit x a k ≡ 0
unfolding hit
missed x a k differ = let e : (k == a) ≡ false = grind (arith, nat_tests) in ap (λ b. cond b x 0) e

struck : (x a k : ℕ) → k ≡ a → hit x a k ≡ x
unfolding hit
struck x a k is = let e : (k == a) ≡ true = grind (arith, nat_tests) in ap (λ b. cond b x 0) e

above : (x a s n : ℕ) → a < s → sum_by (hit x a) (range_with_len s n) ≡ 0
above x a s zero lt = refl
above x a s (suc n) lt =
    omega (
      arith,
      missed x a s (λ e. omega (arith, e, lt)),
      above x a (s + 1) n (omega (arith, lt)),
      sum_by-cons (hit x a) s (range_with_len (s + 1) n),
    )

once : (x a s n : ℕ) → s ≤ a → a < s + n → sum_by (hit x a) (range_with_len s n) ≡ x
once x a s zero le lt = absurd (omega (arith, le, lt))
once x a s (suc n) le lt = by (λ next. once x a (s + 1) n next (omega (arith, lt))) (cases_eq s a)
  where
    by : (s + 1 ≤ a → sum_by (hit x a) (range_with_len (s + 1) n) ≡ x) → (s ≡ a) ⊎ (s ≢ a)
        → sum_by (hit x a) (range_with_len s (suc n)) ≡ x
    by later (inl is) =
        omega (
          arith,
          struck x a s is,
          above x a (s + 1) n (omega (arith, is)),
          sum_by-cons (hit x a) s (range_with_len (s + 1) n),
        )
    by later (inr differ) =
        omega (
          arith,
          missed x a s differ,
          later (omega (arith, le, differ)),
          sum_by-cons (hit x a) s (range_with_len (s + 1) n),
        )

-- a sum over answers is that over the actors' answers
module _ (g : Said → ℕ) where
  part : List Said → ℕ → ℕ
  part h k = sum_by g (filter (λ (e : Said). k == e.0) h)

  part-cons : (e : Said) (h : List Said) (k : ℕ) → part (e ∷ h) k ≡ hit (g e) e.0 k + part h k
  unfolding part hit
  part-cons e h k = by (k == e.0)
    where
      by : (b : Bool) → sum_by g
          (cond b (e ∷ filter (λ (x : Said). k == x.0) h) (filter (λ (x : Said). k == x.0) h))
          ≡ cond b (g e) 0 + sum_by g (filter (λ (x : Said). k == x.0) h)
      by true = sum_by-cons g e (filter (λ (x : Said). k == x.0) h)
      by false = omega arith

  part-nil : (k : ℕ) → part [] k ≡ 0
  unfolding part
  part-nil k = refl

  spread : (n : ℕ) (h : List Said) → All (λ (e : Said). e.0 < n) h
      → sum_by g h ≡ sum_by (part h) (range_with_len 0 n)
  spread n [] few = sym (zeros (part []) (range_with_len 0 n) part-nil)
  spread n (e ∷ h) few =
      let P = λ (x : Said). x.0 < n in
      omega (
        arith,
        sum_by-cons g e h,
        spread n h (All-tail P e h few),
        same (part (e ∷ h)) (λ k. hit (g e) e.0 k + part h k) (range_with_len 0 n) (part-cons e h),
        plus (hit (g e) e.0) (part h) (range_with_len 0 n),
        once (g e) e.0 0 n (omega arith) (omega (arith, All-head P e h few)),
      )

-- the calls of the actors are those of the history
module _ (f : Event → Reply → ℕ) where
  abbrev of_call : Call → ℕ
  of_call c = f c.0 c.1

  abbrev of_said : Said → ℕ
  of_said x = of_call (call_in x.1)

  abbrev of_answers : List Answer → ℕ
  of_answers xs = sum_by (λ (x : Answer). of_call (call_in x)) xs

  own-part : (all : List Said) (a : Calling) → said_to a.number all ≡ a.calls
      → part of_said all a.number ≡ of_answers a.calls
  unfolding part
  own-part all a own =
      sym (sum-map (λ (x : Answer). of_call (call_in x)) (λ (x : Said). x.1)
      (filter (λ (x : Said). a.number == x.0) all)) ∙ ap of_answers own

  own-parts : (all : List Said) (actors : List Calling) → All (λ (a : Calling). said_to a.number all ≡ a.calls) actors
      → sum_by (part of_said all) (map (λ (a : Calling). a.number) actors)
      ≡ sum_by (λ cs. sum_by of_call cs) (map calls_of actors)
  own-parts all [] own = refl
  own-parts all (a ∷ actors) own =
      let P = λ (x : Calling). said_to x.number all ≡ x.calls in
      omega (
        arith,
        own-part all a (All-head P a actors own),
        sum-map of_call call_in a.calls,
        own-parts all actors (All-tail P a actors own),
        sum_by-cons (part of_said all) a.number (map (λ (x : Calling). x.number) actors),
        sum_by-cons (λ cs. sum_by of_call cs) (calls_of a) (map calls_of actors),
      )

  -- the entries of a legal history are what was said
  all-said : (start : State) (h : List Entry) → IsLegal start h
      → sum_by (λ (e : Entry). f e.event e.reply) h ≡ sum_by of_said (said_from start h)
  all-said start h legal =
      sym (sum-map of_call call_of h) ∙ ap (sum_by of_call) (sym (said-legal start h legal))
      ∙ sum-map of_call (λ (x : Said). call_in x.1) (said_from start h)

  pub counted : (start now : State) (h : List Entry) (actors : List Calling) → IsEnded start now h actors
      → sum_by (λ (e : Entry). f e.event e.reply) h ≡ sum_by (λ cs. sum_by of_call cs) (map calls_of actors)
  counted start now h actors ended =
      let all : List Said = said_from start h in
      all-said start h ended.run.legal
      ∙ spread of_said (length actors) all (said-few (length actors) start h ended.all)
      ∙ ap (sum_by (part of_said all)) (sym ended.numbers) ∙ own-parts all actors ended.own

swept : (actors : List Calling) → map swept_by actors ≡ map sweeps_of (map calls_of actors)
swept [] = refl
swept (a ∷ actors) = ap (λ l. swept_by a ∷ l) (swept actors)

pub each-absorbed : (start now : State) (history : List Entry) (actors : List Calling) (sweepers lines : List Token)
    (n : ℕ) (standing : List ℕ)
    → IsEnded start now history actors → map actions_of sweepers ≡ map swept_by actors → All OnlyRaises lines
    → length standing ≡ n → Settled n (map actions_of (sweepers ++ lines)) standing
    → AreAbsorbed n (map actions_of lines) history standing
each-absorbed start now history actors sweepers lines n standing ended own only width settled =
    let both : map actions_of (sweepers ++ lines)
    ≡ map sweeps_of (map calls_of actors) ++ map actions_of lines =
    map-append actions_of sweepers lines ∙ ap (λ l. l ++ map actions_of lines) (own ∙ swept actors) in
    absorbed n (map calls_of actors) lines history standing
    (λ f. counted f start now history actors ended) only width (subst (λ l. Settled n l standing) both settled)
