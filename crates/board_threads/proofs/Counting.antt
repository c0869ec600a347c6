-- Counts over a history equal counts over its actors' calls.
use Rattle.std.proofs.Common.{◌≡◌, ◌≢◌, ℕ, Bool, true, false, List, [], ◌∷◌, length, All, map, cond, refl, sym, ap, ◌∙◌, arith}
use Rattle.std.specs.Prelude.{◌==◌, not, filter}
use Rattle.std.specs.List.{sum_by}
use Rattle.std.proofs.lemmas.Bool.Decides.{nat_tests}
use Rattle.std.proofs.lemmas.List.{length-map}
use Rattle.std.proofs.lemmas.List.Elements.{All-head, All-tail}
use Rattle.std.proofs.lemmas.List.Filters.{length-filter_both, sum_by-filter_both}
use Rattle.std.proofs.lemmas.List.Sums.{sum_by-cons}
use Rattle.synic_board.specs.declared.event.Event.{Event}
use Rattle.synic_board.specs.declared.event.Reply.{Reply}
use Rattle.synic_board.specs.declared.history.Entry.{Entry}
use Rattle.actor_calls.specs.Calls.{Call, call_of, calls_by}
use Rattle.actor_calls.proofs.Absorbed.{sum-map}
use Rattle.board_threads.specs.Settling.{HaveOwnNumbers, AreAllOf}
use Rattle.board_threads.specs.declared.settling.ActorCalls.{ActorCalls}

-- the calls without one number's include no entry of another
others : (n m : ℕ) (h : List Entry) → n ≢ m
    → filter (λ e. n == e.actor) (filter (λ e. not (m == e.actor)) h) ≡ filter (λ e. n == e.actor) h
others n m [] differ = refl
others n m (e ∷ h) differ = one (m == e.actor) (λ is. grind (arith, nat_tests)) (others n m h differ)
  where
    one : (b : Bool) → (b ≡ true → (n == e.actor) ≡ false)
        → filter (λ x. n == x.actor) (filter (λ x. not (m == x.actor)) h) ≡ filter (λ x. n == x.actor) h
        → filter (λ x. n == x.actor)
        (cond (not b) (e ∷ filter (λ x. not (m == x.actor)) h) (filter (λ x. not (m == x.actor)) h))
        ≡ cond (n == e.actor)
        (e ∷ filter (λ x. n == x.actor) h) (filter (λ x. n == x.actor) h)
    one true other rest =
        rest ∙ (λ i. cond (sym (other refl) i) (e ∷ filter (λ x. n == x.actor) h) (filter (λ x. n == x.actor) h))
    one false other rest = ap (λ (l : List Entry). cond (n == e.actor) (e ∷ l) l) rest

module _ (f : Event → Reply → ℕ) where
  abbrev of_entry : Entry → ℕ
  of_entry e = f e.event e.reply

  abbrev of_call : Call → ℕ
  of_call c = f c.0 c.1

  abbrev of_actor : ActorCalls → ℕ
  of_actor a = sum_by of_call a.calls.items

  empty : (h : List Entry) → 0 ≡ length h → sum_by of_entry h ≡ 0
  empty [] all = refl
  empty (e ∷ h) all = absurd (omega arith)

  by_actors : (h : List Entry) (actors : List ActorCalls) → HaveOwnNumbers actors
      → All (λ (a : ActorCalls). calls_by a.number h ≡ a.calls.items) actors
      → sum_by (λ (a : ActorCalls). length a.calls.items) actors ≡ length h → sum_by of_entry h ≡ sum_by of_actor actors
  by_actors h [] numbers own all = empty h all
  by_actors h (a ∷ rest) numbers own all =
      let mine : Entry → Bool = λ e. a.number == e.actor in
      let left = filter (λ (e : Entry). not (mine e)) h in
      let first : calls_by a.number h ≡ a.calls.items =
      All-head (λ (b : ActorCalls). calls_by b.number h ≡ b.calls.items) a rest own in
      let later : All (λ (b : ActorCalls). calls_by b.number h ≡ b.calls.items) rest =
      All-tail (λ (b : ActorCalls). calls_by b.number h ≡ b.calls.items) a rest own in
      let lengths = length-filter_both mine (λ e. not (mine e)) (λ _. refl) h in
      let sums = sum_by-filter_both mine (λ e. not (mine e)) (λ _. refl) of_entry h in
      let many : length (filter mine h) ≡ length a.calls.items =
      sym (length-map (filter mine h) call_of) ∙ ap length first in
      let counted : sum_by of_entry (filter mine h) ≡ of_actor a =
      sym (sum-map of_call call_of (filter mine h)) ∙ ap (sum_by of_call) first in
      let r = by_actors left rest numbers.1
      (λ k d lt. ap (map call_of) (others _ a.number h (numbers.0 k d lt)) ∙ later k d lt)
      (omega (arith, lengths, many, all, sum_by-cons (λ (b : ActorCalls). length b.calls.items) a rest)) in
      omega (arith, r, sums, counted, sum_by-cons of_actor a rest)

pub counted : (f : Event → Reply → ℕ) (h : List Entry) (actors : List ActorCalls) → AreAllOf h actors →
    sum_by (λ (e : Entry). f e.event e.reply) h
    ≡ sum_by (λ (a : ActorCalls). sum_by (λ (c : Call). f c.0 c.1) a.calls.items) actors
counted f h actors all = by_actors f h actors all.numbers all.own all.all
