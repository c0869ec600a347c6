-- What watchers have seen, as parts of one history.
use Rattle.std.proofs.Common.{◌≡◌, ◌<◌, ℕ, zero, suc, ◌+◌, length, take, arith, List, [], ◌∷◌, All, get_or, ◌⊎◌, inl, inr, refl, sym, ap, subst, ◌∙◌, ⊎_elim}
use Rattle.std.proofs.lemmas.List.Elements.{All-append}
use mathlib.Core.List.{IsPrefix}
use base.Growing.{prefix_trans}
use Rattle.synic_board.specs.State.{State}
use Rattle.synic_board.specs.declared.history.Entry.{Entry}
use Rattle.published_words.specs.Values.{word_count}
use Rattle.published_words.specs.Words.{Logs, Watching, log_at, IsWithin}
use Rattle.published_words.specs.Storing.{IsCurrent}
use Rattle.synic_board.specs.History.{leads_to}
use Rattle.ghost_history.specs.Rows.{Answer}
use Rattle.actor_calls.proofs.Taking.{taken-on}
use Rattle.shared_board.specs.Calling.{Calling, Said, said_from, said_to, calls_by}
use Rattle.shared_board.specs.Witnessed.{IsEnded}
use Rattle.shared_board.proofs.Rows.{said_to-append}
use Rattle.shared_board.proofs.Saying.{said-append}

-- of two prefixes of one list, one is a prefix of the other
comparable : {A : Type 0} (xs ys zs : List A) → IsPrefix xs zs → IsPrefix ys zs → IsPrefix xs ys ⊎ IsPrefix ys xs
comparable [] ys zs p q = inl (ys, refl)
comparable (x ∷ xs) [] zs p q = inr (x ∷ xs, refl)
comparable (x ∷ xs) (y ∷ ys) [] p q = absurd (cc (p.1))
comparable (x ∷ xs) (y ∷ ys) (z ∷ zs) p q =
    let heads : x ≡ y = cc (p.1, q.1) in
    let back : y ≡ x = sym heads in
    ⊎_elim (λ (r : IsPrefix xs ys). inl (r.0, cc (heads, r.1))) (λ (r : IsPrefix ys xs). inr (r.0, cc (back, r.1)))
    (comparable xs ys zs (p.0, cc (p.1)) (q.0, cc (q.1)))

pub agree : (history : List Entry) (one other : Watching) → IsWithin history one → IsWithin history other
    → IsPrefix one.seen other.seen ⊎ IsPrefix other.seen one.seen
agree history one other first second = comparable one.seen other.seen history first.seen second.seen

-- what is a part of the history of a word is a part of the board's
pub within : (words start now : State) (history : List Entry) (logs : Logs) (w : Watching) → words ≡ start
    → w.word < word_count words → IsCurrent start now history logs → IsWithin (log_at logs w.word) w
    → IsWithin history w
within words start now history logs w same there is part =
    let later : IsPrefix (log_at logs w.word) history =
    is.later w.word (subst (λ (s : State). w.word < word_count s) same there) in
    record {
      seen = prefix_trans w.seen (log_at logs w.word) history part.seen later;
      floor = prefix_trans w.floor (log_at logs w.word) history part.floor later;
    }

-- of the calls of an actor in a history, a prefix of the history has the first ones
first-calls : (n : ℕ) (start : State) (seen history : List Entry) (calls : List Answer) → IsPrefix seen history
    → calls_by n start history ≡ calls → IsPrefix (calls_by n start seen) calls
first-calls n start seen history calls part own =
    let rest : List Said = said_from (leads_to start seen) part.0 in (
      said_to n rest,
      sym (said_to-append n (said_from start seen) rest) ∙ ap (said_to n) (sym (said-append start seen part.0))
          ∙ ap (calls_by n start) part.1 ∙ own,
    )

pub sees : (start now : State) (history : List Entry) (actors : List Calling) (w : Watching)
    → IsEnded start now history actors → IsWithin history w
    → All (λ (a : Calling). IsPrefix (calls_by a.number start w.seen) a.calls) actors
sees start now history actors w ended part =
    λ k d inside. let a =
    get_or actors k d in first-calls a.number start w.seen history a.calls part.seen (ended.own k d inside)

-- one more watcher was compared
pub one-more : (history : List Entry) (watchers : List Watching) (n : ℕ) (w : Watching) → n < length watchers
    → w ≡ get_or watchers n w → IsWithin history w
    → All (λ (x : Watching). IsWithin history x) (take n watchers)
    → All (λ (x : Watching). IsWithin history x) (take (n + 1) watchers)
one-more history watchers n w inside at is all =
    subst (All (λ (x : Watching). IsWithin history x)) (sym (taken-on watchers n w inside at))
    (All-append (λ (x : Watching). IsWithin history x) (take n watchers) (w ∷ []) all one)
  where
    one : All (λ (x : Watching). IsWithin history x) (w ∷ [])
    one zero d here = is
    one (suc k) d here = absurd (omega arith)
