-- A store keeps the rule.
use Rattle.std.proofs.Common.{◌≡◌, ◌≢◌, ℕ, ◌<◌, true, List, [], length, set, sym, ap, subst, ◌∙◌, ⊎_elim, arith, get_or-set_same, get_or-set_other, length-set}
use Rattle.std.specs.Prelude.{◌==◌, slice_index}
use Rattle.std.proofs.lemmas.Bool.Decides.{nat_tests}
use mathlib.Core.List.{IsPrefix}
use mathlib.Core.Logic.{dite}
use mathlib.Core.Option.{some, some-injective}
use native.Mathlib.Decide.{ℕ_discrete}
use lib.ListN.{get_elem?}
use base.Growing.{prefix_refl, prefix_trans}
use prog.Atomic.{either}
use Rattle.std.specs.declared.snapshot.Snapshot.{Snapshot}
use Rattle.atomic_table.specs.Table.{Me, step, keeps, Allows}
use Rattle.atomic_table.proofs.Lists.{at_set}
use Rattle.ghost_history.specs.declared.history.History.{History}
use Rattle.synic_board.specs.State.{State, BoardModel}
use Rattle.synic_board.specs.History.{leads_to}
use Rattle.synic_board.specs.declared.history.Entry.{Entry}
use Rattle.published_words.specs.declared.rule.View.{View}
use Rattle.published_words.specs.declared.rule.View.TheVariants.{Writes, Marks, Reads, Compares, Spent}
use Rattle.published_words.specs.Values.{word_count, word_at}
use Rattle.published_words.specs.Words.{Logs, log_at}
use Rattle.published_words.specs.inside.Rule.{place_of, IsRight, Knows, IsRuled, logs_of, is_writer, stored_as}
use Rattle.published_words.proofs.Steps.{inside}

-- what any other seat knows is known of longer histories
grows : (start : State) (logs logs' : Logs) (writer id : ℕ) (v : View)
    → ((i : ℕ) → IsPrefix (log_at logs i) (log_at logs' i)) → id ≢ writer → Knows start logs writer id v
    → Knows start logs' writer id v
grows start logs logs' writer id (Writes t own) more other know = absurd (other know.1)
grows start logs logs' writer id (Marks t own) more other know =
    (know.0, (λ i. prefix_trans (log_at own i) (log_at logs i) (log_at logs' i) (know.1 i) (more i)))
grows start logs logs' writer id (Reads t i seen floor) more other know = (
  know.0,
  prefix_trans seen (log_at logs i) (log_at logs' i) know.1 (more i),
  prefix_trans floor (log_at logs i) (log_at logs' i) know.2 (more i),
)
grows start logs logs' writer id (Compares t own i seen floor) more other know = absurd (other know.1)
grows start logs logs' writer id Spent more other know = tt

-- a store changes one history
pub log-here : (logs : Logs) (i : ℕ) (log : List Entry) → i < length logs → log_at (set logs i log) i ≡ log
log-here logs i log there = get_or-set_same logs i log [] there

pub log-else : (logs : Logs) (i k : ℕ) (log : List Entry) → k ≢ i → log_at (set logs i log) k ≡ log_at logs k
log-else logs i k log other = get_or-set_other logs i k log [] other

writes : (start : State) (slots id i old new : ℕ) (t : Snapshot BoardModel) (own : Logs) (history : History)
    → i < word_count start
    → IsPrefix (log_at own i) history.entries → IsRight start i history.entries new
    → old ≡ word_at start i (leads_to start (log_at own i))
    → Allows (IsRuled start) slots id (Writes t own, []) (place_of i) (λ n. either (n == old) new n)
    (stored_as (step slots (place_of i) old new (some history)) (Writes t own, []))
writes start slots id i old new t own history there later right was s h _ at _ =
    let log : List Entry = history.entries in
    let p = place_of i in
    let found : ℕ = slice_index s.words p in
    let know = h.known id (Writes t own) at in
    let w : View = Writes t (set own i log) in
    let logs' : Logs = set h.logs i log in
    let here : i < length h.logs = subst (λ n. i < n) (sym h.count) there in
    let wide : p < length s.words = inside (word_count start) i (length s.words) h.width there in
    let same : found ≡ old =
    (h.right i there).is ∙ ap (λ l. word_at start i (leads_to start (log_at l i))) (sym know.2) ∙ sym was in
    let hit : (found == old) ≡ true = grind (arith, nat_tests) in
    let value : either (found == old) new found ≡ new = ap (λ b. either b new found) hit in
    let words' : List ℕ = set s.words p (either (found == old) new found) in
    let more : (k : ℕ) → IsPrefix (log_at h.logs k) (log_at logs' k) = λ k. dite (ℕ_discrete k i)
    (λ e. subst (λ m. IsPrefix (log_at h.logs m) (log_at logs' m)) (sym e)
    (subst (IsPrefix (log_at h.logs i)) (sym (log-here h.logs i log here))
    (subst (λ l. IsPrefix (log_at l i) log) know.2 later)))
    (λ e. subst (IsPrefix (log_at h.logs k)) (sym (log-else h.logs i k log e)) (prefix_refl (log_at h.logs k))) in (
      w,
      keeps,
      tt,
      record {
        logs = logs';
        writer = h.writer;
        width = length-set s.words p (either (found == old) new found) ∙ h.width;
        count = length-set h.logs i log ∙ h.count;
        right = λ k lt. dite (ℕ_discrete k i)
            (λ e. subst (λ m. IsRight start m (log_at logs' m) (slice_index words' (place_of m))) (sym e)
            (subst (λ (z : List Entry × ℕ). IsRight start i z.0 z.1)
            (λ j. (
              sym (log-here h.logs i log here) j,
              sym (get_or-set_same s.words p (either (found == old) new found) 0 wide ∙ value) j,
            )) right))
            (λ e. subst (λ (z : List Entry × ℕ). IsRight start k z.0 z.1)
            (λ j. (
              sym (log-else h.logs i k log e) j,
              sym (get_or-set_other s.words p (place_of k) (either (found == old) new found) 0
                  (λ q. e (omega (arith, q)))) j,
            )) (h.right k lt));
        known = λ k v e.
            ⊎_elim
            (λ (z : (k ≡ id) × (w ≡ v)). subst (Knows start logs' h.writer k) z.1
            (know.0, z.0 ∙ know.1, ap (λ l. set l i log) know.2))
            (λ (z : (k ≢ id) × (get_elem? s.views k ≡ some v)). grows start h.logs logs' h.writer k v more
            (λ q. z.0 (q ∙ sym know.1)) (h.known k v z.1))
            (at_set s.views id k w v e);
      },
      (λ j g e f. (let same : i ≡ j = omega (arith, e) in let said : history ≡ g = some-injective history g f in
          λ k. (Writes t (set own (same k) (said k).entries), []))),
    )

pub stores : (start : State) (slots id i old new : ℕ) (me : Me History View) (history : History)
    → is_writer me.0 ≡ true → me.1 ≡ [] → i < word_count start
    → IsPrefix (log_at (logs_of me.0) i) history.entries → IsRight start i history.entries new
    → old ≡ word_at start i (leads_to start (log_at (logs_of me.0) i))
    → Allows (IsRuled start) slots id me (place_of i) (λ n. either (n == old) new n)
    (stored_as (step slots (place_of i) old new (some history)) me)
stores start slots id i old new (Writes t own, c) history is bare there later right was =
    subst (λ z. Allows (IsRuled start) slots id (Writes t own, z) (place_of i) (λ n. either (n == old) new n)
    (stored_as (step slots (place_of i) old new (some history)) (Writes t own, z))) (sym bare)
    (writes start slots id i old new t own history there later right was)
stores start slots id i old new (Marks t own, c) history is bare there later right was = absurd (cc is)
stores start slots id i old new (Reads t j seen floor, c) history is bare there later right was = absurd (cc is)
stores start slots id i old new (Compares t own j seen floor, c) history is bare there later right was = absurd (cc is)
stores start slots id i old new (Spent, c) history is bare there later right was = absurd (cc is)
