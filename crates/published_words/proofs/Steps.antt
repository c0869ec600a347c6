-- Each step on the words keeps the rule.
use Rattle.std.proofs.Common.{◌≡◌, ◌≢◌, ℕ, zero, suc, ◌*◌, ◌<◌, true, List, [], ◌∷◌, length, set, refl, sym, ap, subst, ◌∙◌, ⊎_elim, arith, replicate, get_or-set_same, get_or-set_other, length-set}
use Rattle.std.specs.Prelude.{◌==◌, slice_index}
use Rattle.std.proofs.lemmas.Bool.Decides.{nat_tests}
use Rattle.std.proofs.lemmas.List.{length-replicate}
use mathlib.Core.List.{IsPrefix}
use mathlib.Core.Logic.{dite}
use mathlib.Core.Option.{none, some, some-injective, some-ne-none}
use native.Mathlib.Decide.{ℕ_discrete}
use lib.ListN.{get_elem?}
use base.Growing.{prefix_refl}
use Rattle.std.specs.declared.snapshot.Snapshot.{Snapshot}
use Rattle.atomic_table.specs.Table.{Me, step, keeps, opening, Allows, Enters, Splits, Joins}
use Rattle.atomic_table.proofs.Lists.{at_set, at_snoc, set_again}
use Rattle.ghost_history.specs.declared.history.History.{History}
use Rattle.entry_log.proofs.Runs.{legal-none, leads-none}
use Rattle.synic_board.specs.State.{State, BoardModel}
use Rattle.synic_board.specs.History.{leads_to}
use Rattle.synic_board.specs.declared.history.Entry.{Entry}
use Rattle.published_words.specs.declared.rule.View.{View}
use Rattle.published_words.specs.declared.rule.View.TheVariants.{Writes, Marks, Reads, Compares, Spent}
use Rattle.published_words.specs.Values.{next_of, word_count, word_at}
use Rattle.published_words.specs.Words.{Logs, log_at, no_logs}
use Rattle.published_words.specs.inside.Rule.{place_of, IsRight, AreOpening, AreSpread, HasValues, Knows, IsRuled, is_writer, is_mark, is_reader, loaded_as, begun_as, mark_of, raised}

-- a new log is empty
pub none-at : (n i : ℕ) → log_at (replicate n []) i ≡ []
none-at zero i = refl
none-at (suc n) zero = refl
none-at (suc n) (suc i) = none-at n i

-- the rule holds of new words
pub opens : (key : Snapshot BoardModel) (values words : List ℕ) → AreOpening key.value.state values
    → AreSpread values words
    → IsRuled key.value.state (opening words [] (Writes key (no_logs key.value.state)))
opens key values words new placed =
    let start = key.value.state in
    let first = Writes key (no_logs start) in
    record {
      logs = no_logs start;
      writer = 0;
      width = placed.lengths ∙ ap (λ n. 8 * n) new.lengths;
      count = length-replicate (word_count start) [];
      right = λ i lt.
          (let log = log_at (no_logs start) i in
          let empty : log ≡ [] = none-at (word_count start) i in
          let leads : start ≡ leads_to start log = leads-none start log empty in
          record {
            legal = legal-none start log empty;
            is = placed.each i (subst (λ n. i < n) (sym new.lengths) lt) ∙ new.each i lt ∙ ap (word_at start i) leads;
            vector = λ v on is. new.vector i v on (ap (λ s. next_of s i) leads ∙ is);
          });
      known = λ id v at. only id v at;
    }
  where
    only : (id : ℕ) (v : View) → get_elem? (Writes key (no_logs key.value.state) ∷ []) id ≡ some v
        → Knows key.value.state (no_logs key.value.state) 0 id v
    only zero v at =
        subst (Knows key.value.state (no_logs key.value.state) 0 0)
        (some-injective (Writes key (no_logs key.value.state)) v at) (refl, refl, refl)
    only (suc id) v at = absurd (some-ne-none v (sym at))

-- setting a word to itself changes no word
pub same-word : (words : List ℕ) (p x : ℕ) → p < length words
    → slice_index (set words p (slice_index words p)) x ≡ slice_index words x
same-word words p x wide =
    dite (ℕ_discrete x p)
    (λ e. ap (slice_index (set words p (slice_index words p))) e
    ∙ get_or-set_same words p (slice_index words p) 0 wide ∙ ap (slice_index words) (sym e))
    (λ e. get_or-set_other words p x (slice_index words p) 0 e)

pub inside : (n i p : ℕ) → p ≡ 8 * n → i < n → place_of i < p
inside n i p is lt = omega arith

pub equal : (a b : ℕ) → (a == b) ≡ true → a ≡ b
equal a b e = grind (arith, nat_tests)

-- a load by a watcher
reads : (start : State) (slots id i j : ℕ) (t : Snapshot BoardModel) (seen floor : List Entry) → j ≡ i
    → i < word_count start
    → Allows (IsRuled start) slots id (Reads t j seen floor, []) (place_of i) (λ n. n)
    (loaded_as (step slots (place_of i) 0 0 none) (Reads t j seen floor, []))
reads start slots id i j t seen floor same there s h _ at _ =
    let log : List Entry = log_at h.logs j in
    let w : View = Reads t j log floor in
    let p = place_of i in
    let found : ℕ = slice_index s.words p in
    let know = h.known id (Reads t j seen floor) at in
    let wide : p < length s.words = inside (word_count start) i (length s.words) h.width there in
    let right : IsRight t.value.state j log found =
    subst (λ (z : State × ℕ). IsRight z.0 z.1 (log_at h.logs z.1) found) (λ k. (sym know.0 k, sym same k))
    (h.right i there) in (
      w,
      keeps,
      tt,
      record {
        logs = h.logs;
        writer = h.writer;
        width = length-set s.words p found ∙ h.width;
        count = h.count;
        right = λ k lt. subst (IsRight start k (log_at h.logs k)) (sym (same-word s.words p (place_of k) wide))
            (h.right k lt);
        known = λ k v e.
            ⊎_elim
            (λ (z : (k ≡ id) × (w ≡ v)). subst (Knows start h.logs h.writer k) z.1 (know.0, prefix_refl log, know.2))
            (λ (z : (k ≢ id) × (get_elem? s.views k ≡ some v)). h.known k v z.1)
            (at_set s.views id k w v e);
      },
      ((log, refl, know.1, know.2, right), refl),
    )

pub loads : (start : State) (slots id word i : ℕ) (me : Me History View) → is_reader word me.0 ≡ true → me.1 ≡ []
    → i ≡ word → i < word_count start
    → Allows (IsRuled start) slots id me (place_of i) (λ n. n) (loaded_as (step slots (place_of i) 0 0 none) me)
loads start slots id word i (Reads t j seen floor, c) is bare same there =
    subst (λ z. Allows (IsRuled start) slots id (Reads t j seen floor, z) (place_of i) (λ n. n)
    (loaded_as (step slots (place_of i) 0 0 none) (Reads t j seen floor, z))) (sym bare)
    (reads start slots id i j t seen floor (equal j word is ∙ sym same) there)
loads start slots id word i (Writes t own, c) is bare same there = absurd (cc is)
loads start slots id word i (Marks t own, c) is bare same there = absurd (cc is)
loads start slots id word i (Compares t own j seen floor, c) is bare same there = absurd (cc is)
loads start slots id word i (Spent, c) is bare same there = absurd (cc is)

-- the load that makes a watcher
pub begins : (key : Snapshot BoardModel) (slots i : ℕ) → i < word_count key.value.state
    → Enters (IsRuled key.value.state) slots (place_of i)
    (λ n w. begun_as (step slots (place_of i) 0 0 none) (Writes key (no_logs key.value.state), []) n (w, []))
begins key slots i there s h _ _ =
    let start = key.value.state in
    let log : List Entry = log_at h.logs i in
    let w : View = Reads key i log [] in (
      w,
      record {
        logs = h.logs;
        writer = h.writer;
        width = h.width;
        count = h.count;
        right = h.right;
        known = λ k v e.
            ⊎_elim (λ (z : get_elem? s.views k ≡ some v). h.known k v z)
            (λ (z : w ≡ v). subst (Knows start h.logs h.writer k) z (refl, prefix_refl log, (log, refl)))
            (at_snoc s.views w v k e);
      },
      (λ j e. (log, (let same : i ≡ j = omega (arith, e) in ap (λ k. Reads key k log []) same))),
    )

-- a checkpoint of the publisher
checks : (start : State) (id : ℕ) (t : Snapshot BoardModel) (own : Logs)
    → Splits (IsRuled start) id (Writes t own) (Writes t own) (Marks t own)
checks start id t own s h at =
    let know = h.known id (Writes t own) at in
    record {
      logs = h.logs;
      writer = h.writer;
      width = h.width;
      count = h.count;
      right = h.right;
      known = λ k v e.
          ⊎_elim (λ (z : get_elem? (set s.views id (Writes t own)) k ≡ some v). h.known k v
          (ap (λ l. get_elem? l k) (sym (set_again s.views id (Writes t own) at)) ∙ z))
          (λ (z : Marks t own ≡ v). subst (Knows start h.logs h.writer k) z
          (know.0, (λ i. subst (λ l. IsPrefix (log_at own i) (log_at l i)) know.2 (prefix_refl (log_at own i)))))
          (at_snoc (set s.views id (Writes t own)) (Marks t own) v k e);
    }

pub marks : (start : State) (id : ℕ) (v : View) → is_writer v ≡ true → Splits (IsRuled start) id v v (mark_of v)
marks start id (Writes t own) is = checks start id t own
marks start id (Marks t own) is = absurd (cc is)
marks start id (Reads t i seen floor) is = absurd (cc is)
marks start id (Compares t own i seen floor) is = absurd (cc is)
marks start id Spent is = absurd (cc is)

-- a watcher takes a checkpoint
lifts : (start : State) (id other i : ℕ) (t u : Snapshot BoardModel) (seen floor : List Entry) (own : Logs)
    → Joins (IsRuled start) id (Reads t i seen floor) other (Marks u own) (Reads t i seen (log_at own i)) Spent
lifts start id other i t u seen floor own s h at apart there =
    let both : View = Reads t i seen (log_at own i) in
    let know = h.known id (Reads t i seen floor) at in
    let was : get_elem? s.views other ≡ some (Marks u own) =
    ⊎_elim (λ z. absurd (apart z.0)) (λ z. z.1) (at_set s.views id other both (Marks u own) there) in
    let mark = h.known other (Marks u own) was in
    record {
      logs = h.logs;
      writer = h.writer;
      width = h.width;
      count = h.count;
      right = h.right;
      known = λ k v e.
          ⊎_elim (λ (z : (k ≡ other) × (Spent ≡ v)). subst (Knows start h.logs h.writer k) z.1 tt)
          (λ (z : (k ≢ other) × (get_elem? (set s.views id both) k ≡ some v)).
          ⊎_elim (λ (y : (k ≡ id) × (both ≡ v)). subst (Knows start h.logs h.writer k) y.1 (know.0, know.1, mark.1 i))
          (λ (y : (k ≢ id) × (get_elem? s.views k ≡ some v)). h.known k v y.1)
          (at_set s.views id k both v z.1))
          (at_set (set s.views id both) other k Spent v e);
    }

pub raises : (start : State) (id other word : ℕ) (v w : View) → is_reader word v ≡ true → is_mark w ≡ true
    → Joins (IsRuled start) id v other w (raised v w) Spent
raises start id other word (Reads t i seen floor) (Marks u own) is mark = lifts start id other i t u seen floor own
raises start id other word (Reads t i seen floor) (Writes u own) is mark = absurd (cc mark)
raises start id other word (Reads t i seen floor) (Reads u j s f) is mark = absurd (cc mark)
raises start id other word (Reads t i seen floor) (Compares u own j s f) is mark = absurd (cc mark)
raises start id other word (Reads t i seen floor) Spent is mark = absurd (cc mark)
raises start id other word (Writes t own) w is mark = absurd (cc is)
raises start id other word (Marks t own) w is mark = absurd (cc is)
raises start id other word (Compares t own j s f) w is mark = absurd (cc is)
raises start id other word Spent w is mark = absurd (cc is)

-- the values of a new publisher
pub opens-values : (start : State) (values : List ℕ) → AreOpening start values → HasValues start (no_logs start) values
opens-values start values new = record {
  bound = new.bound;
  lengths = new.lengths;
  count = length-replicate (word_count start) [];
  each = λ i lt. new.each i lt
      ∙ ap (word_at start i) (leads-none start (log_at (no_logs start) i) (none-at (word_count start) i));
}
