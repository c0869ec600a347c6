-- The steps by which a publisher compares a watcher with what it knows, each of which keeps the rule.
use Rattle.std.proofs.Common.{◌≡◌, ◌≢◌, ℕ, ◌<◌, true, List, [], length, set, refl, sym, ap, subst, ◌∙◌, ⊎_elim, arith, length-set}
use Rattle.std.specs.Prelude.{slice_index}
use mathlib.Core.List.{IsPrefix}
use mathlib.Core.Option.{none, some}
use lib.ListN.{get_elem?}
use Rattle.std.specs.declared.snapshot.Snapshot.{Snapshot}
use Rattle.atomic_table.specs.Table.{Me, step, keeps, Allows, Splits, Joins}
use Rattle.atomic_table.proofs.Lists.{at_set, at_snoc, set_again}
use Rattle.ghost_history.specs.declared.history.History.{History}
use Rattle.synic_board.specs.State.{State, BoardModel}
use Rattle.synic_board.specs.declared.history.Entry.{Entry}
use Rattle.published_words.specs.declared.rule.View.{View}
use Rattle.published_words.specs.declared.rule.View.TheVariants.{Writes, Marks, Reads, Compares, Spent}
use Rattle.published_words.specs.Words.{Logs, log_at}
use Rattle.published_words.specs.inside.Rule.{place_of, IsRight, Knows, IsRuled, logs_of, seen_of, floor_of, is_writer, is_reader, met, Compared, compared_as}
use Rattle.published_words.proofs.Steps.{same-word, equal}

-- a watcher is copied: what it knows, two seats may know
copied : (start : State) (id i : ℕ) (t : Snapshot BoardModel) (seen floor : List Entry)
    → Splits (IsRuled start) id (Reads t i seen floor) (Reads t i seen floor) (Reads t i seen floor)
copied start id i t seen floor s h at =
    let v : View = Reads t i seen floor in
    let know = h.known id v at in
    record {
      logs = h.logs;
      writer = h.writer;
      width = h.width;
      count = h.count;
      right = h.right;
      known = λ k w e.
          ⊎_elim (λ (z : get_elem? (set s.views id v) k ≡ some w). h.known k w
          (ap (λ l. get_elem? l k) (sym (set_again s.views id v at)) ∙ z))
          (λ (z : v ≡ w). subst (Knows start h.logs h.writer k) z (know.0, know.1, know.2))
          (at_snoc (set s.views id v) v w k e);
    }

pub copies : (start : State) (id word : ℕ) (v : View) → is_reader word v ≡ true → Splits (IsRuled start) id v v v
copies start id word (Reads t i seen floor) is = copied start id i t seen floor
copies start id word (Writes t own) is = absurd (cc is)
copies start id word (Marks t own) is = absurd (cc is)
copies start id word (Compares t own i seen floor) is = absurd (cc is)
copies start id word Spent is = absurd (cc is)

-- the publisher takes it
taken : (start : State) (id other i : ℕ) (t u : Snapshot BoardModel) (seen floor : List Entry) (own : Logs)
    → Joins (IsRuled start) id (Writes u own) other (Reads t i seen floor) (Compares u own i seen floor) Spent
taken start id other i t u seen floor own s h at apart there =
    let both : View = Compares u own i seen floor in
    let know = h.known id (Writes u own) at in
    let was : get_elem? s.views other ≡ some (Reads t i seen floor) =
    ⊎_elim (λ z. absurd (apart z.0)) (λ z. z.1) (at_set s.views id other both (Reads t i seen floor) there) in
    let read = h.known other (Reads t i seen floor) was in
    record {
      logs = h.logs;
      writer = h.writer;
      width = h.width;
      count = h.count;
      right = h.right;
      known = λ k v e.
          ⊎_elim (λ (z : (k ≡ other) × (Spent ≡ v)). subst (Knows start h.logs h.writer k) z.1 tt)
          (λ (z : (k ≢ other) × (get_elem? (set s.views id both) k ≡ some v)).
          ⊎_elim (λ (y : (k ≡ id) × (both ≡ v)). subst (Knows start h.logs h.writer k) y.1
          (know.0, y.0 ∙ know.1, know.2, read.1, read.2))
          (λ (y : (k ≢ id) × (get_elem? s.views k ≡ some v)). h.known k v y.1)
          (at_set s.views id k both v z.1))
          (at_set (set s.views id both) other k Spent v e);
    }

pub meets : (start : State) (id other word : ℕ) (v w : View) → is_writer v ≡ true → is_reader word w ≡ true
    → Joins (IsRuled start) id v other w (met v w) Spent
meets start id other word (Writes u own) (Reads t i seen floor) is read = taken start id other i t u seen floor own
meets start id other word (Writes u own) (Writes t more) is read = absurd (cc read)
meets start id other word (Writes u own) (Marks t more) is read = absurd (cc read)
meets start id other word (Writes u own) (Compares t more i s f) is read = absurd (cc read)
meets start id other word (Writes u own) Spent is read = absurd (cc read)
meets start id other word (Marks t own) w is read = absurd (cc is)
meets start id other word (Reads t i seen floor) w is read = absurd (cc is)
meets start id other word (Compares t own i s f) w is read = absurd (cc is)
meets start id other word Spent w is read = absurd (cc is)

-- and compares
found : (start : State) (slots id i : ℕ) (t : Snapshot BoardModel) (own : Logs) (seen floor : List Entry)
    → Allows (IsRuled start) slots id (Compares t own i seen floor, []) 0 (λ n. n)
    (compared_as (step slots 0 0 0 none) (Compares t own i seen floor, []))
found start slots id i t own seen floor s h _ at _ =
    let w : View = Writes t own in
    let n : ℕ = slice_index s.words 0 in
    let know = h.known id (Compares t own i seen floor) at in
    let wide : 0 < length s.words = omega (arith, h.width) in (
      w,
      keeps,
      tt,
      record {
        logs = h.logs;
        writer = h.writer;
        width = length-set s.words 0 n ∙ h.width;
        count = h.count;
        right = λ k lt. subst (IsRight start k (log_at h.logs k)) (sym (same-word s.words 0 (place_of k) wide))
            (h.right k lt);
        known = λ k v e.
            ⊎_elim
            (λ (z : (k ≡ id) × (w ≡ v)). subst (Knows start h.logs h.writer k) z.1 (know.0, z.0 ∙ know.1, know.2))
            (λ (z : (k ≢ id) × (get_elem? s.views k ≡ some v)). h.known k v z.1)
            (at_set s.views id k w v e);
      },
      (
        (
          refl,
          subst (λ l. IsPrefix seen (log_at l i)) (sym know.2) know.3,
          subst (λ l. IsPrefix floor (log_at l i)) (sym know.2) know.4,
        ),
        refl,
      ),
    )

pub finds : (start : State) (slots id word : ℕ) (v w : View) (me : Me History View) → is_writer v ≡ true
    → is_reader word w ≡ true → me ≡ (met v w, [])
    → Allows (IsRuled start) slots id me 0 (λ n. n) (compared_as (step slots 0 0 0 none) me)
finds start slots id word (Writes u own) (Reads t i seen floor) me is read is_me =
    subst (λ z. Allows (IsRuled start) slots id z 0 (λ n. n) (compared_as (step slots 0 0 0 none) z)) (sym is_me)
    (found start slots id i u own seen floor)
finds start slots id word (Writes u own) (Writes t more) me is read is_me = absurd (cc read)
finds start slots id word (Writes u own) (Marks t more) me is read is_me = absurd (cc read)
finds start slots id word (Writes u own) (Compares t more i s f) me is read is_me = absurd (cc read)
finds start slots id word (Writes u own) Spent me is read is_me = absurd (cc read)
finds start slots id word (Marks t own) w me is read is_me = absurd (cc is)
finds start slots id word (Reads t i seen floor) w me is read is_me = absurd (cc is)
finds start slots id word (Compares t own i s f) w me is read is_me = absurd (cc is)
finds start slots id word Spent w me is read is_me = absurd (cc is)

-- what the publisher is after that, and what it found
pub record IsCompared (word : ℕ) (before seat after : View) : Type 0 where
  pub same : after ≡ before
  pub seen : IsPrefix (seen_of seat) (log_at (logs_of before) word)
  pub floor : IsPrefix (floor_of seat) (log_at (logs_of before) word)

pub compared : (word : ℕ) (v w after : View) → is_writer v ≡ true → is_reader word w ≡ true → Compared (met v w) after
    → IsCompared word v w after
compared word (Writes u own) (Reads t i seen floor) after is read did =
    let here : i ≡ word = equal i word read in
    record {
      same = did.0;
      seen = subst (λ k. IsPrefix seen (log_at own k)) here did.1;
      floor = subst (λ k. IsPrefix floor (log_at own k)) here did.2;
    }
compared word (Writes u own) (Writes t more) after is read did = absurd (cc read)
compared word (Writes u own) (Marks t more) after is read did = absurd (cc read)
compared word (Writes u own) (Compares t more i s f) after is read did = absurd (cc read)
compared word (Writes u own) Spent after is read did = absurd (cc read)
compared word (Marks t own) w after is read did = absurd (cc is)
compared word (Reads t i seen floor) w after is read did = absurd (cc is)
compared word (Compares t own i s f) w after is read did = absurd (cc is)
compared word Spent w after is read did = absurd (cc is)
