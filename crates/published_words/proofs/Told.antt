-- What a seat knows after each step.
use Rattle.std.proofs.Common.{◌≡◌, ◌≢◌, ℕ, ◌<◌, Bool, true, false, List, [], length, set, refl, sym, ap, subst, ◌∙◌, arith, get_or-set_same, get_or-set_other, length-set}
use Rattle.std.specs.Prelude.{◌==◌, slice_index, if◌then◌else◌}
use Rattle.std.proofs.lemmas.Bool.Decides.{nat_tests}
use mathlib.Core.Logic.{dite}
use native.Mathlib.Decide.{ℕ_discrete}
use Rattle.std.specs.declared.snapshot.Snapshot.{Snapshot}
use Rattle.synic_board.specs.State.{State, BoardModel}
use Rattle.synic_board.specs.History.{leads_to}
use Rattle.synic_board.specs.declared.history.Entry.{Entry}
use Rattle.published_words.specs.declared.rule.View.{View}
use Rattle.published_words.specs.declared.rule.View.TheVariants.{Writes, Marks, Reads, Compares, Spent}
use Rattle.published_words.specs.Values.{word_count, word_at}
use Rattle.published_words.specs.Words.{Logs, log_at}
use Rattle.published_words.specs.inside.Rule.{place_of, IsRight, HasValues, IsStoredAt, start_of, logs_of, floor_of, is_writer, is_reader, with_log, Begins}
use Rattle.published_words.proofs.Stores.{log-here, log-else}

-- a new watcher
pub record IsNew (word : ℕ) (from : State) (after : View) : Type 0 where
  pub reader : is_reader word after ≡ true
  pub start : start_of after ≡ from
  pub floor : floor_of after ≡ []

pub began : (key : Snapshot BoardModel) (own : Logs) (word i : ℕ) (after : View) → i ≡ word
    → Begins (place_of i) (Writes key own) after → IsNew word key.value.state after
began key own word i after same told =
    let t = told i refl in
    let here : (i == word) ≡ true = grind (arith, nat_tests) in
    subst (IsNew word key.value.state) (sym t.1) (record { reader = here; start = refl; floor = refl })

-- a publisher after a store
pub record IsWritten (i : ℕ) (h : List Entry) (before after : View) : Type 0 where
  pub writer : is_writer after ≡ true
  pub start : start_of after ≡ start_of before
  pub logs : logs_of after ≡ set (logs_of before) i h

wrote-as : (i : ℕ) (h : List Entry) (before : View) → is_writer before ≡ true
    → IsWritten i h before (with_log i h before)
wrote-as i h (Writes t own) is = record { writer = refl; start = refl; logs = refl }
wrote-as i h (Marks t own) is = absurd (cc is)
wrote-as i h (Reads t j seen floor) is = absurd (cc is)
wrote-as i h (Compares t own j seen floor) is = absurd (cc is)
wrote-as i h Spent is = absurd (cc is)

pub wrote : (i : ℕ) (h : List Entry) (before after : View) → is_writer before ≡ true → after ≡ with_log i h before
    → IsWritten i h before after
wrote i h before after is e = subst (IsWritten i h before) (sym e) (wrote-as i h before is)

-- the publisher's values after a store
pub values-stored : (start : State) (logs : Logs) (values : List ℕ) (i value : ℕ) (h : List Entry)
    → HasValues start logs values → i < word_count start → IsRight start i h value
    → HasValues start (set logs i h) (set values i value)
values-stored start logs values i value h has there right = record {
  bound = has.bound;
  lengths = length-set values i value ∙ has.lengths;
  count = length-set logs i h ∙ has.count;
  each = λ k lt. dite (ℕ_discrete k i)
      (λ e. ap (slice_index (set values i value)) e
      ∙ get_or-set_same values i value 0 (subst (λ n. i < n) (sym has.lengths) there) ∙ right.is
      ∙ ap (λ l. word_at start i (leads_to start l))
      (sym (log-here logs i h (subst (λ n. i < n) (sym has.count) there)))
      ∙ ap (λ m. word_at start m (leads_to start (log_at (set logs i h) m))) (sym e))
      (λ e. get_or-set_other values i k value 0 e ∙ has.each k lt
      ∙ ap (λ l. word_at start k (leads_to start l)) (sym (log-else logs i k h e)));
}

-- one word was stored
pub stored-at : (start : State) (i old value : ℕ) (h : List Entry) (logs : Logs) → i < length logs
    → old ≡ word_at start i (leads_to start (log_at logs i)) → value ≡ word_at start i (leads_to start h)
    → old ≢ value → IsStoredAt start i h logs (set logs i h)
stored-at start i old value h logs there was is differs =
    let apart : word_at start i (leads_to start (log_at logs i)) ≢ word_at start i (leads_to start h) =
    λ e. differs (was ∙ e ∙ sym is) in
    let test : (word_at start i (leads_to start (log_at logs i)) == word_at start i (leads_to start h)) ≡ false =
    grind (arith, nat_tests) in
    record {
      lengths = length-set logs i h;
      here = log-here logs i h there ∙ sym (ap (λ (b : Bool). if b then log_at logs i else h) test);
      else = λ k other. log-else logs i k h other;
    }
