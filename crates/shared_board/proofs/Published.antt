-- What the words of a watched board hold.
use Rattle.std.proofs.Common.{◌≡◌, ℕ, List, [], ◌∷◌, ◌++◌, refl, sym, ap, subst, ◌∙◌}
use mathlib.Core.List.{IsPrefix}
use base.Growing.{prefix_trans}
use Rattle.entry_log.proofs.Runs.{leads-none}
use Rattle.synic_board.specs.State.{State, processors}
use Rattle.synic_board.specs.History.{leads_to}
use Rattle.synic_board.specs.declared.history.Entry.{Entry}
use Rattle.published_words.specs.Values.{word_count, word_at}
use Rattle.published_words.specs.Words.{Logs, log_at, no_logs}
use Rattle.published_words.specs.Storing.{IsContinued, IsStored, IsCurrent}
use Rattle.published_words.proofs.Steps.{none-at}
use Rattle.published_words.proofs.Storing.{current}
use Rattle.shared_board.specs.Witnessed.{IsOneThread}

-- at the start
pub opened : (start now : State) (h : List Entry) (logs : Logs) → h ≡ [] → now ≡ start → logs ≡ no_logs start
    → IsCurrent start now h logs
opened start now h logs empty is none =
    let each : (i : ℕ) → log_at logs i ≡ [] = λ i. ap (λ l. log_at l i) none ∙ none-at (word_count start) i in
    record {
      later = λ i _. subst (λ l. IsPrefix l h) (sym (each i)) (h, refl);
      value = λ i _. ap (λ l. word_at start i (leads_to start l)) (each i)
          ∙ ap (word_at start i) (sym (leads-none start [] refl) ∙ sym is);
    }

-- after one more call
pub continues : (start old now : State) (h h' : List Entry) (e : Entry) (logs : Logs) → IsCurrent start old h logs
    → IsOneThread start now h' → processors now ≡ processors start → h' ≡ h ++ e ∷ []
    → IsContinued start now h' logs
continues start old now h h' e logs was run count more = record {
  legal = run.legal;
  leads = run.leads;
  count = count;
  later = λ i lt. prefix_trans (log_at logs i) h h' (was.later i lt) (e ∷ [], sym more);
}

-- as the publisher has it, which knows the start by the words
pub for-words : (words start now seen : State) (h read : List Entry) (logs : Logs) → words ≡ start → seen ≡ now
    → read ≡ h → IsContinued start now h logs → IsContinued words seen read logs
for-words words start now seen h read logs is same equal on =
    subst (λ (z : State × (State × List Entry)). IsContinued z.0 z.1.0 z.1.1 logs)
    (λ i. (sym is i, (sym same i, sym equal i))) on

-- and when the words that changed are stored
pub stored : (words start now : State) (h read : List Entry) (old new : Logs) → words ≡ start → read ≡ h
    → IsContinued start now h old → IsStored words read old new → IsCurrent start now h new
stored words start now h read old new is equal on did =
    current start now h old new on
    (subst (λ (z : State × List Entry). IsStored z.0 z.1 old new) (λ i. (is i, equal i)) did)
