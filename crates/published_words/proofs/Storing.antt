-- What the words hold after all of them were looked at.
use Rattle.std.proofs.Common.{◌≡◌, ℕ, ◌<◌, ◌≤◌, Bool, true, false, List, length, refl, sym, ap, subst, ◌∙◌, arith}
use Rattle.std.specs.Prelude.{◌==◌, if◌then◌else◌}
use Rattle.std.proofs.lemmas.Bool.Decides.{nat_tests}
use mathlib.Core.List.{IsPrefix}
use base.Growing.{prefix_refl}
use Rattle.synic_board.specs.State.{State}
use Rattle.synic_board.specs.History.{leads_to}
use Rattle.synic_board.specs.declared.history.Entry.{Entry}
use Rattle.published_words.specs.Values.{word_at}
use Rattle.published_words.specs.Words.{Logs, log_at}
use Rattle.published_words.specs.Storing.{IsContinued, after_store, IsStored, IsCurrent}

-- the words below n were looked at
pub record IsStoredBelow (start : State) (h : List Entry) (n : ℕ) (old new : Logs) : Type 0 where
  pub lengths : length new ≡ length old
  pub below : (i : ℕ) → i < n → log_at new i ≡ after_store start h i (log_at old i)
  pub above : (i : ℕ) → n ≤ i → log_at new i ≡ log_at old i

-- the next history of one word
after-cases : (start : State) (h : List Entry) (i : ℕ) (log : List Entry) → IsPrefix log h
    → IsPrefix (after_store start h i log) h
    × (word_at start i (leads_to start (after_store start h i log)) ≡ word_at start i (leads_to start h))
after-cases start h i log before = by (word_at start i (leads_to start log) == word_at start i (leads_to start h)) refl
  where
    by : (b : Bool) → (word_at start i (leads_to start log) == word_at start i (leads_to start h)) ≡ b
        → IsPrefix (after_store start h i log) h
        × (word_at start i (leads_to start (after_store start h i log)) ≡ word_at start i (leads_to start h))
    by true is =
        let same : after_store start h i log ≡ log = ap (λ (b : Bool). if b then log else h) is in
        let value : word_at start i (leads_to start log) ≡ word_at start i (leads_to start h) =
        grind (arith, nat_tests) in
        (subst (λ l. IsPrefix l h) (sym same) before, ap (λ l. word_at start i (leads_to start l)) same ∙ value)
    by false is =
        let new : after_store start h i log ≡ h = ap (λ (b : Bool). if b then log else h) is in
        (subst (λ l. IsPrefix l h) (sym new) (prefix_refl h), ap (λ l. word_at start i (leads_to start l)) new)

-- after a publish the words have the values of the board
pub current : (start now : State) (h : List Entry) (old new : Logs) → IsContinued start now h old
    → IsStored start h old new → IsCurrent start now h new
current start now h old new on did = record {
  later = λ i lt. subst (λ l. IsPrefix l h) (sym (did.each i lt))
      (after-cases start h i (log_at old i) (on.later i lt)).0;
  value = λ i lt. ap (λ l. word_at start i (leads_to start l)) (did.each i lt)
      ∙ (after-cases start h i (log_at old i) (on.later i lt)).1 ∙ ap (word_at start i) (sym on.leads);
}
