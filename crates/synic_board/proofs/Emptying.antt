-- Emptying the slots and queues of a processor: source by source.
use Rattle.std.proofs.Common.{◌≡◌, ℕ, zero, suc, ◌+◌, List, refl}
use Rattle.std.specs.Prelude.{None, Some}
use Rattle.std.specs.Option.{option_map_or}
use Rattle.board_terms.specs.declared.notices.Notice.{Notice}
use Rattle.synic_board.specs.State.{State, processors, slot_of}
use Rattle.synic_board.specs.Effects.{nothing}
use Rattle.synic_board.specs.inside.Effected.{preceded}
use Rattle.synic_board.specs.Resetting.{withdrawn_ticket, slot_emptied, queue_emptied, source_emptied, emptied_below}
use Rattle.synic_board.proofs.Folds.{IsFold, fold_none, fold_more, chained}

empties : (p : ℕ) → IsFold (λ s n. emptied_below s p n) (λ s i. source_emptied s p i)
unfolding emptied_below
empties p = record { none = λ s. refl; more = λ s i. refl }

pub emptied_none : (s : State) (p : ℕ) (before : List Notice) → (s, before) ≡ preceded before (emptied_below s p 0)
emptied_none s p before = fold_none (empties p) s before

-- the slot of a source, and then its queue
pub emptied_more : (s now between next : State) (p i v : ℕ) (before emitted half more : List Notice)
    → (now, emitted) ≡ preceded before (emptied_below s p i) → v ≡ i →
    (between, half) ≡ preceded emitted (slot_emptied now p v) →
    (next, more) ≡ preceded half (queue_emptied between p v)
    → (next, more) ≡ preceded before (emptied_below s p (i + 1))
emptied_more s now between next p i v before emitted half more so_far same first second =
    fold_more (empties p) s now next i v before emitted more so_far same
    (chained between next emitted half more (slot_emptied now p v) (λ t. queue_emptied t p v) first second)

-- the processors are unchanged
pub same_left : (s : State) (p n : ℕ) → processors (emptied_below s p n).0 ≡ processors s
unfolding emptied_below
same_left s p zero = refl
same_left s p (suc i) = elim (slot_of (emptied_below s p i).0 p i) as
    (λ o. processors (option_map_or (withdrawn_ticket (emptied_below s p i).0 p i) o
    (nothing (emptied_below s p i).0)).0 ≡ processors s) [ None ↦ same_left s p i | Some t ↦ same_left s p i ]

pub slot-same : (s : State) (p i : ℕ) → processors (slot_emptied s p i).0 ≡ processors s
slot-same s p i =
    elim (slot_of s p i) as (λ o. processors (option_map_or (withdrawn_ticket s p i) o (nothing s)).0
    ≡ processors s) [ None ↦ refl | Some t ↦ refl ]
