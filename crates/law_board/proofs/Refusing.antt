-- An event that is refused, or raises #GP, changes nothing.
use Rattle.std.proofs.Common.{◌≡◌, List, [], ◌∷◌, ◌++◌, refl, ap, ◌∙◌}
use Rattle.board_terms.specs.declared.notices.Notice.{Notice}
use Rattle.synic_board.specs.declared.event.Event.{Event}
use Rattle.synic_board.specs.declared.event.Reply.{Reply}
use Rattle.synic_board.specs.State.{State}
use Rattle.synic_board.specs.Effects.{Outcome, unchanged}
use Rattle.synic_board.specs.Step.{step}
use Rattle.synic_board.specs.Run.{run_of}
use Rattle.synic_board.specs.Replies.{IsRefusal}
use Rattle.law_board.specs.Refusals.{LeavesNoTrace, AnswersAlike}
use Rattle.synic_board.proofs.Throughout.{Any, any, throughout}

-- an outcome that refuses leaves the state unchanged, and has no notices
record IsQuiet (s : State) (event : Event) (outcome : Outcome) : Type 0 where
  pub kept : IsRefusal outcome.1 → (outcome.0 ≡ s) × (outcome.2 ≡ [])

-- so does an outcome that only replies
answers : (s : State) (event : Event) (reply : Reply) → IsQuiet s event (unchanged s reply)
answers s event reply = record { kept = λ _. (refl, refl) }

-- and one that refuses nothing
acts : (s : State) (event : Event) (outcome : Outcome) → (IsRefusal outcome.1 → ⊥) → IsQuiet s event outcome
acts s event outcome never = record { kept = λ refuses. absurd (never refuses) }

quiet : (s : State) (event : Event) → IsQuiet s event (step s event)
quiet = throughout Any IsQuiet any (record {
  refuses = λ s event r. answers s event _;
  faults = λ s event. answers s event _;
  reads = λ s p number. answers s _ _;
  loads = λ s address count. answers s _ _;
  acts = λ s event reply _ _ _ e is _. acts s event _ is.0;
  eases = λ s event reply p a is _ _. acts s event _ is.0;
  stores = λ s address bytes e _. acts s _ _ (λ never. never);
  configures = λ s p n number value e _ _ _. acts s _ _ (λ never. never);
  counts = λ s p n number value e _ _ _. acts s _ _ (λ never. never);
  repeats = λ s port flag p i f _ _. acts s _ _ (λ never. never);
  signals = λ s port flag p i f _ _ _. acts s _ _ (λ never. never);
  pauses = λ s event p mark is _. acts s event _ is.0;
  resets = λ s p _ _. acts s _ _ (λ never. never);
})

pub no_trace : (s : State) (event : Event) → IsRefusal (step s event).1 → LeavesNoTrace s event
no_trace s event refuses = let kept = (quiet s event).kept refuses in record { state = kept.0; notices = kept.1 }

pub alike : (s : State) (before : List Event) (event : Event) (behind : List Event)
    → IsRefusal (step (run_of s before).0 event).1 → AnswersAlike s before event behind
unfolding run_of
alike s [] event behind refuses =
    let none = no_trace s event refuses in
    record {
      state = ap (λ (t : State). (run_of t behind).0) none.state;
      replies = ap (λ (t : State). (step s event).1 ∷ (run_of t behind).1) none.state;
      notices = ap (λ (emitted : List Notice). emitted ++ (run_of (step s event).0 behind).2) none.notices
          ∙ ap (λ (t : State). (run_of t behind).2) none.state;
    }
alike s (first ∷ before) event behind refuses =
    let rest = alike (step s first).0 before event behind refuses in
    record {
      state = rest.state;
      replies = ap (λ (l : List Reply). (step s first).1 ∷ l) rest.replies;
      notices = ap (λ (emitted : List Notice). (step s first).2 ++ emitted) rest.notices;
    }
