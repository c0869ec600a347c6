-- The trace of a history that was written to memory.
use Rattle.std.proofs.Common.{◌≡◌, inr, ℕ, List, [], refl, ap, subst, ◌∙◌}
use Rattle.std.specs.Prelude.{Option, None, Some}
use Rattle.std.specs.List.{All}
use Rattle.synic_board.specs.State.{State, opened}
use Rattle.synic_board.specs.declared.history.Entry.{Entry}
use Rattle.synic_board.specs.History.{leads_to}
use Rattle.board_threads.specs.declared.settling.Ended.{Ended}
use Rattle.text_image.specs.Image.{image as image_of}
use Rattle.text_history.specs.Trace.{IsBeginning, IsEntry, format_for, board_text, trace, trace_text}
use Rattle.text_history.proofs.BeginningLemmas.{line-begins}
use Rattle.text_crew.specs.Crew.{Crew}
use Rattle.text_crew.specs.Running.{IsScriptHistory, IsCrewTrace, IsTraceOn, line_pages}
use Rattle.text_crew.specs.inside.Good.{IsGoodOn}
use Rattle.text_crew.specs.inside.Tracing.{Begins, IsTraced, begun_pages, begun_text}
use Rattle.text_crew.specs.inside.View.{crew_of}
use Rattle.text_crew.specs.inside.Reporting.{Prepares}
use Rattle.text_crew.specs.declared.held.CrewScript.{CrewScript}
use Rattle.text_crew.specs.declared.outcome.Outcome.{Outcome}
use Rattle.text_crew.specs.declared.outcome.Outcome.TheVariants as outcomes
use Rattle.text_crew.proofs.Judged.{opened-with, sizes-on}

-- the printed history is a legal trace
traced : (pages : Option ℕ) (beginning : List ℕ) (start : State) (crew : Crew) (history : List Entry) (text : List ℕ)
    → IsScriptHistory crew start history →
    IsBeginning (format_for pages history) beginning start → All (IsEntry (format_for pages history)) history
    → text ≡ trace (format_for pages history) beginning start history
    → IsCrewTrace pages beginning start crew text
traced pages beginning start crew history text is begins fits written = record {
  history = history;
  is = is;
  written = written;
  legal = record {
    format = format_for pages history;
    beginning = beginning;
    state = start;
    history = history;
    begins = begins;
    fits = fits;
    legal = is.legal;
    counted = is.crewed.all;
    written = written;
  };
}

-- what was written is the trace, if the board has the state to which its history leads
pub prepared : (board : Option State) (pages : Option ℕ) (beginning : List ℕ) (start : State) (crew : Crew)
    (outcome : Outcome) (ended : Ended) (text : List ℕ) →
    IsScriptHistory crew start ended.history.items
    → IsBeginning (format_for pages ended.history.items) beginning start
    → ended.board.state ≡ leads_to start ended.history.items → IsTraced pages beginning outcome ended [] text →
    (IsCrewTrace pages beginning start crew text → IsTraceOn board crew text) → Prepares board outcome crew text
prepared board pages beginning start crew outcomes.Done ended text is begins leads written on =
    let next = ap (λ (s : State). trace_text
    (format_for pages ended.history.items) beginning ended.history.items s.next_ticket) leads in
    on (traced pages beginning start crew ended.history.items text is begins written.0 (written.1 ∙ next))
prepared board pages beginning start crew outcomes.Memory ended text is begins leads written on = tt
prepared board pages beginning start crew outcomes.Unsettled ended text is begins leads written on = tt
prepared board pages beginning start crew outcomes.NoThread ended text is begins leads written on = tt

-- what was written is the trace of a crew on the board with which it began
pub begun : (board : Option State) (image : Option (List ℕ)) (s : CrewScript) (state : State) (outcome : Outcome)
    (ended : Ended) (text : List ℕ) → IsGoodOn board (crew_of s) → Begins board s.setup image state
    → IsScriptHistory (crew_of s) state ended.history.items
    → ended.board.state ≡ leads_to state ended.history.items
    → IsTraced (begun_pages image s.setup.pages) (begun_text image s.setup) outcome ended [] text
    → Prepares board outcome (crew_of s) text
begun None image s state outcome ended text good begins is leads written =
    let n = s.setup.processors in
    let pages = s.setup.pages in
    let ticket = s.setup.first_ticket in
    let start = opened n pages ticket in
    let line = board_text n (line_pages pages) ticket in
    prepared None (line_pages pages) line start (crew_of s) outcome ended text
    (subst (λ (t : State). IsScriptHistory (crew_of s) t ended.history.items) begins.1 is)
    (subst (IsBeginning (format_for (line_pages pages) ended.history.items) line) (opened-with n pages ticket)
    (line-begins n (line_pages pages) ticket ended.history.items (sizes-on n pages good.board) begins.2))
    (subst (λ (t : State). ended.board.state ≡ leads_to t ended.history.items) begins.1 leads)
    (subst (λ (i : Option (List ℕ)). IsTraced (begun_pages i pages) (begun_text i s.setup) outcome ended [] text)
    begins.0 written) (λ t. t)
begun (Some b) image s state outcome ended text good begins is leads written =
    prepared (Some b) None (image_of b) b (crew_of s) outcome ended text
    (subst (λ (t : State). IsScriptHistory (crew_of s) t ended.history.items) begins.1 is)
    (inr (refl, begins.2))
    (subst (λ (t : State). ended.board.state ≡ leads_to t ended.history.items) begins.1 leads)
    (subst (λ (i : Option (List ℕ)).
    IsTraced (begun_pages i s.setup.pages) (begun_text i s.setup) outcome ended [] text) begins.0 written) (λ t. t)
