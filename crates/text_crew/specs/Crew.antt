-- The crew of a script, up to some line.
use Rattle.std.specs.Prelude.{ℕ, ◌+◌, ◌*◌, List, [], ◌∷◌, ◌++◌, length}
use Rattle.std.specs.List.{sum_by}
use Rattle.synic_board.specs.declared.event.Event.{Event}
use Rattle.board_threads.specs.declared.script.Step.{Step}

-- the section of the next line, with its steps so far: the setup, or the script of an actor or of a line
pub data Section : Type 0 where
  InSetup : Section
  InActor : List Step → Section
  InLine : List (ℕ × ℕ) → Section

pub record Crew : Type 0 where
  -- the board; a sparse one holds no pages
  pub processors : ℕ
  pub pages : ℕ
  pub first_ticket : ℕ
  -- the events of the setup
  pub setup : List Event
  -- the scripts of the actors and of the lines whose sections are closed
  pub actors : List (List Step)
  pub lines : List (List (ℕ × ℕ))
  pub section : Section

abbrev pub new_crew : ℕ → ℕ → ℕ → Crew
new_crew processors pages ticket =
    record {
      processors = processors;
      pages = pages;
      first_ticket = ticket;
      setup = [];
      actors = [];
      lines = [];
      section = InSetup;
    }

-- the same with the current section closed
abbrev pub over : Section → Crew → Crew
over InSetup crew = record crew { section = InSetup }
over (InActor steps) crew = record crew { actors = crew.actors ++ steps ∷ []; section = InSetup }
over (InLine raises) crew = record crew { lines = crew.lines ++ raises ∷ []; section = InSetup }

abbrev pub finished : Crew → Crew
finished crew = over crew.section crew

-- the number of entries of its history, with all sections closed: the setup, the steps, and the last absorbs
abbrev pub entries_of : Crew → ℕ
entries_of crew = length crew.setup + sum_by (λ (s : List Step). length s) crew.actors + 4 * crew.processors

-- the same with the current section closed
abbrev pub entries : Crew → ℕ
entries crew = length crew.setup + sum_by (λ (s : List Step). length s) (finished crew).actors + 4 * crew.processors
