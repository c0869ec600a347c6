-- The work of a worker whose thread has ended.
use Rattle.std.specs.Prelude.{◌≡◌, ◌<◌, ℕ, List, [], ◌∷◌, ◌++◌, All, length, map, Vec}
use Rattle.std.specs.Global.{Global}
use Rattle.std.specs.List.{AllZip, range_with_len}
use Rattle.atomic_table.specs.Seated.{TableId}
use Rattle.posted_words.specs.declared.line.Raised.{Raised}
use Rattle.posted_words.specs.Words.{Token}
use Rattle.synic_board.specs.declared.event.Event.{Event}
use Rattle.synic_board.specs.declared.history.Entry.{Entry}
use Rattle.actor_calls.specs.Calls.{Call}
use Rattle.board_threads.specs.Sharing.{Acting}
use Rattle.board_threads.specs.Crew.{AreSteps, log_of, last_steps, acts}
use Rattle.board_threads.specs.declared.script.Step.{Step}
use Rattle.board_threads.specs.declared.script.Setup.{Setup}
use Rattle.board_threads.specs.declared.script.Scripts.{Scripts}

-- an actor or a line of these words without calls or steps
abbrev pub IsNewActor : TableId → Acting → Type 0
IsNewActor name a = (a.of ≡ name) × (a.calls ≡ [])

abbrev pub IsNewLine : TableId → Token → Type 0
IsNewLine name t = (t.of ≡ name) × (t.actions ≡ [])

-- its raises are at processors of the board
abbrev pub IsThere : ℕ → List (ℕ × ℕ) → Type 0
IsThere processors script = All (λ (r : ℕ × ℕ). r.0 < processors) script

-- an actor's calls perform its script
pub record HasActed (name : TableId) (number : ℕ) (script : List Step) (a : Acting) : Type 0 where
  pub of : a.of ≡ name
  pub same : a.number ≡ number
  pub follows : AreSteps script a.calls

-- a line raised its vectors, and has a result for each
pub record HasRaised (name : TableId) (script : List (ℕ × ℕ)) (t : Token) (answers : List Raised) : Type 0 where
  pub of : t.of ≡ name
  pub each : length answers ≡ length script
  pub actions : t.actions ≡ log_of script answers

-- actor 0 performed the setup, and at the end the last absorbs
pub record HasServed (name : TableId) (processors : ℕ) (setup : List Event) (a : Acting) : Type 0 where
  pub of : a.of ≡ name
  pub number : a.number ≡ 0
  pub before : List Call
  pub after : List Call
  pub calls : a.calls ≡ before ++ after
  pub begins : AreSteps (acts setup) before
  pub ends : AreSteps (last_steps processors) after

-- a history whose first and last entries are by actor 0
pub record InPlace (setup ends : ℕ) (history : List Entry) : Type 0 where
  pub first : List Entry
  pub between : List Entry
  pub last : List Entry
  pub is : history ≡ first ++ (between ++ last)
  pub begins : length first ≡ setup
  pub ends_so : length last ≡ ends
  pub main_first : All (λ (e : Entry). e.actor ≡ 0) first
  pub main_last : All (λ (e : Entry). e.actor ≡ 0) last

-- the actors and the lines of a crew ran their scripts, and each actor has the number that it had
pub record HaveRun (name : TableId) (acts : List (Vec Step Global)) (raises : List (Vec (ℕ × ℕ) Global))
    (before after : List Acting) (ran : List (Token × Vec Raised Global)) : Type 0 where
  pub numbers : map (λ (a : Acting). a.number) after ≡ map (λ (a : Acting). a.number) before
  pub acted : AllZip (λ (s : Vec Step Global) (a : Acting). HasActed name a.number s.items a) acts after
  pub raised : AllZip (λ (s : Vec (ℕ × ℕ) Global)
      (x : Token × Vec Raised Global). HasRaised name s.items x.0 x.1.items) raises ran

-- the actors and lines of a crew when all threads have ended: actor 0, the others in the order of their scripts, and
-- the lines, each with its results
pub record HaveWorked (name : TableId) (setup : Setup) (scripts : Scripts) (actors : List Acting) (lines : List Token)
    (raised : List (Vec Raised Global)) : Type 0 where
  pub main : Acting
  pub others : List Acting
  pub ran : List (Token × Vec Raised Global)
  pub actors_are : actors ≡ main ∷ others
  pub lines_are : lines ≡ map (λ (x : Token × Vec Raised Global). x.0) ran
  pub answers_are : raised ≡ map (λ (x : Token × Vec Raised Global). x.1) ran
  pub served : HasServed name setup.processors setup.events.items main
  pub numbers : map (λ (a : Acting). a.number) others ≡ range_with_len 1 (length scripts.actors.items)
  pub acted : AllZip (λ (s : Vec Step Global) (a : Acting). HasActed name a.number s.items a) scripts.actors.items
      others
  pub did_raise : AllZip (λ (s : Vec (ℕ × ℕ) Global)
      (x : Token × Vec Raised Global). HasRaised name s.items x.0 x.1.items) scripts.lines.items ran
