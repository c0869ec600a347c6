-- The history of a crew.
use Rattle.std.specs.Prelude.{◌≡◌, ℕ, ◌+◌, ◌*◌, ◌/◌, ◌%◌, List, [], ◌∷◌, ◌++◌, All, true, length, map, reverse, Vec, vec_len}
use Rattle.std.specs.Global.{Global}
use Rattle.std.specs.List.{AllZip, range_with_len, sum_by}
use Rattle.synic_board.specs.State.{State}
use Rattle.synic_board.specs.declared.event.Event.{Event}
use Rattle.synic_board.specs.declared.event.Event.TheVariants.{Absorb}
use Rattle.synic_board.specs.declared.history.Entry.{Entry}
use Rattle.posted_words.specs.declared.rule.Action.{Action}
use Rattle.posted_words.specs.declared.line.Raised.{Raised}
use Rattle.posted_words.specs.Answers.{is_fresh}
use Rattle.posted_words.specs.Words.{raise_of}
use Rattle.actor_calls.specs.Calls.{Call, call_of, calls_by}
use Rattle.actor_calls.specs.Sweeps.{is_refusal}
use Rattle.actor_calls.specs.Absorbed.{AreAbsorbed}
use Rattle.board_threads.specs.Settling.{IsSettled}
use Rattle.board_threads.specs.declared.crew.CrewEnd.{CrewEnd}
use Rattle.board_threads.specs.declared.script.Scripts.{Scripts}
use Rattle.board_threads.specs.declared.script.Setup.{Setup}
use Rattle.board_threads.specs.declared.script.Step.{Step}
use Rattle.board_threads.specs.declared.script.Step.TheVariants.{Act, Sweep}
use Rattle.board_threads.specs.declared.settling.ActorCalls.{ActorCalls}

-- a call performs a step of a script: a sweep appears as the absorb of the bits that it took, and a refused one took
-- none
abbrev pub IsStep : Step → Call → Type 0
IsStep (Act e) c = c.0 ≡ e
IsStep (Sweep vp part) c = (bits : ℕ) × (c.0 ≡ Absorb vp part bits) × (is_refusal c.1 ≡ true → bits ≡ 0)

-- calls perform a script, step by step
abbrev pub AreSteps : List Step → List Call → Type 0
AreSteps = AllZip IsStep

abbrev pub acts : List Event → List Step
acts = map (λ e. Act e)

-- parts 0 to 3 of each processor in order
abbrev pub last_step : ℕ → Step
last_step k = Sweep (k / 4) (k % 4)

abbrev pub last_steps : ℕ → List Step
last_steps processors = map last_step (range_with_len 0 (4 * processors))

-- the steps of a line that raised these vectors with these results
abbrev pub raises_of : List (ℕ × ℕ) → List Raised → List Action
raises_of [] answers = []
raises_of (s ∷ script) [] = []
raises_of (s ∷ script) (a ∷ answers) = raise_of s.0 s.1 (is_fresh a) ∷ raises_of script answers

-- the log of the line, the last step first
abbrev pub log_of : List (ℕ × ℕ) → List Raised → List Action
log_of script answers = reverse (raises_of script answers)

-- the logs of all lines
abbrev pub logs_of : List (List (ℕ × ℕ)) → List (List Raised) → List (List Action)
logs_of [] answers = []
logs_of (s ∷ scripts) [] = []
logs_of (s ∷ scripts) (a ∷ answers) = log_of s a ∷ logs_of scripts answers

-- one result for each raise
abbrev pub HasEach : List (ℕ × ℕ) → List Raised → Type 0
HasEach script answers = length answers ≡ length script

-- the lists in vectors
abbrev pub lists : {A : Type 0} → List (Vec A Global) → List (List A)
lists {A} = map (λ (v : Vec A Global). v.items)

-- the calls of the actors from n on perform their scripts
abbrev pub EachFollows : ℕ → List (List Step) → List Entry → Type 0
EachFollows n [] history = Unit {0}
EachFollows n (s ∷ scripts) history = AreSteps s (calls_by n history) × EachFollows (n + 1) scripts history

-- entries by actor 0 that perform these steps
pub record AreMain (steps : List Step) (entries : List Entry) : Type 0 where
  pub number : All (λ (e : Entry). e.actor ≡ 0) entries
  pub follow : AreSteps steps (map call_of entries)

-- the history of a crew: the setup, then the calls of all scripts in any interleaving, then the last absorbs
pub record IsCrewHistory (processors : ℕ) (setup : List Event) (scripts : List (List Step))
    (history : List Entry) : Type 0 where
  pub first : List Entry
  pub between : List Entry
  pub last : List Entry
  pub is : history ≡ first ++ (between ++ last)
  pub begins : AreMain (acts setup) first
  pub ends : AreMain (last_steps processors) last
  pub main : calls_by 0 between ≡ []
  pub others : EachFollows 1 scripts between
  -- and no other actor has an entry
  pub all : length history ≡ length setup + sum_by (λ (s : List Step). length s) scripts + 4 * processors

-- the result of a crew whose board was in a state when it began: the board is settled, the numbers of its actors are
-- 0, 1, ..,
-- its history is one of the crew, each raise has a result, each fresh one was absorbed once, and no bit is left
pub record IsCrewEnd (begun : State) (setup : Setup) (scripts : Scripts) (c : CrewEnd) : Type 0 where
  pub settled : IsSettled begun c.ended
  pub numbers : map (λ (a : ActorCalls). a.number) c.ended.actors.items ≡ range_with_len 0 (vec_len scripts.actors + 1)
  pub crewed : IsCrewHistory setup.processors setup.events.items (lists scripts.actors.items) c.ended.history.items
  pub each : AllZip HasEach (lists scripts.lines.items) (lists c.raised.items)
  pub raises : AreAbsorbed (4 * setup.processors)
      (logs_of (lists scripts.lines.items) (lists c.raised.items)) c.ended.history.items c.ended.standing
  pub clear : All (λ (word : ℕ). word ≡ 0) c.ended.standing
