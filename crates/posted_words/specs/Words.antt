-- The abstract state of the words and of a token.
use Rattle.std.specs.Prelude.{◌≡◌, ℕ, ◌+◌, ◌*◌, ◌/◌, ◌%◌, ◌≤◌, Bool, List, ◌∷◌}
use Rattle.atomic_table.specs.Seated.{TableId}
use Rattle.posted_words.specs.declared.rule.Action.{Action}
use Rattle.posted_words.specs.declared.rule.Action.TheVariants.{Raise, Sweep}

-- the identity of the words, and how many processors, sweepers and lines they were opened for
pub record Words : Type 0 where
  pub name : TableId
  pub processors : ℕ
  pub sweepers : ℕ
  pub lines : ℕ

abbrev pub shared_words : TableId → ℕ → ℕ → ℕ → Words
shared_words name processors sweepers lines =
    record { name = name; processors = processors; sweepers = sweepers; lines = lines }

-- the valid sizes of words: of those for the threads of a large machine, and of any others
pub record AreManyWordSizes (processors sweepers lines : ℕ) : Type 0 where
  pub some_processor : 1 ≤ processors
  pub processor_bound : processors ≤ 64
  pub some_sweeper : 1 ≤ sweepers
  pub sweeper_bound : sweepers ≤ 64
  pub line_bound : lines ≤ 256

pub record AreWordSizes (processors sweepers lines : ℕ) : Type 0 where
  pub some_processor : 1 ≤ processors
  pub processor_bound : processors ≤ 64
  pub some_sweeper : 1 ≤ sweepers
  pub few_sweepers : sweepers ≤ 16
  pub few_lines : lines ≤ 16

-- the words of a token, and its steps, the last one first
pub record Token : Type 0 where
  pub of : TableId
  pub actions : List Action

abbrev pub token : TableId → List Action → Token
token name actions = record { of = name; actions = actions }

-- a token of these words
abbrev pub IsOf : TableId → Token → Type 0
IsOf name t = t.of ≡ name

-- a token after one more step
abbrev pub with_last_step : Token → Action → Token
with_last_step t d = token t.of (d ∷ t.actions)

abbrev pub actions_of : Token → List Action
actions_of t = t.actions

-- a processor has four words, for its parts 0 to 3
abbrev pub word_of : ℕ → ℕ → ℕ
word_of vp part = 4 * vp + part

-- the step of a raise: a part has 64 vectors
abbrev pub raise_of : ℕ → ℕ → Bool → Action
raise_of vp vector fresh = Raise (word_of vp (vector / 64)) (vector % 64) fresh

-- the step of a sweep
abbrev pub sweep_of : ℕ → ℕ → ℕ → Action
sweep_of vp part bits = Sweep (word_of vp part) bits
