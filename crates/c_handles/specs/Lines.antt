-- The abstract state of a line with its words.
use Rattle.std.specs.Prelude.{◌≡◌, ℕ, ◌-◌, nat_lt, ◌&&◌, Bool, false, List, [], ◌∷◌, if◌then◌else◌}
use Rattle.posted_words.specs.declared.rule.Action.{Action}
use Rattle.posted_words.specs.Words.{Words, sweep_of}

-- its words, its steps, the last one first, and how many lines it may still split off
pub record LineModel : Type 0 where
  pub words : Words
  pub actions : List Action
  pub spare : ℕ

abbrev pub line_model : Words → List Action → ℕ → LineModel
line_model words actions spare = record { words = words; actions = actions; spare = spare }

-- a line without steps that may split off none
abbrev pub new_line : Words → LineModel
new_line words = line_model words [] 0

-- a line after one more step
abbrev pub with_step : LineModel → Action → LineModel
with_step line d = line_model line.words (d ∷ line.actions) line.spare

-- a line after it has split off one
abbrev pub with_one_split_off : LineModel → LineModel
with_one_split_off line = line_model line.words line.actions (line.spare - 1)

-- whether both a board of that many processors and the words have a part of a processor
abbrev pub has_part : ℕ → LineModel → ℕ → ℕ → Bool
has_part processors line vp part = (nat_lt vp processors && nat_lt vp line.words.processors) && nat_lt part 4

-- a line swept that part for a board of that many processors, if both have it, and took those bits
abbrev pub IsSwept : ℕ → LineModel → ℕ → ℕ → ℕ → LineModel → Type 0
IsSwept processors line vp part bits after =
    (after ≡ (if has_part processors line vp part then with_step line (sweep_of vp part bits) else line))
    × (has_part processors line vp part ≡ false → bits ≡ 0)
