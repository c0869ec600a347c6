-- The results of the calls on scripts, traces, trace entries and images.
use Rattle.std.specs.Prelude.{◌≡◌, ℕ, List, length, Option, Some, None, ◌⊎◌}
use Rattle.text_lines.specs.declared.fault.ScriptFault.{ScriptFault}
use Rattle.text_script.specs.Output.{fault_of, text}
use Rattle.synic_board.specs.State.{State}
use Rattle.text_image.specs.Image.{image}
use Rattle.c_handles.specs.declared.any_board.AnyBoard.{AnyBoard}
use Rattle.c_handles.specs.Kinds.{state_in, IsRefreshedOn}
use Rattle.c_terms.specs.Rooms.{Fronts}
use Rattle.c_calls.specs.declared.texts.CEnd.{CEnd}

-- the line of a script's fault, or 0
abbrev pub line_of_fault : Option (ℕ × ScriptFault) → ℕ
line_of_fault None = 0
line_of_fault (Some (line, fault)) = line

abbrev pub kind_of_fault : Option (ℕ × ScriptFault) → ℕ
kind_of_fault None = 0
kind_of_fault (Some fault) = 10

-- the output of a script: how it ends, its length, and as much of it as fits
pub record IsText (script room_before room_after : List ℕ) (end : CEnd) : Type 0 where
  pub kind : end.kind ≡ kind_of_fault (fault_of script)
  pub line : end.line ≡ line_of_fault (fault_of script)
  pub length : end.length ≡ length (text script)
  pub room : Fronts (text script) room_before room_after

-- no output: an allocation failed, or the script is too long
pub record IsNotWritten (room_before room_after : List ℕ) (end : CEnd) : Type 0 where
  pub kind : (end.kind ≡ 2) ⊎ (end.kind ≡ 11)
  pub line : end.line ≡ 0
  pub length : end.length ≡ 0
  pub room : room_after ≡ room_before

-- the lines of an entry: their length, and as much of them as fits
abbrev pub AreLines : Option (List ℕ) → List ℕ → List ℕ → ℕ → Type 0
AreLines (Some lines) room_before room_after count = (count ≡ length lines) × Fronts lines room_before room_after
AreLines None room_before room_after count = ⊥

abbrev pub IsReplay : List ℕ → List ℕ → List ℕ → CEnd → Type 0
IsReplay script room_before room_after end =
    IsText script room_before room_after end ⊎ IsNotWritten room_before room_after end

-- the image of a state: its length, and as much of it as fits
pub record IsWrittenImage (s : State) (room_before room_after : List ℕ) (end : CEnd) : Type 0 where
  pub kind : end.kind ≡ 0
  pub line : end.line ≡ 0
  pub length : end.length ≡ length (image s)
  pub room : Fronts (image s) room_before room_after

-- nothing was written, for this reason
pub record IsUnsaved (reason : ℕ) (room_before room_after : List ℕ) (end : CEnd) : Type 0 where
  pub kind : end.kind ≡ reason
  pub line : end.line ≡ 0
  pub length : end.length ≡ 0
  pub room : room_after ≡ room_before

-- the own pages of a board with live pages were brought up to date, and the image of the board was written, or
-- nothing, for lack of memory; nothing of a closed one
abbrev pub IsSaved : Option AnyBoard → Option AnyBoard → List ℕ → List ℕ → CEnd → Type 0
IsSaved None after room_before room_after end = (after ≡ None) × IsUnsaved 4 room_before room_after end
IsSaved (Some board) (Some after) room_before room_after end =
    IsRefreshedOn board after
    × (IsWrittenImage (state_in after) room_before room_after end ⊎ IsUnsaved 2 room_before room_after end)
IsSaved (Some board) None room_before room_after end = ⊥
