-- What a replay and a save read and write.
use Rattle.std.specs.Prelude.{◌≡◌, ℕ, List, [], ◌++◌, Option, None, Some, is_some, IfSome}
use Rattle.std.specs.Io.KnownBytes.{Consumes, Appends}
use Rattle.text_driver.specs.Driving.{ReadsNear}
use Rattle.text_script.specs.Output.{Machine, output_on, fault_on, text_on, fault_of, saved_text}
use Rattle.text_script.specs.declared.stream.ReplayEnd.{ReplayEnd}
use Rattle.text_script.specs.declared.stream.ReplayEnd.TheVariants.{Done, Script, Memory, Reading, Writing}

-- These bytes were read, and what was written is a prefix of their output.
pub record BegunText (of : List ℕ → List ℕ) (r0 r1 w0 w1 : Option (List ℕ)) : Type 0 where
  pub taken : List ℕ
  pub sent : List ℕ
  pub unsent : List ℕ
  pub reads : Consumes r0 r1 taken
  pub writes : Appends w0 w1 sent
  pub begins : of taken ≡ sent ++ unsent

-- The reader and the writer before and after, of a script that starts in a state of the machine.
abbrev pub ReplaysOn : Machine → ReplayEnd → Option (List ℕ) → Option (List ℕ) → Option (List ℕ) → Option (List ℕ)
    → Type 0
ReplaysOn machine Done r0 r1 w0 w1 =
    IfSome r0 (λ input. (fault_on (is_some machine) input ≡ None) × Appends w0 w1 (text_on machine input))
ReplaysOn machine (Script line fault) r0 r1 w0 w1 =
    IfSome r0 (λ input. (fault_on (is_some machine) input ≡ Some (line, fault)) × Appends w0 w1 (text_on machine input))
ReplaysOn machine Memory r0 r1 w0 w1 = BegunText (output_on machine) r0 r1 w0 w1
ReplaysOn machine Reading r0 r1 w0 w1 = BegunText (output_on machine) r0 r1 w0 w1
ReplaysOn machine Writing r0 r1 w0 w1 = BegunText (text_on machine) r0 r1 w0 w1

-- the same of a script that opens its board
abbrev pub Replays : ReplayEnd → Option (List ℕ) → Option (List ℕ) → Option (List ℕ) → Option (List ℕ) → Type 0
Replays = ReplaysOn None

-- the same for a save: nothing is written before the whole input is read
abbrev pub SavesText : ReplayEnd → Option (List ℕ) → Option (List ℕ) → Option (List ℕ) → Option (List ℕ) → Type 0
SavesText Done r0 r1 w0 w1 = IfSome r0 (λ input. (fault_of input ≡ None) × Appends w0 w1 (saved_text input))
SavesText (Script line fault) r0 r1 w0 w1 =
    IfSome r0 (λ input. (fault_of input ≡ Some (line, fault)) × Appends w0 w1 (saved_text input))
SavesText Memory r0 r1 w0 w1 = Appends w0 w1 []
SavesText Reading r0 r1 w0 w1 = Appends w0 w1 []
SavesText Writing r0 r1 w0 w1 = BegunText saved_text r0 r1 w0 w1

-- the greatest number of bytes read: the byte beyond the limit only if reading ends there
abbrev pub most_read : ReplayEnd → ℕ
most_read Reading = 1073741825
most_read end = 1073741824

-- after the line of a fault at most one block was read
abbrev pub StopsNear : ReplayEnd → Option (List ℕ) → Option (List ℕ) → Type 0
StopsNear (Script line fault) r0 r1 = ReadsNear line r0 r1
StopsNear end r0 r1 = Unit {0}
