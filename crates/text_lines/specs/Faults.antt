-- Which lines of a script are skipped, the faults of lines, and their text form.
use Rattle.std.specs.Prelude.{ℕ, List, [], ◌∷◌, ◌==◌, Bool, true, if◌then◌else◌, nat_lt, length, Option, None, Some, codes, decimal}
use Rattle.text_base.specs.Fields.{line_of}
use Rattle.text_lines.specs.declared.fault.ScriptFault.{ScriptFault}
use Rattle.text_lines.specs.declared.fault.ScriptFault.TheVariants as faults

-- an empty line and a comment are skipped
abbrev pub is_skipped : List ℕ → Bool
is_skipped [] = true
is_skipped (b ∷ bytes) = b == 35

-- the fault of the bytes after the last line feed
abbrev pub rest_fault : Bool → List ℕ → Option ScriptFault
rest_fault opened rest =
    if nat_lt 640 (length rest) then Some faults.Long
    else if nat_lt 0 (length rest) then Some faults.Cut
    else if opened then None
    else Some faults.First

abbrev pub fault_word : ScriptFault → List ℕ
fault_word faults.Long = codes "long"
fault_word faults.Cut = codes "cut"
fault_word faults.First = codes "first"
fault_word faults.Size = codes "size"
fault_word faults.Form = codes "form"
fault_word faults.Many = codes "many"

abbrev pub fault_line : ℕ × ScriptFault → List ℕ
fault_line fault = line_of (codes "!" ∷ decimal fault.0 ∷ fault_word fault.1 ∷ [])

abbrev pub fault_text : Option (ℕ × ScriptFault) → List ℕ
fault_text None = []
fault_text (Some fault) = fault_line fault
