-- The pages of a board line.
use Rattle.std.specs.Prelude.{◌≡◌, ℕ, Option, None, Some}
use Rattle.text_lines.specs.Reading.{Fields, first_read, pages_at}

-- a call took the first field with these pages, or the field does not decode
abbrev pub TakesPages : Option (Option ℕ) → Fields → Fields → Type 0
TakesPages None old new = first_read pages_at old ≡ None
TakesPages (Some pages) old new = first_read pages_at old ≡ Some (pages, new)
