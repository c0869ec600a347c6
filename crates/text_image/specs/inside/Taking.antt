-- What a call took of the fields.
use Rattle.std.specs.Prelude.{◌≡◌, ℕ, Option, None, Some}
use Rattle.arrayvec.specs.ArrayVec.{ArrayVec}
use Rattle.text_lines.specs.Reading.{Fields, first_read}
use Rattle.text_image.specs.Parsing.{block_at}

-- a call took what is parsed first, with this value, or nothing is parsed
abbrev pub Takes : {A : Type 0} → (Fields → Option (A × Fields)) → Option A → Fields → Fields → Type 0
Takes read None old new = read old ≡ None
Takes read (Some a) old new = read old ≡ Some (a, new)

-- the same for 256 bytes
abbrev pub TakesBlock : Option (ArrayVec ℕ) → Fields → Fields → Type 0
TakesBlock None old new = first_read block_at old ≡ None
TakesBlock (Some bytes) old new = first_read block_at old ≡ Some (bytes.items, new)
