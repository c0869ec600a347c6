-- A number, or bytes, at the front of a text.
use Rattle.std.specs.Prelude.{◌≡◌, ◌≤◌, length, take, get_or, ◌∷◌, [], ℕ, List, Option, None, Some, false, ◌<◌, ◌==◌}
use Rattle.std.specs.Fmt.{digits}
use Rattle.std.specs.List.{All}
use Rattle.text_base.specs.Fields.{fields_of}
use Rattle.text_base.specs.Numbers.{spelled, AreBytes}
use Rattle.std.specs.Borrow.{Bor}

-- the first `count` bytes denote the number
abbrev pub IsFront : ℕ → List ℕ → ℕ → ℕ → Type 0
IsFront base text n count = (count ≤ length text) × (take count text ≡ digits base false n)

-- the first `count` bytes spell these bytes
abbrev pub IsBytesFront : List ℕ → List ℕ → ℕ → Type 0
IsBytesFront text bytes count = (count ≤ length text) × (take count text ≡ spelled bytes) × AreBytes bytes

-- the same, and a space or the end of the text follows
abbrev pub IsBytesField : List ℕ → List ℕ → ℕ → Type 0
IsBytesField text bytes count = IsBytesFront text bytes count × (count < length text → get_or text count 0 ≡ 32)

-- no space is in a text
abbrev pub HasNoSpace : List ℕ → Type 0
HasNoSpace text = All (λ (b : ℕ). b == 32 ≡ false) text

-- the first field ends there
abbrev pub IsFieldEnd : List ℕ → ℕ → Type 0
IsFieldEnd text end = (end ≤ length text) × HasNoSpace (take end text) × (end < length text → get_or text end 0 ≡ 32)

-- the fields of the rest of a line, if there is a rest
abbrev pub fields_left : Option (Bor (List ℕ)) → List (List ℕ)
fields_left None = []
fields_left (Some rest) = fields_of rest.now

-- a number was decoded from the first field, which was taken; or nothing was taken
abbrev pub ReadsShort : ℕ → ℕ → Option ℕ → List (List ℕ) → List (List ℕ) → Type 0
ReadsShort base most None old new = new ≡ old
ReadsShort base most (Some n) old new = (n ≤ most) × (old ≡ digits base false n ∷ new)
