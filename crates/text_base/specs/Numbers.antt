-- The text forms of numbers and bytes: lower case, no leading zero. Each number has exactly one.
use Rattle.std.specs.Prelude.{◌∷◌, [], ◌/◌, ◌%◌, ◌&&◌, ℕ, List, Option, None, Some, false, if◌then◌else◌, ◌<◌, nat_le, decimal}
use Rattle.std.specs.Fmt.{digits, digit_glyph}
use Rattle.std.specs.List.{All}
use Rattle.std.specs.Str.{bytes_eq}
use Rattle.std.specs.Str.Parse.{digits_value}

abbrev pub hex : ℕ → List ℕ
hex n = digits 16 false n

-- a byte in two digits
abbrev pub two_digits : ℕ → List ℕ
two_digits b = digit_glyph false (b / 16) ∷ digit_glyph false (b % 16) ∷ []

-- two digits for each byte
abbrev pub spelled : List ℕ → List ℕ
spelled [] = []
spelled (b ∷ bytes) = digit_glyph false (b / 16) ∷ digit_glyph false (b % 16) ∷ spelled bytes

-- the number, at most `most`, that this text denotes
abbrev pub decimal_at : ℕ → List ℕ → Option ℕ
decimal_at most text =
    let n = digits_value 10 text in if nat_le n most && bytes_eq text (decimal n) then Some n else None

abbrev pub hex_at : ℕ → List ℕ → Option ℕ
hex_at most text = let n = digits_value 16 text in if nat_le n most && bytes_eq text (hex n) then Some n else None

-- the byte that two digits denote
abbrev pub byte_at : List ℕ → Option ℕ
byte_at text = let b = digits_value 16 text in if nat_le b 255 && bytes_eq text (two_digits b) then Some b else None

abbrev pub IsByte : ℕ → Type 0
IsByte b = b < 256

abbrev pub AreBytes : List ℕ → Type 0
AreBytes bytes = All IsByte bytes
