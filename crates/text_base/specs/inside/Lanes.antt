-- A byte of a text as a lane of a vector.
use Rattle.std.specs.Prelude.{ℕ, ◌+◌, ◌%◌, nat_lt, if◌then◌else◌}

-- the value of a hexadecimal digit, and 255 for another byte
abbrev pub lane_value : ℕ → ℕ
lane_value c =
    let digit = (c + 208) % 256 in
    let letter = (c + 159) % 256 in
    if nat_lt digit 10 then digit else if nat_lt letter 6 then (letter + 10) % 256 else 255
