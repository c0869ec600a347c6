-- The ranges that the types of the terms ensure.
use Rattle.std.specs.Prelude.{ℕ, ◌<◌, ◌≤◌, ◌^◌, List, length}
use Rattle.std.specs.List.{All}
use Rattle.board_terms.specs.declared.messages.Message.{Message}
use Rattle.board_terms.specs.declared.messages.Message.TheVariants.{FromPort, FromTimer}

abbrev pub AreBytes : List ℕ → Type 0
AreBytes bytes = All (λ b. b < 256) bytes

-- a vector that can be requested (SDM volume 3, "Interrupt Priorities")
abbrev pub IsVector : ℕ → Type 0
IsVector v = (16 ≤ v) × (v < 256)

-- the payload has at most 240 bytes, and a timer is one of four of one of 64 processors
abbrev pub HasMessageRanges : Message → Type 0
HasMessageRanges (FromPort ticket port kind payload) =
    (ticket < 2 ^ 64) × (port < 256) × (kind < 2 ^ 32) × AreBytes payload.items × (length payload.items ≤ 240)
HasMessageRanges (FromTimer ticket timer expiration) =
    (ticket < 2 ^ 64) × (timer.0 < 64) × (timer.1 < 4) × (expiration < 2 ^ 64)
