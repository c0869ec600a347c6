-- The words of a live page: the header of a message slot (TLFS, "SIM Page"), the word and the bit of an event flag
-- ("SIEF Page"), and what the host knows of each.
use Rattle.std.specs.Prelude.{◌≡◌, ◌⊎◌, ℕ, ◌+◌, ◌*◌, ◌/◌, ◌%◌, ◌^◌, ◌==◌, Bool, List, [], ◌∷◌, bit_or, if◌then◌else◌}
use Rattle.std.specs.Int.{bit_at}
use Rattle.live_pages.specs.declared.access.Access.{Access}
use Rattle.live_pages.specs.declared.access.Access.TheVariants.{Load, FetchOr, Store}

-- the first word of a slot, its header: bits 31:0 are the type, bit 40 is MessagePending
abbrev pub header : ℕ → ℕ
header slot = 32 * slot

abbrev pub type_of : ℕ → ℕ
type_of word = word % 2 ^ 32

abbrev pub pending_mask : ℕ
pending_mask = 2 ^ 40

abbrev pub is_pending : ℕ → Bool
is_pending word = bit_at word 40 == 1

-- flag f of a source is bit f % 64 of word 32 * sint + f / 64
abbrev pub flag_word : ℕ → ℕ → ℕ
flag_word sint flag = 32 * sint + flag / 64

abbrev pub flag_mask : ℕ → ℕ
flag_mask flag = 2 ^ (flag % 64)

-- what the host knows of each word: what it found or wrote there last, and zero before
abbrev pub known : List Access → ℕ → ℕ
known [] w = 0
known (Load x found ∷ log) w = if w == x then found else known log w
known (FetchOr x mask found ∷ log) w = if w == x then bit_or found mask else known log w
known (Store x value ∷ log) w = if w == x then value else known log w

-- a word is loaded, and stored if it has another value
abbrev pub IsUpdate : ℕ → ℕ → List Access → List Access → Type 0
IsUpdate w value log now =
    (found : ℕ) × (now ≡ (if found == value then Load w found ∷ log else Store w value ∷ Load w found ∷ log))

-- a word gets a value: a store of it, after one of another value that the host found there if it found one
abbrev pub IsPut : ℕ → ℕ → List Access → List Access → Type 0
IsPut w value log now =
    (now ≡ Store w value ∷ log) ⊎ ((found : ℕ) × (now ≡ Store w value ∷ Store w found ∷ log))
