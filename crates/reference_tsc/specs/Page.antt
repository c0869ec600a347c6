-- The reference time of a page (TLFS, "Partition Reference Time Enlightenment").
use Rattle.std.specs.Prelude.{ℕ, ◌+◌, ◌*◌, ◌/◌, ◌%◌, ◌^◌, ◌<◌, ◌≤◌, Option, Some, None}
use Rattle.reference_tsc.specs.declared.page.TscPage.{TscPage}

-- a second has 10,000,000 units of 100 ns
abbrev pub units : ℕ
units = 10000000

-- the units of a number of ticks
abbrev pub elapsed : ℕ → ℕ → ℕ
elapsed scale tsc = tsc * scale / 2 ^ 64

-- the scale of a TSC with that many ticks a second
abbrev pub scale_of : ℕ → ℕ
scale_of hz = units * 2 ^ 64 / hz

-- the time when the TSC is tsc, a number of 64 bits
abbrev pub time_of : TscPage → ℕ → ℕ
time_of page tsc = (elapsed page.scale tsc + page.offset) % 2 ^ 64

-- the first TSC of 64 bits at which that many units have passed, if there is one
abbrev pub IsFirstWith : ℕ → ℕ → Option ℕ → Type 0
IsFirstWith scale passed (Some tsc) =
    (passed ≤ elapsed scale tsc) × ((x : ℕ) → x < tsc → elapsed scale x < passed)
IsFirstWith scale passed None = (x : ℕ) → x < 2 ^ 64 → elapsed scale x < passed
