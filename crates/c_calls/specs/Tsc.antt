-- The reference TSC page of a C caller.
use Rattle.std.specs.Prelude.{◌≡◌, ◌⊎◌, ℕ, ◌+◌, ◌-◌, ◌%◌, ◌^◌, ◌<◌, ◌≤◌, Some, None}
use Rattle.reference_tsc.specs.Page.{time_of, IsFirstWith}
use Rattle.c_calls.specs.declared.tsc.CTscPage.{CTscPage}

-- no page
abbrev pub no_page : CTscPage
no_page = record { scale = 0; offset = 0 }

-- the time of a page when the TSC is tsc
abbrev pub time_at : CTscPage → ℕ → ℕ
time_at page tsc = time_of (record { scale = page.scale; offset = page.offset }) tsc

-- the units from the start of a page, when the TSC was 0, to a time, in 64 bits that wrap
abbrev pub passed_at : CTscPage → ℕ → ℕ
passed_at page time = (time + (2 ^ 64 - page.offset)) % 2 ^ 64

-- the first TSC from which on a page has at least a time: 0 if the time is before its start, and the greatest number
-- if a TSC of 64 bits never gets there
abbrev pub IsUntil : CTscPage → ℕ → ℕ → Type 0
IsUntil page time tsc =
    (2 ^ 63 ≤ passed_at page time → tsc ≡ 0)
    × (passed_at page time < 2 ^ 63 → IsFirstWith page.scale (passed_at page time) (Some tsc)
    ⊎ ((tsc ≡ 2 ^ 64 - 1) × IsFirstWith page.scale (passed_at page time) None))
