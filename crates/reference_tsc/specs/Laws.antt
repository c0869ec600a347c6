-- What holds of the time of a page.
use Rattle.std.specs.Prelude.{◌≡◌, ℕ, ◌+◌, ◌-◌, ◌*◌, ◌/◌, ◌≤◌, ◌<◌, ◌^◌}
use Rattle.reference_tsc.specs.declared.page.TscPage.{TscPage}
use Rattle.reference_tsc.specs.Page.{units, elapsed, scale_of, time_of}

-- the time at b is that at a and as many units as were scaled in between, unless the sum passes 2^64
pub record NeverGoesBack (page : TscPage) (a b : ℕ) : Type 0 where
  pub later : elapsed page.scale a ≤ elapsed page.scale b
  pub time : time_of page a + (elapsed page.scale b - elapsed page.scale a) < 2 ^ 64
      → time_of page b ≡ time_of page a + (elapsed page.scale b - elapsed page.scale a)

-- the units that pass on a page of a TSC with hz ticks a second, and those of the ticks
pub record IsWithinAUnit (hz a b : ℕ) : Type 0 where
  pub few : elapsed (scale_of hz) b ≤ elapsed (scale_of hz) a + (b - a) * units / hz + 1
  pub many : elapsed (scale_of hz) a + (b - a) * units / hz ≤ elapsed (scale_of hz) b + 1
