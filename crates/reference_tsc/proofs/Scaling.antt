-- Scaled ticks.
use Rattle.std.proofs.Common.{◌≡◌, ◌⊎◌, inl, inr, ℕ, ◌+◌, ◌-◌, ◌*◌, ◌/◌, ◌^◌, ◌<◌, ◌≤◌, subst, arith}
use Rattle.std.proofs.lemmas.Bool.{cases_lt}
use Rattle.std.proofs.Math.Nat.{mul-le-mul_right, mul-lt-mul_of_pos_right, div-mul-le_self, lt-div-mul-add}
use Rattle.reference_tsc.specs.declared.page.TscPage.{TscPage}
use Rattle.reference_tsc.specs.Page.{units, elapsed, scale_of}
use Rattle.reference_tsc.specs.Laws.{NeverGoesBack, IsWithinAUnit}

abbrev whole : ℕ
whole = 18446744073709551616

pub never-back : (page : TscPage) (a b : ℕ) → a ≤ b → NeverGoesBack page a b
never-back page a b le =
    let more : a * page.scale ≤ b * page.scale = mul-le-mul_right page.scale le in
    let later : a * page.scale / whole ≤ b * page.scale / whole = omega (arith, more) in
    record { later = later; time = λ bound. omega (arith, later, bound) }

-- a scale of which hz times is at most units * 2^64, and less than one hz below; ticks that last `passed` units
module _ (hz a ticks scale passed : ℕ) (some : 0 < hz) (bound : ticks < whole) (low : scale * hz ≤ units * whole)
    (high : units * whole < scale * hz + hz)
    (passed-low : passed * hz ≤ ticks * units) (passed-high : ticks * units < passed * hz + hz) where
  split : (a + ticks) * scale ≡ a * scale + ticks * scale
  split = grind arith

  -- ticks * scale, in units of hz
  times-low : ticks * scale * hz ≤ whole * (ticks * units)
  times-low =
      let step = mul-le-mul_right ticks low in
      let left : scale * hz * ticks ≡ ticks * scale * hz = grind arith in
      let right : units * whole * ticks ≡ whole * (ticks * units) = grind arith in
      omega (arith, step, left, right)

  times-high : whole * (ticks * units) ≤ ticks * scale * hz + ticks * hz
  times-high =
      let most : units * whole ≤ scale * hz + hz = omega (arith, high) in
      let step = mul-le-mul_right ticks most in
      let left : units * whole * ticks ≡ whole * (ticks * units) = grind arith in
      let right : (scale * hz + hz) * ticks ≡ ticks * scale * hz + ticks * hz = grind arith in
      omega (arith, step, left, right)

  pub few : elapsed scale (a + ticks) ≤ elapsed scale a + passed + 1
  few = by (cases_lt (elapsed scale a + passed + 1) (elapsed scale (a + ticks)))
    where
      by : (elapsed scale a + passed + 1 < elapsed scale (a + ticks))
          ⊎ (elapsed scale (a + ticks) ≤ elapsed scale a + passed + 1)
          → elapsed scale (a + ticks) ≤ elapsed scale a + passed + 1
      by (inr fits) = fits
      by (inl over) =
          let more : whole * (passed + 1) < ticks * scale = omega (arith, over, split) in
          let step : whole * (passed + 1) * hz < ticks * scale * hz = mul-lt-mul_of_pos_right more some in
          let left : whole * (passed + 1) * hz ≡ whole * (passed * hz) + whole * hz = grind arith in
          absurd (omega (arith, step, left, times-low, passed-high))

  pub many : elapsed scale a + passed ≤ elapsed scale (a + ticks) + 1
  many = by (cases_lt (elapsed scale (a + ticks) + 1) (elapsed scale a + passed))
    where
      by : (elapsed scale (a + ticks) + 1 < elapsed scale a + passed)
          ⊎ (elapsed scale a + passed ≤ elapsed scale (a + ticks) + 1)
          → elapsed scale a + passed ≤ elapsed scale (a + ticks) + 1
      by (inr fits) = fits
      by (inl under) =
          let less : ticks * scale + whole ≤ whole * passed = omega (arith, under, split) in
          let step : (ticks * scale + whole) * hz ≤ whole * passed * hz = mul-le-mul_right hz less in
          let left : (ticks * scale + whole) * hz ≡ ticks * scale * hz + whole * hz = grind arith in
          let right : whole * passed * hz ≡ whole * (passed * hz) = grind arith in
          let rest : ticks * hz < whole * hz = mul-lt-mul_of_pos_right bound some in
          absurd (omega (arith, step, left, right, times-high, passed-low, rest))

pub within : (hz a b : ℕ) → units < hz → a ≤ b → b < 2 ^ 64 → IsWithinAUnit hz a b
within hz a b some le bound =
    let pos : 0 < hz = omega (arith, some) in
    let sum : a + (b - a) ≡ b = omega (arith, le) in
    let low = div-mul-le_self (units * whole) hz in
    let high = lt-div-mul-add {a = units * whole} {b = hz} pos in
    let passed-low = div-mul-le_self ((b - a) * units) hz in
    let passed-high = lt-div-mul-add {a = (b - a) * units} {b = hz} pos in
    record {
      few = subst (λ n. elapsed (scale_of hz) n ≤ elapsed (scale_of hz) a + (b - a) * units / hz + 1) sum
          (few hz a (b - a) (scale_of hz) ((b - a) * units / hz) pos
          (omega (arith, bound)) low high passed-low passed-high);
      many = subst (λ n. elapsed (scale_of hz) a + (b - a) * units / hz ≤ elapsed (scale_of hz) n + 1) sum
          (many hz a (b - a) (scale_of hz) ((b - a) * units / hz) pos
          (omega (arith, bound)) low high passed-low passed-high);
    }
