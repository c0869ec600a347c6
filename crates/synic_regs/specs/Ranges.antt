-- The ranges that the types of the registers ensure.
use Rattle.std.specs.Prelude.{◌≡◌, ◌<◌, ◌^◌, ℕ, true, length}
use Rattle.std.specs.List.{All}
use Rattle.synic_regs.specs.Regs.{Regs, is_legal}

-- the value of a source: a write of it is not refused
abbrev pub IsSource : ℕ → Type 0
IsSource value = (value < 2 ^ 64) × (is_legal value ≡ true)

-- the registers of a processor: sixteen sources
pub record AreRegs (r : Regs) : Type 0 where
  pub control : r.control < 2 ^ 64
  pub sief : r.sief < 2 ^ 64
  pub sim : r.sim < 2 ^ 64
  pub sixteen : length r.sints ≡ 16
  pub sources : All IsSource r.sints
