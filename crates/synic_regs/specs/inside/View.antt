-- The abstract view of the fields, and their invariant.
use Rattle.std.specs.Prelude.{◌≡◌}
use Rattle.synic_regs.specs.Regs.{Regs, auto_vectors}
use Rattle.synic_regs.specs.inside.Legal.{AreLegal}
use Rattle.synic_regs.specs.declared.regs.SynicRegs.TheInside.{Inside}

abbrev pub regs_of : Inside → Regs
regs_of a = record { control = a.control; sief = a.sief; sim = a.sim; sints = a.sints }

pub record RegsInvariant (a : Inside) : Type 0 where
  -- a source with a vector below 16 is masked
  pub legal : AreLegal a.sints
  -- the cached set is recomputed at each write of a source
  pub auto : a.auto ≡ auto_vectors (regs_of a)
