use Rattle.std.proofs.Common.{◌≡◌, take}
use Rattle.synic_regs.specs.Regs.{auto_eoi_of}
use Rattle.synic_regs.proofs.regs.auto_eoi_of.Given as goal

abbrev pub invariant-loop-word : goal.invariant-loop-word
invariant-loop-word l = l.auto' ≡ auto_eoi_of (take l.word-index l.sints)
