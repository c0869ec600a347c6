use Rattle.std.proofs.Common.{◌<◌, length, arith, sym, ◌∙◌}
use Rattle.synic_regs.proofs.AutoVectors.{auto_eoi_of-none, more_found, more_none, all_of_them}
use Rattle.synic_regs.proofs.regs.auto_eoi_of.Goals as goal
use Rattle.synic_regs.proofs.regs.auto_eoi_of.Goals.{in-Some, in_default}

pub loop-word-init : goal.loop-word-init
loop-word-init c = c.new-auto.ensures ∙ sym auto_eoi_of-none

pub loop-word-preserved : goal.loop-word-preserved
loop-word-preserved c =
    let h : c.loop-word.word-index < length c.args.sints.now = omega arith in
    elim c.match-auto_eoi.branch [
      | in-Some w ↦
          more_found c.args.sints.now c.loop-word.word-index _ _ _ _ _ c.loop-word.invariant h c.new.ensures
          c.auto_eoi.ensures w.in-Some.is (w.auto'-is ∙ w.insert.ensures)
      | in_default w ↦
          more_none c.args.sints.now c.loop-word.word-index _ _ _ _ c.loop-word.invariant h c.new.ensures
          c.auto_eoi.ensures w.in_default.is w.auto'-is
    ]

pub returns : goal.returns
returns c = all_of_them c.args.sints.now c.loop-word.word-index _ _ c.told-sints c.loop-word-test.false
    c.loop-word.invariant
