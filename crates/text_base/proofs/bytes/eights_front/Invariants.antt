use Rattle.std.proofs.Common.{◌≡◌, ◌++◌, length}
use Rattle.text_base.specs.Numbers.{spelled, AreBytes}
use Rattle.text_base.proofs.bytes.eights_front.Given as goal

abbrev pub invariant-loop-rest : goal.invariant-loop-rest
invariant-loop-rest g l = (l.text ≡ spelled l.out.items ++ l.rest) × AreBytes l.out.items

abbrev pub decreases-loop-rest : goal.decreases-loop-rest
decreases-loop-rest g l = length l.rest
