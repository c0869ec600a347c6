use Rattle.std.proofs.Common.{◌≡◌, ◌+◌, ◌*◌, ◌≤◌, ◌++◌, length, drop}
use Rattle.text_base.specs.Numbers.{spelled}
use Rattle.text_base.proofs.fronts.bytes_before.Given as goal

abbrev pub invariant-loop-left : goal.invariant-loop-left
invariant-loop-left l =
    (l.left ≤ length l.bytes) × (l.start + 2 * length l.bytes ≡ l.at + 2 * l.left) × (length l.room ≡ 48)
    × (drop l.start l.room ≡ spelled (drop l.left l.bytes) ++ drop l.at l.fn.room)

abbrev pub decreases-loop-left : goal.decreases-loop-left
decreases-loop-left l = l.left

abbrev pub invariant-loop-left-2 : goal.invariant-loop-left-2
invariant-loop-left-2 l =
    (l.left ≤ length l.bytes) × (l.start + 2 * length l.bytes ≡ l.at + 2 * l.left) × (length l.room ≡ 48)
    × (drop l.start l.room ≡ spelled (drop l.left l.bytes) ++ drop l.at l.fn.room)

abbrev pub decreases-loop-left-2 : goal.decreases-loop-left-2
decreases-loop-left-2 l = l.left
