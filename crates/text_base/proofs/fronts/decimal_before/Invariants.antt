use Rattle.std.proofs.Common.{◌≡◌, ◌+◌, ◌-◌, ◌≤◌, ◌<◌, ◌^◌, length, drop, false}
use Rattle.std.specs.Fmt.{digits_onto}
use Rattle.text_base.proofs.fronts.decimal_before.Given as goal

abbrev pub invariant-loop-rest : goal.invariant-loop-rest
invariant-loop-rest l =
    let left = l.start + 20 - l.at in
    (l.start ≤ l.at) × (l.at ≤ l.start + 19) × (length l.room ≡ 48) × (l.rest < 10 ^ left)
    × (digits_onto (44 + left) 10 false l.rest (drop l.start l.room)
    ≡ digits_onto 64 10 false l.n (drop l.at l.fn.room))

abbrev pub decreases-loop-rest : goal.decreases-loop-rest
decreases-loop-rest l = l.rest
