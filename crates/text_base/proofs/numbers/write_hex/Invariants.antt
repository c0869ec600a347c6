use Rattle.std.proofs.Common.{◌≡◌, ◌+◌, ◌≤◌, ◌<◌, ◌^◌, length, drop, false}
use Rattle.std.specs.Fmt.{digits_onto}
use Rattle.text_base.specs.Numbers.{hex}
use Rattle.text_base.proofs.numbers.write_hex.Given as goal

abbrev pub invariant-loop-i : goal.invariant-loop-i
invariant-loop-i l =
    (l.i ≤ 16) × (length l.out ≡ 16) × (l.rest < 16 ^ l.i) × (l.i < 16 → 0 < l.rest)
    × (digits_onto (48 + l.i) 16 false l.rest (drop l.i l.out) ≡ hex l.n)

abbrev pub decreases-loop-i : goal.decreases-loop-i
decreases-loop-i l = l.i
