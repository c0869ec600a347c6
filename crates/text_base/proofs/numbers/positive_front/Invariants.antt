use Rattle.std.proofs.Common.{◌≤◌, ◌<◌, ◌^◌, ◌-◌, length}
use Rattle.text_base.proofs.NumberLemmas.{SoFar}
use Rattle.text_base.proofs.numbers.positive_front.Given as goal

abbrev pub invariant-loop-count : goal.invariant-loop-count
invariant-loop-count l =
    (l.count ≤ length l.text) × (l.count ≤ l.digits) × (l.n < l.base ^ l.count) × SoFar l.base l.text l.count l.n

abbrev pub decreases-loop-count : goal.decreases-loop-count
decreases-loop-count l = length l.text - l.count
