use Rattle.std.proofs.Common.{◌≡◌}
use Rattle.synic_board.specs.State.{processors}
use Rattle.test_shared.proofs.watching.see_each_change.Given as goal

abbrev pub invariant-loop-event : goal.invariant-loop-event
invariant-loop-event g l =
    (goal.iterator-loop-event g).can_next l.event-iterator
    × (goal.iterator-loop-event g).is_finite l.event-iterator
    × (l.next.of ≡ l.words)
    × (l.next.word ≡ 0)
    × (l.other.of ≡ l.words)
    × (l.other.word ≡ 1)
    × (l.deadline.of ≡ l.words)
    × (l.deadline.word ≡ processors l.words.start)
