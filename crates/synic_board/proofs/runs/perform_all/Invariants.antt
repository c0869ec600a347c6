use Rattle.std.proofs.Common.{◌+◌, ◌*◌, ◌≤◌, length}
use Rattle.synic_board.specs.inside.Progress.{HasPerformed}
use Rattle.synic_board.proofs.runs.perform_all.Given as goal

abbrev pub invariant-loop-done : goal.invariant-loop-done
invariant-loop-done l =
    record {
      behind : HasPerformed l.fn.board.state l.events l.done l.fn.notices.items l.board.state l.replies.items
          l.notices.items;
      writes_monotone : l.fn.board.writes ≤ l.board.writes;
      bound : l.board.writes + length l.fn.notices.items ≤ l.fn.board.writes + 8 * l.done + length l.notices.items;
    }
