use Rattle.std.proofs.Common.{◌≡◌, length, take}
use Rattle.board_threads.specs.Crew.{log_of}
use Rattle.board_threads.proofs.workers.raise.Given as goal

abbrev pub invariant-loop-vp : goal.invariant-loop-vp
invariant-loop-vp g l =
    (l.line.of ≡ l.initial.line.of) × (length l.answers.items ≡ length (take l.vp-index l.script))
    × (l.line.actions ≡ log_of (take l.vp-index l.script) l.answers.items) × (l.call ≡ l.vp-index)
