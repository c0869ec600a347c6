use Rattle.std.proofs.Common.{◌≡◌, All, take}
use Rattle.board_threads.proofs.places.are_main.Given as goal

abbrev pub invariant-loop-entry : goal.invariant-loop-entry
invariant-loop-entry l = All (λ e. e.actor ≡ 0) (take l.entry-index l.entries)
