use Rattle.std.proofs.Common.{◌≡◌, false, take}
use Rattle.std.specs.List.{list_any}
use Rattle.actor_calls.specs.Sweeps.{is_absorb}
use Rattle.board_threads.proofs.script.absorbs.Given as goal

abbrev pub invariant-loop-event : goal.invariant-loop-event
invariant-loop-event l = list_any is_absorb (take l.event-index l.events) ≡ false
