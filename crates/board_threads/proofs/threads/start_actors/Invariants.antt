use Rattle.std.proofs.Common.{◌≡◌, List, take, map, length}
use Rattle.atomic_table.specs.Seated.{TableId}
use Rattle.board_threads.specs.declared.script.Step.{Step}
use Rattle.board_threads.proofs.threads.start_actors.Given as goal

abbrev pub invariant-loop-actor : goal.invariant-loop-actor
invariant-loop-actor g l =
    (l.index ≡ length l.yielded) × (map (λ h. h.promise.number) l.threads.items ≡ map (λ a. a.number) l.yielded)
    × (map {B = TableId × List Step} (λ h. (h.promise.board.now.name, h.promise.script.now)) l.threads.items
    ≡ map {B = TableId × List Step}
    (λ s. (l.board.name, s.items)) (take l.index l.scripts))
