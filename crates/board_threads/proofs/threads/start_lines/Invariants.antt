use Rattle.std.proofs.Common.{◌≡◌, ℕ, List, take, map, length}
use Rattle.atomic_table.specs.Seated.{TableId}
use Rattle.board_threads.proofs.threads.start_lines.Given as goal

abbrev pub invariant-loop-line : goal.invariant-loop-line
invariant-loop-line g l =
    (l.index ≡ length l.yielded)
    × (map {B = TableId × List (ℕ × ℕ)} (λ h. (h.promise.board.now.name, h.promise.script.now)) l.threads.items
    ≡ map {B = TableId × List (ℕ × ℕ)}
    (λ s. (l.board.name, s.items)) (take l.index l.scripts))
