use Rattle.std.proofs.Common.{◌≡◌, ◌-◌, [], map, replicate}
use Rattle.std.specs.List.{range_with_len}
use Rattle.atomic_table.specs.Seated.{TableId}
use Rattle.posted_words.specs.Words.{token}
use Rattle.board_threads.specs.Sharing.{new_actor}
use Rattle.board_threads.proofs.opening.number_all.Given as goal

abbrev pub invariant-loop-number : goal.invariant-loop-number
invariant-loop-number l = (t : TableId) → l.fn.sweepers.items ≡ replicate l.count (token t []) →
    (l.sweepers.items ≡ replicate (l.count - l.number) (token t []))
    × (l.actors.items ≡ map (new_actor t) (range_with_len 0 l.number))
