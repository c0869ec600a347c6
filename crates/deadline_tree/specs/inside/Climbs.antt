-- A tree whose nodes above one node are out of date.
use Rattle.std.specs.Prelude.{◌≡◌, ◌≢◌, ℕ, suc, ◌+◌, ◌*◌, ◌/◌, ◌^◌, ◌<◌, min}
use Rattle.deadline_tree.specs.inside.Table.{Tree, count, node, IsTree}

-- each inner node has the lesser word of its children, unless it is above node x
pub record IsClimbing (t : Tree) (x : ℕ) : Type 0 where
  pub tree : IsTree t
  pub mins : (j : ℕ) → 0 < j → j < count t → ((k : ℕ) → j ≢ x / 2 ^ suc k)
      → node t j ≡ min (node t (2 * j)) (node t (2 * j + 1))
