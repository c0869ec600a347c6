-- The actors that a board is opened with.
use Rattle.std.proofs.Common.{ℕ, List, All, map, refl, ◌≡◌}
use Rattle.std.proofs.lemmas.List.Elements.{All-map}
use Rattle.atomic_table.specs.Seated.{TableId}
use Rattle.board_threads.specs.Sharing.{Acting, new_actor}

pub all-of : (t : TableId) (ns : List ℕ) → All (λ (a : Acting). a.of ≡ t) (map (new_actor t) ns)
all-of t ns = All-map (λ (a : Acting). a.of ≡ t) (new_actor t) ns (λ k d below. refl)
