use Rattle.std.proofs.Common.{◌≡◌, All, refl, sym, subst}
use Rattle.std.specs.List.{range_with_len}
use Rattle.std.proofs.lemmas.List.Elements.{All-map}
use Rattle.board_threads.specs.Sharing.{Acting, new_actor}
use Rattle.test_threads.proofs.boards.opened.Goals as goal

pub returns-in-Ok-clause-actors : goal.returns-in-Ok-clause-actors
returns-in-Ok-clause-actors c =
    let name = c.in-Ok.opened.0.name in
    let numbers = range_with_len 0 c.args.actors in
    λ k d lt. subst (All (λ (a : Acting). a.of ≡ name)) (sym c.in-Ok.ensures.actors)
    (All-map (λ (a : Acting). a.of ≡ name) (new_actor name) numbers (λ i e below. refl)) k d lt
