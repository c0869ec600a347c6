use Rattle.std.proofs.Common.{rules, ◌≡◌, List, [], ◌∷◌, ◌++◌, All, map, length, drop, refl, ap, sym, subst, ◌∙◌, arith}
use Rattle.std.proofs.lemmas.List.Elements.{All-head, All-tail}
use Rattle.board_threads.specs.Sharing.{Acting}
use Rattle.board_threads.specs.inside.Work.{IsNewActor, HaveRun}
use Rattle.board_threads.proofs.Crewing.{split-first}
use Rattle.board_threads.proofs.threads.run_with_actor.Goals as goal

pub act_beside-requires-clause-new_first : goal.act_beside-requires-clause-new_first
act_beside-requires-clause-new_first g c κs within =
    let name = c.args.board.now.name in
    let parts = split-first c.args.actors.items c.pop.new.self.items c.in-Some.first (length c.args.acts.now)
    (omega (arith, c.requires.each_actor, c.args.actors.ok.0))
    (sym c.in-Ok.ensures.items ∙ c.in-Some.ensures.items) in
    All-head (IsNewActor name) c.in-Some.first (drop 1 c.args.actors.items)
    (subst (All (IsNewActor name)) parts.1 c.requires.new_actors)

pub act_beside-requires-clause-new_others : goal.act_beside-requires-clause-new_others
act_beside-requires-clause-new_others g c κs within =
    let name = c.args.board.now.name in
    let parts = split-first c.args.actors.items c.pop.new.self.items c.in-Some.first (length c.args.acts.now)
    (omega (arith, c.requires.each_actor, c.args.actors.ok.0))
    (sym c.in-Ok.ensures.items ∙ c.in-Some.ensures.items) in
    λ k d lt. subst (All (IsNewActor name)) (sym c.in-Ok.ensures.tail)
    (All-tail (IsNewActor name) c.in-Some.first (drop 1 c.args.actors.items)
    (subst (All (IsNewActor name)) parts.1 c.requires.new_actors)) k d lt

pub returns : goal.returns
returns g c =
    let parts = split-first c.args.actors.items c.pop.new.self.items c.in-Some.first (length c.args.acts.now)
    (omega (arith, c.requires.each_actor, c.args.actors.ok.0))
    (sym c.in-Ok.ensures.items ∙ c.in-Some.ensures.items) in
    let first = c.in_ok-first.first in
    let others = c.in_ok-first.others.items in
    let actions = c.in_ok-first.ensures.0 in
    let ran = c.in_ok-first.ensures.1 in
    let all : c.append.new.self.items ≡ (c.pop.new.self.items ++ first ∷ []) ++ others = search rules in
    let is : c.append.new.self.items ≡ first ∷ others = all ∙ ap (λ l. (l ++ first ∷ []) ++ others) parts.0 in
    let numbers : map (λ (a : Acting). a.number) (first ∷ others) ≡ map (λ (a : Acting). a.number) c.args.actors.items =
    (λ i. actions.same i ∷ (ran.numbers ∙ ap (map (λ (a : Acting). a.number)) c.in-Ok.ensures.tail) i)
    ∙ ap (map (λ (a : Acting). a.number)) (sym parts.1) in
    subst (λ (l : List Acting). HaveRun c.args.board.now.name
    (c.args.own.now ∷ c.args.acts.now) c.args.raises.now c.args.actors.items l c.in_ok-first.ran.items) (sym is)
    (record {
      numbers = numbers;
      acted = (record { of = actions.of; same = refl; follows = actions.follows }, ran.acted);
      raised = ran.raised;
    })
