use Rattle.std.proofs.Common.{rules, ◌≡◌, [], ◌∷◌, ◌++◌, All, IfSome, length, sym, subst, arith}
use Rattle.std.proofs.lemmas.Iterator.Adapters.{YieldsList-from_vec}
use Rattle.std.proofs.lemmas.Iterator.Consumers.{YieldsList-turn}
use Rattle.std.proofs.lemmas.List.Elements.{All-pop, All-push}
use Rattle.bench_threads.specs.Own.{IsOwn, IsOwnActor, IsOwnLine}
use Rattle.bench_threads.specs.declared.worker.Worker.{Worker}
use Rattle.bench_threads.proofs.workers.pair.Goals as goal

pub loop-actor-preserved-in-Continue-1 : goal.loop-actor-preserved-in-Continue-1
loop-actor-preserved-in-Continue-1 c =
    let board = c.args.board.now in
    let was = c.loop-actor.invariant in
    let popped =
    All-pop (IsOwnLine board) c.loop-actor.lines.items c.pop.new.self.items c.pop.result c.pop.ensures.items
    was.0 in
    let line : IsOwnLine board c.in-Some-pop.line = subst (λ r. IfSome r (IsOwnLine board)) c.in-Some-pop.is popped.1 in
    let from = c.into_iter-actor-iterator.ensures.into_iter_gives in
    let all = YieldsList-from_vec c.args.actors.items from.0 (omega (arith, from.1, c.args.actors.ok.0)) in
    let turn = YieldsList-turn all c.loop-actor.yielded c.loop-actor.actor-iterator c.loop-actor.yielded_by
    c.next.result c.next.new.self c.in-Some.actor c.in-Some.is c.next.ensures.steps in
    let actor : IsOwnActor board c.in-Some.actor =
    subst (IsOwnActor board) (sym turn.1)
    (c.requires.actors (length c.loop-actor.yielded) c.in-Some.actor turn.0) in
    let worker : Worker = record { actor = c.in-Some.actor; line = c.in-Some-pop.line; counted = 0 } in
    let now : c.push.new.self.items ≡ c.loop-actor.workers.items ++ worker ∷ [] = search rules in (
      popped.0,
      subst (All (IsOwn board)) (sym now)
          (All-push (IsOwn board) c.loop-actor.workers.items worker was.1 (actor, line)),
    )
