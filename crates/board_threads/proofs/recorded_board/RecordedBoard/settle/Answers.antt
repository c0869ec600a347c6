use Rattle.std.proofs.Common.{◌≡◌, ◌*◌, All, map, sym, ap, ◌∙◌, subst, Result, Ok, Err, IfOk}
use Rattle.std.proofs.lemmas.List.Elements.{All-map}
use Rattle.posted_words.specs.Words.{Words, Token, token, actions_of}
use Rattle.board_threads.specs.declared.settling.Ended.{Ended}
use Rattle.board_threads.specs.Sharing.{Acting}
use Rattle.actor_calls.specs.Absorbed.{AreAbsorbed}
use Rattle.board_threads.specs.Settling.{AreAllOf, IsSettled}
use Rattle.board_threads.proofs.Absorbs.{are-absorbed}
use Rattle.board_threads.proofs.recorded_board.RecordedBoard.settle.Goals as goal

-- a consequence of three facts about a value, if there is one
of-three : {A F : Type 0} (P Q R S : A → Type 0) → ((a : A) → P a → Q a → R a → S a) → (r : Result A F) → IfOk r P
    → IfOk r Q → IfOk r R → IfOk r S
of-three P Q R S f (Ok a) p q r = f a p q r
of-three P Q R S f (Err e) p q r = tt

pub gather-requires-clause-sweepers : goal.gather-requires-clause-sweepers
gather-requires-clause-sweepers g c =
    let name = ap (λ (w : Words). w.name) c.self.view_is in
    let own = All-map (λ (t : Token). t.of ≡ c.args.self.name)
    (λ (a : Acting). token a.of a.actions) c.args.actors.items c.requires.actors in
    let all = subst (All (λ (t : Token). t.of ≡ c.args.self.name)) (sym c.in_ok-sweepers.ensures.sweepers) own in
    λ k d lt. all k d lt ∙ sym name

pub gather-requires-clause-lines : goal.gather-requires-clause-lines
gather-requires-clause-lines g c = λ k d lt. c.requires.lines k d lt ∙ sym (ap (λ (w : Words). w.name) c.self.view_is)

pub returns-clause-raises : goal.returns-clause-raises
returns-clause-raises g c =
    let n = c.args.self.processors in
    let actors = c.in_ok-sweepers.actors.items in
    let standing = c.in_ok-standing.standing in
    let So = λ (e : Ended). AreAbsorbed (4 * n) (map actions_of c.args.lines.items) e.history.items e.standing in
    of-three (IsSettled g.S.Origin.start) (λ e. e.actors.items ≡ actors) (λ e. e.standing ≡ standing) So
    (λ e settled same left.
    subst (AreAbsorbed (4 * n) (map actions_of c.args.lines.items) e.history.items) (sym left)
    (subst (λ m. AreAbsorbed (4 * m) (map actions_of c.args.lines.items) e.history.items standing)
    (ap (λ (w : Words). w.processors) c.self.view_is)
    (are-absorbed _ c.in_ok-sweepers.sweepers.items c.args.actors.items actors c.args.lines.items e.history.items
    standing
    c.in_ok-sweepers.ensures.sweepers c.in_ok-sweepers.ensures.actors c.in_ok-sweepers.ensures.sweeps
    c.requires.raises (subst (AreAllOf e.history.items) same settled.actors)
    c.in_ok-standing.ensures.width c.in_ok-standing.ensures.settled)))
    c.end.result c.end.ensures.settled c.end.ensures.actors c.end.ensures.standing
