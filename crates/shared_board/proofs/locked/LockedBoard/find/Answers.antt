use Rattle.std.proofs.Common.{sym, subst, ◌∙◌}
use Rattle.shared_board.specs.Witnessed.{witnessed}
use Rattle.shared_board.specs.inside.Rostered.{IsRostered}
use Rattle.shared_board.proofs.Runs.{finds}
use Rattle.shared_board.proofs.locked.LockedBoard.find.Goals as goal

pub invariant_of-self : goal.invariant_of-self
invariant_of-self g c =
    let s = c.self.inside in (
      c.find.ensures.names.0 ∙ c.self.invariant.0,
      subst (IsRostered g.S.Sharing.start (witnessed s.board s.history.entries s.actors))
          (sym c.find.ensures.rows.0) c.self.invariant.1,
    )

pub returns-clause-own : goal.returns-clause-own
returns-clause-own g c =
    let s = c.self.inside in
    finds g.S.Sharing.start (witnessed s.board s.history.entries s.actors) c.args.self.now s.roster.rows
    c.actor.inside.part.row c.actor.inside.number c.args.actor.now c.self.invariant.1 c.find.ensures.rows.2
    c.actor.invariant.1 c.self.view_is c.actor.view_is
