use Rattle.std.proofs.Common.{◌∙◌}
use Rattle.shared_board.proofs.Runs.{enrolls}
use Rattle.shared_board.proofs.locked.LockedBoard.enroll.Goals as goal

pub invariant_of-self : goal.invariant_of-self
invariant_of-self g c =
    let s = c.self.inside in (
      c.enroll-part.ensures.names.0 ∙ c.self.invariant.0,
      enrolls g.S.Sharing.start s.board s.history.entries s.actors s.roster.rows c.enroll-part.new.self.rows
          c.self.invariant.1 c.enroll-part.ensures.rows,
    )
