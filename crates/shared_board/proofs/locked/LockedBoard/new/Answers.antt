use Rattle.shared_board.proofs.Runs.{begins}
use Rattle.shared_board.proofs.locked.LockedBoard.new.Goals as goal

pub invariant_of-result : goal.invariant_of-result
invariant_of-result g c = (
  c.requires.name,
  begins g.S.Sharing.start c.args.board c.new.result.entries c.args.roster.rows c.new.ensures
      c.requires.empty c.requires.start,
)
