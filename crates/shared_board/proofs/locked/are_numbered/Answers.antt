use Rattle.std.proofs.Common.{rules}
use Rattle.shared_board.proofs.Rows.{numbered}
use Rattle.shared_board.proofs.locked.are_numbered.Goals as goal

pub loop-index-preserved : goal.loop-index-preserved
loop-index-preserved g c =
    numbered c.args.actors.now c.loop-index.index c.index-actors-index.result c.loop-index-test.true
    c.index-actors-index.is (search rules) c.loop-index.invariant
