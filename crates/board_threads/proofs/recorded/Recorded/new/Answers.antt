use Rattle.std.proofs.Common.{ap, ◌∙◌}
use Rattle.entry_log.proofs.Runs.{legal-none, leads-none}
use Rattle.synic_board.specs.State.{processors}
use Rattle.board_threads.proofs.recorded.Recorded.new.Goals as goal

pub invariant_of-result : goal.invariant_of-result
invariant_of-result g c =
    let start = g.S.Origin.start in
    record {
      legal = legal-none start _ c.new.ensures;
      leads = c.requires ∙ leads-none start _ c.new.ensures;
      count = ap processors c.requires;
    }
