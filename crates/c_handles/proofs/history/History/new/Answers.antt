use Rattle.std.proofs.Common.{sym}
use Rattle.synic_board.specs.State.{opened}
use Rattle.entry_log.proofs.Runs.{legal-none, leads-none}
use Rattle.c_handles.proofs.history.History.new.Goals as goal

pub invariant_of-result : goal.invariant_of-result
invariant_of-result c =
    (c.requires, legal-none (opened c.args.processors c.args.pages c.args.first_ticket) _ c.new.ensures)

pub returns-clause-leads : goal.returns-clause-leads
returns-clause-leads c = sym (leads-none (opened c.args.processors c.args.pages c.args.first_ticket) _ c.new.ensures)
