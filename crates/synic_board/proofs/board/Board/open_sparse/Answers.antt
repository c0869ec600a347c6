use Rattle.std.proofs.Common.{subst, sym, arith}
use Rattle.synic_board.specs.Sound.{IsSound}
use Rattle.synic_board.specs.Buffers.{HasBuffers}
use Rattle.synic_board.specs.Paired.{HasPairedTimers}
use Rattle.synic_board.proofs.keeping.Opened.{sound-opened}
use Rattle.synic_board.proofs.keeping.Buffers.{buffers-opened}
use Rattle.synic_board.proofs.keeping.Settled.{settled-opened}
use Rattle.synic_board.proofs.board.Board.open_sparse.Goals as goal

pub invariant_of-result : goal.invariant_of-result
invariant_of-result c = (
  subst IsSound (sym c.in-Ok.ensures.opened) (sound-opened c.args.processors 0 c.args.first_ticket),
  subst HasBuffers (sym c.in-Ok.ensures.opened) (buffers-opened c.args.processors 0 c.args.first_ticket),
  subst HasPairedTimers (sym c.in-Ok.ensures.opened)
      (settled-opened c.args.processors 0 c.args.first_ticket (omega arith)),
)
