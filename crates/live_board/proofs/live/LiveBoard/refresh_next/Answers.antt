use Rattle.std.proofs.Common.{ap}
use Rattle.synic_board.specs.State.{State, processors}
use Rattle.live_board.proofs.Guests.{refresh-changes}
use Rattle.live_board.proofs.live.LiveBoard.refresh_next.Goals as goal

pub returns-clause-refreshed : goal.returns-clause-refreshed
returns-clause-refreshed c = (
  c.refresh_own.new.notices,
  c.refresh_own.ensures,
  c.move_all.ensures.moved,
  c.move_all.ensures.few,
)

pub returns-clause-processors : goal.returns-clause-processors
returns-clause-processors c =
    ap (λ (s : State). processors s)
    (refresh-changes c.args.vp c.args.self.now c.refresh_own.new.self c.refresh_own.new.notices c.refresh_own.ensures)
