use Rattle.std.proofs.Common.{rules}
use Rattle.live_board.proofs.Calm.{same-accessed}
use Rattle.live_board.proofs.live.LiveBoard.access.Goals as goal

pub perform_apart-requires : goal.perform_apart-requires
perform_apart-requires c = same-accessed _ _ _ c.requires (search rules)
