use Rattle.live_board.proofs.Watched.{mark-is}
use Rattle.live_board.proofs.Named.{logged}
use Rattle.live_board.proofs.passing.mark.Goals as goal

pub returns-clause-mark : goal.returns-clause-mark
returns-clause-mark c =
    mark-is _ _ _ _ _ _ _ _ _ _ _ c.requires.word c.requires.shown c.requires.known
    (logged c.fetch_or-found.ensures) c.pass.ensures
