use Rattle.live_board.proofs.Watched.{look-is}
use Rattle.live_board.proofs.Named.{logged}
use Rattle.live_board.proofs.passing.look.Goals as goal

pub returns-clause-look : goal.returns-clause-look
returns-clause-look c =
    look-is _ _ _ _ _ _ _ _ _ _ c.requires.word c.requires.shown c.requires.known (logged c.load-found.ensures)
    c.pass.ensures
