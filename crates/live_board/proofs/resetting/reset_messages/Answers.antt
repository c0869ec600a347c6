use Rattle.live_board.proofs.Cleared.{part-reset}
use Rattle.live_board.proofs.resetting.reset_messages.Goals as goal

pub returns-clause-part : goal.returns-clause-part
returns-clause-part c = part-reset _ _ _ _ _ _ _ _ _ _ _ c.requires.reset c.requires.on c.requires.inside
    c.view_slots.ensures.viewed
    c.perform_after-reply.ensures c.clear.ensures.cleared
