use Rattle.std.proofs.Common.{rules}
use Rattle.live_board.specs.Live.{IsShown}
use Rattle.live_board.proofs.Refreshed.{loaded-shown, loaded-hidden}
use Rattle.live_board.proofs.refreshing.refresh_page.Goals as goal

pub returns-then-is_shown-clause-loaded : goal.returns-then-is_shown-clause-loaded
returns-then-is_shown-clause-loaded c =
    let shown : IsShown c.args.board.now.state c.args.vp c.args.kind = c.is_shown.ensures.0 c.if-is_shown.true in
    loaded-shown _ _ _ _ _ _ _ _ shown c.load_words.ensures.loads

pub returns-else-is_shown-clause-loaded : goal.returns-else-is_shown-clause-loaded
returns-else-is_shown-clause-loaded c =
    let hidden : IsShown c.args.board.now.state c.args.vp c.args.kind → ⊥ = search rules in
    loaded-hidden _ _ _ _ _ hidden c.requires.shadow
