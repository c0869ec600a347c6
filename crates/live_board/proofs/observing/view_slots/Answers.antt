use Rattle.std.proofs.Common.{rules}
use Rattle.board_terms.specs.declared.pages.Kind.TheVariants.{Sim}
use Rattle.live_board.specs.Live.{IsShown}
use Rattle.live_board.proofs.Part.{viewed-looks, viewed-none}
use Rattle.live_board.proofs.observing.view_slots.Goals as goal

pub returns-then-is_shown-clause-viewed : goal.returns-then-is_shown-clause-viewed
returns-then-is_shown-clause-viewed c =
    let shown : IsShown c.args.board.now.state c.args.vp Sim = c.is_shown.ensures.0 c.if-is_shown.true in
    viewed-looks _ _ _ _ _ _ shown c.look_at_slots.ensures.looks

pub returns-else-is_shown-clause-viewed : goal.returns-else-is_shown-clause-viewed
returns-else-is_shown-clause-viewed c =
    let hidden : IsShown c.args.board.now.state c.args.vp Sim → ⊥ = search rules in
    viewed-none _ _ _ _ hidden c.requires.empty c.requires.shadow
