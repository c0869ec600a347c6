use Rattle.std.proofs.Common.{rules}
use Rattle.board_terms.specs.declared.pages.Kind.TheVariants.{Sim}
use Rattle.live_board.specs.Live.{IsShown}
use Rattle.live_board.proofs.Finished.{finished-hidden, finished-shown}
use Rattle.live_board.proofs.TimedPart.{timed-payload, timed-known, timed-heads}
use Rattle.live_board.proofs.ticking.finish.Goals as goal

pub returns-then-not-is_shown-clause-finished : goal.returns-then-not-is_shown-clause-finished
returns-then-not-is_shown-clause-finished c =
    let hidden : IsShown c.args.board.now.state c.args.vp Sim → ⊥ = search rules in
    finished-hidden _ _ _ _ _ _ hidden c.publish.ensures.published

pub mark_slots-requires-clause-payload : goal.mark_slots-requires-clause-payload
mark_slots-requires-clause-payload c = timed-payload _ _ _ _ _ c.requires.known c.publish-2.ensures.published
    c.requires.grow

pub mark_slots-requires-clause-known : goal.mark_slots-requires-clause-known
mark_slots-requires-clause-known c = timed-known _ _ _ _ _ c.requires.known c.publish-2.ensures.published
    c.requires.grow

pub mark_slots-requires-clause-headers : goal.mark_slots-requires-clause-headers
mark_slots-requires-clause-headers c = timed-heads _ _ _ _ _ c.requires.known c.publish-2.ensures.published
    c.requires.grow

pub returns-clause-finished : goal.returns-clause-finished
returns-clause-finished c =
    let shown : IsShown c.args.board.now.state c.args.vp Sim = search rules in
    finished-shown _ _ _ _ _ _ _ _ _ _ shown c.publish-2.ensures.published c.mark_slots.ensures.marking
