use Rattle.std.proofs.Common.{refl, []}
use Rattle.synic_board.specs.State.{State}
use Rattle.live_board.proofs.Part.{made, part-filled, header-bytes}
use Rattle.live_board.proofs.Watched.{unwatched}
use Rattle.board_terms.specs.declared.pages.Kind.TheVariants.{Sim}
use Rattle.live_board.proofs.Placed.{placed-filled}
use Rattle.live_board.proofs.posting.post_hidden.Goals as goal

pub returns-clause-part : goal.returns-clause-part
returns-clause-part c =
    let s : State = c.args.board.now.state in
    let into = c.post_into.ensures.into in
    let reached = c.facts.ensures.sound.whole.ports c.args.number c.args.port.now c.requires.open in
    let bytes = header-bytes s c.args.port.now.vp c.args.port.now.sint c.facts.ensures.shape c.facts.ensures.ranges
    reached.0 reached.1 in
    let m = made s _ _ _ _ _ _ c.args.port.now into.step.step c.requires.open c.facts.ensures.sound c.requires.fits
    bytes in
    part-filled s s _ c.args.number c.args.kind c.args.port.now _ _ _ _ _ _ _ _ _ reached.1
    (unwatched s c.args.port.now.vp Sim c.args.page.now.log [] refl) c.requires.empty
    (λ x low _. c.requires.shadow x low) into m (λ shown. absurd (c.requires.hidden shown))

pub returns-clause-placed : goal.returns-clause-placed
returns-clause-placed c =
    placed-filled c.post_into.new.board.state c.args.port.now.vp c.args.port.now.sint _ _ _ _ _ [] tt refl
    c.post_into.ensures.into.are c.post_into.ensures.into.filled
