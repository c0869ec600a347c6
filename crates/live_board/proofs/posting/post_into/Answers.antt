use Rattle.std.proofs.Common.{◌≡◌, ◌*◌, ◌+◌, ap, arith, sym, ◌∙◌}
use Rattle.synic_board.specs.State.{State}
use Rattle.live_board.specs.Words.{word_of}
use Rattle.live_board.proofs.Staying.{stays}
use Rattle.live_board.proofs.Part.{made, kept-payload, header-bytes}
use Rattle.live_board.proofs.posting.post_into.Goals as goal

pub slot_words-after-requires : goal.slot_words-after-requires
slot_words-after-requires c =
    let same =
    stays _ _ _ _ _ c.requires.fits c.facts.ensures.sound c.perform_post-reply.ensures.step in
    omega (arith, same, c.requires.on)

pub fill-requires-clause-payload : goal.fill-requires-clause-payload
fill-requires-clause-payload c is k some low =
    let s : State = c.args.board.now.state in
    let now : State = c.perform_post-reply.new.board.state in
    let size = stays _ _ _ _ _ c.requires.fits c.facts.ensures.sound c.perform_post-reply.ensures.step in
    let bytes = header-bytes s c.args.port.now.vp c.args.port.now.sint c.facts.ensures.shape c.facts.ensures.ranges
    c.requires.on c.requires.source in
    let after = header-bytes now c.args.port.now.vp c.args.port.now.sint c.facts-2.ensures.shape
    c.facts-2.ensures.ranges (omega (arith, size, c.requires.on)) c.requires.source in
    let m = made s _ _ _ _ _ _ c.args.port.now c.perform_post-reply.ensures.step c.requires.open
    c.facts.ensures.sound c.requires.fits bytes in
    let head = sym (c.slot_words-after.ensures 0 (omega arith)) ∙ is in
    c.requires.others (32 * c.args.port.now.sint + k) (omega (arith, low, c.requires.source))
    (λ e. omega (arith, e, some))
    ∙ sym (kept-payload s now c.args.number c.args.kind c.args.port.now c.args.left c.requires.source bytes after m
    c.requires.like (ap (λ n. word_of now (2 * c.args.port.now.vp) n) (let z : 32 * c.args.port.now.sint
    ≡ 32 * c.args.port.now.sint + 0 = omega arith in z) ∙ head) k some low)
    ∙ sym (c.slot_words-after.ensures k low)
