use Rattle.synic_board.specs.State.{State}
use Rattle.std.proofs.Common.{◌*◌, ap, arith}
use Rattle.live_pages.specs.Words.{type_of}
use Rattle.live_board.proofs.EndedPart.{eom-on, eom-ends, eom-stays, part-ended-hidden}
use Rattle.live_board.proofs.Kept.{kept-ended}
use Rattle.live_board.proofs.ending.end_hidden.Goals as goal

pub publish-requires-clause-on : goal.publish-requires-clause-on
publish-requires-clause-on c =
    eom-stays _ _ _ _ _ _ c.requires.eom c.facts.ensures.sound c.perform_after-reply.ensures.step

pub publish-requires-clause-kept : goal.publish-requires-clause-kept
publish-requires-clause-kept c =
    let s : State = c.args.board.now.state in
    let one = c.perform_after-reply.ensures in
    let stays = eom-stays s _ _ _ _ _ c.requires.eom c.facts.ensures.sound one.step in
    kept-ended s _ _ _ c.facts.ensures.shape c.facts.ensures.ranges c.facts-2.ensures.shape c.facts-2.ensures.ranges
    (eom-on s _ _ c.requires.eom) stays
    (λ x low _. c.page_words-words.ensures.words x low)
    (λ i under. ap type_of (c.page_words-words.ensures.words (32 * i) (omega (arith, under))))
    (eom-ends s _ _ _ _ _ c.requires.eom one.step c.facts.ensures.sound c.facts.ensures.shape c.facts.ensures.ranges)

pub returns-clause-part : goal.returns-clause-part
returns-clause-part c =
    let s : State = c.args.board.now.state in
    let one = c.perform_after-reply.ensures in
    let ends = eom-ends s _ _ _ _ _ c.requires.eom one.step c.facts.ensures.sound c.facts.ensures.shape
    c.facts.ensures.ranges in
    part-ended-hidden s _ _ _ _ _ _ _ _ _ c.requires.empty c.requires.hidden one ends c.publish.ensures.published
