use Rattle.synic_board.specs.State.{State}
use Rattle.live_board.proofs.Kept.{kept-grown}
use Rattle.live_board.proofs.TimedPart.{timer-on, timer-grows, timer-stays, part-timed-hidden}
use Rattle.live_board.proofs.timing.time_hidden.Goals as goal

pub publish-requires-clause-on : goal.publish-requires-clause-on
publish-requires-clause-on c =
    timer-stays _ _ _ _ _ _ c.requires.timer c.facts.ensures.sound c.perform_after-reply.ensures.step

pub publish-requires-clause-kept : goal.publish-requires-clause-kept
publish-requires-clause-kept c =
    let s : State = c.args.board.now.state in
    let one = c.perform_after-reply.ensures in
    let grows = timer-grows s _ _ _ _ _ c.requires.timer one.step c.facts.ensures.sound in
    let on = timer-on s _ _ c.requires.timer in
    kept-grown s _ _ _ c.facts.ensures.shape c.facts.ensures.ranges c.facts-2.ensures.shape c.facts-2.ensures.ranges
    on (timer-stays s _ _ _ _ _ c.requires.timer c.facts.ensures.sound one.step) c.page_words-words.ensures.words
    (λ i under full. grows.slots _ i on under full) (λ i under empty. grows.fills _ i on under empty)

pub returns-clause-timed : goal.returns-clause-timed
returns-clause-timed c =
    let s : State = c.args.board.now.state in
    let one = c.perform_after-reply.ensures in
    let grows = timer-grows s _ _ _ _ _ c.requires.timer one.step c.facts.ensures.sound in
    part-timed-hidden s _ _ _ _ _ _ _ _ _ c.requires.empty c.requires.hidden one grows
    c.publish.ensures.published
