use Rattle.std.proofs.Common.{length, arith, sym, ap, ◌∙◌, length-append}
use Rattle.synic_board.specs.State.{State}
use Rattle.live_board.proofs.Joined.{rest-shown}
use Rattle.live_board.proofs.Kept.{kept-grown}
use Rattle.live_board.proofs.TimedPart.{timer-on, timer-grows, timer-stays, timer-few, rest-timer, shown-same, timed-payload, timed-known, timed-heads, words-grow, part-timed}
use Rattle.board_terms.specs.declared.pages.Kind.TheVariants.{Sim}
use Rattle.live_board.proofs.timing.time_shown.Goals as goal

pub publish-requires-clause-on : goal.publish-requires-clause-on
publish-requires-clause-on c =
    let mid : State = c.look_at_slots.new.board.state in
    timer-stays mid _ _ _ _ _
    (rest-timer c.args.board.now.state mid _ _ c.look_at_slots.ensures.looks.watched.rest c.requires.timer)
    c.facts.ensures.sound c.perform_after-reply.ensures.step

pub publish-requires-clause-known : goal.publish-requires-clause-known
publish-requires-clause-known c x low =
    c.look_at_slots.ensures.looks.shadow x low ∙ sym (c.page_words-words.ensures.words x low)

pub publish-requires-clause-kept : goal.publish-requires-clause-kept
publish-requires-clause-kept c =
    let mid : State = c.look_at_slots.new.board.state in
    let one = c.perform_after-reply.ensures in
    let timer = rest-timer c.args.board.now.state mid _ _ c.look_at_slots.ensures.looks.watched.rest c.requires.timer in
    let grows = timer-grows mid _ _ _ _ _ timer one.step c.facts.ensures.sound in
    let on = timer-on mid _ _ timer in
    kept-grown mid _ _ _ c.facts.ensures.shape c.facts.ensures.ranges c.facts-2.ensures.shape c.facts-2.ensures.ranges
    on (timer-stays mid _ _ _ _ _ timer c.facts.ensures.sound one.step) c.page_words-words.ensures.words
    (λ i under full. grows.slots _ i on under full) (λ i under empty. grows.fills _ i on under empty)

pub mark_slots-owed-requires-clause-on : goal.mark_slots-owed-requires-clause-on
mark_slots-owed-requires-clause-on c =
    let mid : State = c.look_at_slots.new.board.state in
    timer-stays mid _ _ _ _ _
    (rest-timer c.args.board.now.state mid _ _ c.look_at_slots.ensures.looks.watched.rest c.requires.timer)
    c.facts.ensures.sound c.perform_after-reply.ensures.step

pub mark_slots-owed-requires-clause-shown : goal.mark_slots-owed-requires-clause-shown
mark_slots-owed-requires-clause-shown c =
    let s : State = c.args.board.now.state in
    let mid : State = c.look_at_slots.new.board.state in
    let timer = rest-timer s mid _ _ c.look_at_slots.ensures.looks.watched.rest c.requires.timer in
    let grows = timer-grows mid _ _ _ _ _ timer c.perform_after-reply.ensures.step c.facts.ensures.sound in
    shown-same mid c.perform_after-reply.new.board.state _ grows.regs grows.pages
    (rest-shown s mid _ Sim c.look_at_slots.ensures.looks.watched.rest c.requires.shown)

pub mark_slots-owed-requires-clause-payload : goal.mark_slots-owed-requires-clause-payload
mark_slots-owed-requires-clause-payload c =
    let mid : State = c.look_at_slots.new.board.state in
    let timer = rest-timer c.args.board.now.state mid _ _ c.look_at_slots.ensures.looks.watched.rest c.requires.timer in
    let grows = timer-grows mid _ _ _ _ _ timer c.perform_after-reply.ensures.step c.facts.ensures.sound in
    timed-payload _ _ _ _ _ (λ x low. c.look_at_slots.ensures.looks.shadow x low
    ∙ sym (c.page_words-words.ensures.words x low)) c.publish.ensures.published
    (words-grow mid _ _ _ c.page_words-words.ensures.words
    (λ i under full. grows.slots _ i (timer-on mid _ _ timer) under full) c.facts.ensures.shape
    c.facts.ensures.ranges (timer-on mid _ _ timer))

pub mark_slots-owed-requires-clause-known : goal.mark_slots-owed-requires-clause-known
mark_slots-owed-requires-clause-known c =
    let mid : State = c.look_at_slots.new.board.state in
    let timer = rest-timer c.args.board.now.state mid _ _ c.look_at_slots.ensures.looks.watched.rest c.requires.timer in
    let grows = timer-grows mid _ _ _ _ _ timer c.perform_after-reply.ensures.step c.facts.ensures.sound in
    timed-known _ _ _ _ _ (λ x low. c.look_at_slots.ensures.looks.shadow x low
    ∙ sym (c.page_words-words.ensures.words x low)) c.publish.ensures.published
    (words-grow mid _ _ _ c.page_words-words.ensures.words
    (λ i under full. grows.slots _ i (timer-on mid _ _ timer) under full) c.facts.ensures.shape
    c.facts.ensures.ranges (timer-on mid _ _ timer))

pub mark_slots-owed-requires-clause-headers : goal.mark_slots-owed-requires-clause-headers
mark_slots-owed-requires-clause-headers c =
    let mid : State = c.look_at_slots.new.board.state in
    let timer = rest-timer c.args.board.now.state mid _ _ c.look_at_slots.ensures.looks.watched.rest c.requires.timer in
    let grows = timer-grows mid _ _ _ _ _ timer c.perform_after-reply.ensures.step c.facts.ensures.sound in
    timed-heads _ _ _ _ _ (λ x low. c.look_at_slots.ensures.looks.shadow x low
    ∙ sym (c.page_words-words.ensures.words x low)) c.publish.ensures.published
    (words-grow mid _ _ _ c.page_words-words.ensures.words
    (λ i under full. grows.slots _ i (timer-on mid _ _ timer) under full) c.facts.ensures.shape
    c.facts.ensures.ranges (timer-on mid _ _ timer))

pub mark_slots-owed-requires-clause-capacity : goal.mark_slots-owed-requires-clause-capacity
mark_slots-owed-requires-clause-capacity c =
    let one = c.perform_after-reply.ensures in
    let few = timer-few c.args.board.now.state _ _ c.requires.timer in
    omega (
      arith,
      ap length one.notices,
      length-append c.look_at_slots.new.notices one.emitted,
      one.bound,
      few,
      c.look_at_slots.ensures.looks.few,
    )

pub returns-clause-timed : goal.returns-clause-timed
returns-clause-timed c =
    let s : State = c.args.board.now.state in
    let mid : State = c.look_at_slots.new.board.state in
    let one = c.perform_after-reply.ensures in
    let timer = rest-timer s mid _ _ c.look_at_slots.ensures.looks.watched.rest c.requires.timer in
    let grows = timer-grows mid _ _ _ _ _ timer one.step c.facts.ensures.sound in
    part-timed s mid _ _ _ _ _ _ _ _ _ _ _ _ _ _ c.requires.shown c.look_at_slots.ensures.looks one
    grows
    c.publish.ensures.published c.mark_slots-owed.ensures.marking
