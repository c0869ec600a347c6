use Rattle.synic_board.specs.State.{State}
use Rattle.std.proofs.Common.{inl, ◌*◌, sym, ap, ◌∙◌, arith}
use Rattle.live_pages.specs.Words.{type_of}
use Rattle.live_board.specs.Live.{is_waiting}
use Rattle.live_board.specs.Words.{word_of}
use Rattle.live_board.proofs.EndedPart.{rest-eom, eom-on, eom-ends, eom-stays, part-ended, has-probed}
use Rattle.live_board.proofs.Kept.{kept-ended, left-type}
use Rattle.live_board.proofs.ending.end_shown.Goals as goal

pub publish-requires-clause-on : goal.publish-requires-clause-on
publish-requires-clause-on c =
    let mid : State = c.probe_waiting-words.new.board.state in
    eom-stays mid _ _ _ _ _
    (rest-eom c.args.board.now.state mid _ _ c.probe_waiting-words.ensures.probing.watched.rest c.requires.eom)
    c.facts.ensures.sound c.perform_after-reply.ensures.step

pub publish-requires-clause-kept : goal.publish-requires-clause-kept
publish-requires-clause-kept c =
    let s : State = c.args.board.now.state in
    let mid : State = c.probe_waiting-words.new.board.state in
    let one = c.perform_after-reply.ensures in
    let probing = c.probe_waiting-words.ensures.probing in
    let eom = rest-eom s mid _ _ probing.watched.rest c.requires.eom in
    kept-ended mid _ _ _ c.facts.ensures.shape c.facts.ensures.ranges c.facts-2.ensures.shape c.facts-2.ensures.ranges
    (eom-on mid _ _ eom) (eom-stays mid _ _ _ _ _ eom c.facts.ensures.sound one.step)
    (λ x low odd. sym (probing.knows x low) ∙ probing.fresh x low (inl odd))
    (λ i under. ap type_of (sym (probing.knows (32 * i) (omega (arith, under))))
    ∙ left-type (is_waiting s c.args.vp i) (word_of mid (2 * c.args.vp) (32 * i)) _ (probing.exact i under))
    (eom-ends mid _ _ _ _ _ eom one.step c.facts.ensures.sound c.facts.ensures.shape c.facts.ensures.ranges)

pub returns-clause-part : goal.returns-clause-part
returns-clause-part c =
    let s : State = c.args.board.now.state in
    let mid : State = c.probe_waiting-words.new.board.state in
    let one = c.perform_after-reply.ensures in
    let eom = rest-eom s mid _ _ c.probe_waiting-words.ensures.probing.watched.rest c.requires.eom in
    let ends = eom-ends mid _ _ _ _ _ eom one.step c.facts.ensures.sound c.facts.ensures.shape c.facts.ensures.ranges in
    part-ended s mid _ _ _ _ _ _ _ _ _ _ c.probe_waiting-words.ensures.probing c.facts.ensures.shape
    c.facts.ensures.ranges
    (eom-on mid _ _ eom) one ends c.publish.ensures.published

pub returns-clause-probed : goal.returns-clause-probed
returns-clause-probed c =
    has-probed c.args.board.now.state c.probe_waiting-words.new.board.state c.perform_after-reply.new.board.state _ _
    _ _ _ _ c.probe_waiting-words.ensures.probing c.publish.ensures.published
