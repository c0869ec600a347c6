use Rattle.std.proofs.Common.{◌≡◌, ◌*◌, ◌+◌, ap, ◌∙◌, rules}
use Rattle.std.specs.Prelude.{slice_get, None, Some}
use Rattle.synic_board.specs.declared.event.Event.TheVariants.{Store}
use Rattle.synic_board.specs.Step.{step}
use Rattle.live_board.proofs.Shown.{passed-other}
use Rattle.live_board.proofs.Passed.{has-word}
use Rattle.live_board.proofs.Watched.{passed-one, passed-none}
use Rattle.live_board.proofs.passing.store_found.Goals as goal

pub returns-in-Some : goal.returns-in-Some
returns-in-Some c =
    let s = c.args.board.now.state in
    let passed =
    passed-other s _ _ _ _ _ _ _ c.requires.other c.requires.shown c.requires.word
    (c.store.ensures.performs.step
    ∙ ap (step s) (λ i. Store (c.number.ensures.value i * 4096 + 8 * c.args.word)
    (record { items = c.to_le_bytes-bytes.ensures i }))) in
    let word = has-word _ _ _ _ _ _ _ c.facts.ensures.sound c.requires.on c.requires.word c.ranges.value.fits
    c.requires.shown passed in
    let first : slice_get c.store.new.notices 0 ≡ Some c.in-Some.notice.now = search rules in
    passed-one _ _ _ _ _ _ _ _ _ _ passed word first c.push.ensures

pub returns-in_default : goal.returns-in_default
returns-in_default c =
    let s = c.args.board.now.state in
    let passed =
    passed-other s _ _ _ _ _ _ _ c.requires.other c.requires.shown c.requires.word
    (c.store.ensures.performs.step
    ∙ ap (step s) (λ i. Store (c.number.ensures.value i * 4096 + 8 * c.args.word)
    (record { items = c.to_le_bytes-bytes.ensures i }))) in
    let word = has-word _ _ _ _ _ _ _ c.facts.ensures.sound c.requires.on c.requires.word c.ranges.value.fits
    c.requires.shown passed in
    let none : slice_get c.store.new.notices 0 ≡ None = search rules in
    passed-none _ _ _ _ _ _ _ _ passed word none
