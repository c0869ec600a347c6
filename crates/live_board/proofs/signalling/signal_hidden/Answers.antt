use Rattle.std.proofs.Common.{rules, ◌≡◌, ◌*◌, ◌+◌, ◌/◌, arith, ap, ◌∙◌, ◌∷◌}
use Rattle.synic_board.specs.State.{State}
use Rattle.live_pages.specs.declared.access.Access.TheVariants.{Store}
use Rattle.live_board.specs.Words.{word_of}
use Rattle.live_board.proofs.Staying.{stays}
use Rattle.live_board.proofs.Signalled.{set-by, part-stored}
use Rattle.live_board.proofs.Named.{logged}
use Rattle.live_board.proofs.signalling.signal_hidden.Goals as goal

pub own_word-requires-clause-on : goal.own_word-requires-clause-on
own_word-requires-clause-on c =
    let same =
    stays _ _ _ _ _ tt c.facts.ensures.sound c.perform_signal-reply.ensures.step in omega (arith, same, c.requires.on)

pub returns-clause-part : goal.returns-clause-part
returns-clause-part c =
    let s : State = c.args.board.now.state in
    let one = c.perform_signal-reply.ensures in
    let word : 32 * c.from.result + c.from-2.result ≡ 32 * c.args.port.now.sint + c.args.place / 64 = search rules in
    let now : State = c.perform_signal-reply.new.board.state in
    let set = set-by s now c.args.number c.args.flag c.args.place c.args.port.now _ _ _ c.requires.open
    c.requires.place c.requires.range c.requires.source c.facts.ensures.shape c.facts.ensures.ranges c.requires.on
    one in
    let stored =
    (logged c.store.ensures) ∙ (λ i. Store (32 * c.from.result + c.from-2.result) (c.own_word.ensures i) ∷
    c.args.page.now.log)
    ∙ ap (λ w. Store w (word_of now (2 * c.args.port.now.vp + 1) w) ∷ c.args.page.now.log) word in
    part-stored s now c.args.port.now.vp
    (32 * c.args.port.now.sint + c.args.place / 64) _ _ _ _ _ _ _ c.requires.empty
    (omega (arith, c.requires.source, c.requires.range)) c.requires.shadow one set stored c.requires.hidden
