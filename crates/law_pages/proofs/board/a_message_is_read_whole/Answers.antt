use Rattle.std.proofs.Common.{rules, ◌≡◌, ◌+◌, ◌*◌, sym, ap, ◌∙◌, subst}
use Rattle.board_terms.specs.declared.pages.Kind.TheVariants.{Sim}
use Rattle.event_ports.specs.declared.ports.Port.{Port}
use Rattle.live_pages.specs.Traces.{IsGuestLoad}
use Rattle.live_board.specs.Live.{LiveModel, log_of, slot_word}
use Rattle.live_board.specs.Acting.{HasPlacedAt}
use Rattle.law_pages.proofs.Reading.{read-whole}
use Rattle.law_pages.proofs.board.a_message_is_read_whole.Goals as goal

pub returns : goal.returns
returns c empty full =
    let t : Port = c.args.target.now in
    let live2 : LiveModel = c.post.new.self in
    let slot : 32 * c.from-slot.result ≡ 32 * t.sint = search rules in
    let placed = subst (λ (m : LiveModel). HasPlacedAt c.args.port m live2) c.guest_load-before.ensures.live
    c.post.ensures.2 t c.requires.open in
    let same : c.guest_load-found.new.self ≡ live2 =
    c.guest_load-found.ensures.live ∙ c.guest_load-header.ensures.live in
    read-whole t.sint (slot_word live2.board.state t.vp t.sint) (32 * c.from-slot.result) c.args.word _ _ _
    (log_of c.args.live.now t.vp Sim) (log_of live2 t.vp Sim) _ _ _ _ slot c.requires.word placed
    c.guest_load-before.ensures.seen c.guest_load-header.ensures.seen
    (subst (λ (m : LiveModel). IsGuestLoad (32 * c.from-slot.result + c.args.word) c.guest_load-found.result.0
    (log_of m t.vp Sim)
    c.guest_load-header.result.1.seen c.guest_load-found.result.1.seen) c.guest_load-header.ensures.live
    c.guest_load-found.ensures.seen) empty full
    ∙ ap (λ (m : LiveModel). slot_word m.board.state t.vp t.sint c.args.word) (sym same)
