use Rattle.std.proofs.Common.{rules, ◌≡◌, ◌<◌, ◌*◌, ◌+◌, ◌/◌, ◌%◌, ◌^◌, true, false, arith, refl, sym, ap, ◌∙◌, subst, Some, ◌∷◌}
use Rattle.event_ports.specs.Ports.{port_at}
use Rattle.synic_board.specs.declared.event.Event.TheVariants.{Signal}
use Rattle.synic_board.specs.declared.event.Reply.{Reply}
use Rattle.synic_board.specs.State.{State, processors, ports_of}
use Rattle.live_board.specs.inside.Parts.{IsStep}
use Rattle.live_board.specs.Signals.{signal_reply}
use Rattle.live_pages.specs.declared.access.Access.TheVariants.{FetchOr}
use Rattle.live_board.proofs.Again.{set-again, set-anew, flag-seen}
use Rattle.live_board.proofs.Signalled.{set-by, part-marked, rest-signalled, mark-at}
use Rattle.live_board.proofs.signalling.signal_shown.Goals as goal

pub returns-then-is_set-clause-part : goal.returns-then-is_set-clause-part
returns-then-is_set-clause-part c =
    let s : State = c.args.board.now.state in
    let mid : State = c.mark-found.new.board.state in
    let port = c.args.port.now in
    let m = c.mark-found.ensures.mark in
    let word : 32 * c.from.result + c.from-2.result ≡ 32 * port.sint + c.args.place / 64 = search rules in
    let mask : 1 * 2 ^ (c.args.place % 64) % 2 ^ 64 ≡ 2 ^ (c.args.place % 64) = search rules in
    let marked = mark-at _ _ _ _ _ _ _ _ _ _ _ _ word mask m in
    let there : port_at (ports_of mid) c.args.number ≡ Some port =
    ap (λ (t : State). port_at (ports_of t) c.args.number) m.watched.rest ∙ c.requires.open in
    let place = rest-signalled s mid c.args.flag port m.watched.rest ∙ c.requires.place in
    let on : port.vp < processors mid = omega (arith, c.requires.on, ap processors m.watched.rest) in
    let seen = flag-seen mid port.vp port.sint c.args.place c.mark-found.result
    (c.args.place % 64) marked.word.here refl c.facts-2.ensures.shape c.facts-2.ensures.ranges on
    c.requires.source c.requires.range in
    let yes : c.is_set.result ≡ true = search rules in
    let one = set-again mid c.args.number c.args.flag c.args.place port c.mark-found.new.notices there place
    (seen ∙ sym c.is_set.ensures ∙ yes) in
    let set = set-by mid mid c.args.number c.args.flag c.args.place port _ _ _ there place c.requires.range
    c.requires.source c.facts-2.ensures.shape c.facts-2.ensures.ranges on one in
    part-marked s mid mid port.vp (32 * port.sint + c.args.place / 64) _ _ _ _ _ _ _ _ _ c.requires.empty
    (omega (arith, c.requires.source, c.requires.range)) c.requires.shadow marked one set

pub returns-clause-part : goal.returns-clause-part
returns-clause-part c =
    let s : State = c.args.board.now.state in
    let mid : State = c.mark-found.new.board.state in
    let port = c.args.port.now in
    let m = c.mark-found.ensures.mark in
    let word : 32 * c.from.result + c.from-2.result ≡ 32 * port.sint + c.args.place / 64 = search rules in
    let mask : 1 * 2 ^ (c.args.place % 64) % 2 ^ 64 ≡ 2 ^ (c.args.place % 64) = search rules in
    let marked = mark-at _ _ _ _ _ _ _ _ _ _ _ _ word mask m in
    let there : port_at (ports_of mid) c.args.number ≡ Some port =
    ap (λ (t : State). port_at (ports_of t) c.args.number) m.watched.rest ∙ c.requires.open in
    let place = rest-signalled s mid c.args.flag port m.watched.rest ∙ c.requires.place in
    let on : port.vp < processors mid = omega (arith, c.requires.on, ap processors m.watched.rest) in
    let seen = flag-seen mid port.vp port.sint c.args.place c.mark-found.result
    (c.args.place % 64) marked.word.here refl c.facts-2.ensures.shape c.facts-2.ensures.ranges on
    c.requires.source c.requires.range in
    let no : c.is_set.result ≡ false = search rules in
    let anew = set-anew mid _ c.args.number c.args.flag c.args.place port _ _ there place
    (seen ∙ sym c.is_set.ensures ∙ no) c.perform_signal.ensures.step in
    let one = subst (λ (r : Reply). IsStep mid
    (Signal c.args.number c.args.flag) c.perform_signal.new.board.state r c.mark-found.new.notices
    c.perform_signal.new.notices) anew c.perform_signal.ensures in
    let set = set-by mid _ c.args.number c.args.flag c.args.place port _ _ _ there place c.requires.range
    c.requires.source c.facts-2.ensures.shape c.facts-2.ensures.ranges on one in
    part-marked s mid _ port.vp (32 * port.sint + c.args.place / 64) _ _ _ _ _ _ _ _ _ c.requires.empty
    (omega (arith, c.requires.source, c.requires.range)) c.requires.shadow marked one set

pub returns-then-is_set-clause-set : goal.returns-then-is_set-clause-set
returns-then-is_set-clause-set c =
    let port = c.args.port.now in
    let m = c.mark-found.ensures.mark in
    let word : 32 * c.from.result + c.from-2.result ≡ 32 * port.sint + c.args.place / 64 = search rules in
    let mask : 1 * 2 ^ (c.args.place % 64) % 2 ^ 64 ≡ 2 ^ (c.args.place % 64) = search rules in
    let bit : c.is_set.result ≡ true = search rules in (
      c.mark-found.result,
      m.page ∙ (λ i. FetchOr (word i) (mask i) c.mark-found.result ∷ c.args.page.now.log),
      ap signal_reply (sym bit ∙ c.is_set.ensures),
    )

pub returns-clause-set : goal.returns-clause-set
returns-clause-set c =
    let port = c.args.port.now in
    let m = c.mark-found.ensures.mark in
    let word : 32 * c.from.result + c.from-2.result ≡ 32 * port.sint + c.args.place / 64 = search rules in
    let mask : 1 * 2 ^ (c.args.place % 64) % 2 ^ 64 ≡ 2 ^ (c.args.place % 64) = search rules in
    let bit : c.is_set.result ≡ false = search rules in (
      c.mark-found.result,
      m.page ∙ (λ i. FetchOr (word i) (mask i) c.mark-found.result ∷ c.args.page.now.log),
      ap signal_reply (sym bit ∙ c.is_set.ensures),
    )
