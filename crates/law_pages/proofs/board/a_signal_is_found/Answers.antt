use Rattle.std.proofs.Common.{rules, ◌≡◌, ◌+◌, ◌*◌, ◌/◌, ◌%◌, List, [], ◌∷◌, ◌++◌, ap, ◌∙◌, subst}
use Rattle.std.specs.Int.{bit_at}
use Rattle.std.proofs.lemmas.List.Elements.{All-nil}
use Rattle.std.proofs.lemmas.Nat.Bits.{bit_at-pow_same}
use Rattle.board_terms.specs.declared.pages.Kind.TheVariants.{Sief}
use Rattle.event_ports.specs.declared.ports.Port.{Port}
use Rattle.live_pages.specs.Words.{flag_word, flag_mask}
use Rattle.live_pages.specs.Traces.{memory, hosts_turns}
use Rattle.live_pages.specs.declared.access.Access.{Access}
use Rattle.live_pages.specs.declared.access.Access.TheVariants.{FetchOr}
use Rattle.live_pages.specs.declared.access.Turn.{Turn}
use Rattle.live_pages.proofs.Tracing.{a_signalled_flag_stays}
use Rattle.live_board.specs.Live.{LiveModel, log_of}
use Rattle.live_board.specs.Signals.{HasSetAt}
use Rattle.law_pages.proofs.Wholes.{learns, sees_load}
use Rattle.law_pages.proofs.board.a_signal_is_found.Goals as goal

pub returns : goal.returns
returns c =
    let t : Port = c.args.target.now in
    let live2 : LiveModel = c.signal.new.self in
    let seen1 : List Turn = c.guest_load-guest.result.1.seen in
    let set = subst (λ (m : LiveModel). HasSetAt c.args.port c.args.flag m live2 c.signal.result)
    c.guest_load-guest.ensures.live c.signal.ensures.1 in
    let one = set t c.args.place c.requires.open c.requires.accepted c.requires.shown in
    let w = flag_word t.sint c.args.place in
    let mask = flag_mask c.args.place in
    let bit = c.args.place % 64 in
    let news : List Access = FetchOr w mask one.0 ∷ [] in
    let word : 32 * c.from.result + c.from-2.result ≡ 32 * t.sint + c.args.place / 64 = search rules in
    let r = learns (32 * c.from.result + c.from-2.result) c.guest_load.result.0 news (log_of c.args.live.now t.vp Sief)
    (log_of live2 t.vp Sief) seen1 c.guest_load.result.1.seen
    (sees_load _ _ _ _ _ c.guest_load-guest.ensures.seen) one.1 c.guest_load.ensures.seen in
    ap (λ n. bit_at n bit) (r.1 ∙ ap (memory (hosts_turns news ++ seen1)) word)
    ∙ a_signalled_flag_stays [] seen1 w mask one.0 bit r.0 (bit_at-pow_same bit) (All-nil _)
