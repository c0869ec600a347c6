use Rattle.std.proofs.Common.{rules, ◌≡◌, ap, ◌∙◌}
use Rattle.std.specs.Prelude.{None}
use Rattle.board_terms.specs.declared.pages.Kind.TheVariants.{Sief}
use Rattle.live_board.specs.Signals.{signalled_flag}
use Rattle.live_board.proofs.Signalled.{own-stepped, after_signal, part-untouched}
use Rattle.live_board.proofs.signalling.signal_to.Goals as goal

pub returns-in_default-clause-part : goal.returns-in_default-clause-part
returns-in_default-clause-part c =
    let s = c.args.board.now.state in
    let port = c.args.port.now in
    let one = c.perform_signal.ensures in
    let none : signalled_flag s c.args.flag port ≡ None = search rules in
    let own = own-stepped s _ c.args.number c.args.flag port _ _ c.requires.open one.step
    ∙ ap (after_signal s port.vp port.sint) none in
    part-untouched s _ port.vp Sief _ _ _ _ _ c.requires.empty c.requires.shadow own one
