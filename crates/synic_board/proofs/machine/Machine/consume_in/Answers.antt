use Rattle.std.proofs.Common.{◌<◌, IfSome, None, Some, ap, sym, subst, ◌∙◌, append-nil}
use Rattle.board_terms.specs.declared.pages.Owner.TheVariants.{Sim}
use Rattle.synic_board.specs.inside.Effected.{preceded}
use Rattle.synic_board.specs.Stores.{consumed_in}
use Rattle.synic_board.specs.inside.Touches.{OthersFree}
use Rattle.synic_board.proofs.Touching.{none-consumed, one-consumed}
use Rattle.synic_board.proofs.machine.Machine.consume_in.Goals as goal

pub returns-in_default-clause-effect : goal.returns-in_default-clause-effect
returns-in_default-clause-effect c =
    let s = c.args.self.now.state in
    let emitted = c.args.notices.now in
    let others : OthersFree s (Sim c.in-Sim.vp) None =
    subst (λ o. OthersFree s o None) c.in-Sim.is
    (subst (λ slot. OthersFree s c.args.owner slot) c.in_default.is c.requires.others) in
    let none = none-consumed s c.in-Sim.vp (λ i low. others i low (λ e. absurd (cc))) in
    ap (λ ns. (s, ns)) (sym (append-nil emitted)) ∙ ap (preceded emitted) (sym none)
    ∙ ap (λ o. preceded emitted (consumed_in s o)) (sym c.in-Sim.is)

pub returns-in-Some-clause-effect : goal.returns-in-Some-clause-effect
returns-in-Some-clause-effect c =
    let s = c.args.self.now.state in
    let emitted = c.args.notices.now in
    let others : OthersFree s (Sim c.in-Sim.vp) (Some c.in-Some.sint) =
    subst (λ o. OthersFree s o (Some c.in-Some.sint)) c.in-Sim.is
    (subst (λ slot. OthersFree s c.args.owner slot) c.in-Some.is c.requires.others) in
    let low = subst (λ slot. IfSome slot (λ sint. sint < 16)) c.in-Some.is c.requires.range in
    let one = one-consumed s c.in-Sim.vp c.in-Some.sint low
    (λ i under ne. others i under (λ e. ne (let f = e in cc))) in
    c.consume.ensures.effect ∙ ap (preceded emitted) (sym one)
    ∙ ap (λ o. preceded emitted (consumed_in s o)) (sym c.in-Sim.is)
