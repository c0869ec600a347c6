use Rattle.std.proofs.Common.{◌≡◌, sym, ap, ◌∙◌, subst}
use Rattle.synic_board.specs.Effects.{Outcome}
use Rattle.synic_board.specs.declared.event.Event.TheVariants.{Write}
use Rattle.synic_board.specs.Step.{step}
use Rattle.live_board.specs.Live.{LiveModel}
use Rattle.live_board.proofs.Shadowed.{same-shadows}
use Rattle.live_board.proofs.live.LiveBoard.write_after.Goals as goal

pub invariant_of-self : goal.invariant_of-self
invariant_of-self c =
    let own = subst (λ (m : LiveModel). (step m.board.state
    (Write c.args.vp c.args.register c.args.value)).0.own ≡ m.board.state.own) (sym c.self.view_is) c.requires.own in
    same-shadows _ _ _ (ap (λ (o : Outcome). o.0.own) c.perform_write.ensures.step ∙ own) c.self.invariant
