use Rattle.std.proofs.Common.{◌≡◌, refl, sym, ap, ◌∙◌, subst}
use Rattle.synic_board.specs.Effects.{Outcome}
use Rattle.synic_board.specs.Step.{step}
use Rattle.live_board.specs.Live.{LiveModel}
use Rattle.live_board.proofs.Shadowed.{same-shadows}
use Rattle.live_board.proofs.Named.{same-at, quietly-named}
use Rattle.live_board.proofs.live.LiveBoard.perform_apart.Goals as goal

pub invariant_of-self : goal.invariant_of-self
invariant_of-self c =
    let own = subst (λ (m : LiveModel). (step m.board.state c.args.event.now).0.own ≡ m.board.state.own)
    (sym c.self.view_is) c.requires in
    same-shadows _ _ _ (ap (λ (o : Outcome). o.0.own) c.perform.ensures.performs.step ∙ own) c.self.invariant

pub returns : goal.returns
returns c = same-at (quietly-named _ _ _) c.self.inside.board c.perform.new.self c.self.inside.pages.items _
    c.self.view_is
    (record { pages = refl; names = refl; performs = c.perform.ensures.performs })
