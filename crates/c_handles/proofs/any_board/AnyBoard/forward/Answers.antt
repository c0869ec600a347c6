use Rattle.std.proofs.Common.{sym, ap, subst, ◌∙◌}
use Rattle.synic_board.specs.State.{State, BoardModel}
use Rattle.c_handles.specs.Kinds.{state_in}
use Rattle.c_handles.specs.Forwarding.{IsForwarded}
use Rattle.c_handles.proofs.Taken.{Forwarding, forwarding-none, forwarding-one, forwarding-all, stays-on, fewer-requests}
use Rattle.c_handles.proofs.any_board.AnyBoard.forward.Goals as goal

pub loop-vp-init : goal.loop-vp-init
loop-vp-init c =
    let same = ap (λ (b : BoardModel). b.state) (sym c.clear_notices.ensures.board) in (
      subst (λ (s : State). Forwarding (state_in c.args.self.now) c.args.vp s c.none-forwarded.result) same
          (forwarding-none (state_in c.args.self.now) c.args.vp c.none-forwarded.result
          c.none-forwarded.ensures.vectors c.none-forwarded.ensures.auto_eoi),
      c.clear_notices.ensures.notices,
      c.clear_notices.ensures.pages,
      c.clear_notices.ensures.eoms,
    )

pub forward_one-requires-clause-on : goal.forward_one-requires-clause-on
forward_one-requires-clause-on c =
    stays-on (state_in c.args.self.now)
    (state_in c.loop-vp.self) c.args.vp c.loop-vp.forwarded c.loop-vp.invariant.0 c.requires

pub forward_one-requires-clause-notices : goal.forward_one-requires-clause-notices
forward_one-requires-clause-notices c = c.loop-vp.invariant.1

pub forward_one-requires-clause-eoms : goal.forward_one-requires-clause-eoms
forward_one-requires-clause-eoms c = c.loop-vp.invariant.3

pub loop-vp-smaller : goal.loop-vp-smaller
loop-vp-smaller c =
    let on = stays-on (state_in c.args.self.now)
    (state_in c.loop-vp.self) c.args.vp c.loop-vp.forwarded c.loop-vp.invariant.0 c.requires in
    fewer-requests (state_in c.loop-vp.self)
    (state_in c.forward_one.new.self) c.args.vp c.loop-vp-test.ensures.one.0 c.loop-vp.forwarded
    c.forward_one.new.forwarded on c.loop-vp-test.ensures.one.1

pub loop-vp-preserved : goal.loop-vp-preserved
loop-vp-preserved c = (
  forwarding-one (state_in c.args.self.now) (state_in c.loop-vp.self)
      (state_in c.forward_one.new.self) c.args.vp c.loop-vp-test.ensures.one.0 c.requires c.loop-vp.forwarded
      c.forward_one.new.forwarded c.loop-vp.invariant.0 c.loop-vp-test.ensures.one.1,
  c.loop-vp-test.ensures.notices,
  c.loop-vp-test.ensures.pages ∙ c.loop-vp.invariant.2,
  c.loop-vp-test.ensures.eoms,
)

pub returns-clause-forwarded : goal.returns-clause-forwarded
returns-clause-forwarded c =
    let end = c.loop-vp-test.ensures.one in
    let was = forwarding-all (state_in c.args.self.now)
    (state_in c.loop-vp.self) c.args.vp c.loop-vp.forwarded c.requires c.loop-vp.invariant.0 end.0 in
    subst (λ h. IsForwarded (state_in c.args.self.now) c.args.vp (state_in c.forward_one.new.self) h) (sym end.2)
    (subst (λ (s : State). IsForwarded (state_in c.args.self.now) c.args.vp s c.loop-vp.forwarded) (sym end.1) was)

pub returns-clause-pages : goal.returns-clause-pages
returns-clause-pages c = c.loop-vp-test.ensures.pages ∙ c.loop-vp.invariant.2

pub returns-clause-eoms : goal.returns-clause-eoms
returns-clause-eoms c = c.loop-vp-test.ensures.eoms
