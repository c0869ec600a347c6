use Rattle.std.proofs.Common.{refl, sym, subst, ap, ◌∙◌, ◌≡◌, Bool, true, false, arith}
use Rattle.std.specs.Prelude.{if◌then◌else◌}
use Rattle.stimer_bank.specs.declared.timer.Timer.{Timer}
use Rattle.synic_board.specs.State.{State, processors}
use Rattle.synic_board.specs.Restoring.{with_saved_timer, MayCount}
use Rattle.synic_board.specs.Timed.{IsNear}
use Rattle.synic_board.specs.inside.Drafts.{IsDraft}
use Rattle.synic_board.proofs.Drafts.{draft-timer}
use Rattle.synic_board.proofs.draft.Draft.set_timer.Goals as goal

pub invariant_of-self : goal.invariant_of-self
invariant_of-self c = by c.restore_timer.result refl
  where
    s : State
    s = c.self.inside.machine.state

    x : Timer
    x = record { config = c.args.config; count = c.args.count; due = c.args.due }

    near : IsNear s.moment x
    near = subst (λ m. IsNear m x) c.moment.ensures (c.is_near.ensures.0 c.if-is_near.true)

    by : (b : Bool) → c.restore_timer.result ≡ b → IsDraft c.restore_timer.new.self.state c.self.inside.tickets.items
    by true is =
        let may : MayCount s x = record { sound = c.restore_timer.ensures.valid.0 is; near = near } in
        subst (λ (s : State). IsDraft s c.self.inside.tickets.items)
        (sym (c.restore_timer.ensures.restored ∙ ap (λ b. if b then with_saved_timer s c.args.timer x else s) is))
        (draft-timer s c.args.timer x c.self.inside.tickets.items
        (omega (arith, ap processors c.self.view_is, c.requires)) (omega arith) may c.self.invariant)
    by false is =
        subst (λ (s : State). IsDraft s c.self.inside.tickets.items)
        (sym (c.restore_timer.ensures.restored ∙ ap (λ b. if b then with_saved_timer s c.args.timer x else s) is))
        c.self.invariant
