use Rattle.std.proofs.Common.{◌≡◌, ◌<◌, ◌&&◌, true, false, not, nat_lt, ℕ, List, length, ap, sym, ◌∙◌, arith}
use Rattle.board_terms.specs.Sources.{source_number}
use Rattle.message_queues.specs.Queues.{queue_of}
use Rattle.synic_board.specs.State.{BoardModel, processors}
use Rattle.synic_board.specs.declared.machine.Machine.TheInside.{Inside}
use Rattle.synic_board.specs.inside.View.{model_of, MachineInvariant}
use Rattle.synic_board.specs.Effects.{Effect, after}
use Rattle.synic_board.specs.inside.Effected.{preceded}
use Rattle.synic_board.specs.Delivery.{delivers, is_slot_empty, accepted, marked}
use Rattle.synic_board.specs.Interrupts.{raised}
use Rattle.synic_board.specs.inside.Steps.{expired_message, timer_bytes}
use Rattle.synic_board.specs.inside.AtOnce.{delivers_at_once, filled_at_once}
use Rattle.synic_board.proofs.AtOnce.{at-once, only-marked, timer-image}
use Rattle.synic_board.proofs.Folds.{chained}
use Rattle.synic_board.proofs.machine.Machine.deliver_timer.Goals as goal

on_board : (b : Inside) (h : BoardModel) (p i : ℕ) → MachineInvariant b → model_of b ≡ h → p < processors h.state
    → i < 16 → source_number p i < length h.state.queues
on_board b h p i invariant view on low =
    omega (
      arith,
      invariant.queues,
      on,
      low,
      ap (λ (m : BoardModel). processors m.state) view,
      ap (λ (m : BoardModel). length m.state.queues) view,
    )

pub returns-then-count-eq0 : goal.returns-then-count-eq0
returns-then-count-eq0 c =
    let s = c.args.self.now.state in
    let p = c.args.vp in
    let i = c.args.sint in
    let bytes = timer_bytes c.args.timer c.args.expiration false s.moment in
    let filled : List ℕ → Effect = λ b. filled_at_once s p i b s.next_ticket in
    let first = c.expiry_at_once.ensures in
    let second = c.raise.ensures in
    let image = sym (timer-image s.next_ticket c.args.timer c.args.expiration s.moment false) in
    let within =
    on_board c.self.inside c.args.self.now p i c.self.invariant c.self.view_is c.requires.on (omega arith) in
    let on : delivers s p ≡ true = sym c.delivers.ensures ∙ c.if-not-delivers.false in
    let empty : is_slot_empty s p i ≡ true = sym c.is_slot_empty.ensures ∙ c.if-not-is_slot_empty.false in
    let none : length (queue_of s.queues p i) ≡ 0 =
    sym (ap (λ (h : BoardModel). length (queue_of h.state.queues p i)) c.self.view_is) ∙ sym c.count.ensures.value
    ∙ c.if-count-eq0.true in
    let free : delivers_at_once s p i ≡ true = (λ j. on j && not (nat_lt 0 (none j)) && empty j) in
    let once = at-once s p i (expired_message s c.args.timer c.args.expiration) free within in
    record {
      effect = chained _ _ _ _ _ (filled bytes) (λ t. raised t p i) first.effect second.effect
          ∙ ap (λ b. preceded c.args.notices.now (after (filled b) (raised (filled b).0 p i))) image
          ∙ ap (preceded c.args.notices.now) (sym once);
      writes_monotone = omega (arith, first.writes_monotone, second.writes_monotone);
      bound = omega (arith, first.bound, second.bound);
    }

pub returns-then-not-is_slot_empty : goal.returns-then-not-is_slot_empty
returns-then-not-is_slot_empty c =
    let s = c.args.self.now.state in
    let p = c.args.vp in
    let i = c.args.sint in
    let message = expired_message s c.args.timer c.args.expiration in
    let first = c.accept_expiry.ensures.accepted in
    let second = c.mark.ensures in
    let within =
    on_board c.self.inside c.args.self.now p i c.self.invariant c.self.view_is c.requires.on (omega arith) in
    let on : delivers s p ≡ true = sym c.delivers.ensures ∙ c.if-not-delivers.false in
    let occupied : is_slot_empty s p i ≡ false = sym c.is_slot_empty.ensures ∙ c.if-not-is_slot_empty.true in
    let only = only-marked s p i message (λ j. on j && not (occupied j)) within in
    record {
      effect = chained _ _ _ _ _ (accepted s p i message) (λ t. marked t p i) first.effect second.effect
          ∙ ap (preceded c.args.notices.now) (sym only);
      writes_monotone = omega (arith, first.writes_monotone, second.writes_monotone);
      bound = omega (arith, first.bound, second.bound);
    }
