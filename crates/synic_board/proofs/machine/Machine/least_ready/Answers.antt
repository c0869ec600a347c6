use Rattle.std.proofs.Common.{◌≡◌, ℕ, ◌+◌, ◌*◌, ◌<◌, length, ap, sym, ◌∙◌, subst, arith, get_or}
use Rattle.std.specs.Prelude.{Option, None, Some}
use Rattle.std.specs.Option.{option_map_or}
use Rattle.board_terms.specs.Dues.{earlier, least_below}
use Rattle.deadline_tree.proofs.Leasts.{least-none, least-more}
use Rattle.synic_board.specs.State.{BoardModel}
use Rattle.synic_board.specs.Alarm.{ready_dues}
use Rattle.synic_board.proofs.Alarming.{length-ready, ready_at}
use Rattle.synic_board.proofs.machine.Machine.least_ready.Goals as goal
use Rattle.synic_board.proofs.machine.Machine.least_ready.Goals.{in-Some, in_default}

pub loop-at-init : goal.loop-at-init
loop-at-init c = sym (least-none (ready_dues c.args.self.now.state))

pub loop-at-preserved : goal.loop-at-preserved
loop-at-preserved c =
    let m = ready_dues c.args.self.now.state in
    let n = c.loop-at.at in
    let many : length c.args.self.now.state.timers ≡ 4 * length c.self.inside.lapics.items =
    subst (λ (h : BoardModel). length h.state.timers ≡ 4 * length c.self.inside.lapics.items) c.self.view_is
    c.self.invariant.timers in
    let within : n < length c.args.self.now.state.timers = omega (arith, many) in
    let here : get_or m n None ≡ c.ready_due.result =
    ready_at c.args.self.now.state n within ∙ sym c.ready_due.ensures in
    let next = λ (o : Option ℕ). option_map_or (λ d. Some (earlier (least_below m n) (d, n))) o (least_below m n) in
    elim c.match-ready_due.branch as
    (λ _. c.match-ready_due.first ≡ least_below (ready_dues c.args.self.now.state) (c.loop-at.at + 1)) [
      | in-Some w ↦
          w.first-is ∙ ap Some w.earlier.ensures
          ∙ ap (λ (o : Option (ℕ × ℕ)). Some (earlier o (w.in-Some.due, n))) c.loop-at.invariant
          ∙ sym (least-more m n ∙ ap next (here ∙ w.in-Some.is))
      | in_default w ↦ w.first-is ∙ c.loop-at.invariant ∙ sym (least-more m n ∙ ap next (here ∙ w.in_default.is))
    ]

pub returns : goal.returns
returns c =
    let s = c.args.self.now.state in
    let many : length s.timers ≡ 4 * length c.self.inside.lapics.items =
    subst (λ (h : BoardModel). length h.state.timers ≡ 4 * length c.self.inside.lapics.items) c.self.view_is
    c.self.invariant.timers in
    let all : c.loop-at.at ≡ length (ready_dues s) = omega (arith, many, length-ready s) in
    c.loop-at.invariant ∙ ap (least_below (ready_dues s)) all
