use Rattle.std.proofs.Common.{◌≡◌, ◌<◌, ℕ, true, false, IsTrue, nat_lt, refl, sym, subst, ◌∙◌, arith}
use Rattle.std.proofs.lemmas.Bool.Decides.{nat_tests}
use Rattle.board_terms.specs.declared.messages.Message.{Message}
use Rattle.message_queues.specs.Queues.{HasBuffer}
use Rattle.message_queues.proofs.queues.Queues.has_buffer.Goals as goal

below : (m n : ℕ) → m ≡ n → IsTrue (nat_lt m 16) → n < 16
below m n e h = grind (arith, nat_tests)

tested : (m n : ℕ) → m ≡ n → n < 16 → IsTrue (nat_lt m 16)
tested m n e h = grind (arith, nat_tests)

pub returns-then-has_port : goal.returns-then-has_port
returns-then-has_port c =
    let qs = c.args.self.now in
    let used = c.from.ensures ∙ c.port_used.ensures.value in
    let low = c.if-has_port.ensures.0 refl in
    subst (λ (m : Message). (IsTrue (nat_lt c.from.result 16) → HasBuffer qs m)
    × (HasBuffer qs m → IsTrue (nat_lt c.from.result 16))) (sym c.in-FromPort.is)
    (λ h. (low, below _ _ used h), λ h. tested _ _ used h.1)

pub returns-else-has_port : goal.returns-else-has_port
returns-else-has_port c =
    let qs = c.args.self.now in
    subst (λ (m : Message). (IsTrue c.has_port.result → HasBuffer qs m) × (HasBuffer qs m → IsTrue c.has_port.result))
    (sym c.in-FromPort.is)
    (λ h. let bad : false ≡ true = sym c.if-has_port.false ∙ h in absurd (cc), λ h. c.has_port.ensures.1 h.0)

pub returns-then-has_timer : goal.returns-then-has_timer
returns-then-has_timer c =
    let qs = c.args.self.now in
    let free = c.timer_buffer_free.ensures in
    let on = c.if-has_timer.ensures.0 refl in
    subst (λ (m : Message). (IsTrue c.timer_buffer_free.result → HasBuffer qs m)
    × (HasBuffer qs m → IsTrue c.timer_buffer_free.result)) (sym c.in-FromTimer.is)
    (λ h. (on, sym free ∙ h), λ h. free ∙ h.1)
