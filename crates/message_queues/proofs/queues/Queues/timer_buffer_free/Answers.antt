use Rattle.std.proofs.Common.{◌≡◌, ◌<◌, ◌≤◌, inl, inr, ℕ, true, false, not, refl, ap, ◌∙◌, sym, nat_eq, arith}
use Rattle.std.proofs.lemmas.Bool.{cases_lt}
use Rattle.message_queues.specs.Queues.{Queues, processors_of, timer_used}
use Rattle.message_queues.specs.inside.View.{queues_of}
use Rattle.message_queues.specs.inside.Owners.{owners, used_by}
use Rattle.message_queues.proofs.Counts.{each-owned, timer_used-owner, timer_used-absent}
use Rattle.message_queues.proofs.Steps.{used-at, queues-each, timer-owned}
use Rattle.message_queues.proofs.queues.Queues.timer_buffer_free.Goals as goal

pub index-requires : goal.index-requires
index-requires c =
    let own = timer-owned c.self.inside c.args.self.now 0 0 c.args.timer c.self.invariant c.self.view_is
    (c.if-not-has_timer.ensures.0 refl) c.owner_of_timer.ensures.index in
    omega (arith, own.0, own.1, c.owner_of_timer.ensures.value, c.self.invariant.counts.size)

pub returns-then-not-has_timer : goal.returns-then-not-has_timer
returns-then-not-has_timer c =
    let n = c.self.inside.processors in
    let off : processors_of c.args.self.now ≤ c.args.timer.0 =
    elim (cases_lt c.args.timer.0 (processors_of c.args.self.now)) as
    (λ _. processors_of c.args.self.now ≤ c.args.timer.0) [
      | inl on ↦ let bad : false ≡ true = c.if-not-has_timer.ensures.1 on in absurd (cc)
      | inr off ↦ off
    ] in
    let owned = each-owned n (queues_of c.self.inside) c.self.invariant.owned in
    let none = timer_used-absent n (queues_of c.self.inside) c.args.timer
    (omega (arith, off, queues-each c.self.inside c.args.self.now c.self.invariant c.self.view_is)) owned in
    let shown = ap (λ (x : Queues). timer_used x c.args.timer) c.self.view_is in
    ap not c.if-not-has_timer.true ∙ sym (ap (λ (used : ℕ). nat_eq used 0) (sym shown ∙ none))

pub returns-else-not-has_timer : goal.returns-else-not-has_timer
returns-else-not-has_timer c =
    let n = c.self.inside.processors in
    let own = timer-owned c.self.inside c.args.self.now 0 0 c.args.timer c.self.invariant c.self.view_is
    (c.if-not-has_timer.ensures.0 refl) c.owner_of_timer.ensures.index in
    let below : c.owner_of_timer.result < owners n = omega (arith, own.0, own.1, c.owner_of_timer.ensures.value) in
    let owned = each-owned n (queues_of c.self.inside) c.self.invariant.owned in
    let used = timer_used-owner n
    (queues_of c.self.inside) c.args.timer c.self.invariant.processor_bound c.owner_of_timer.ensures.index owned in
    let shown = ap (λ (x : Queues). timer_used x c.args.timer) c.self.view_is in
    let stored = used-at c.self.inside c.owner_of_timer.result c.index.result.now c.self.invariant below c.index.ensures
    ∙ c.self.invariant.counts.counted c.owner_of_timer.result below in
    let owner = ap (λ (o : ℕ). used_by o (queues_of c.self.inside)) c.owner_of_timer.ensures.value in
    ap (λ (k : ℕ). nat_eq k 0) (stored ∙ owner ∙ sym used ∙ shown)
