use Rattle.std.proofs.Common.{◌+◌, ◌*◌, ◌<◌, ◌≤◌, ℕ, [], ap, ◌∙◌, sym, subst, length, arith}
use Rattle.std.specs.Prelude.{slice_index_or, sum_by}
use Rattle.message_queues.specs.Queues.{Queues, most_ports}
use Rattle.message_queues.specs.inside.View.{queues_of}
use Rattle.message_queues.proofs.Counts.{each-owned, all-within, few-ports}
use Rattle.message_queues.proofs.Steps.{here, queues-each, same-processors}
use Rattle.message_queues.proofs.queues.Queues.count.Goals as goal

pub returns-clause-value : goal.returns-clause-value
returns-clause-value c =
    let within : c.source_number.result < length c.args.self.now =
    omega (arith, c.source_number.ensures.value, c.requires) in
    let h = here c.self.inside c.args.self.now c.source_number.result c.index.result.now c.self.invariant
    c.self.view_is within c.index.ensures in
    sym (ap length h.shown_row ∙ h.len)
    ∙ ap (λ (k : ℕ). length (slice_index_or c.args.self.now k [])) c.source_number.ensures.value

pub returns-clause-bound : goal.returns-clause-bound
returns-clause-bound c =
    let within : c.source_number.result < length c.args.self.now =
    omega (arith, c.source_number.ensures.value, c.requires) in
    let h = here c.self.inside c.args.self.now c.source_number.result c.index.result.now c.self.invariant
    c.self.view_is within c.index.ensures in
    let same = same-processors c.self.inside c.args.self.now c.self.invariant c.self.view_is in
    omega (arith, h.bound, h.each, same, ap most_ports same)

pub returns-clause-in_all : goal.returns-clause-in_all
returns-clause-in_all c =
    let k = c.self.invariant in
    let n = c.self.inside.processors in
    let same = same-processors c.self.inside c.args.self.now k c.self.view_is in
    let all = all-within n (queues_of c.self.inside) c.self.inside.in_use.items k.processor_bound
    (each-owned n (queues_of c.self.inside) k.owned) k.counts in
    omega (
      arith,
      subst (λ (qs : Queues). sum_by length qs ≤ 16 * most_ports n + 4 * n) c.self.view_is all,
      same,
      ap most_ports same,
    )

pub returns-clause-most : goal.returns-clause-most
returns-clause-most c =
    let k = c.self.invariant in
    let same = same-processors c.self.inside c.args.self.now k c.self.view_is in
    omega (arith, same, ap most_ports same, few-ports c.self.inside.processors k.processor_bound, k.processor_bound)
