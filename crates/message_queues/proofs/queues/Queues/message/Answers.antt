use Rattle.std.proofs.Common.{◌<◌, ℕ, [], ap, ◌∙◌, sym, length, arith}
use Rattle.std.specs.Prelude.{slice_index_or}
use Rattle.std.proofs.lemmas.Option.{slice_get_past}
use Rattle.message_queues.specs.Queues.{queue_of}
use Rattle.message_queues.proofs.Steps.{here}
use Rattle.message_queues.proofs.queues.Queues.message.Goals as goal

pub returns-then-index-chain : goal.returns-then-index-chain
returns-then-index-chain c =
    let within : c.source_number.result < length c.args.self.now =
    omega (arith, c.source_number.ensures.value, c.requires) in
    let h = here c.self.inside c.args.self.now c.source_number.result c.index-chain.result.now c.self.invariant
    c.self.view_is within c.index-chain.ensures in
    let row = ap (λ (k : ℕ). slice_index_or c.args.self.now k []) (sym c.source_number.ensures.value) ∙ h.shown_row in
    sym (slice_get_past (queue_of c.args.self.now c.args.vp c.args.sint) c.args.index
    (omega (arith, h.len, ap length row)))

pub message_at-requires-clause-linked : goal.message_at-requires-clause-linked
message_at-requires-clause-linked c =
    let within : c.source_number.result < length c.args.self.now =
    omega (arith, c.source_number.ensures.value, c.requires) in
    let h = here c.self.inside c.args.self.now c.source_number.result c.index-chain.result.now c.self.invariant
    c.self.view_is within c.index-chain.ensures in
    let k = c.self.invariant.linked in
    rw c.as_slice-messages.ensures.value
    (k.owner, k.rank, c.source_number.result, k.each c.source_number.result c.index-chain.result.now h.at)

pub message_at-requires-clause-size : goal.message_at-requires-clause-size
message_at-requires-clause-size c = ap length c.as_slice-messages.ensures.value ∙ c.self.invariant.size
