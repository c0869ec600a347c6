use Rattle.std.proofs.Common.{◌<◌, [], ℕ, List, Some, ap, ◌∙◌, sym, length, arith}
use Rattle.std.specs.Prelude.{slice_index_or}
use Rattle.std.specs.List.{slice_get}
use Rattle.board_terms.specs.declared.messages.Message.{Message}
use Rattle.message_queues.specs.inside.Buffers.{message_in}
use Rattle.message_queues.proofs.Parts.{neighbours-there}
use Rattle.message_queues.proofs.Steps.{head-at, head-message, place-none}
use Rattle.message_queues.proofs.queues.Queues.head.Goals as goal

pub message_in-requires-clause-there : goal.message_in-requires-clause-there
message_in-requires-clause-there c =
    let within : c.source_number.result < length c.args.self.now =
    omega (arith, c.source_number.ensures.value, c.requires) in
    let h = head-at c.self.inside c.args.self.now c.source_number.result c.index-chain.result.now c.in-Some.key
    c.self.invariant c.self.view_is within
    c.index-chain.ensures c.in-Some.is in
    neighbours-there c.self.inside.neighbours c.self.inside.messages.items c.in-Some.key h.b h.there

pub message_in-requires-clause-size : goal.message_in-requires-clause-size
message_in-requires-clause-size c = ap length c.as_slice.ensures.value ∙ c.self.invariant.size

pub returns-in-Some : goal.returns-in-Some
returns-in-Some c =
    let within : c.source_number.result < length c.args.self.now =
    omega (arith, c.source_number.ensures.value, c.requires) in
    let h = head-at c.self.inside c.args.self.now c.source_number.result c.index-chain.result.now c.in-Some.key
    c.self.invariant c.self.view_is within
    c.index-chain.ensures c.in-Some.is in
    let same = head-message c.self.inside c.args.self.now c.source_number.result c.index-chain.result.now
    c.in-Some.key h in
    let head = ap (λ (k : ℕ). slice_get (slice_index_or c.args.self.now k []) 0) (sym c.source_number.ensures.value)
    ∙ ap (λ (x : List Message). slice_get x 0) h.row in
    ap (λ (m : Message). Some m)
    (c.message_in.ensures ∙ ap (λ (ms : List Message). message_in ms c.in-Some.key) c.as_slice.ensures.value
    ∙ same) ∙ sym head

pub returns-in-None : goal.returns-in-None
returns-in-None c =
    let within : c.source_number.result < length c.args.self.now =
    omega (arith, c.source_number.ensures.value, c.requires) in
    let none = place-none c.self.inside c.args.self.now c.source_number.result c.index-chain.result.now
    c.self.invariant c.self.view_is within c.index-chain.ensures c.in-None.is in
    sym (ap (λ (k : ℕ). slice_get (slice_index_or c.args.self.now k []) 0) (sym c.source_number.ensures.value)
    ∙ ap (λ (x : List Message). slice_get x 0) none)
