use Rattle.std.proofs.Common.{◌<◌, [], ℕ, List, ap, ◌∙◌, sym, length, arith, drop}
use Rattle.std.specs.Prelude.{slice_index_or, slice_set}
use Rattle.std.proofs.lemmas.List.{set-get_or}
use Rattle.board_terms.specs.declared.messages.Message.{Message}
use Rattle.message_queues.specs.declared.chains.Chain.{Chain}
use Rattle.message_queues.specs.inside.Buffers.{message_in}
use Rattle.message_queues.specs.inside.Owners.{owner_of}
use Rattle.message_queues.specs.inside.Chains.{queues_at}
use Rattle.message_queues.specs.inside.View.{buffers_of}
use Rattle.message_queues.proofs.Parts.{neighbours-there}
use Rattle.message_queues.proofs.Steps.{used-at, head-at, head-owner, head-first, place-step, place-none}
use Rattle.message_queues.proofs.queues.Queues.drop_head.Goals as goal

pub returns-in_default-clause-rest : goal.returns-in_default-clause-rest
returns-in_default-clause-rest c =
    let within : c.source_number.result < length c.args.self.now =
    omega (arith, c.source_number.ensures.value, c.requires) in
    let chains = c.self.inside.chains.items in
    let none = place-none c.self.inside c.args.self.now c.source_number.result c.index_mut-chain.result.now
    c.self.invariant c.self.view_is within c.index_mut-chain.ensures.value c.in_default.is in
    let same = ap (λ (x : Chain). slice_set chains c.source_number.result x) c.index_mut-chain.ensures.value
    ∙ set-get_or chains c.source_number.result c.index_mut-chain.result.now in
    let empty = ap (λ (x : List Message). drop 1 x) none ∙ sym none in
    ap (queues_at (buffers_of c.self.inside)) same ∙ c.self.view_is
    ∙ sym (ap (λ (x : List Message). slice_set c.args.self.now c.source_number.result x) empty
    ∙ set-get_or c.args.self.now c.source_number.result [])
    ∙ ap (λ (k : ℕ). slice_set c.args.self.now k (drop 1 (slice_index_or c.args.self.now k [])))
    c.source_number.ensures.value

pub message_in-message-requires-clause-there : goal.message_in-message-requires-clause-there
message_in-message-requires-clause-there c =
    let within : c.source_number.result < length c.args.self.now =
    omega (arith, c.source_number.ensures.value, c.requires) in
    let h = head-at c.self.inside c.args.self.now c.source_number.result c.index_mut-chain.result.now c.in-Some.key
    c.self.invariant c.self.view_is within
    c.index_mut-chain.ensures.value c.in-Some.is in
    neighbours-there c.self.inside.neighbours c.self.inside.messages.items c.in-Some.key h.b h.there

pub message_in-message-requires-clause-size : goal.message_in-message-requires-clause-size
message_in-message-requires-clause-size c = ap length c.as_slice.ensures.value ∙ c.self.invariant.size

pub index_mut-requires : goal.index_mut-requires
index_mut-requires c =
    let within : c.source_number.result < length c.args.self.now =
    omega (arith, c.source_number.ensures.value, c.requires) in
    let h = head-at c.self.inside c.args.self.now c.source_number.result c.index_mut-chain.result.now c.in-Some.key
    c.self.invariant c.self.view_is within
    c.index_mut-chain.ensures.value c.in-Some.is in
    let own = head-owner c.self.inside c.args.self.now c.source_number.result c.index_mut-chain.result.now
    c.in-Some.key c.message_in-message.result.now c.owner_of-owner.result h
    (c.message_in-message.ensures ∙ ap (λ (ms : List Message). message_in ms c.in-Some.key) c.as_slice.ensures.value)
    c.owner_of-owner.ensures in
    omega (arith, own.below, c.self.invariant.counts.size)

pub drop_first-requires-clause-there : goal.drop_first-requires-clause-there
drop_first-requires-clause-there c =
    let within : c.source_number.result < length c.args.self.now =
    omega (arith, c.source_number.ensures.value, c.requires) in
    let h = head-at c.self.inside c.args.self.now c.source_number.result c.index_mut-chain.result.now c.in-Some.key
    c.self.invariant c.self.view_is within
    c.index_mut-chain.ensures.value c.in-Some.is in
    neighbours-there c.self.inside.neighbours c.self.inside.messages.items c.in-Some.key h.b h.there

pub drop_first-requires-clause-some : goal.drop_first-requires-clause-some
drop_first-requires-clause-some c =
    let within : c.source_number.result < length c.args.self.now =
    omega (arith, c.source_number.ensures.value, c.requires) in
    (head-at c.self.inside c.args.self.now c.source_number.result c.index_mut-chain.result.now c.in-Some.key
    c.self.invariant c.self.view_is within c.index_mut-chain.ensures.value c.in-Some.is).some

pub overflow_sub-index_mut : goal.overflow_sub-index_mut
overflow_sub-index_mut c =
    let within : c.source_number.result < length c.args.self.now =
    omega (arith, c.source_number.ensures.value, c.requires) in
    let h = head-at c.self.inside c.args.self.now c.source_number.result c.index_mut-chain.result.now c.in-Some.key
    c.self.invariant c.self.view_is within
    c.index_mut-chain.ensures.value c.in-Some.is in
    let own = head-owner c.self.inside c.args.self.now c.source_number.result c.index_mut-chain.result.now
    c.in-Some.key c.message_in-message.result.now c.owner_of-owner.result h
    (c.message_in-message.ensures ∙ ap (λ (ms : List Message). message_in ms c.in-Some.key) c.as_slice.ensures.value)
    c.owner_of-owner.ensures in
    let used = used-at c.self.inside c.owner_of-owner.result c.index_mut.result.now c.self.invariant own.below
    c.index_mut.ensures.value in
    omega (arith, own.used, used)

pub invariant_of-self-2 : goal.invariant_of-self-2
invariant_of-self-2 c =
    let within : c.source_number.result < length c.args.self.now =
    omega (arith, c.source_number.ensures.value, c.requires) in
    let h = head-at c.self.inside c.args.self.now c.source_number.result c.index_mut-chain.result.now c.in-Some.key
    c.self.invariant c.self.view_is within
    c.index_mut-chain.ensures.value c.in-Some.is in
    let own = head-owner c.self.inside c.args.self.now c.source_number.result c.index_mut-chain.result.now
    c.in-Some.key c.message_in-message.result.now c.owner_of-owner.result h
    (c.message_in-message.ensures ∙ ap (λ (ms : List Message). message_in ms c.in-Some.key) c.as_slice.ensures.value)
    c.owner_of-owner.ensures in
    let used = used-at c.self.inside c.owner_of-owner.result c.index_mut.result.now c.self.invariant own.below
    c.index_mut.ensures.value in
    let s = place-step c.self.inside c.args.self.now c.source_number.result c.index_mut-chain.result.now
    c.drop_first.new.chain c.in-Some.key
    c.drop_first.ensures.unlinked.0 c.owner_of-owner.result c.index_mut.result.now c.drop_first.new.neighbours
    c.self.invariant c.self.view_is within
    c.index_mut-chain.ensures.value c.in-Some.is
    (c.owner_of-owner.ensures
    ∙ ap owner_of (c.message_in-message.ensures
    ∙ ap (λ (ms : List Message). message_in ms c.in-Some.key)
    c.as_slice.ensures.value)) used c.drop_first.ensures.unlinked.1 c.drop_first.ensures.len
    c.drop_first.ensures.capacity in
    record {
      linked = s.linked;
      held = s.held;
      both_ways = s.both_ways;
      room = s.room;
      size = s.size;
      owned = s.owned;
      counts = s.counts;
      each = s.each;
      processor_bound = c.self.invariant.processor_bound;
    }

pub returns-clause-rest : goal.returns-clause-rest
returns-clause-rest c =
    let within : c.source_number.result < length c.args.self.now =
    omega (arith, c.source_number.ensures.value, c.requires) in
    let h = head-at c.self.inside c.args.self.now c.source_number.result c.index_mut-chain.result.now c.in-Some.key
    c.self.invariant c.self.view_is within
    c.index_mut-chain.ensures.value c.in-Some.is in
    let own = head-owner c.self.inside c.args.self.now c.source_number.result c.index_mut-chain.result.now
    c.in-Some.key c.message_in-message.result.now c.owner_of-owner.result h
    (c.message_in-message.ensures ∙ ap (λ (ms : List Message). message_in ms c.in-Some.key) c.as_slice.ensures.value)
    c.owner_of-owner.ensures in
    let used = used-at c.self.inside c.owner_of-owner.result c.index_mut.result.now c.self.invariant own.below
    c.index_mut.ensures.value in
    let s = place-step c.self.inside c.args.self.now c.source_number.result c.index_mut-chain.result.now
    c.drop_first.new.chain c.in-Some.key
    c.drop_first.ensures.unlinked.0 c.owner_of-owner.result c.index_mut.result.now c.drop_first.new.neighbours
    c.self.invariant c.self.view_is within
    c.index_mut-chain.ensures.value c.in-Some.is
    (c.owner_of-owner.ensures
    ∙ ap owner_of (c.message_in-message.ensures
    ∙ ap (λ (ms : List Message). message_in ms c.in-Some.key)
    c.as_slice.ensures.value)) used c.drop_first.ensures.unlinked.1 c.drop_first.ensures.len
    c.drop_first.ensures.capacity in
    s.view_is ∙ ap (λ (k : ℕ). slice_set c.args.self.now k (drop 1 (slice_index_or c.args.self.now k [])))
    c.source_number.ensures.value

pub drop_first-requires-clause-first : goal.drop_first-requires-clause-first
drop_first-requires-clause-first c n there =
    let within : c.source_number.result < length c.args.self.now =
    omega (arith, c.source_number.ensures.value, c.requires) in
    let h = head-at c.self.inside c.args.self.now c.source_number.result c.index_mut-chain.result.now c.in-Some.key
    c.self.invariant c.self.view_is within
    c.index_mut-chain.ensures.value c.in-Some.is in
    head-first c.self.inside c.args.self.now c.source_number.result c.index_mut-chain.result.now c.in-Some.key n h there
