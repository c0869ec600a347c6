use Rattle.std.proofs.Common.{◌<◌, [], ◌∷◌, ◌++◌, ℕ, ap, ◌∙◌, length, arith}
use Rattle.std.specs.Prelude.{slice_index_or, slice_set}
use Rattle.board_terms.specs.declared.messages.Message.{Message}
use Rattle.board_terms.specs.declared.messages.Message.TheVariants.{FromTimer}
use Rattle.message_queues.specs.inside.Buffers.{buffer_at}
use Rattle.message_queues.specs.inside.Chains.{queues_at}
use Rattle.message_queues.specs.inside.Owners.{owners}
use Rattle.message_queues.proofs.Steps.{used-at, timer-owned, room-for, here, append-step}
use Rattle.message_queues.proofs.queues.Queues.append_expiry.Goals as goal

pub index_mut-requires : goal.index_mut-requires
index_mut-requires c =
    let own = timer-owned c.self.inside c.args.self.now c.args.ticket c.args.expiration c.args.timer c.self.invariant
    c.self.view_is c.requires.buffer.0 c.owner_of_timer.ensures.index in
    omega (arith, own.0, own.1, c.owner_of_timer.ensures.value, c.self.invariant.counts.size)

pub overflow_add-index_mut : goal.overflow_add-index_mut
overflow_add-index_mut c =
    let m : Message = FromTimer c.args.ticket c.args.timer c.args.expiration in
    let room = room-for c.self.inside c.args.self.now m c.owner_of_timer.result c.self.invariant c.self.view_is
    (timer-owned c.self.inside c.args.self.now c.args.ticket c.args.expiration c.args.timer c.self.invariant
    c.self.view_is c.requires.buffer.0 c.owner_of_timer.ensures.index)
    c.requires.buffer c.owner_of_timer.ensures.value in
    omega (
      arith,
      room.fits,
      used-at c.self.inside c.owner_of_timer.result c.index_mut.result.now c.self.invariant room.below
          c.index_mut.ensures.value,
    )

pub link-key-requires-clause-room : goal.link-key-requires-clause-room
link-key-requires-clause-room c =
    let m : Message = FromTimer c.args.ticket c.args.timer c.args.expiration in
    let room = room-for c.self.inside c.args.self.now m c.owner_of_timer.result c.self.invariant c.self.view_is
    (timer-owned c.self.inside c.args.self.now c.args.ticket c.args.expiration c.args.timer c.self.invariant
    c.self.view_is c.requires.buffer.0 c.owner_of_timer.ensures.index)
    c.requires.buffer c.owner_of_timer.ensures.value in
    omega (arith, room.total, c.self.invariant.held, c.self.invariant.room)

pub link-key-requires-clause-bound : goal.link-key-requires-clause-bound
link-key-requires-clause-bound c =
    let within : c.source_number.result < length c.args.self.now =
    omega (arith, c.source_number.ensures.value, c.requires.on_the_board) in
    let h = here c.self.inside c.args.self.now c.source_number.result c.index_mut-chain.result.now c.self.invariant
    c.self.view_is within c.index_mut-chain.ensures.value in
    omega (arith, h.few)

pub invariant_of-self : goal.invariant_of-self
invariant_of-self c =
    let m : Message = FromTimer c.args.ticket c.args.timer c.args.expiration in
    let within : c.source_number.result < length c.args.self.now =
    omega (arith, c.source_number.ensures.value, c.requires.on_the_board) in
    let own = timer-owned c.self.inside c.args.self.now c.args.ticket c.args.expiration c.args.timer c.self.invariant
    c.self.view_is c.requires.buffer.0 c.owner_of_timer.ensures.index in
    let below : c.owner_of_timer.result < owners c.self.inside.processors =
    omega (arith, own.0, own.1, c.owner_of_timer.ensures.value) in
    let s = append-step c.self.inside c.args.self.now c.source_number.result c.index_mut-chain.result.now
    c.link-key.new.chain c.link-key.result m c.owner_of_timer.result
    c.index_mut.result.now c.link-key.new.neighbours c.self.invariant c.self.view_is within
    c.index_mut-chain.ensures.value own c.requires.buffer
    c.owner_of_timer.ensures.value
    (used-at c.self.inside c.owner_of_timer.result c.index_mut.result.now c.self.invariant below
    c.index_mut.ensures.value)
    c.link-key.ensures.linked c.link-key.ensures.len c.link-key.ensures.capacity c.link-key.ensures.range in
    let s' = rw (← c.write_expiry.ensures) at s in
    record {
      linked = s'.linked;
      held = s'.held;
      both_ways = s'.both_ways;
      room = s'.room;
      size = s'.size;
      owned = s'.owned;
      counts = s'.counts;
      each = s'.each;
      processor_bound = c.self.invariant.processor_bound;
    }

pub returns-clause-queued : goal.returns-clause-queued
returns-clause-queued c =
    let m : Message = FromTimer c.args.ticket c.args.timer c.args.expiration in
    let within : c.source_number.result < length c.args.self.now =
    omega (arith, c.source_number.ensures.value, c.requires.on_the_board) in
    let own = timer-owned c.self.inside c.args.self.now c.args.ticket c.args.expiration c.args.timer c.self.invariant
    c.self.view_is c.requires.buffer.0 c.owner_of_timer.ensures.index in
    let below : c.owner_of_timer.result < owners c.self.inside.processors =
    omega (arith, own.0, own.1, c.owner_of_timer.ensures.value) in
    let s = append-step c.self.inside c.args.self.now c.source_number.result c.index_mut-chain.result.now
    c.link-key.new.chain c.link-key.result m c.owner_of_timer.result
    c.index_mut.result.now c.link-key.new.neighbours c.self.invariant c.self.view_is within
    c.index_mut-chain.ensures.value own c.requires.buffer
    c.owner_of_timer.ensures.value
    (used-at c.self.inside c.owner_of_timer.result c.index_mut.result.now c.self.invariant below
    c.index_mut.ensures.value)
    c.link-key.ensures.linked c.link-key.ensures.len c.link-key.ensures.capacity c.link-key.ensures.range in
    let chains = slice_set c.self.inside.chains.items c.source_number.result c.link-key.new.chain in
    ap (λ (x : Message). queues_at
    (buffer_at c.link-key.new.neighbours (slice_set c.self.inside.messages.items c.link-key.result x))
    chains) c.write_expiry.ensures
    ∙ s.view_is ∙ ap (λ (k : ℕ). slice_set c.args.self.now k (slice_index_or c.args.self.now k [] ++ m ∷ []))
    c.source_number.ensures.value
