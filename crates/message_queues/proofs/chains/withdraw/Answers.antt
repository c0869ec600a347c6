use Rattle.std.proofs.Common.{◌≡◌, ◌++◌, ◌∷◌, [], ℕ, sym, ap, ◌∙◌, arith, refl, length-append}
use Rattle.board_terms.specs.Messages.{ticket_of}
use Rattle.message_queues.specs.Queues.{is_from_port}
use Rattle.message_queues.specs.inside.Buffers.{message_in, buffer_of, buffer_at}
use Rattle.message_queues.proofs.Parts.{unlinked, neighbours-there, buffer-there}
use Rattle.message_queues.proofs.Walks.{walk-start, walk-more, walk-done, walk-keep, walk-take, walk-leaves, at_key_now}
use Rattle.message_queues.proofs.chains.withdraw.Goals as goal
use Rattle.message_queues.proofs.chains.withdraw.Goals.{then-is_from_port, else-is_from_port}

pub loop-init : goal.loop-init
loop-init c =
    rw c.new-tickets.ensures (
      refl,
      omega arith,
      λ o r q h.
          walk-start (buffer_at c.args.neighbours.now c.args.messages.now) o r q c.args.chain.now c.args.port h,
    )

pub unwrap-key-requires : goal.unwrap-key-requires
unwrap-key-requires c =
    let l = c.requires.linked in
    let more = walk-more _ _ l.0 l.1 l.2 _ _ c.args.port c.loop.next c.loop.counter c.loop.tickets.items
    (c.loop.invariant.2 l.0 l.1 l.2 l.3) l.3 c.loop-test.true in
    rw more.1 refl

pub index-requires : goal.index-requires
index-requires c =
    let l = c.requires.linked in
    let a = at_key_now _ _ l.0 l.1 l.2 _ _ c.args.port c.loop.next c.loop.counter c.loop.tickets.items
    c.unwrap-key.result (c.loop.invariant.2 l.0 l.1 l.2 l.3) c.unwrap-key.ensures in
    neighbours-there c.loop.neighbours c.args.messages.now c.unwrap-key.result a.b a.there

pub message_in-message-requires-clause-there : goal.message_in-message-requires-clause-there
message_in-message-requires-clause-there c =
    let l = c.requires.linked in
    let a = at_key_now _ _ l.0 l.1 l.2 _ _ c.args.port c.loop.next c.loop.counter c.loop.tickets.items
    c.unwrap-key.result (c.loop.invariant.2 l.0 l.1 l.2 l.3) c.unwrap-key.ensures in
    neighbours-there c.loop.neighbours c.args.messages.now c.unwrap-key.result a.b a.there

pub message_in-message-requires-clause-size : goal.message_in-message-requires-clause-size
message_in-message-requires-clause-size c = c.requires.size ∙ sym c.loop.invariant.0

pub unlink-requires-clause-there : goal.unlink-requires-clause-there
unlink-requires-clause-there c =
    let l = c.requires.linked in
    let a = at_key_now _ _ l.0 l.1 l.2 _ _ c.args.port c.loop.next c.loop.counter c.loop.tickets.items
    c.unwrap-key.result (c.loop.invariant.2 l.0 l.1 l.2 l.3) c.unwrap-key.ensures in
    neighbours-there c.loop.neighbours c.args.messages.now c.unwrap-key.result a.b a.there

pub unlink-requires-clause-some : goal.unlink-requires-clause-some
unlink-requires-clause-some c =
    let l = c.requires.linked in
    let key = c.unwrap-key.result in
    let b = buffer_of (message_in c.args.messages.now key) c.index.result.now in
    let there = buffer-there c.loop.neighbours c.args.messages.now key c.index.result.now c.index.ensures in
    let from = ap (is_from_port c.args.port) (sym c.message_in-message.ensures) ∙ sym c.is_from_port.ensures
    ∙ c.if-is_from_port.true in
    (walk-leaves _ _ l.0 l.1 l.2 _ _ c.args.port c.loop.next c.loop.counter c.loop.tickets.items key b
    (c.loop.invariant.2 l.0 l.1 l.2 l.3) c.unwrap-key.ensures there from).some

pub push-requires : goal.push-requires
push-requires c =
    let l = c.requires.linked in
    let key = c.unwrap-key.result in
    let b = buffer_of (message_in c.args.messages.now key) c.index.result.now in
    let there = buffer-there c.loop.neighbours c.args.messages.now key c.index.result.now c.index.ensures in
    let from = ap (is_from_port c.args.port) (sym c.message_in-message.ensures) ∙ sym c.is_from_port.ensures
    ∙ c.if-is_from_port.true in
    let leaves =
    walk-leaves _ _ l.0 l.1 l.2 _ _ c.args.port c.loop.next c.loop.counter c.loop.tickets.items key b
    (c.loop.invariant.2 l.0 l.1 l.2 l.3) c.unwrap-key.ensures there from in
    omega (arith, leaves.room, c.requires.bound)

pub loop-preserved : goal.loop-preserved
loop-preserved c =
    let key = c.unwrap-key.result in
    let messages = c.args.messages.now in
    let message = message_in messages key in
    let b = buffer_of message c.index.result.now in
    let there = buffer-there c.loop.neighbours messages key c.index.result.now c.index.ensures in
    let from = ap (is_from_port c.args.port) (sym c.message_in-message.ensures) ∙ sym c.is_from_port.ensures in
    elim c.if-is_from_port.branch [
      | then-is_from_port w ↦
          let one = ap ticket_of c.message_in-message.ensures in
          let ticket : w.push.new.self.items ≡ c.loop.tickets.items ++ ticket_of message ∷ [] =
          w.push.ensures.items ∙ ap (λ (n : ℕ). c.loop.tickets.items ++ n ∷ []) (w.ticket.ensures ∙ one) in
          rw (w.neighbours-is, w.chain-is, w.tickets-is, ticket) (
            w.unlink.ensures.capacity ∙ c.loop.invariant.0,
            omega (
              arith,
              w.unlink.ensures.len,
              c.loop.invariant.1,
              length-append c.loop.tickets.items (ticket_of message ∷ []),
            ),
            λ o r q h. walk-take _ (buffer_at c.loop.neighbours messages)
                (buffer_at w.unlink.new.neighbours messages) o r q c.args.chain.now c.loop.chain w.unlink.new.chain
                c.args.port c.loop.next
                c.loop.counter c.loop.tickets.items key b _ message
                (c.loop.invariant.2 o r q h) c.unwrap-key.ensures there (from ∙ w.if-is_from_port.true)
                (unlinked c.loop.neighbours w.unlink.new.neighbours messages c.loop.chain w.unlink.new.chain key
                w.unlink.ensures.unlinked.0 w.unlink.ensures.unlinked.1),
          )
      | else-is_from_port w ↦
          rw (w.neighbours-is, w.chain-is, w.tickets-is) (
            c.loop.invariant.0,
            c.loop.invariant.1,
            λ o r q h. walk-keep _ (buffer_at c.loop.neighbours messages) o r q c.args.chain.now c.loop.chain
                c.args.port c.loop.next c.loop.counter c.loop.tickets.items key b
                (c.loop.invariant.2 o r q h) c.unwrap-key.ensures there (from ∙ w.if-is_from_port.false),
          )
    ]

pub returns-clause-withdrawn : goal.returns-clause-withdrawn
returns-clause-withdrawn c o r q h =
    walk-done _ _ o r q _ _ c.args.port c.loop.next c.loop.counter c.loop.tickets.items
    (c.loop.invariant.2 o r q h) h c.loop-test.false
