use Rattle.std.proofs.Common.{◌≡◌, ℕ, suc, Some, refl, sym, ap, ◌∙◌, arith}
use Rattle.std.specs.List.{slice_get}
use Rattle.board_terms.specs.declared.messages.Message.{Message}
use Rattle.message_queues.specs.inside.Buffers.{message_in, buffer_of, buffer_at}
use Rattle.message_queues.specs.inside.Chains.{queue_at}
use Rattle.message_queues.proofs.Parts.{message-there, neighbours-there, buffer-there}
use Rattle.message_queues.proofs.Reading.{at-chain, at_key, behind-key}
use Rattle.message_queues.proofs.chains.message_at.Goals as goal

pub unwrap-key-requires : goal.unwrap-key-requires
unwrap-key-requires c =
    let l = c.requires.linked in
    let a = at-chain (buffer_at c.args.neighbours.now c.args.messages.now) l.0 l.1 l.2 c.args.chain.now l.3 0
    (omega (arith, c.requires.inside)) in
    rw a.is refl

pub index-requires : goal.index-requires
index-requires c =
    let l = c.requires.linked in
    let a = at-chain (buffer_at c.args.neighbours.now c.args.messages.now) l.0 l.1 l.2 c.args.chain.now l.3
    c.loop.counter (omega (arith, c.requires.inside)) in
    let k = at_key _ _ _ c.loop.counter c.loop.key a c.loop.invariant in
    neighbours-there c.args.neighbours.now c.args.messages.now c.loop.key k.b k.there

pub unwrap-key-requires-in-loop : goal.unwrap-key-requires-in-loop
unwrap-key-requires-in-loop c =
    let l = c.requires.linked in
    let a = at-chain (buffer_at c.args.neighbours.now c.args.messages.now) l.0 l.1 l.2 c.args.chain.now l.3
    (suc c.loop.counter) (omega (arith, c.requires.inside)) in
    let b = buffer_of (message_in c.args.messages.now c.loop.key) c.index.result.now in
    let there = buffer-there c.args.neighbours.now c.args.messages.now c.loop.key c.index.result.now c.index.ensures in
    rw (behind-key _ _ _ c.loop.counter c.loop.key b a c.loop.invariant there).1 refl

pub message_in-requires-clause-there : goal.message_in-requires-clause-there
message_in-requires-clause-there c =
    let l = c.requires.linked in
    let a = at-chain (buffer_at c.args.neighbours.now c.args.messages.now) l.0 l.1 l.2 c.args.chain.now l.3
    c.loop.counter (omega (arith, c.requires.inside)) in
    let k = at_key _ _ _ c.loop.counter c.loop.key a c.loop.invariant in
    neighbours-there c.args.neighbours.now c.args.messages.now c.loop.key k.b k.there

pub returns : goal.returns
returns c =
    let l = c.requires.linked in
    let a = at-chain (buffer_at c.args.neighbours.now c.args.messages.now) l.0 l.1 l.2 c.args.chain.now l.3
    c.loop.counter (omega (arith, c.requires.inside)) in
    let k = at_key _ _ _ c.loop.counter c.loop.key a c.loop.invariant in
    let end : c.args.index ≡ c.loop.counter = omega arith in
    let here = message-there c.args.neighbours.now c.args.messages.now c.loop.key k.b k.there in
    ap (λ (i : ℕ). slice_get (queue_at (buffer_at c.args.neighbours.now c.args.messages.now) c.args.chain.now) i) end
    ∙ k.message ∙ ap (λ (m : Message). Some m) (sym here ∙ sym c.message_in.ensures)
