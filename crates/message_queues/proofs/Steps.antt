-- The fields after an append, a place and a withdrawal.
use Rattle.std.proofs.Common.{◌≡◌, ◌≢◌, ◌⊎◌, inl, inr, ℕ, ◌+◌, ◌*◌, ◌-◌, ◌<◌, ◌≤◌, List, [], ◌∷◌, ◌++◌, length, zero, suc, drop, map, Some, None, refl, sym, ap, subst, ◌∙◌, cond, nat_eq, Bool, true, false, not, arith, get_or}
use Rattle.std.specs.List.{All, filter, slice_get}
use Rattle.std.specs.Prelude.{◌==◌, slice_index_or, slice_set, count_by}
use Rattle.std.proofs.lemmas.Bool.Decides.{eqb_tells}
use Rattle.std.proofs.lemmas.List.{length-map, length-set, set-get_or, get_or_default}
use Rattle.std.proofs.lemmas.List.Elements.{All-append, All-drop, All-filter, All-get_or, All-set}
use Rattle.std.proofs.lemmas.List.Sums.{sum_by-cons, get_or-le-sum_by, length-filter}
use Rattle.slab.specs.Slab.{Slab, get, slab_len}
use Rattle.message_queues.specs.declared.chains.Neighbours.{Neighbours}
use Rattle.board_terms.specs.Messages.{ticket_of}
use Rattle.board_terms.specs.declared.messages.Message.{Message}
use Rattle.board_terms.specs.declared.messages.Message.TheVariants.{FromTimer}
use Rattle.message_queues.specs.inside.Buffers.{Buffer, message_in, buffer_of, buffer_at}
use Rattle.message_queues.specs.declared.chains.Chain.{Chain}
use Rattle.message_queues.specs.declared.queues.Queues.TheInside.{Inside}
use Rattle.message_queues.specs.Queues.{Queues, processors_of, most_ports, HasBuffer, is_from_port, port_used, withdrawn_of, left_of}
use Rattle.message_queues.specs.inside.Owners.{owner_of, owners, HasOwner, used_by, share, IsCounted}
use Rattle.message_queues.specs.inside.Chains.{queue_at, queues_at, ReadsBothWays, AreChains}
use Rattle.message_queues.specs.inside.Moves.{Linked, Freed, Withdrawn}
use Rattle.message_queues.specs.inside.View.{buffers_of, queues_of, total_of, QueuesInvariant}
use Rattle.message_queues.proofs.Counts.{owner-below, few-ports, has_room, all-within, buffer-left, share-le, each-owned, counted-append, counted-place, counted-set, head-used, at_place, at_place-other, count_of, count_of-cons, sum_by-same, is_from_port-owner, count-le-used}
use Rattle.message_queues.proofs.Parts.{pushed, unlinked, message-there, buffer-there}
use Rattle.message_queues.proofs.ChainLemmas.{those, push-moved, unlink-moved, first-split, no-first, row-chain, chain_at, queue-is, length-chain, total-queues, total-set, len-le-total, both-ways}
use Rattle.message_queues.proofs.Walks.{withdrawn-moved}

-- the fields satisfy the invariant, and their view is these queues
pub record Step (neighbours : Slab Neighbours) (messages : List Message) (chains : List Chain) (processors : ℕ)
    (in_use : List ℕ) (view : Queues) : Type 0 where
  pub linked : AreChains (buffer_at neighbours messages) chains
  pub held : slab_len neighbours ≡ total_of chains
  pub both_ways : (queue : ℕ) (chain : Chain) → slice_get chains queue ≡ Some chain
      → ReadsBothWays (buffer_at neighbours messages) chain
  pub room : 16 * most_ports processors + 4 * processors ≤ neighbours.capacity
  pub size : length messages ≡ neighbours.capacity
  pub owned : All (λ (queue : List Message). All (HasOwner processors) queue)
      (queues_at (buffer_at neighbours messages) chains)
  pub counts : IsCounted processors (queues_at (buffer_at neighbours messages) chains) in_use
  pub each : length chains ≡ 16 * processors
  pub view_is : queues_at (buffer_at neighbours messages) chains ≡ view

-- What an append relies on: its owner has a free buffer, and the slab and each chain have capacity.
pub record Room (a : Inside) (owner : ℕ) : Type 0 where
  pub left : used_by owner (queues_of a) < share (most_ports a.processors) owner
  pub below : owner < owners a.processors
  pub fits : slice_index_or a.in_use.items owner 0 < 16
  pub total : total_of a.chains.items < 16 * most_ports a.processors + 4 * a.processors

pub room-for : (a : Inside) (qs : Queues) (message : Message) (o : ℕ) → QueuesInvariant a → queues_of a ≡ qs
    → HasOwner a.processors message → HasBuffer qs message → o ≡ owner_of message → Room a o
room-for a qs message o k shown own has is =
    let owned = each-owned a.processors (queues_of a) k.owned in
    let below = owner-below a.processors message own in
    let has' : HasBuffer (queues_of a) message = subst (λ (x : Queues). HasBuffer x message) (sym shown) has in
    let left = buffer-left a.processors (queues_of a) message k.processor_bound owned own has' in
    let bound = has_room a.processors (queues_of a) a.in_use.items
    (owner_of message) k.processor_bound owned k.counts below left in
    let total = total-queues (buffers_of a) a.chains.items k.linked in
    rw is (record {
      left = left;
      below = below;
      fits = omega (
        arith,
        left,
        share-le (most_ports a.processors) (owner_of message),
        k.counts.counted (owner_of message) below,
      );
      total = omega (arith, bound, total);
    })

-- What every call relies on: the chain of the queue, and the queue that is its view.
pub record Here (a : Inside) (qs : Queues) (q : ℕ) (c : Chain) : Type 0 where
  pub at : slice_get a.chains.items q ≡ Some c
  pub row : slice_index_or (queues_of a) q [] ≡ queue_at (buffers_of a) c
  pub shown_row : slice_index_or qs q [] ≡ queue_at (buffers_of a) c
  pub within : q < length (queues_of a)
  pub len : length (queue_at (buffers_of a) c) ≡ c.len
  pub bound : c.len ≤ 16 * most_ports a.processors + 4 * a.processors
  pub few : c.len ≤ 4352
  pub each : length qs ≡ 16 * a.processors

-- each processor has 16 queues
pub queues-each : (a : Inside) (qs : Queues) → QueuesInvariant a → queues_of a ≡ qs → length qs ≡ 16 * a.processors
queues-each a qs k shown = sym (ap length shown) ∙ length-map a.chains.items (queue_at (buffers_of a)) ∙ k.each

-- a count that was read is that of its owner
pub used-at : (a : Inside) (o used : ℕ) → QueuesInvariant a → o < owners a.processors
    → used ≡ get_or a.in_use.items o used → used ≡ slice_index_or a.in_use.items o 0
used-at a o used k below read = read ∙ get_or_default a.in_use.items o used 0 (omega (arith, below, k.counts.size))

-- the processors that a call sees
pub same-processors : (a : Inside) (qs : Queues) → QueuesInvariant a → queues_of a ≡ qs
    → processors_of qs ≡ a.processors
same-processors a qs k shown = omega (arith, queues-each a qs k shown)

-- a timer of a processor that has queues has an owner
pub timer-owned : (a : Inside) (qs : Queues) (ticket expiration : ℕ) (timer : ℕ × ℕ) → QueuesInvariant a
    → queues_of a ≡ qs → timer.0 < processors_of qs → timer.1 < 4 →
    HasOwner a.processors (FromTimer ticket timer expiration)
timer-owned a qs ticket expiration timer k shown on index = (omega (arith, on, queues-each a qs k shown), index)

pub here : (a : Inside) (qs : Queues) (q : ℕ) (c : Chain) → QueuesInvariant a → queues_of a ≡ qs → q < length qs
    → c ≡ get_or a.chains.items q c → Here a qs q c
here a qs q c k shown within read =
    let at = chain_at (buffers_of a) a.chains.items qs q c shown within read in
    let row = queue-is (buffers_of a) a.chains.items q c at in
    let total = total-queues (buffers_of a) a.chains.items k.linked in
    let all = all-within a.processors (queues_of a) a.in_use.items k.processor_bound
    (each-owned a.processors (queues_of a) k.owned) k.counts in
    record {
      at = at;
      row = row;
      shown_row = ap (λ (x : Queues). slice_index_or x q []) (sym shown) ∙ row;
      within = omega (arith, within, ap length shown);
      len = length-chain (buffers_of a) k.linked.owner k.linked.rank q c (k.linked.each q c at);
      bound = omega (arith, total, all, len-le-total a.chains.items q c at);
      few = omega (
        arith,
        total,
        all,
        len-le-total a.chains.items q c at,
        few-ports a.processors k.processor_bound,
        k.processor_bound,
      );
      each = queues-each a qs k shown;
    }

owned-at : (a : Inside) (q : ℕ) → QueuesInvariant a → q < length (queues_of a)
    → All (HasOwner a.processors) (slice_index_or (queues_of a) q [])
owned-at a q k within =
    All-get_or (λ (queue : List Message). All (HasOwner a.processors) queue) (queues_of a) q [] within k.owned

owned-set : (a : Inside) (q : ℕ) (r : List Message) → QueuesInvariant a → All (HasOwner a.processors) r →
    All (λ (queue : List Message). All (HasOwner a.processors) queue) (slice_set (queues_of a) q r)
owned-set a q r k own =
    All-set (λ (queue : List Message). All (HasOwner a.processors) queue) (queues_of a) q r own k.owned

one-owned : (n : ℕ) (m : Message) → HasOwner n m → All (HasOwner n) (m ∷ [])
one-owned n m own = by
  where
    by : All (HasOwner n) (m ∷ [])
    by zero d below = own
    by (suc k) d below = absurd (omega arith)

pub append-step : (a : Inside) (qs : Queues) (q : ℕ) (c d : Chain) (key : ℕ) (message : Message) (o used : ℕ)
    (new : Slab Neighbours) → QueuesInvariant a → queues_of a ≡ qs →
    q < length qs → c ≡ get_or a.chains.items q c → HasOwner a.processors message → HasBuffer qs message
    → o ≡ owner_of message → used ≡ slice_index_or a.in_use.items o 0 →
    Linked (get a.neighbours) (get new) c d key → slab_len new ≡ slab_len a.neighbours + 1
    → new.capacity ≡ a.neighbours.capacity → key < a.neighbours.capacity →
    Step new (slice_set a.messages.items key message) (slice_set a.chains.items q d) a.processors
    (slice_set a.in_use.items o (used + 1))
    (slice_set qs q (slice_index_or qs q [] ++ message ∷ []))
append-step a qs q c d key message o used new k shown within read own has is count move len capacity range =
    let messages : List Message = slice_set a.messages.items key message in
    let push = pushed a.neighbours new a.messages.items c d key message move (omega (arith, range, k.size)) in
    let h = here a qs q c k shown within read in
    let room = room-for a qs message o k shown own has is in
    let m = push-moved (buffers_of a) (buffer_at new messages) a.chains.items q c d message key k.linked h.at push in
    let view = m.view ∙ ap (λ (x : List Message). slice_set (queues_of a) q (x ++ message ∷ [])) (sym h.row) in
    let left : used_by (owner_of message) (queues_of a) < share (most_ports a.processors) (owner_of message) =
    rw is at room.left in
    record {
      linked = m.kept;
      both_ways = both-ways (buffer_at new messages) (slice_set a.chains.items q d) m.kept;
      held = omega (arith, total-set a.chains.items q c d h.at, k.held, len, move.len);
      room = omega (arith, k.room, capacity);
      size = length-set a.messages.items key message ∙ k.size ∙ sym capacity;
      owned = rw view (owned-set a q (slice_index_or (queues_of a) q [] ++ message ∷ []) k
          (All-append (HasOwner a.processors) (slice_index_or (queues_of a) q []) (message ∷ [])
          (owned-at a q k h.within) (one-owned a.processors message own)));
      counts = rw (view, count, is)
          (counted-append a.processors (queues_of a) a.in_use.items q message k.counts h.within
          (owner-below a.processors message own) left);
      each = length-set a.chains.items q d ∙ k.each;
      view_is = view ∙ ap (λ (x : Queues). slice_set x q (slice_index_or x q [] ++ message ∷ [])) shown;
    }

-- What a place relies on if the chain has a first key: the queue has a head.
pub record Head (a : Inside) (qs : Queues) (q : ℕ) (c : Chain) (key : ℕ) : Type 0 where
  pub b : Buffer
  pub rest : List Message
  pub there : buffers_of a key ≡ Some b
  pub first : b.before ≡ None
  pub some : 1 ≤ c.len
  pub row : slice_index_or qs q [] ≡ b.message ∷ rest
  pub own : HasOwner a.processors b.message
  pub used : 1 ≤ slice_index_or a.in_use.items (owner_of b.message) 0

pub head-at : (a : Inside) (qs : Queues) (q : ℕ) (c : Chain) (key : ℕ) → QueuesInvariant a → queues_of a ≡ qs
    → q < length qs → c ≡ get_or a.chains.items q c → c.first ≡ Some key → Head a qs q c key
head-at a qs q c key k shown within read first =
    let h = here a qs q c k shown within read in
    let chain = k.linked.each q c h.at in
    let split = first-split (buffers_of a) k.linked.owner k.linked.rank q c key chain first in
    let links = rw split.1 at chain.links in
    let rest = those (buffers_of a) split.0 in
    let there : buffers_of a key ≡ Some links.0 = links.4 in
    let one : those (buffers_of a) (key ∷ split.0) ≡ links.0.message ∷ rest = rw there refl in
    let row = h.row ∙ row-chain (buffers_of a) k.linked.owner k.linked.rank q c chain
    ∙ ap (those (buffers_of a)) split.1 ∙ one in
    let own : HasOwner a.processors links.0.message =
    rw row at (owned-at a q k h.within) 0 links.0.message (omega (arith, ap length row)) in
    record {
      b = links.0;
      rest = rest;
      there = there;
      first = links.5;
      some = omega (arith, chain.len, ap length split.1);
      row = ap (λ (x : Queues). slice_index_or x q []) (sym shown) ∙ row;
      own = own;
      used = head-used a.processors (queues_of a) a.in_use.items q links.0.message rest k.counts h.within
          (owner-below a.processors links.0.message own) row;
    }

-- the message at the first key
pub head-message : (a : Inside) (qs : Queues) (q : ℕ) (c : Chain) (key : ℕ) (h : Head a qs q c key)
    → message_in a.messages.items key ≡ h.b.message
head-message a qs q c key h = message-there a.neighbours a.messages.items key h.b h.there

-- its owner, which has a count of at least one
pub record HeadOwner (a : Inside) (o : ℕ) : Type 0 where
  pub below : o < owners a.processors
  pub used : 1 ≤ slice_index_or a.in_use.items o 0

pub head-owner : (a : Inside) (qs : Queues) (q : ℕ) (c : Chain) (key : ℕ) (message : Message) (o : ℕ)
    (h : Head a qs q c key) → message ≡ message_in a.messages.items key → o ≡ owner_of message → HeadOwner a o
head-owner a qs q c key message o h read is =
    rw (is ∙ ap owner_of (read ∙ head-message a qs q c key h))
    (record { below = owner-below a.processors h.b.message h.own; used = h.used })

-- nothing is before the first key
pub head-first : (a : Inside) (qs : Queues) (q : ℕ) (c : Chain) (key : ℕ) (n : Neighbours) (h : Head a qs q c key)
    → get a.neighbours key ≡ Some n → n.before ≡ None
head-first a qs q c key n h there =
    let two : Some (buffer_of (message_in a.messages.items key) n) ≡ Some h.b =
    sym (buffer-there a.neighbours a.messages.items key n there) ∙ h.there in
    let same : buffer_of (message_in a.messages.items key) n ≡ h.b = cc in
    ap (λ (x : Buffer). x.before) same ∙ h.first

pub place-step : (a : Inside) (qs : Queues) (q : ℕ) (c d : Chain) (key : ℕ) (n : Neighbours) (o used : ℕ)
    (new : Slab Neighbours) → QueuesInvariant a →
    queues_of a ≡ qs → q < length qs → c ≡ get_or a.chains.items q c → c.first ≡ Some key
    → o ≡ owner_of (message_in a.messages.items key) → used ≡ slice_index_or a.in_use.items o 0 →
    Freed (get a.neighbours) (get new) c d key n → slab_len new + 1 ≡ slab_len a.neighbours
    → new.capacity ≡ a.neighbours.capacity →
    Step new a.messages.items (slice_set a.chains.items q d) a.processors (slice_set a.in_use.items o (used - 1))
    (slice_set qs q (drop 1 (slice_index_or qs q [])))
place-step a qs q c d key n o used new k shown within read first is count move len capacity =
    let messages = a.messages.items in
    let message = message_in messages key in
    let b = buffer_of message n in
    let gone = unlinked a.neighbours new messages c d key n move in
    let h = here a qs q c k shown within read in
    let chain = k.linked.each q c h.at in
    let split = first-split (buffers_of a) k.linked.owner k.linked.rank q c key chain first in
    let m = unlink-moved (buffers_of a)
    (buffer_at new messages) a.chains.items q c d key b message k.linked h.at [] split.0 split.1 gone in
    let rest = those (buffers_of a) split.0 in
    let row : slice_index_or (queues_of a) q [] ≡ message ∷ rest = h.row ∙ m.1 in
    let left : drop 1 (slice_index_or (queues_of a) q []) ≡ rest = ap (λ (x : List Message). drop 1 x) row in
    let view = m.0.view ∙ ap (λ (x : List Message). slice_set (queues_of a) q x) (sym left) in
    let own : HasOwner a.processors message =
    rw row at (owned-at a q k h.within) 0 message (omega (arith, ap length row)) in
    record {
      linked = m.0.kept;
      both_ways = both-ways (buffer_at new messages) (slice_set a.chains.items q d) m.0.kept;
      held = omega (arith, total-set a.chains.items q c d h.at, k.held, len, gone.len);
      room = omega (arith, k.room, capacity);
      size = k.size ∙ sym capacity;
      owned = rw view (owned-set a q (drop 1 (slice_index_or (queues_of a) q [])) k
          (All-drop (HasOwner a.processors) 1 (slice_index_or (queues_of a) q []) (owned-at a q k h.within)));
      counts = rw (m.0.view, count, is)
          (counted-place a.processors (queues_of a) a.in_use.items q message rest k.counts h.within
          (owner-below a.processors message own) row);
      each = length-set a.chains.items q d ∙ k.each;
      view_is = view ∙ ap (λ (x : Queues). slice_set x q (drop 1 (slice_index_or x q []))) shown;
    }

-- a queue whose chain has no first key is empty
pub place-none : (a : Inside) (qs : Queues) (q : ℕ) (c : Chain) → QueuesInvariant a → queues_of a ≡ qs → q < length qs
    → c ≡ get_or a.chains.items q c → c.first ≡ None → slice_index_or qs q [] ≡ []
place-none a qs q c k shown within read none =
    let h = here a qs q c k shown within read in
    let chain = k.linked.each q c h.at in
    h.shown_row ∙ row-chain (buffers_of a) k.linked.owner k.linked.rank q c chain
    ∙ ap (those (buffers_of a)) (no-first (buffers_of a) k.linked.owner k.linked.rank q c chain none)

-- the port's messages of a queue are its buffers there
withdrawn-count : (port : ℕ) (q : List Message) → port < 256 → length (withdrawn_of port q) ≡ count_of port q
withdrawn-count port q below = length-map (filter (is_from_port port) q) ticket_of ∙ length-filter (is_from_port port) q
    ∙ sum_by-same (λ m. cond (is_from_port port m) 1 0) (λ m. cond (owner_of m == port) 1 0) q
    (λ m. ap (λ (b : Bool). cond b 1 0) (is_from_port-owner port m below))

left-count : (port o : ℕ) (q : List Message) → port < 256 → o ≢ port → count_of o (left_of port q) ≡ count_of o q
left-count port o [] below ne = refl
left-count port o (m ∷ ms) below ne =
    go (left-count port o ms below ne) (is_from_port port m) refl (eqb_tells (owner_of m) port)
  where
    go : count_of o (left_of port ms) ≡ count_of o ms → (b : Bool) → is_from_port port m ≡ b →
        ((nat_eq (owner_of m) port ≡ true) × (owner_of m ≡ port))
        ⊎ ((nat_eq (owner_of m) port ≡ false) × (owner_of m ≢ port)) →
        count_of o (cond (not b) (m ∷ left_of port ms) (left_of port ms)) ≡ count_of o (m ∷ ms)
    go more true e (inl t) =
        let other =
        at_place-other (owner_of m) o (λ is. ne (sym is ∙ t.1)) in omega (arith, more, other, count_of-cons o m ms)
    go more true e (inr t) = let bad : true ≡ false = sym e ∙ is_from_port-owner port m below ∙ t.0 in cc
    go more false e t = omega (arith, more, count_of-cons o m (left_of port ms), count_of-cons o m ms)

left-none : (port : ℕ) (q : List Message) → port < 256 → count_of port (left_of port q) ≡ 0
left-none port [] below = refl
left-none port (m ∷ ms) below = go (left-none port ms below) (is_from_port port m) refl
  where
    go : count_of port (left_of port ms) ≡ 0 → (b : Bool) → is_from_port port m ≡ b
        → count_of port (cond (not b) (m ∷ left_of port ms) (left_of port ms)) ≡ 0
    go more true e = more
    go more false e =
        let other : at_place (owner_of m) port ≡ 0 =
        ap (λ (b : Bool). cond b 1 0) (sym (is_from_port-owner port m below) ∙ e) in
        omega (arith, more, other, count_of-cons port m (left_of port ms))

-- What a withdrawal relies on: the port's messages in the queue are among its buffers in use.
pub record Found (a : Inside) (c : Chain) (port : ℕ) : Type 0 where
  pub bound : length (withdrawn_of port (queue_at (buffers_of a) c)) ≤ slice_index_or a.in_use.items port 0
  pub in_use : slice_index_or a.in_use.items port 0 ≤ 16

pub found : (a : Inside) (qs : Queues) (q : ℕ) (c : Chain) (port : ℕ) → QueuesInvariant a → queues_of a ≡ qs
    → q < length qs → c ≡ get_or a.chains.items q c → port < 256 → Found a c port
found a qs q c port k shown within read below =
    let h = here a qs q c k shown within read in
    let least = count-le-used (queues_of a) q port h.within in
    let same = ap (count_of port) h.row in
    let count = k.counts.counted port (omega arith) in
    record {
      bound = omega (arith, withdrawn-count port (queue_at (buffers_of a) c) below, same, least, count);
      in_use = omega (arith, count, k.counts.within port (omega arith), share-le (most_ports a.processors) port);
    }

pub withdrawn-step : (a : Inside) (qs : Queues) (q : ℕ) (c d : Chain) (port used n : ℕ) (tickets : List ℕ)
    (new : Slab Neighbours) (k : QueuesInvariant a) → queues_of a ≡ qs →
    q < length qs → c ≡ get_or a.chains.items q c → port < 256 →
    Withdrawn (buffers_of a) (buffer_at new a.messages.items) k.linked.owner k.linked.rank q c d port tickets
    → slab_len new + length tickets ≡ slab_len a.neighbours →
    new.capacity ≡ a.neighbours.capacity → used ≡ slice_index_or a.in_use.items port 0 → n ≡ length tickets →
    Step new a.messages.items (slice_set a.chains.items q d) a.processors (slice_set a.in_use.items port (used - n))
    (slice_set qs q (left_of port (slice_index_or qs q [])))
withdrawn-step a qs q c d port used n tickets new k shown within read below w len capacity stored is =
    let h = here a qs q c k shown within read in
    let m = withdrawn-moved (buffers_of a)
    (buffer_at new a.messages.items) a.chains.items q c d port tickets k.linked h.at w in
    let row = slice_index_or (queues_of a) q [] in
    let view = m.view ∙ ap (λ (x : List Message). slice_set (queues_of a) q (left_of port x)) (sym h.row) in
    let f = found a qs q c port k shown within read below in
    let taken = ap length w.tickets_are in
    let count = k.counts.counted port (omega arith) in
    let gone = withdrawn-count port (queue_at (buffers_of a) c) below in
    let same = ap (count_of port) h.row in
    record {
      linked = m.kept;
      both_ways = both-ways (buffer_at new a.messages.items) (slice_set a.chains.items q d) m.kept;
      held = omega (arith, total-set a.chains.items q c d h.at, k.held, len, w.len);
      room = omega (arith, k.room, capacity);
      size = k.size ∙ sym capacity;
      owned = rw view (owned-set a q (left_of port row) k
          (All-filter (λ x. not (is_from_port port x)) (HasOwner a.processors) row (owned-at a q k h.within)));
      counts = rw (view, stored)
          (counted-set a.processors (queues_of a) a.in_use.items q (left_of port row) port
          (slice_index_or a.in_use.items port 0 - n) k.counts h.within (omega arith)
          (λ x ne. left-count port x row below ne)
          (omega (arith, left-none port row below, f.bound, is, taken, count, gone, same))
          (omega (arith, count, k.counts.within port (omega arith))));
      each = length-set a.chains.items q d ∙ k.each;
      view_is = view ∙ ap (λ (x : Queues). slice_set x q (left_of port (slice_index_or x q []))) shown;
    }

-- a port without messages leaves a queue unchanged
none-there : (port : ℕ) (q : List Message) → count_by (is_from_port port) q ≡ 0 → (filter (is_from_port port) q ≡ [])
    × (left_of port q ≡ q)
none-there port [] none = (refl, refl)
none-there port (m ∷ ms) none = go (λ fewer. none-there port ms fewer) (is_from_port port m) refl
  where
    go : (count_by (is_from_port port) ms ≡ 0 → (filter (is_from_port port) ms ≡ []) × (left_of port ms ≡ ms))
        → (b : Bool) → is_from_port port m ≡ b →
        (cond b (m ∷ filter (is_from_port port) ms) (filter (is_from_port port) ms) ≡ [])
        × (cond (not b) (m ∷ left_of port ms) (left_of port ms) ≡ m ∷ ms)
    go rest true e =
        let one : count_by (is_from_port port) (m ∷ ms) ≡ 1 + count_by (is_from_port port) ms =
        sum_by-cons (λ x. cond (is_from_port port x) 1 0) m ms
        ∙ ap (λ (b : Bool). cond b 1 0 + count_by (is_from_port port) ms) e in absurd (omega (arith, none, one))
    go rest false e =
        let more = rest (omega (arith, none, sum_by-cons (λ x. cond (is_from_port port x) 1 0) m ms)) in
        (more.0, ap (λ (y : List Message). m ∷ y) more.1)

pub unused : (qs : Queues) (q port : ℕ) → q < length qs → port_used qs port ≡ 0
    → (withdrawn_of port (slice_index_or qs q []) ≡ []) × (slice_set qs q (left_of port (slice_index_or qs q [])) ≡ qs)
unused qs q port within none =
    let here = none-there port (slice_index_or qs q [])
    (omega (arith, none, get_or-le-sum_by (count_by (is_from_port port)) qs q [] within)) in
    (ap (map ticket_of) here.0, ap (λ (y : List Message). slice_set qs q y) here.1 ∙ set-get_or qs q [])
