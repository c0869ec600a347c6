-- The fields of new queues.
use Rattle.std.proofs.Common.{nat_eq, ◌≡◌, ℕ, zero, suc, ◌+◌, ◌*◌, ◌≤◌, List, [], ◌∷◌, length, replicate, Some, None, refl, sym, ap, ◌∙◌, arith}
use Rattle.std.specs.List.{All, slice_get}
use Rattle.std.specs.Prelude.{count_by, is_some}
use Rattle.std.proofs.lemmas.List.{get_or-replicate, length-replicate}
use Rattle.std.proofs.lemmas.List.Sums.{sum_by-cons}
use Rattle.slab.specs.Slab.{Slab}
use Rattle.message_queues.specs.declared.chains.Neighbours.{Neighbours}
use Rattle.message_queues.specs.inside.Buffers.{buffer_at}
use Rattle.board_terms.specs.declared.messages.Message.{Message}
use Rattle.message_queues.specs.declared.chains.Chain.{Chain}
use Rattle.message_queues.specs.Queues.{Queues, most_ports}
use Rattle.message_queues.specs.inside.Owners.{owner_of, owners, HasOwner, used_by}
use Rattle.message_queues.specs.inside.Chains.{queues_at, IsChain, AreChains}
use Rattle.message_queues.specs.inside.View.{total_of}
use Rattle.message_queues.proofs.ChainLemmas.{both-ways}
use Rattle.message_queues.proofs.Steps.{Step}

abbrev pub empty_chain : Chain
empty_chain = record { first = None; last = None; len = 0 }

is-empty : (n : ℕ) (queue : ℕ) (chain : Chain) → slice_get (replicate n empty_chain) queue ≡ Some chain
    → empty_chain ≡ chain
is-empty zero queue chain h = cc
is-empty (suc n) zero chain h = cc
is-empty (suc n) (suc queue) chain h = is-empty n queue chain h

no_keys : (n : ℕ) → total_of (replicate n empty_chain) ≡ 0
no_keys zero = refl
no_keys (suc n) =
    let more =
    no_keys n in omega (arith, more, sum_by-cons (λ (c : Chain). c.len) empty_chain (replicate n empty_chain))

none_used : (n o : ℕ) → used_by o (replicate n []) ≡ 0
none_used zero o = refl
none_used (suc n) o =
    let more =
    none_used n o in
    omega (arith, more, sum_by-cons (count_by (λ (m : Message). nat_eq (owner_of m) o)) [] (replicate n []))

none_owned : (processors n : ℕ) → All (λ (queue : List Message). All (HasOwner processors) queue) (replicate n [])
none_owned processors n k d below i e inside =
    let empty : List Message = [] in
    let none = get_or-replicate n k empty d (omega (arith, below, length-replicate n empty)) in
    absurd (omega (arith, inside, ap length none))

pub opened-queues : (new : Slab Neighbours) (messages : List Message) (n : ℕ)
    → queues_at (buffer_at new messages) (replicate n empty_chain) ≡ replicate n []
opened-queues new messages zero = refl
opened-queues new messages (suc n) = ap (λ (x : Queues). [] ∷ x) (opened-queues new messages n)

pub opened : (new : Slab Neighbours) (messages : List Message) (in_use : List ℕ) (processors n : ℕ)
    → in_use ≡ replicate (owners processors) 0 → n ≡ 16 * processors → new.slots ≡ []
    → 16 * most_ports processors + 4 * processors ≤ new.capacity →
    length messages ≡ new.capacity → Step new messages (replicate n empty_chain) processors in_use (replicate n [])
opened new messages in_use processors n unused queues empty room size = record {
  linked = linked;
  both_ways = both-ways (buffer_at new messages) (replicate n empty_chain) linked;
  held = ap (count_by is_some) empty ∙ sym (no_keys n);
  room = room;
  size = size;
  owned = rw (opened-queues new messages n) (none_owned processors n);
  counts = rw (opened-queues new messages n, unused) (record {
    size = length-replicate (owners processors) 0;
    counted = λ o below. get_or-replicate (owners processors) o 0 0 below ∙ sym (none_used n o);
    within = λ o below. rw (none_used n o) (omega arith);
  });
  each = length-replicate n empty_chain ∙ queues;
  view_is = opened-queues new messages n;
}
  where
    one : (queue : ℕ) → IsChain (buffer_at new messages) (λ k. 0) (λ k. 0) queue empty_chain
    one queue = record { keys = []; top = 0; links = (refl, refl, omega arith); len = refl }

    linked : AreChains (buffer_at new messages) (replicate n empty_chain)
    linked = record {
      owner = λ k. 0;
      rank = λ k. 0;
      each = λ queue chain at. rw (← is-empty n queue chain at) (one queue);
    }
