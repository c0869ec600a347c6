-- Linking and unlinking a key, as changes of the buffers.
use Rattle.std.proofs.Common.{◌≡◌, ◌≢◌, ℕ, ◌<◌, List, length, Option, Some, None, refl, ap, ◌∙◌}
use Rattle.std.specs.Prelude.{slice_set, IsSome}
use Rattle.std.specs.Option.{option_map}
use Rattle.std.proofs.lemmas.List.{get_or-set_same, get_or-set_other}
use Rattle.slab.specs.Slab.{Slab, get}
use Rattle.board_terms.specs.declared.messages.Message.{Message}
use Rattle.message_queues.specs.declared.chains.Chain.{Chain}
use Rattle.message_queues.specs.declared.chains.Neighbours.{Neighbours}
use Rattle.message_queues.specs.inside.Buffers.{Buffer, no_message, message_in, buffer_of, buffer_at}
use Rattle.message_queues.specs.inside.Moves.{followed_by, preceded_by, with_behind, with_before, Linked, Freed, Pushed, Unlinked}

map-followed : (m : Message) (u : Option ℕ) (o : Option Neighbours)
    → option_map (buffer_of m) (option_map (followed_by u) o) ≡ option_map (with_behind u) (option_map (buffer_of m) o)
map-followed m u None = refl
map-followed m u (Some n) = refl

map-preceded : (m : Message) (u : Option ℕ) (o : Option Neighbours)
    → option_map (buffer_of m) (option_map (preceded_by u) o) ≡ option_map (with_before u) (option_map (buffer_of m) o)
map-preceded m u None = refl
map-preceded m u (Some n) = refl

-- a key is linked, and its message is written
pub pushed : (old new : Slab Neighbours) (messages : List Message) (c d : Chain) (key : ℕ) (message : Message)
    → Linked (get old) (get new) c d key → key < length messages →
    Pushed (buffer_at old messages) (buffer_at new (slice_set messages key message)) c d message key
pushed old new messages c d key message move within = record {
  free = ap (option_map (buffer_of (message_in messages key))) move.free;
  here = λ ne. ap (option_map (buffer_of (message_in written key))) (move.here ne)
      ∙ ap (λ (m : Message). Some (buffer_of m (record { before = c.last; behind = None }))) same;
  end = λ k is ne. ap (option_map (buffer_of (message_in written k))) (move.end k is ne)
      ∙ map-followed (message_in written k) (Some key) (get old k)
      ∙ ap (λ (m : Message). option_map (with_behind (Some key)) (option_map (buffer_of m) (get old k))) (other k ne);
  others = λ k not ne. ap (option_map (buffer_of (message_in written k))) (move.others k not ne)
      ∙ ap (λ (m : Message). option_map (buffer_of m) (get old k)) (other k ne);
  first = move.first;
  last = move.last;
  len = move.len;
}
  where
    written : List Message
    written = slice_set messages key message

    same : message_in written key ≡ message
    same = get_or-set_same messages key message no_message within

    other : (k : ℕ) → k ≢ key → message_in written k ≡ message_in messages k
    other k ne = get_or-set_other messages key k message no_message ne

-- a key is unlinked, and its message is that of the buffer
pub unlinked : (old new : Slab Neighbours) (messages : List Message) (c d : Chain) (key : ℕ) (n : Neighbours)
    → Freed (get old) (get new) c d key n →
    Unlinked (buffer_at old messages) (buffer_at new messages) c d key (buffer_of (message_in messages key) n)
    (message_in messages key)
unlinked old new messages c d key n move = record {
  was = ap (option_map (buffer_of (message_in messages key))) move.was;
  message_is = refl;
  left = λ k ne is not. ap (option_map (buffer_of (message_in messages k))) (move.left k ne is not)
      ∙ map-followed (message_in messages k) n.behind (get old k);
  right = λ k ne not is. ap (option_map (buffer_of (message_in messages k))) (move.right k ne not is)
      ∙ map-preceded (message_in messages k) n.before (get old k);
  others = λ k ne not not'. ap (option_map (buffer_of (message_in messages k))) (move.others k ne not not');
  first = move.first;
  last = move.last;
  len = move.len;
}

-- the message of a buffer in use
pub message-there : (neighbours : Slab Neighbours) (messages : List Message) (key : ℕ) (b : Buffer)
    → buffer_at neighbours messages key ≡ Some b → message_in messages key ≡ b.message
message-there neighbours messages key b there = by (get neighbours key) there
  where
    by : (o : Option Neighbours) → option_map (buffer_of (message_in messages key)) o ≡ Some b
        → message_in messages key ≡ b.message
    by None e = absurd (cc)
    by (Some n) e = let same : buffer_of (message_in messages key) n ≡ b = cc in ap (λ (x : Buffer). x.message) same

-- a buffer in use has neighbours
pub neighbours-there : (neighbours : Slab Neighbours) (messages : List Message) (key : ℕ) (b : Buffer)
    → buffer_at neighbours messages key ≡ Some b → IsSome (get neighbours key)
neighbours-there neighbours messages key b there = by (get neighbours key) there
  where
    by : (o : Option Neighbours) → option_map (buffer_of (message_in messages key)) o ≡ Some b → IsSome o
    by None e = absurd (cc)
    by (Some n) e = refl

-- the buffer of neighbours in use
pub buffer-there : (neighbours : Slab Neighbours) (messages : List Message) (key : ℕ) (n : Neighbours)
    → get neighbours key ≡ Some n →
    buffer_at neighbours messages key ≡ Some (buffer_of (message_in messages key) n)
buffer-there neighbours messages key n there = ap (option_map (buffer_of (message_in messages key))) there
