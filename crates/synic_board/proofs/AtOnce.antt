-- Placing a message at once equals queueing and then placing it.
use Rattle.std.proofs.Common.{◌≡◌, ℕ, ◌+◌, ◌<◌, Bool, true, false, ◌&&◌, not, nat_lt, List, [], ◌∷◌, ◌++◌, length, set, length-append, refl, ap, sym, ◌∙◌, Some, arith}
use Rattle.std.specs.Prelude.{if◌then◌else◌}
use Rattle.std.proofs.lemmas.Bool.Decides.{nat_tests}
use Rattle.std.proofs.lemmas.List.{get_or-set_same, set-set, set-get_or}
use Rattle.board_terms.specs.declared.messages.Message.{Message}
use Rattle.board_terms.specs.declared.messages.Message.TheVariants.{FromPort, FromTimer}
use Rattle.board_terms.specs.Messages.{ticket_of}
use Rattle.board_terms.specs.declared.notices.Notice.TheVariants.{Accepted, Placed}
use Rattle.board_terms.specs.Sources.{source_number}
use Rattle.message_queues.specs.Queues.{Queues, queue_of}
use Rattle.message_queues.specs.Image.{image, header}
use Rattle.gpa_space.specs.Page.{message_bytes}
use Rattle.gpa_space.specs.Space.{after_slot}
use Rattle.synic_board.specs.State.{State, space_of, with_space, with_slot_ticket}
use Rattle.synic_board.specs.Effects.{Effect, nothing, after}
use Rattle.synic_board.specs.Interrupts.{raised}
use Rattle.synic_board.specs.Delivery.{delivers, is_slot_empty, placed, placed_head, marked, tried, accepted, delivered}
use Rattle.synic_board.specs.inside.Steps.{timer_bytes}
use Rattle.synic_board.specs.inside.AtOnce.{delivers_at_once, marks, placed_at_once}

-- an empty queue
nothing-queued : (q : List Message) → nat_lt 0 (length q) ≡ false → q ≡ []
nothing-queued [] h = refl
nothing-queued (m ∷ q) h = absurd (grind (arith, nat_tests))

-- the slot is free
record DeliversAtOnce (s : State) (p i : ℕ) : Type 0 where
  enabled : delivers s p ≡ true
  none : queue_of s.queues p i ≡ []
  empty : is_slot_empty s p i ≡ true

parts : (a b c : Bool) → (a && not b && c) ≡ true → (a ≡ true) × (b ≡ false) × (c ≡ true)
parts true false true h = (refl, refl, refl)
parts true false false h = absurd (cc)
parts true true c h = absurd (cc)
parts false b c h = absurd (cc)

delivering : (s : State) (p i : ℕ) → delivers_at_once s p i ≡ true → DeliversAtOnce s p i
delivering s p i h =
    let all = parts (delivers s p) (nat_lt 0 (length (queue_of s.queues p i))) (is_slot_empty s p i) h in
    record { enabled = all.0; none = nothing-queued (queue_of s.queues p i) all.1; empty = all.2 }

pub at-once : (s : State) (p i : ℕ) (m : Message) → delivers_at_once s p i ≡ true
    → source_number p i < length s.queues →
    delivered s p i m ≡ after (placed_at_once s p i m) (raised (placed_at_once s p i m).0 p i)
unfolding tried
at-once s p i m free within =
    let h = delivering s p i free in
    let a : State = (accepted s p i m).0 in
    let one : queue_of a.queues p i ≡ m ∷ [] =
    get_or-set_same s.queues (source_number p i) (queue_of s.queues p i ++ m ∷ []) [] within
    ∙ ap (λ (q : List Message). q ++ m ∷ []) h.none in
    let back : set a.queues (source_number p i) [] ≡ s.queues =
    set-set s.queues (source_number p i) (queue_of s.queues p i ++ m ∷ []) []
    ∙ ap (set s.queues (source_number p i)) (sym h.none) ∙ set-get_or s.queues (source_number p i) [] in
    let tries : tried a p i ≡ after (placed_head a p i (m ∷ [])) (raised (placed_head a p i (m ∷ [])).0 p i) =
    (λ j. if h.enabled j && nat_lt 0 (length (one j))
    then (if h.empty j then after (placed_head a p i (one j)) (raised (placed_head a p i (one j)).0 p i)
    else marked a p i) else nothing a) in
    ap (after (accepted s p i m)) tries ∙ ap emitted back
  where
    emitted : Queues → Effect
    emitted qs =
        let t : State =
        with_slot_ticket (record
        (with_space s (after_slot (space_of s) p i (image m false s.moment))) {
          next_ticket = s.next_ticket + 1;
          queues = qs;
        }) p i (Some (ticket_of m)) in
        ((raised t p i).0, Accepted p i (ticket_of m) ∷ Placed p i (ticket_of m) ∷ (raised t p i).1)

both : (a b : Bool) → (a && not b) ≡ true → (a ≡ true) × (b ≡ false)
both true false h = (refl, refl)
both true true h = absurd (cc)
both false b h = absurd (cc)

-- a queue that a message joins is not empty
joined-some : (q : List Message) (m : Message) → nat_lt 0 (length (q ++ m ∷ [])) ≡ true
joined-some q m = let long = length-append q (m ∷ []) in grind (arith, nat_tests)

-- if the slot is occupied, an accepted message only sets MessagePending there
pub only-marked : (s : State) (p i : ℕ) (m : Message) → marks s p i ≡ true → source_number p i < length s.queues
    → delivered s p i m ≡ after (accepted s p i m) (marked (accepted s p i m).0 p i)
unfolding tried
only-marked s p i m occupied within =
    let h = both (delivers s p) (is_slot_empty s p i) occupied in
    let a : State = (accepted s p i m).0 in
    let joined : queue_of a.queues p i ≡ queue_of s.queues p i ++ m ∷ [] =
    get_or-set_same s.queues (source_number p i) (queue_of s.queues p i ++ m ∷ []) [] within in
    let some : nat_lt 0 (length (queue_of a.queues p i)) ≡ true =
    ap (λ (q : List Message). nat_lt 0 (length q)) joined ∙ joined-some (queue_of s.queues p i) m in
    let tries : tried a p i ≡ marked a p i =
    (λ j. if h.0 j && some j then (if h.1 j then after (placed a p i) (raised (placed a p i).0 p i) else marked a p i)
    else nothing a) in
    ap (after (accepted s p i m)) tries

-- the image of a post
pub post-image : (ticket port kind moment : ℕ) (payload : List ℕ) (pending : Bool) →
    image (FromPort ticket port kind (record { items = payload })) pending moment
    ≡ message_bytes (header kind (length payload) pending port) payload
unfolding image
post-image ticket port kind moment payload pending = refl

-- the image of a timer's message
pub timer-image : (ticket : ℕ) (timer : ℕ × ℕ) (expiration moment : ℕ) (pending : Bool)
    → image (FromTimer ticket timer expiration) pending moment ≡ timer_bytes timer expiration pending moment
unfolding image
timer-image ticket timer expiration moment pending = refl
