-- Placing the head of a queue in its slot.
use Rattle.std.proofs.Common.{◌≡◌, ℕ, ◌-◌, ◌<◌, ◌≤◌, Bool, nat_lt, List, [], ◌∷◌, ◌++◌, drop, length, refl, sym, ap, ◌∙◌, set, arith}
use Rattle.std.specs.Prelude.{Option, Some}
use Rattle.std.specs.List.{slice_get}
use Rattle.std.proofs.lemmas.List.{get_or-set_same}
use Rattle.board_terms.specs.declared.messages.Message.{Message}
use Rattle.board_terms.specs.Messages.{ticket_of}
use Rattle.board_terms.specs.declared.notices.Notice.{Notice}
use Rattle.gpa_space.specs.Space.{Space, after_slot}
use Rattle.board_terms.specs.Sources.{source_number}
use Rattle.message_queues.specs.Queues.{Queues, queue_of, after_place}
use Rattle.message_queues.specs.Image.{image}
use Rattle.synic_board.specs.State.{State, space_of}
use Rattle.synic_board.specs.inside.Effected.{preceded}
use Rattle.synic_board.specs.Delivery.{placed_head, placed_notices, placed}

headed : (q : List Message) (m : Message) → slice_get q 0 ≡ Some m → q ≡ m ∷ drop 1 q
headed [] m e = cc
headed (x ∷ q) m e = let same : x ≡ m = cc in ap (λ y. y ∷ q) same

-- the number of messages that stay in the queue
left_behind : (qs now : Queues) (p i left : ℕ) → source_number p i < length qs → now ≡ after_place qs p i
    → left ≡ length (queue_of now p i) → left ≡ length (drop 1 (queue_of qs p i))
left_behind qs now p i left h is count =
    count ∙ ap (λ xs. length (queue_of xs p i)) is
    ∙ ap length (get_or-set_same qs (source_number p i) (drop 1 (queue_of qs p i)) [] h)

-- the queue has a head
pub some_head : (q : List Message) (m : Message) → slice_get q 0 ≡ Some m → 1 ≤ length q
some_head q m e = let long = ap length (headed q m e) in omega (arith, long)

-- how many messages are left once the head is removed
pub left_after : (qs now : Queues) (p i count : ℕ) (m : Message) → source_number p i < length qs
    → slice_get (queue_of qs p i) 0 ≡ Some m → now ≡ after_place qs p i →
    count ≡ length (queue_of qs p i) → count - 1 ≡ length (queue_of now p i)
left_after qs now p i count m h first taken is =
    let long = ap length (headed (queue_of qs p i) m first) in
    let rest = left_behind qs now p i (length (queue_of now p i)) h taken refl in
    omega (arith, long, rest, is)

-- after a message was placed, the fields and the notices are those of the definition
pub placed_is : (s : State) (p i left at ticket : ℕ) (pending : Bool) (m : Message) (img : List ℕ) (b t : Space)
    (now : Queues) (slots : List (Option ℕ)) (before emitted : List Notice) →
    b ≡ space_of s → source_number p i < length s.queues → slice_get (queue_of s.queues p i) 0 ≡ Some m
    → now ≡ after_place s.queues p i → left ≡ length (queue_of now p i) →
    img ≡ image m (nat_lt 0 left) s.moment → t ≡ after_slot b p i img → ticket ≡ ticket_of m → at ≡ source_number p i
    → slots ≡ set s.slots at (Some ticket) →
    pending ≡ nat_lt 0 left → emitted ≡ before ++ placed_notices ticket p i pending →
    (record s { pages = t.pages; own = t.own; queues = now; slots = slots }, emitted) ≡ preceded before (placed s p i)
placed_is s p i left at ticket pending m img b t now slots before emitted space h first taken count picture written
    numbered place slot is_pending tells =
    let rest : List Message = drop 1 (queue_of s.queues p i) in
    let e : left ≡ length rest = left_behind s.queues now p i left h taken count in
    let picture' : img ≡ image m (nat_lt 0 (length rest)) s.moment =
    picture ∙ ap (λ n. image m (nat_lt 0 n) s.moment) e in
    let u : t ≡ after_slot (space_of s) p i (image m (nat_lt 0 (length rest)) s.moment) =
    written ∙ (λ j. after_slot (space j) p i (picture' j)) in
    let v : slots ≡ set s.slots (source_number p i) (Some (ticket_of m)) =
    slot ∙ (λ j. set s.slots (place j) (Some (numbered j))) in
    let w : emitted ≡ before ++ placed_notices (ticket_of m) p i (nat_lt 0 (length rest)) =
    tells ∙ (λ j. before ++ placed_notices (numbered j) p i ((is_pending ∙ ap (λ n. nat_lt 0 n) e) j)) in
    (λ j. (record s { pages = (u j).pages; own = (u j).own; queues = taken j; slots = v j }, w j))
    ∙ ap (λ q. preceded before (placed_head s p i q)) (sym (headed (queue_of s.queues p i) m first))
