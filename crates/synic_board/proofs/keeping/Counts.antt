-- How often a ticket is in the queues and slots, and how often it was given or ended.
use Rattle.std.proofs.Common.{◌≡◌, ℕ, ◌+◌, ◌<◌, ◌≤◌, Bool, true, false, cond, ◌&&◌, List, [], ◌∷◌, ◌++◌, map, refl, ap, sym, ◌∙◌, arith, nat_lt, zero-add}
use Rattle.std.specs.Prelude.{◌==◌, Option, None, Some, sum_by, nat_le}
use Rattle.std.specs.List.{flat_map, filter_map}
use Rattle.std.proofs.lemmas.Bool.Decides.{nat_tests}
use Rattle.std.proofs.lemmas.List.{map_push}
use Rattle.std.proofs.lemmas.List.Sums.{sum_by-append, sum_by-cons, sum_by_push}
use Rattle.std.proofs.lemmas.List.Concat.{flat_map-cons}
use Rattle.board_terms.specs.declared.messages.Message.{Message}
use Rattle.board_terms.specs.Messages.{ticket_of}
use Rattle.board_terms.specs.declared.notices.Notice.{Notice}
use Rattle.message_queues.specs.Queues.{Queues}
use Rattle.synic_board.specs.State.{State}
use Rattle.synic_board.specs.Locations.{locations, times, is_end_of, times_ended, given}

-- 1 if two tickets are the same
abbrev pub one : ℕ → ℕ → ℕ
one x t = cond (x == t) 1 0

-- how often a ticket is in a queue, in all queues, in a slot and in all slots
abbrev pub in_queue : ℕ → List Message → ℕ
in_queue t q = times t (map ticket_of q)

abbrev pub in_queues : ℕ → Queues → ℕ
in_queues t qs = sum_by (in_queue t) qs

abbrev pub in_slot : ℕ → Option ℕ → ℕ
in_slot t None = 0
in_slot t (Some x) = one x t

abbrev pub in_slots : ℕ → List (Option ℕ) → ℕ
in_slots t slots = sum_by (in_slot t) slots

times-flat : (t : ℕ) (qs : Queues) → times t (flat_map (map ticket_of) qs) ≡ in_queues t qs
times-flat t [] = refl
times-flat t (q ∷ qs) =
    ap (times t) (flat_map-cons (map ticket_of) q qs)
    ∙ sum_by-append (λ x. one x t) (map ticket_of q) (flat_map (map ticket_of) qs)
    ∙ ap (λ n. in_queue t q + n) (times-flat t qs) ∙ sym (sum_by-cons (in_queue t) q qs)

times-slots : (t : ℕ) (os : List (Option ℕ)) → times t (filter_map (λ x. x) os) ≡ in_slots t os
times-slots t [] = refl
times-slots t (None ∷ os) =
    let a =
    times-slots t os in let b =
    sum_by-cons (in_slot t) None os in let c : in_slots t (None ∷ os) ≡ in_slots t os = omega (arith, b) in a ∙ sym c
times-slots t (Some x ∷ os) =
    sum_by-cons (λ y. one y t) x (filter_map (λ y. y) os) ∙ ap (λ n. one x t + n) (times-slots t os)
    ∙ sym (sum_by-cons (in_slot t) (Some x) os)

pub times-locations : (t : ℕ) (s : State) → times t (locations s) ≡ in_queues t s.queues + in_slots t s.slots
unfolding locations
times-locations t s =
    sum_by-append (λ x. one x t) (flat_map (map ticket_of) s.queues) (filter_map (λ x. x) s.slots)
    ∙ (λ i. times-flat t s.queues i + times-slots t s.slots i)

-- one ticket
pub times-one : (x t : ℕ) → times t (x ∷ []) ≡ one x t
times-one x t = zero-add (one x t)

pub in_queue-push : (t : ℕ) (q : List Message) (m : Message)
    → in_queue t (q ++ m ∷ []) ≡ in_queue t q + one (ticket_of m) t
in_queue-push t q m = ap (times t) (map_push ticket_of q m) ∙ sum_by_push (λ y. one y t) (map ticket_of q) (ticket_of m)

pub in_queue-cons : (t : ℕ) (m : Message) (q : List Message) → in_queue t (m ∷ q) ≡ one (ticket_of m) t + in_queue t q
in_queue-cons t m q = sum_by-cons (λ y. one y t) (ticket_of m) (map ticket_of q)

-- notices one after another
pub ended-append : (t : ℕ) (xs ys : List Notice) → times_ended t (xs ++ ys) ≡ times_ended t xs + times_ended t ys
ended-append t xs ys = sum_by-append (λ n. cond (is_end_of t n) 1 0) xs ys

-- the tickets given in two steps
abbrev bit : Bool → ℕ
bit b = cond b 1 0

pub given-after : (t : ℕ) (a b c : State) → a.next_ticket ≤ b.next_ticket → b.next_ticket ≤ c.next_ticket
    → given t a c ≡ given t a b + given t b c
given-after t a b c h k = sums a.next_ticket b.next_ticket c.next_ticket h k
  where
    sums : (x y z : ℕ) → x ≤ y → y ≤ z
        → bit (nat_le x t && nat_lt t z) ≡ bit (nat_le x t && nat_lt t y) + bit (nat_le y t && nat_lt t z)
    sums x y z h k = grind (arith, nat_tests)

pub given-none : (t : ℕ) (a b : State) → b.next_ticket ≡ a.next_ticket → given t a b ≡ 0
given-none t a b h = none a.next_ticket b.next_ticket h
  where
    none : (x y : ℕ) → y ≡ x → bit (nat_le x t && nat_lt t y) ≡ 0
    none x y h = grind (arith, nat_tests)

pub given-one : (t : ℕ) (a b : State) → b.next_ticket ≡ a.next_ticket + 1 → given t a b ≡ one a.next_ticket t
given-one t a b h = next a.next_ticket b.next_ticket h
  where
    next : (x y : ℕ) → y ≡ x + 1 → bit (nat_le x t && nat_lt t y) ≡ bit (x == t)
    next x y h = grind (arith, nat_tests)

pub given-low : (t : ℕ) (a b : State) → t < a.next_ticket → given t a b ≡ 0
given-low t a b h = low a.next_ticket b.next_ticket h
  where
    low : (x y : ℕ) → t < x → bit (nat_le x t && nat_lt t y) ≡ 0
    low x y h = grind (arith, nat_tests)

pub given-high : (t : ℕ) (a b : State) → b.next_ticket ≤ t → given t a b ≡ 0
given-high t a b h = high a.next_ticket b.next_ticket h
  where
    high : (x y : ℕ) → y ≤ t → bit (nat_le x t && nat_lt t y) ≡ 0
    high x y h = grind (arith, nat_tests)

pub given-le : (t : ℕ) (a b : State) → given t a b ≤ 1
given-le t a b = at_most (nat_le a.next_ticket t && nat_lt t b.next_ticket)
  where
    at_most : (x : Bool) → bit x ≤ 1
    at_most true = omega arith
    at_most false = omega arith
