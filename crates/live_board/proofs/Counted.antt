-- How many messages of a port are queued.
use Rattle.std.proofs.Common.{◌≡◌, ◌≢◌, ◌⊎◌, inl, inr, ℕ, suc, ◌/◌, ◌%◌, ◌<◌, ◌≤◌, Bool, true, false, cond, List, [], ◌∷◌, length, get_or, set, Option, None, Some, refl, sym, ap, ◌∙◌, subst, arith, All, nat_lt}
use Rattle.std.specs.Prelude.{count_by, sum_by, ◌==◌, ◌&&◌, not, is_none, nat_le, if◌then◌else◌}
use Rattle.std.proofs.lemmas.Bool.{cases_eq}
use Rattle.std.proofs.lemmas.Bool.Decides.{nat_tests}
use Rattle.std.proofs.lemmas.List.{get_or-set_same, get_or-set_other, length-set}
use Rattle.std.proofs.lemmas.List.Elements.{All-head, All-tail}
use Rattle.std.proofs.lemmas.List.Sums.{sum_by-cons, sum_by-set}
use Rattle.board_terms.specs.declared.messages.Message.{Message}
use Rattle.board_terms.specs.declared.messages.Message.TheVariants.{FromPort, FromTimer}
use Rattle.board_terms.specs.declared.messages.PortShape.TheVariants.{Messages}
use Rattle.board_terms.specs.Sources.{source_number}
use Rattle.event_ports.specs.declared.ports.Port.{Port}
use Rattle.message_queues.specs.Queues.{Queues, queue_of, is_from_port, port_used}
use Rattle.board_terms.specs.declared.refusal.Refusal.TheVariants.{SynicOff, NoBuffers, TicketsSpent}
use Rattle.event_ports.specs.Ports.{is_posted_type}
use Rattle.event_ports.specs.Shapes.{takes_messages}
use Rattle.synic_regs.specs.Regs.{has, enable}
use Rattle.synic_board.specs.State.{State, regs_of}
use Rattle.synic_board.specs.Delivery.{delivers}
use Rattle.synic_board.specs.Posts.{post_refusal, are_tickets_left}
use Rattle.live_board.specs.inside.Parts.{is_attempted}
use Rattle.synic_board.specs.Buffers.{HasBuffers, IsHome}

abbrev one_if : Bool → ℕ
one_if b = cond b 1 0

-- a message from a port to another source is not in this queue
one-none : (ports : List (Option Port)) (q j number : ℕ) (port : Port) (x : Message)
    → get_or ports number None ≡ Some port → (q ≡ port.vp → j ≢ port.sint) → IsHome ports q j x
    → one_if (is_from_port number x) ≡ 0
one-none ports q j number port (FromTimer ticket t expiration) is apart home = refl
one-none ports q j number port (FromPort ticket n kind payload) is apart home = split (cases_eq n number)
  where
    split : (n ≡ number) ⊎ (n ≢ number) → one_if (n == number) ≡ 0
    split (inr other) = grind (arith, nat_tests)
    split (inl same) =
        let both : Some (record { vp = q; sint = j; shape = Messages home.1.0 }) ≡ Some port =
        sym home.1.1 ∙ ap (λ k. get_or ports k None) same ∙ is in
        let one : record { vp = q; sint = j; shape = Messages home.1.0 } ≡ port = some-is both in
        absurd (apart (ap (λ (r : Port). r.vp) one) (ap (λ (r : Port). r.sint) one))
      where
        some-is : {a b : Port} → Some a ≡ Some b → a ≡ b
        some-is e = cc

queue-none : (ports : List (Option Port)) (q j number : ℕ) (port : Port) (xs : List Message)
    → get_or ports number None ≡ Some port → (q ≡ port.vp → j ≢ port.sint) → All (IsHome ports q j) xs
    → count_by (is_from_port number) xs ≡ 0
queue-none ports q j number port [] is apart h = omega arith
queue-none ports q j number port (x ∷ xs) is apart h =
    omega (
      arith,
      sum_by-cons (λ y. one_if (is_from_port number y)) x xs,
      queue-none ports q j number port xs is apart (All-tail (IsHome ports q j) x xs h),
      one-none ports q j number port x is apart (All-head (IsHome ports q j) x xs h),
    )

sum-none : (f : List Message → ℕ) (qs : Queues) → ((k : ℕ) → k < length qs → f (get_or qs k []) ≡ 0) → sum_by f qs ≡ 0
sum-none f [] none = omega arith
sum-none f (q ∷ qs) none =
    let first : f q ≡ 0 = none 0 (omega arith) in
    omega (arith, sum_by-cons f q qs, first, sum-none f qs (λ k below. none (suc k) (omega (arith, below))))

-- all queued messages of an open port are in the queue of its source
pub all-here : (s : State) (number : ℕ) (port : Port) → get_or s.ports number None ≡ Some port
    → source_number port.vp port.sint < length s.queues → port.sint < 16 → HasBuffers s
    → port_used s.queues number ≡ count_by (is_from_port number) (queue_of s.queues port.vp port.sint)
all-here s number port is below under h =
    let f : List Message → ℕ = count_by (is_from_port number) in
    let a : ℕ = source_number port.vp port.sint in
    let rest = sum-none f (set s.queues a [])
    (λ k low. other k (omega (arith, low, length-set s.queues a [])) (cases_eq k a)) in
    let whole = sum_by-set f s.queues a [] [] below in
    let empty : f [] ≡ 0 = omega arith in
    omega (arith, rest, whole, empty)
  where
    other : (k : ℕ) → k < length s.queues → (k ≡ source_number port.vp port.sint)
        ⊎ (k ≢ source_number port.vp port.sint)
        → count_by (is_from_port number) (get_or (set s.queues (source_number port.vp port.sint) []) k []) ≡ 0
    other k low (inl same) =
        ap (λ n. count_by (is_from_port number) (get_or (set s.queues (source_number port.vp port.sint) []) n []))
        same ∙ ap (count_by (is_from_port number))
        (get_or-set_same s.queues (source_number port.vp port.sint) [] [] below) ∙ (omega arith)
    other k low (inr ne) =
        let place : source_number (k / 16) (k % 16) ≡ k = omega arith in
        ap (count_by (is_from_port number)) (get_or-set_other s.queues (source_number port.vp port.sint) k [] [] ne)
        ∙ subst (λ n. count_by (is_from_port number) (get_or s.queues n []) ≡ 0) place
        (queue-none s.ports (k / 16) (k % 16) number port (queue_of s.queues (k / 16) (k % 16)) is
        (λ e f. ne (omega (arith, place, e, f, under))) (h.home (k / 16) (k % 16) (omega arith)))

-- a post that passes each check makes an attempt
pub attempted-is : (s : State) (number kind : ℕ) (port : Port) (buffers : ℕ) → port.shape ≡ Messages buffers
    → kind ≢ 0 → kind < 0x80000000 → has (regs_of s port.vp).control enable ≡ true
    → has (regs_of s port.vp).sim enable ≡ true
    → port_used s.queues number < buffers → is_attempted s number kind port ≡ nat_lt s.next_ticket 0xffffffffffffffff
attempted-is s number kind port buffers shape some low control sim used =
    let valid : is_posted_type kind ≡ true = grind (arith, nat_tests) in
    let free : nat_le buffers (port_used s.queues number) ≡ false = grind (arith, nat_tests) in
    (λ i. ((takes_messages (shape i) && valid i) && is_none (post_refusal s number port.vp (shape i)))
    && (control i && sim i))
    ∙ rw (control, free) (last (nat_lt s.next_ticket 0xffffffffffffffff))
  where
    last : (b : Bool) → (is_none (if not b then Some TicketsSpent else None) && true) ≡ b
    last true = refl
    last false = refl

pub too-many : (s : State) (number kind : ℕ) (port : Port) (buffers : ℕ) → port.shape ≡ Messages buffers
    → buffers ≤ port_used s.queues number → is_attempted s number kind port ≡ false
too-many s number kind port buffers shape used =
    let full : nat_le buffers (port_used s.queues number) ≡ true = grind (arith, nat_tests) in
    (λ i. ((takes_messages (shape i) && is_posted_type kind) && is_none (post_refusal s number port.vp (shape i)))
    && delivers s port.vp)
    ∙ rw full (last (has (regs_of s port.vp).control enable) (is_posted_type kind) (delivers s port.vp))
  where
    last : (b valid d : Bool)
        → (((true && valid) && is_none
        (if not b then Some SynicOff else if true then Some NoBuffers else if not (are_tickets_left s)
        then Some TicketsSpent else None)) && d) ≡ false
    last true true d = refl
    last true false d = refl
    last false true d = refl
    last false false d = refl
