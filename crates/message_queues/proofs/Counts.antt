-- How many buffers each owner has in use, and that there is capacity for the message of an owner with a free buffer.
use Rattle.std.proofs.Common.{◌≡◌, ◌≢◌, ◌⊎◌, inl, inr, ℕ, zero, suc, ◌+◌, ◌*◌, ◌-◌, ◌<◌, ◌≤◌, List, [], ◌∷◌, ◌++◌, length, refl, sym, ap, ◌∙◌, arith, cond, nat_eq, Bool, true, false, ne_eqb, eq-eqb, ◌&&◌}
use Rattle.std.specs.List.{All}
use Rattle.std.specs.Prelude.{◌==◌, slice_index_or, slice_set, sum_by, count_by}
use Rattle.std.proofs.lemmas.Bool.Decides.{eqb_tells, nat_tests}
use Rattle.std.proofs.lemmas.List.{length-set, get_or-set_same, get_or-set_other}
use Rattle.std.proofs.lemmas.List.Sums.{sum_by-cons, sum_by_push, sum_by-set, get_or-le-sum_by}
use Rattle.board_terms.specs.declared.messages.Message.{Message}
use Rattle.board_terms.specs.declared.messages.Message.TheVariants.{FromPort, FromTimer}
use Rattle.event_ports.specs.Ports.{port_count}
use Rattle.message_queues.specs.Queues.{Queues, most_ports, is_from_port, is_from_timer, port_used, timer_used, HasBuffer}
use Rattle.message_queues.specs.inside.Owners.{owner_of_timer, owner_of, owners, HasOwner, used_by, share, IsCounted}

-- f 0 + .. + f (n - 1)
sum_below : ℕ → (ℕ → ℕ) → ℕ
sum_below zero f = 0
sum_below (suc n) f = sum_below n f + f n

sum_below-same : (n : ℕ) (f g : ℕ → ℕ) → ((o : ℕ) → f o ≡ g o) → sum_below n f ≡ sum_below n g
unfolding sum_below
sum_below-same zero f g h = refl
sum_below-same (suc n) f g h = let here = h n in let more = sum_below-same n f g h in omega arith

sum_below-zero : (n : ℕ) → sum_below n (λ o. 0) ≡ 0
unfolding sum_below
sum_below-zero zero = refl
sum_below-zero (suc n) = let more = sum_below-zero n in omega arith

sum_below-add : (n : ℕ) (f g : ℕ → ℕ) → sum_below n (λ o. f o + g o) ≡ sum_below n f + sum_below n g
unfolding sum_below
sum_below-add zero f g = refl
sum_below-add (suc n) f g = let more = sum_below-add n f g in omega arith

-- 1 at one number, and 0 elsewhere
abbrev pub at_place : ℕ → ℕ → ℕ
at_place x o = cond (nat_eq x o) 1 0

pub at_place-other : (x o : ℕ) → x ≢ o → at_place x o ≡ 0
at_place-other x o h = rw (ne_eqb x o h) refl

at_place-same : (x o : ℕ) → x ≡ o → at_place x o ≡ 1
at_place-same x o h = rw (eq-eqb x o h) refl

sum_below-above : (n x : ℕ) → n ≤ x → sum_below n (at_place x) ≡ 0
unfolding sum_below
sum_below-above zero x h = refl
sum_below-above (suc n) x h =
    let more =
    sum_below-above n x (omega arith) in let here =
    at_place-other x n (λ e. omega (arith, e)) in omega (arith, more, here)

sum_below-one : (n x : ℕ) → x < n → sum_below n (at_place x) ≡ 1
unfolding sum_below
sum_below-one zero x h = absurd (omega arith)
sum_below-one (suc n) x h = go (λ k. sum_below-one n x k) (eqb_tells x n)
  where
    go : (x < n → sum_below n (at_place x) ≡ 1) → ((nat_eq x n ≡ true) × (x ≡ n)) ⊎ ((nat_eq x n ≡ false) × (x ≢ n))
        → sum_below n (at_place x) + at_place x n ≡ 1
    go before (inl t) =
        let more =
        sum_below-above n x (omega (arith, t.1)) in let here = at_place-same x n t.1 in omega (arith, more, here)
    go before (inr t) =
        let more = before (omega (arith, t.1)) in let here = at_place-other x n t.1 in omega (arith, more, here)

sum_below-le : (n : ℕ) (f limit : ℕ → ℕ) → ((o : ℕ) → o < n → f o ≤ limit o) → sum_below n f ≤ sum_below n limit
unfolding sum_below
sum_below-le zero f limit h = omega arith
sum_below-le (suc n) f limit h =
    let more = sum_below-le n f limit (λ o k. h o (omega arith)) in let here = h n (omega arith) in omega arith

sum_below-lt : (n x : ℕ) (f limit : ℕ → ℕ) → ((o : ℕ) → o < n → f o ≤ limit o) → x < n → f x < limit x
    → sum_below n f < sum_below n limit
unfolding sum_below
sum_below-lt zero x f limit h k l = absurd (omega arith)
sum_below-lt (suc n) x f limit h k l = go (λ j. sum_below-lt n x f limit (λ o i. h o (omega arith)) j l) (eqb_tells x n)
  where
    go : (x < n → sum_below n f < sum_below n limit) → ((nat_eq x n ≡ true) × (x ≡ n))
        ⊎ ((nat_eq x n ≡ false) × (x ≢ n)) → sum_below n f + f n < sum_below n limit + limit n
    go before (inl t) =
        let more =
        sum_below-le n f limit (λ o k. h o (omega arith)) in let fx = ap f t.1 in let cx = ap limit t.1 in omega arith
    go before (inr t) = let more = before (omega (arith, t.1)) in let here = h n (omega arith) in omega arith

share-port : (ports o : ℕ) → o < ports → share ports o ≡ 16
share-port ports o h = grind (arith, nat_tests)

share-none : (ports o : ℕ) → ports ≤ o → o < 256 → share ports o ≡ 0
share-none ports o h k = grind (arith, nat_tests)

share-timer : (ports o : ℕ) → ports ≤ 256 → 256 ≤ o → share ports o ≡ 1
share-timer ports o h k = grind (arith, nat_tests)

pub share-le : (ports o : ℕ) → share ports o ≤ 16
share-le ports o = grind (arith, nat_tests)

-- a board of at most 64 processors has at most 256 ports
pub few-ports : (n : ℕ) → n ≤ 64 → most_ports n ≤ 256
unfolding port_count
few-ports n h = omega arith

-- 16 of each port
shares-ports : (ports o : ℕ) → o ≤ ports → sum_below o (share ports) ≡ 16 * o
unfolding sum_below
shares-ports ports zero h = refl
shares-ports ports (suc o) h = omega (arith, shares-ports ports o (omega arith), share-port ports o (omega arith))

-- nothing of the numbers from the ports to the timers
shares-none : (ports more o : ℕ) → o ≡ ports + more → o ≤ 256 → sum_below o (share ports) ≡ 16 * ports
unfolding sum_below
shares-none ports zero o e h = omega (arith, shares-ports ports o (omega (arith, e)), e)
shares-none ports (suc more) zero e h = absurd (omega (arith, e))
shares-none ports (suc more) (suc o) e h =
    omega (
      arith,
      shares-none ports more o (omega (arith, e)) (omega arith),
      share-none ports o (omega (arith, e)) (omega arith),
    )

-- and one of each timer
shares-timers : (ports timers o : ℕ) → ports ≤ 256 → o ≡ 256 + timers → sum_below o (share ports) ≡ 16 * ports + timers
unfolding sum_below
shares-timers ports zero o h e =
    omega (arith, shares-none ports (256 - ports) o (omega (arith, h, e)) (omega (arith, e)))
shares-timers ports (suc n) zero h e = absurd (omega arith)
shares-timers ports (suc n) (suc o) h e =
    omega (arith, shares-timers ports n o h (omega arith), share-timer ports o h (omega arith))

shares : (n : ℕ) → n ≤ 64 → sum_below (owners n) (share (most_ports n)) ≡ 16 * most_ports n + 4 * n
shares n h = shares-timers (most_ports n) (4 * n) (owners n) (few-ports n h) refl

abbrev pub AllOwned : ℕ → List Message → Type 0
AllOwned n [] = Unit {0}
AllOwned n (m ∷ ms) = HasOwner n m × AllOwned n ms

abbrev pub EachOwned : ℕ → Queues → Type 0
EachOwned n [] = Unit {0}
EachOwned n (q ∷ qs) = AllOwned n q × EachOwned n qs

all-owned : (n : ℕ) (ms : List Message) → All (HasOwner n) ms → AllOwned n ms
all-owned n [] h = tt
all-owned n (m ∷ ms) h = (h 0 m (omega arith), all-owned n ms (λ k d below. h (suc k) d (omega arith)))

pub each-owned : (n : ℕ) (qs : Queues) → All (λ (q : List Message). All (HasOwner n) q) qs → EachOwned n qs
each-owned n [] h = tt
each-owned n (q ∷ qs) h =
    (all-owned n q (h 0 [] (omega arith)), each-owned n qs (λ k d below. h (suc k) d (omega arith)))

-- each port has a number
enough-numbers : (n : ℕ) → most_ports n ≤ owners n
unfolding port_count
enough-numbers n = omega arith

pub owner-below : (n : ℕ) (m : Message) → HasOwner n m → owner_of m < owners n
owner-below n (FromPort ticket port kind payload) h = omega (arith, h, enough-numbers n)
owner-below n (FromTimer ticket timer expiration) h = omega arith

abbrev pub count_of : ℕ → List Message → ℕ
count_of o ms = count_by (λ m. owner_of m == o) ms

pub count_of-cons : (o : ℕ) (m : Message) (ms : List Message)
    → count_of o (m ∷ ms) ≡ at_place (owner_of m) o + count_of o ms
count_of-cons o m ms = sum_by-cons (λ x. cond (owner_of x == o) 1 0) m ms

-- all messages of a queue are counted, each under its owner
queue-counts : (n : ℕ) (ms : List Message) → AllOwned n ms → length ms ≡ sum_below (owners n) (λ o. count_of o ms)
queue-counts n [] h = sym (sum_below-zero (owners n))
queue-counts n (m ∷ ms) h =
    let more = queue-counts n ms h.1 in
    let one = sum_below-one (owners n) (owner_of m) (owner-below n m h.0) in
    let add = sum_below-add (owners n) (at_place (owner_of m)) (λ o. count_of o ms) in
    let same = sum_below-same (owners n) (λ o. count_of o (m ∷ ms)) (λ o. at_place (owner_of m) o + count_of o ms)
    (λ o. count_of-cons o m ms) in
    omega (arith, more, one, add, same)

all-counts : (n : ℕ) (qs : Queues) → EachOwned n qs
    → sum_by (length {A = Message}) qs ≡ sum_below (owners n) (λ o. used_by o qs)
all-counts n [] h = sym (sum_below-zero (owners n))
all-counts n (q ∷ qs) h =
    let more = all-counts n qs h.1 in
    let here = queue-counts n q h.0 in
    let add = sum_below-add (owners n) (λ o. count_of o q) (λ o. used_by o qs) in
    let same = sum_below-same (owners n) (λ o. used_by o (q ∷ qs)) (λ o. count_of o q + used_by o qs)
    (λ o. sum_by-cons (count_of o) q qs) in
    omega (arith, more, here, add, same, sum_by-cons (length {A = Message}) q qs)

-- if an owner has a free buffer, the slab has a free entry
pub has_room : (n : ℕ) (qs : Queues) (in_use : List ℕ) (o : ℕ) → n ≤ 64 → EachOwned n qs → IsCounted n qs in_use
    → o < owners n → used_by o qs < share (most_ports n) o
    → sum_by (length {A = Message}) qs < 16 * most_ports n + 4 * n
has_room n qs in_use o few owned counts below left =
    let total = all-counts n qs owned in
    let less = sum_below-lt (owners n) o (λ x. used_by x qs) (share (most_ports n)) counts.within below left in
    omega (arith, total, less, shares n few)

-- no owner exceeds its share, so there are no more messages than buffers
pub all-within : (n : ℕ) (qs : Queues) (in_use : List ℕ) → n ≤ 64 → EachOwned n qs → IsCounted n qs in_use
    → sum_by (length {A = Message}) qs ≤ 16 * most_ports n + 4 * n
all-within n qs in_use few owned counts =
    omega (
      arith,
      all-counts n qs owned,
      sum_below-le (owners n) (λ x. used_by x qs) (share (most_ports n)) counts.within,
      shares n few,
    )

pub sum_by-same : {X : Type 0} (f g : X → ℕ) (xs : List X) → ((x : X) → f x ≡ g x) → sum_by f xs ≡ sum_by g xs
sum_by-same f g [] h = refl
sum_by-same f g (x ∷ xs) h =
    let here =
    h x in let more = sum_by-same f g xs h in omega (arith, here, more, sum_by-cons f x xs, sum_by-cons g x xs)

pub is_from_port-owner : (port : ℕ) (m : Message) → port < 256 → is_from_port port m ≡ (owner_of m == port)
is_from_port-owner port (FromPort ticket n kind payload) h = refl
is_from_port-owner port (FromTimer ticket timer expiration) h =
    sym (ne_eqb (owner_of_timer timer) port (λ e. omega (arith, e)))

-- the buffers of a port are those of the owner with its number
pub port_used-owner : (qs : Queues) (port : ℕ) → port < 256 → port_used qs port ≡ used_by port qs
port_used-owner qs port h =
    sum_by-same (count_by (is_from_port port)) (count_of port) qs
    (λ q. sum_by-same (λ m. cond (is_from_port port m) 1 0) (λ m. cond (owner_of m == port) 1 0) q
    (λ m. ap (λ (b : Bool). cond b 1 0) (is_from_port-owner port m h)))

is_from_timer-owner : (n : ℕ) (timer : ℕ × ℕ) (m : Message) → n ≤ 64 → timer.1 < 4 → HasOwner n m
    → is_from_timer timer m ≡ (owner_of m == owner_of_timer timer)
is_from_timer-owner n timer (FromPort ticket port kind payload) few h k =
    sym (ne_eqb port (owner_of_timer timer) (λ e. omega (arith, e, few-ports n few, k)))
is_from_timer-owner n timer (FromTimer ticket t expiration) few h k = go (eqb_tells t.0 timer.0) (eqb_tells t.1 timer.1)
  where
    go : ((nat_eq t.0 timer.0 ≡ true) × (t.0 ≡ timer.0)) ⊎ ((nat_eq t.0 timer.0 ≡ false) × (t.0 ≢ timer.0)) →
        ((nat_eq t.1 timer.1 ≡ true) × (t.1 ≡ timer.1)) ⊎ ((nat_eq t.1 timer.1 ≡ false) × (t.1 ≢ timer.1))
        → (nat_eq t.0 timer.0 && nat_eq t.1 timer.1) ≡ nat_eq (owner_of_timer t) (owner_of_timer timer)
    go (inl a) (inl b) =
        rw (a.0, b.0) (sym (eq-eqb (owner_of_timer t) (owner_of_timer timer) (omega (arith, a.1, b.1))))
    go (inl a) (inr b) =
        rw (a.0, b.0) (sym (ne_eqb (owner_of_timer t) (owner_of_timer timer) (λ e. b.1 (omega (arith, a.1, e)))))
    go (inr a) b = rw a.0 (sym (ne_eqb (owner_of_timer t) (owner_of_timer timer) (λ e. a.1 (omega (arith, k, h, e)))))

queue-timer : (n : ℕ) (q : List Message) (timer : ℕ × ℕ) → n ≤ 64 → timer.1 < 4 → AllOwned n q
    → count_by (is_from_timer timer) q ≡ count_of (owner_of_timer timer) q
queue-timer n [] timer few h k = refl
queue-timer n (m ∷ ms) timer few h k =
    let more = queue-timer n ms timer few h k.1 in
    let here : cond (is_from_timer timer m) 1 0 ≡ at_place (owner_of m) (owner_of_timer timer) =
    ap (λ (b : Bool). cond b 1 0) (is_from_timer-owner n timer m few h k.0) in
    omega (
      arith,
      more,
      here,
      sum_by-cons (λ x. cond (is_from_timer timer x) 1 0) m ms,
      count_of-cons (owner_of_timer timer) m ms,
    )

-- the one buffer of a timer is that of its owner
pub timer_used-owner : (n : ℕ) (qs : Queues) (timer : ℕ × ℕ) → n ≤ 64 → timer.1 < 4 → EachOwned n qs
    → timer_used qs timer ≡ used_by (owner_of_timer timer) qs
timer_used-owner n [] timer few h k = refl
timer_used-owner n (q ∷ qs) timer few h k =
    let more = timer_used-owner n qs timer few h k.1 in
    let here = queue-timer n q timer few h k.0 in
    omega (
      arith,
      more,
      here,
      sum_by-cons (count_by (is_from_timer timer)) q qs,
      sum_by-cons (count_of (owner_of_timer timer)) q qs,
    )

queue-absent : (n : ℕ) (q : List Message) (timer : ℕ × ℕ) → n ≤ timer.0 → AllOwned n q
    → count_by (is_from_timer timer) q ≡ 0
queue-absent n [] timer h k = refl
queue-absent n (FromPort ticket port kind payload ∷ ms) timer h k =
    let more = queue-absent n ms timer h k.1 in
    omega (arith, more, sum_by-cons (λ x. cond (is_from_timer timer x) 1 0) (FromPort ticket port kind payload) ms)
queue-absent n (FromTimer ticket t expiration ∷ ms) timer h k =
    let more = queue-absent n ms timer h k.1 in
    let here : ◌≡◌ {A = ℕ} (cond (is_from_timer timer (FromTimer ticket t expiration)) 1 0) 0 =
    rw (ne_eqb t.0 timer.0 (λ e. omega (arith, k.0, e))) refl in
    omega (arith, more, here, sum_by-cons (λ x. cond (is_from_timer timer x) 1 0) (FromTimer ticket t expiration) ms)

-- a timer of a processor that has no queues has no message
pub timer_used-absent : (n : ℕ) (qs : Queues) (timer : ℕ × ℕ) → n ≤ timer.0 → EachOwned n qs → timer_used qs timer ≡ 0
timer_used-absent n [] timer h k = refl
timer_used-absent n (q ∷ qs) timer h k =
    let more = timer_used-absent n qs timer h k.1 in
    let here = queue-absent n q timer h k.0 in
    omega (arith, more, here, sum_by-cons (count_by (is_from_timer timer)) q qs)

-- the owner of a message that has a buffer has a free one
pub buffer-left : (n : ℕ) (qs : Queues) (m : Message) → n ≤ 64 → EachOwned n qs → HasOwner n m → HasBuffer qs m
    → used_by (owner_of m) qs < share (most_ports n) (owner_of m)
buffer-left n qs (FromPort ticket port kind payload) few owned h b =
    omega (arith, b.1, port_used-owner qs port (omega (arith, h, few-ports n few)), share-port (most_ports n) port h)
buffer-left n qs (FromTimer ticket timer expiration) few owned h b =
    let none : timer_used qs timer ≡ 0 = is_zero (timer_used qs timer) b.1 in
    omega (
      arith,
      none,
      timer_used-owner n qs timer few h.1 owned,
      share-timer (most_ports n) (owner_of_timer timer) (few-ports n few) (omega arith),
    )
  where
    is_zero : (used : ℕ) → (used == 0) ≡ true → used ≡ 0
    is_zero used h = grind (arith, nat_tests)

-- one queue is replaced, and one owner has more or fewer messages
pub counted-set : (n : ℕ) (qs : Queues) (in_use : List ℕ) (q : ℕ) (r : List Message) (o v : ℕ) → IsCounted n qs in_use
    → q < length qs → o < owners n →
    ((x : ℕ) → x ≢ o → count_of x r ≡ count_of x (slice_index_or qs q []))
    → v + count_of o (slice_index_or qs q []) ≡ used_by o qs + count_of o r → v ≤ share (most_ports n) o →
    IsCounted n (slice_set qs q r) (slice_set in_use o v)
counted-set n qs in_use q r o v counts at below same now bound = record {
  size = length-set in_use o v ∙ counts.size;
  counted = λ x k. counted x k (eqb_tells x o);
  within = λ x k. within x k (eqb_tells x o);
}
  where
    sum : (x : ℕ) → used_by x (slice_set qs q r) + count_of x (slice_index_or qs q []) ≡ used_by x qs + count_of x r
    sum x = sum_by-set (count_of x) qs q r [] at

    counted : (x : ℕ) → x < owners n → ((nat_eq x o ≡ true) × (x ≡ o)) ⊎ ((nat_eq x o ≡ false) × (x ≢ o))
        → slice_index_or (slice_set in_use o v) x 0 ≡ used_by x (slice_set qs q r)
    counted x k (inl t) = rw t.1 (get_or-set_same in_use o v 0 (omega (arith, counts.size)) ∙ omega (arith, sum o, now))
    counted x k (inr t) = get_or-set_other in_use o x v 0 t.1 ∙ counts.counted x k ∙ omega (arith, sum x, same x t.1)

    within : (x : ℕ) → x < owners n → ((nat_eq x o ≡ true) × (x ≡ o)) ⊎ ((nat_eq x o ≡ false) × (x ≢ o))
        → used_by x (slice_set qs q r) ≤ share (most_ports n) x
    within x k (inl t) = rw t.1 (omega (arith, sum o, now, bound))
    within x k (inr t) = omega (arith, sum x, same x t.1, counts.within x k)

-- a message joins the end of a queue
pub counted-append : (n : ℕ) (qs : Queues) (in_use : List ℕ) (q : ℕ) (m : Message) → IsCounted n qs in_use
    → q < length qs → owner_of m < owners n →
    used_by (owner_of m) qs < share (most_ports n) (owner_of m) →
    IsCounted n (slice_set qs q (slice_index_or qs q [] ++ m ∷ []))
    (slice_set in_use (owner_of m) (slice_index_or in_use (owner_of m) 0 + 1))
counted-append n qs in_use q m counts at below left =
    let before = counts.counted (owner_of m) below in
    counted-set n qs in_use q (slice_index_or qs q [] ++ m ∷ []) (owner_of m)
    (slice_index_or in_use (owner_of m) 0 + 1) counts at below
    (λ x ne. let push = pushed x in let no = at_place-other (owner_of m) x (λ e. ne (sym e)) in omega (arith, push, no))
    (let push = pushed (owner_of m) in let yes = at_place-same (owner_of m) (owner_of m) refl in
    omega (arith, push, yes, before))
    (omega (arith, before, left))
  where
    pushed : (x : ℕ) → count_of x (slice_index_or qs q [] ++ m ∷ [])
        ≡ count_of x (slice_index_or qs q []) + at_place (owner_of m) x
    pushed x = sum_by_push (λ y. cond (owner_of y == x) 1 0) (slice_index_or qs q []) m

-- an owner's messages in one queue are at most its buffers in use
pub count-le-used : (qs : Queues) (q o : ℕ) → q < length qs → count_of o (slice_index_or qs q []) ≤ used_by o qs
count-le-used qs q o at = get_or-le-sum_by (count_of o) qs q [] at

-- the head leaves a queue
pub head-used : (n : ℕ) (qs : Queues) (in_use : List ℕ) (q : ℕ) (m : Message) (rest : List Message)
    → IsCounted n qs in_use → q < length qs → owner_of m < owners n →
    slice_index_or qs q [] ≡ m ∷ rest → 1 ≤ slice_index_or in_use (owner_of m) 0
head-used n qs in_use q m rest counts at below is =
    let here = ap (count_of (owner_of m)) is ∙ count_of-cons (owner_of m) m rest in
    let yes = at_place-same (owner_of m) (owner_of m) refl in
    omega (arith, here, yes, count-le-used qs q (owner_of m) at, counts.counted (owner_of m) below)

pub counted-place : (n : ℕ) (qs : Queues) (in_use : List ℕ) (q : ℕ) (m : Message) (rest : List Message)
    → IsCounted n qs in_use → q < length qs → owner_of m < owners n →
    slice_index_or qs q [] ≡ m ∷ rest →
    IsCounted n (slice_set qs q rest) (slice_set in_use (owner_of m) (slice_index_or in_use (owner_of m) 0 - 1))
counted-place n qs in_use q m rest counts at below is =
    let before = counts.counted (owner_of m) below in
    let within = counts.within (owner_of m) below in
    counted-set n qs in_use q rest (owner_of m) (slice_index_or in_use (owner_of m) 0 - 1) counts at below
    (λ x ne. let took = taken x in let no = at_place-other (owner_of m) x (λ e. ne (sym e)) in omega (arith, took, no))
    (let took = taken (owner_of m) in let yes = at_place-same (owner_of m) (owner_of m) refl in
    omega (arith, took, yes, before, head-used n qs in_use q m rest counts at below is))
    (omega (arith, before, within))
  where
    taken : (x : ℕ) → count_of x (slice_index_or qs q []) ≡ at_place (owner_of m) x + count_of x rest
    taken x = ap (count_of x) is ∙ count_of-cons x m rest
