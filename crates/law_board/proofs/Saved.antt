-- What is saved of a state leads back to it.
use Rattle.std.proofs.Common.{◌≡◌, ℕ, zero, suc, ◌+◌, ◌*◌, ◌<◌, ◌≤◌, Bool, true, false, ◌&&◌, List, [], ◌∷◌, ◌++◌, length, replicate, map, nat_eq, refl, ap, sym, ◌∙◌, arith, length-append, append_assoc, zero-add}
use Rattle.std.specs.Prelude.{◌==◌, Option, None, Some, is_none, slice_set, slice_index_or, if◌then◌else◌}
use Rattle.std.specs.List.{All}
use Rattle.std.proofs.lemmas.Bool.Decides.{nat_tests}
use Rattle.std.proofs.lemmas.List.{ext_get_or, get_or-map, length-map}
use Rattle.std.proofs.lemmas.List.Elements.{All-head, All-tail}
use Rattle.board_terms.specs.declared.messages.Message.{Message}
use Rattle.lapic_core.specs.Apic.{Apic, empty_apic}
use Rattle.event_ports.specs.Ports.{port_count}
use Rattle.gpa_space.specs.Page.{zero_page}
use Rattle.stimer_bank.specs.declared.timer.Timer.{Timer}
use Rattle.stimer_bank.specs.Bank.{idle_timer}
use Rattle.synic_board.specs.State.{State}
use Rattle.law_board.specs.Saved.{changed, put_back, is_zero_page, is_idle, is_empty, saved, restored}
use Rattle.synic_board.specs.Sound.{HasShape}
use Rattle.synic_board.specs.Paired.{HasPairedTimers}

-- an element after a prefix is replaced
set-behind : {A : Type 0} (front : List A) (x y : A) (rest : List A) (k : ℕ) → k ≡ length front
    → slice_set (front ++ y ∷ rest) k x ≡ front ++ x ∷ rest
set-behind [] x y rest zero e = refl
set-behind [] x y rest (suc k) e = absurd (omega (arith, e))
set-behind (z ∷ front) x y rest zero e = absurd (omega (arith, e))
set-behind (z ∷ front) x y rest (suc k) e = ap (λ xs. z ∷ xs) (set-behind front x y rest k (omega (arith, e)))

-- one more element is equal, whether it was put back or has its first value
back-step : {A : Type 0} (first : A) (front xs : List A) (x : A) (k : ℕ) (b : Bool) (tickets_monotone : List (ℕ × A))
    → k ≡ length front → (b ≡ true → x ≡ first) →
    put_back ((front ++ x ∷ []) ++ replicate (length xs) first) tickets_monotone ≡ (front ++ x ∷ []) ++ xs →
    put_back (front ++ first ∷ replicate (length xs) first)
    (if b then tickets_monotone else (k, x) ∷ tickets_monotone) ≡ front ++ x ∷ xs
back-step {A} first front xs x k true tickets_monotone e known rest =
    let reps : List A = replicate (length xs) first in
    ap (λ ys. put_back ys tickets_monotone)
    (sym (append_assoc front (x ∷ []) reps ∙ ap (λ z. front ++ z ∷ reps) (known refl))) ∙ rest
    ∙ append_assoc front (x ∷ []) xs
back-step {A} first front xs x k false tickets_monotone e known rest =
    let reps : List A = replicate (length xs) first in
    ap (λ ys. put_back ys tickets_monotone)
    (set-behind front x first reps k e ∙ sym (append_assoc front (x ∷ []) reps)) ∙ rest
    ∙ append_assoc front (x ∷ []) xs

-- after a prefix that is equal already, the elements are put back
back-behind : {A : Type 0} (is_first : A → Bool) (first : A) (P : A → Type 0)
    → ((x : A) → P x → is_first x ≡ true → x ≡ first) → (front xs : List A) (k : ℕ) →
    k ≡ length front → All P xs → put_back (front ++ replicate (length xs) first) (changed is_first k xs) ≡ front ++ xs
back-behind is_first first P known front [] k e all = refl
back-behind is_first first P known front (x ∷ xs) k e all =
    back-step first front xs x k (is_first x) (changed is_first (suc k) xs) e (known x (All-head P x xs all))
    (back-behind is_first first P known (front ++ x ∷ []) xs (suc k) (omega (arith, e, length-append front (x ∷ [])))
    (All-tail P x xs all))

pub back : {A : Type 0} (is_first : A → Bool) (first : A) (P : A → Type 0)
    → ((x : A) → P x → is_first x ≡ true → x ≡ first) → (xs : List A) (n : ℕ) → length xs ≡ n →
    All P xs → put_back (replicate n first) (changed is_first 0 xs) ≡ xs
back is_first first P known xs n e all =
    ap (λ m. put_back (replicate m first) (changed is_first 0 xs)) (sym e)
    ∙ back-behind is_first first P known [] xs 0 refl all

-- each way to be as at first
abbrev IsAny : {A : Type 0} → A → Type 0
IsAny x = Unit {0}

all-any : {A : Type 0} (xs : List A) → All IsAny xs
all-any xs = λ k d below. tt

zeros : (page : List ℕ) → is_zero_page page ≡ true → page ≡ replicate (length page) 0
zeros [] e = refl
zeros (b ∷ page) e =
    let both =
    parts (b == 0) (is_zero_page page) e in let first : b ≡ 0 =
    grind (arith, nat_tests, both.0) in (λ i. first i ∷ zeros page both.1 i)
  where
    parts : (x y : Bool) → (x && y) ≡ true → (x ≡ true) × (y ≡ true)
    parts true true e = (refl, refl)
    parts true false e = absurd (cc)
    parts false y e = absurd (cc)

known-page : (page : List ℕ) → length page ≡ 4096 → is_zero_page page ≡ true → page ≡ zero_page
known-page page l e = zeros page e ∙ ap (λ n. replicate n 0) l

known-none : {A : Type 0} (x : Option A) → IsAny x → is_none x ≡ true → x ≡ None
known-none None _ e = refl
known-none (Some x) _ e = absurd (cc)

known-queue : (q : List Message) → IsAny q → is_empty q ≡ true → q ≡ []
known-queue [] _ e = refl
known-queue (m ∷ q) _ e = absurd (cc)

known-timer : (x : Timer) → IsAny x → is_idle x ≡ true → x ≡ idle_timer
known-timer x _ e = by (x.config == 0) (x.count == 0) refl refl e
  where
    by : (a b : Bool) → (x.config == 0) ≡ a → (x.count == 0) ≡ b
        → (if a then (if b then is_none x.due else false) else false) ≡ true → x ≡ idle_timer
    by true true a b e =
        let config : x.config ≡ 0 = grind (arith, nat_tests, a) in
        let count : x.count ≡ 0 = grind (arith, nat_tests, b) in
        let due : x.due ≡ None = known-none x.due tt e in
        (λ i. record { config = config i; count = count i; due = due i })
    by true false a b e = absurd (cc)
    by false b a c e = absurd (cc)

-- the marks of the timers are those of the local APICs
marks-back : (s : State) → HasPairedTimers s → map (λ (a : Apic). a.suspended) s.apics ≡ s.suspended
marks-back s h = ext_get_or false (map mark s.apics) s.suspended (length-map s.apics mark ∙ sym h.marks) (λ p below.
    get_or-map mark s.apics p empty_apic false (let l = length-map s.apics mark in omega arith) ∙ sym (h.suspended p))
  where
    mark : Apic → Bool
    mark a = a.suspended

pub saved_back : (s : State) → HasShape s → HasPairedTimers s → restored (saved s) ≡ s
saved_back s h settled =
    let pages = back is_zero_page zero_page (λ page. length page ≡ 4096) known-page s.pages
    (length s.pages) refl h.pages in
    let own = back is_zero_page zero_page (λ page. length page ≡ 4096) known-page s.own
    (2 * length s.apics) h.overlays h.own in
    let ports = back is_none None IsAny known-none s.ports
    (port_count (length s.apics) (nat_eq (length s.pages) 0)) h.ports (all-any s.ports) in
    let queues = back is_empty [] IsAny known-queue s.queues (16 * length s.apics) h.queues (all-any s.queues) in
    let slots = back is_none None IsAny known-none s.slots (16 * length s.apics) h.slots (all-any s.slots) in
    let timers = back is_idle idle_timer IsAny known-timer s.timers (4 * length s.apics) h.timers (all-any s.timers) in
    let suspended = marks-back s settled in
    (λ i. record {
      moment = s.moment;
      next_ticket = s.next_ticket;
      apics = s.apics;
      regs = s.regs;
      pages = pages i;
      own = own i;
      ports = ports i;
      queues = queues i;
      slots = slots i;
      timers = timers i;
      suspended = suspended i;
    })

pub saved_once : (s t : State) → HasShape s → HasPairedTimers s → HasShape t → HasPairedTimers t → saved s ≡ saved t
    → s ≡ t
saved_once s t h settled k also e = sym (saved_back s h settled) ∙ ap restored e ∙ saved_back t k also

-- an element that is put after all that were changed is changed last
none-changed : {A : Type 0} (is_first : A → Bool) (first : A) (xs : List A) (k : ℕ)
    → ((i : ℕ) → i < length xs → is_first (slice_index_or xs i first) ≡ true) → changed is_first k xs ≡ []
none-changed is_first first [] k h = refl
none-changed {A} is_first first (x ∷ xs) k h =
    ap (λ b. if b then changed is_first (suc k) xs else (k, x) ∷ changed is_first (suc k) xs) (h 0 (omega arith))
    ∙ none-changed is_first first xs (suc k) (λ i below. h (suc i) (omega arith))

changed-last : {A : Type 0} (is_first : A → Bool) (first : A) (xs : List A) (k j : ℕ) (x : A) → j < length xs
    → is_first x ≡ false →
    ((i : ℕ) → j ≤ i → i < length xs → is_first (slice_index_or xs i first) ≡ true) →
    changed is_first k (slice_set xs j x) ≡ changed is_first k xs ++ (k + j, x) ∷ []
changed-last is_first first [] k j x below new h = absurd (omega arith)
changed-last {A} is_first first (y ∷ xs) k zero x below new h =
    let tickets_monotone : List (ℕ × A) = changed is_first (suc k) xs in
    let none : tickets_monotone ≡ [] =
    none-changed is_first first xs (suc k) (λ i low. h (suc i) (omega arith) (omega arith)) in
    let none_y : changed is_first k (y ∷ xs) ≡ [] =
    none-changed is_first first (y ∷ xs) k (λ i low. h i (omega arith) low) in
    let place : k ≡ k + 0 = omega arith in
    ap (λ b. if b then tickets_monotone else (k, x) ∷ tickets_monotone) new ∙ ap (λ ys. (k, x) ∷ ys) none
    ∙ ap (λ n. (n, x) ∷ []) place ∙ sym (ap (λ ys. ys ++ (k + 0, x) ∷ []) none_y)
changed-last {A} is_first first (y ∷ xs) k (suc j) x below new h =
    let more = changed-last is_first first xs (suc k) j x (omega arith) new
    (λ i up low. h (suc i) (omega arith) (omega arith)) in
    let place : suc k + j ≡ k + suc j = omega arith in
    by (is_first y) (more ∙ ap (λ n. changed is_first (suc k) xs ++ (n, x) ∷ []) place)
  where
    by : (b : Bool) → changed is_first (suc k) (slice_set xs j x) ≡ changed is_first (suc k) xs ++ (k + suc j, x) ∷ [] →
        (if b then changed is_first (suc k) (slice_set xs j x)
        else (k, y) ∷ changed is_first (suc k) (slice_set xs j x)) ≡
        (if b then changed is_first (suc k) xs else (k, y) ∷ changed is_first (suc k) xs) ++ (k + suc j, x) ∷ []
    by true e = e
    by false e = ap (λ ys. (k, y) ∷ ys) e

pub last-saved : {A : Type 0} (is_first : A → Bool) (first : A) (xs : List A) (j : ℕ) (x : A) → j < length xs
    → is_first x ≡ false →
    ((i : ℕ) → j ≤ i → i < length xs → is_first (slice_index_or xs i first) ≡ true) →
    changed is_first 0 (slice_set xs j x) ≡ changed is_first 0 xs ++ (j, x) ∷ []
last-saved is_first first xs j x below new h =
    changed-last is_first first xs 0 j x below new h ∙ ap (λ n. changed is_first 0 xs ++ (n, x) ∷ []) (zero-add j)
