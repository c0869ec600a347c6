-- The messages of a source reach its slot in the order in which they were accepted.
use Rattle.std.proofs.Common.{◌≡◌, ◌≢◌, ◌⊎◌, inl, inr, ℕ, ◌≤◌, get_or, set, Bool, true, false, not, nat_lt, List, [], ◌∷◌, ◌++◌, length, map, refl, sym, ap, subst, ◌∙◌, arith, append_assoc, append-nil}
use Rattle.std.specs.Prelude.{Option, None, Some, ◌==◌, if◌then◌else◌}
use Rattle.std.specs.List.{filter, filter_map}
use Rattle.std.proofs.lemmas.Bool.{cases_eq}
use Rattle.std.proofs.lemmas.Bool.Decides.{nat_tests}
use Rattle.std.proofs.lemmas.List.{get_or-set_same, get_or-set_other, get_or_past, length-set, map-append}
use Rattle.std.proofs.lemmas.List.Elements.{filter_map-append}
use Rattle.board_terms.specs.declared.messages.Message.{Message}
use Rattle.board_terms.specs.Messages.{ticket_of}
use Rattle.board_terms.specs.declared.notices.Notice.{Notice}
use Rattle.board_terms.specs.declared.notices.Notice.TheVariants.{Accepted, Placed, Pending, Withdrawn, Expired, Skipped}
use Rattle.board_terms.specs.Sources.{source_number}
use Rattle.message_queues.specs.Queues.{Queues, queue_of, is_from_port, withdrawn_of, left_of}
use Rattle.gpa_space.specs.Space.{is_pending, after_pending}
use Rattle.synic_board.specs.declared.event.Event.{Event}
use Rattle.synic_board.specs.declared.event.Reply.{Reply}
use Rattle.synic_board.specs.State.{State, space_of, with_space}
use Rattle.synic_board.specs.Effects.{Effect, Outcome, nothing, unchanged}
use Rattle.synic_board.specs.Interrupts.{raised}
use Rattle.synic_board.specs.Delivery.{placed_state, accepted}
use Rattle.synic_board.specs.Posts.{withdrawn, with_flag, flagged}
use Rattle.synic_board.specs.Timers.{expired_notices, skipped_notices, expiry_notices, expiry_at}
use Rattle.synic_board.specs.Suspending.{with_suspension}
use Rattle.synic_board.specs.Resetting.{withdrawn_ticket, queue_emptied, emptied, cleared}
use Rattle.synic_board.specs.Step.{step}
use Rattle.synic_board.specs.Run.{run_of}
use Rattle.law_board.specs.Order.{accepted_ticket, placed_ticket, accepted_at, placed_at, queued_at, IsSubsequence, KeepsOrder}
use Rattle.synic_board.proofs.keeping.Requests.{either}
use Rattle.synic_board.proofs.Throughout.{OfEffects, throughout, request_made, expiry_made, placement, consumption}

same : (xs : List ℕ) → IsSubsequence xs xs
same [] = tt
same (x ∷ xs) = inl (refl, same xs)

equal : (xs ys : List ℕ) → xs ≡ ys → IsSubsequence xs ys
equal xs ys e = subst (IsSubsequence xs) e (same xs)

later : (xs : List ℕ) (y : ℕ) (ys : List ℕ) → IsSubsequence xs ys → IsSubsequence xs (y ∷ ys)
later [] y ys h = tt
later (x ∷ xs) y ys h = inr h

through : (xs ys zs : List ℕ) → IsSubsequence xs ys → IsSubsequence ys zs → IsSubsequence xs zs
through [] ys zs h k = tt
through (x ∷ xs) [] zs h k = absurd h
through (x ∷ xs) (y ∷ ys) [] h k = absurd k
through (x ∷ xs) (y ∷ ys) (z ∷ zs) (inl h) (inl k) = inl (h.0 ∙ k.0, through xs ys zs h.1 k.1)
through (x ∷ xs) (y ∷ ys) (z ∷ zs) (inr h) (inl k) = inr (through (x ∷ xs) ys zs h k.1)
through (x ∷ xs) (y ∷ ys) (z ∷ zs) h (inr k) = inr (through (x ∷ xs) (y ∷ ys) zs h k)

behind : (first xs ys : List ℕ) → IsSubsequence xs ys → IsSubsequence (first ++ xs) (first ++ ys)
behind [] xs ys h = h
behind (x ∷ first) xs ys h = inl (refl, behind first xs ys h)

before : (xs ys last : List ℕ) → IsSubsequence xs ys → IsSubsequence (xs ++ last) (ys ++ last)
before [] [] last h = same last
before [] (y ∷ ys) last h = later last y (ys ++ last) (before [] ys last tt)
before (x ∷ xs) [] last h = absurd h
before (x ∷ xs) (y ∷ ys) last (inl h) = inl (h.0, before xs ys last h.1)
before (x ∷ xs) (y ∷ ys) last (inr h) = inr (before (x ∷ xs) ys last h)

-- those that satisfy a predicate
kept : (test : Message → Bool) (q : List Message) → IsSubsequence (map ticket_of (filter test q)) (map ticket_of q)
kept test [] = tt
kept test (m ∷ q) =
    either (λ (l : List Message). IsSubsequence (map ticket_of l) (ticket_of m ∷ map ticket_of q)) (test m)
    (m ∷ filter test q) (filter test q)
    (λ _. inl (refl, kept test q))
    (λ _. later (map ticket_of (filter test q)) (ticket_of m) (map ticket_of q) (kept test q))

-- from s to now, with notices
joined : (p i : ℕ) (s : State) (e f : Effect) → KeepsOrder p i s e.0 e.1 → KeepsOrder p i e.0 f.0 f.1
    → KeepsOrder p i s f.0 (e.1 ++ f.1)
joined p i s e f a b =
    let placed : List Notice → List ℕ = placed_at p i in
    let accepted : List Notice → List ℕ = accepted_at p i in
    let split : placed (e.1 ++ f.1) ++ queued_at f.0 p i ≡ placed e.1 ++ (placed f.1 ++ queued_at f.0 p i) =
    ap (λ l. l ++ queued_at f.0 p i) (filter_map-append (placed_ticket p i) e.1 f.1)
    ∙ append_assoc (placed e.1) (placed f.1) (queued_at f.0 p i) in
    let joins : queued_at s p i ++ accepted (e.1 ++ f.1) ≡ queued_at s p i ++ accepted e.1 ++ accepted f.1 =
    ap (λ l. queued_at s p i ++ l) (filter_map-append (accepted_ticket p i) e.1 f.1)
    ∙ sym (append_assoc (queued_at s p i) (accepted e.1) (accepted f.1)) in
    let first : IsSubsequence (placed e.1 ++ (placed f.1 ++ queued_at f.0 p i))
    (placed e.1 ++ (queued_at e.0 p i ++ accepted f.1)) = behind (placed e.1)
    (placed f.1 ++ queued_at f.0 p i) (queued_at e.0 p i ++ accepted f.1) b in
    let second : IsSubsequence (placed e.1 ++ queued_at e.0 p i ++ accepted f.1)
    (queued_at s p i ++ accepted e.1 ++ accepted f.1) = before
    (placed e.1 ++ queued_at e.0 p i) (queued_at s p i ++ accepted e.1) (accepted f.1) a in
    let all = through (placed e.1 ++ (placed f.1 ++ queued_at f.0 p i))
    (placed e.1 ++ (queued_at e.0 p i ++ accepted f.1)) (queued_at s p i ++ accepted e.1 ++ accepted f.1) first
    (subst (λ l. IsSubsequence l (queued_at s p i ++ accepted e.1 ++ accepted f.1))
    (append_assoc (placed e.1) (queued_at e.0 p i) (accepted f.1)) second) in
    subst (λ l. IsSubsequence l (queued_at s p i ++ accepted (e.1 ++ f.1))) (sym split)
    (subst (IsSubsequence (placed e.1 ++ (placed f.1 ++ queued_at f.0 p i))) (sym joins) all)

-- an effect that emits no such notice, and leaves the queues unchanged
mute : (p i : ℕ) (s : State) (e : Effect) → e.0.queues ≡ s.queues → placed_at p i e.1 ≡ [] → accepted_at p i e.1 ≡ []
    → KeepsOrder p i s e.0 e.1
mute p i s e leaves none no_more = equal _ _
    (ap (λ l. l ++ queued_at e.0 p i) none ∙ ap (λ (qs : Queues). map ticket_of (queue_of qs p i)) leaves
    ∙ sym (append-nil (queued_at s p i)) ∙ ap (λ l. queued_at s p i ++ l) (sym no_more))

-- a queue that is replaced, if there is one
replaced : (qs : Queues) (k : ℕ) (q : List Message)
    → IsSubsequence (map ticket_of (get_or (set qs k q) k [])) (map ticket_of q)
replaced qs k q = by (nat_lt k (length qs)) refl
  where
    by : (b : Bool) → nat_lt k (length qs) ≡ b
        → IsSubsequence (map ticket_of (get_or (set qs k q) k [])) (map ticket_of q)
    by true e = equal _ _ (ap (map ticket_of) (get_or-set_same qs k q [] (grind (arith, nat_tests))))
    by false e =
        let beyond : get_or (set qs k q) k [] ≡ [] =
        get_or_past (set qs k q) k []
        (let l = length-set qs k q in let out : length qs ≤ k = grind (arith, nat_tests) in omega (arith, l, out))
        in
        subst (λ l. IsSubsequence (map ticket_of l) (map ticket_of q)) (sym beyond) tt

-- the queue of one source is replaced
moved : (p i q j : ℕ) (s now : State) (next : List Message) (emitted : List Notice)
    → now.queues ≡ set s.queues (source_number q j) next →
    (source_number q j ≡ source_number p i
    → IsSubsequence (placed_at p i emitted ++ map ticket_of next)
    (map ticket_of (queue_of s.queues q j) ++ accepted_at p i emitted)) →
    (source_number q j ≢ source_number p i → (placed_at p i emitted ≡ []) × (accepted_at p i emitted ≡ []))
    → KeepsOrder p i s now emitted
moved p i q j s now next emitted is here away = by (cases_eq (source_number q j) (source_number p i))
  where
    at : ℕ → List Message
    at k = get_or (set s.queues (source_number q j) next) k []

    by : (source_number q j ≡ source_number p i) ⊎ (source_number q j ≢ source_number p i)
        → KeepsOrder p i s now emitted
    by (inl e) =
        let ends : queued_at now p i ≡ map ticket_of (at (source_number q j)) =
        ap (λ (qs : Queues). map ticket_of (queue_of qs p i)) is ∙ ap (λ k. map ticket_of (at k)) (sym e) in
        let starts : map ticket_of (queue_of s.queues q j) ≡ queued_at s p i =
        ap (λ k. map ticket_of (get_or s.queues k [])) e in
        subst (λ l. IsSubsequence (placed_at p i emitted ++ l) (queued_at s p i ++ accepted_at p i emitted)) (sym ends)
        (through (placed_at p i emitted ++ map ticket_of (at (source_number q j)))
        (placed_at p i emitted ++ map ticket_of next) (queued_at s p i ++ accepted_at p i emitted)
        (behind (placed_at p i emitted) (map ticket_of (at (source_number q j))) (map ticket_of next)
        (replaced s.queues (source_number q j) next))
        (subst (λ l. IsSubsequence (placed_at p i emitted ++ map ticket_of next) (l ++ accepted_at p i emitted))
        starts (here e)))
    by (inr ne) =
        let other : queued_at now p i ≡ queued_at s p i = ap (λ (qs : Queues). map ticket_of (queue_of qs p i)) is
        ∙ ap (map ticket_of) (get_or-set_other s.queues (source_number q j) (source_number p i) next []
        (λ e. ne (sym e))) in
        equal _ _ (ap (λ l. l ++ queued_at now p i) (away ne).0 ∙ other ∙ sym (append-nil (queued_at s p i))
        ∙ ap (λ l. queued_at s p i ++ l) (sym (away ne).1))

-- the tickets in one notice
one : (tells : Notice → Option ℕ) (n : Notice) (o : Option ℕ) → tells n ≡ o
    → filter_map tells (n ∷ []) ≡ filter_map (λ x. x) (o ∷ [])
one tells n o e = ap (λ (x : Option ℕ). filter_map (λ x. x) (x ∷ [])) e

emitted-here : (a b ticket : ℕ) → a ≡ b → (if a == b then Some ticket else None) ≡ Some ticket
emitted-here a b ticket e =
    either (λ o. o ≡ Some ticket) (a == b) (Some ticket) None (λ _. refl) (λ no. absurd (grind (arith, nat_tests)))

emitted-away : (a b ticket : ℕ) → a ≢ b → (if a == b then Some ticket else None) ≡ None
emitted-away a b ticket ne =
    either (λ o. o ≡ None) (a == b) (Some ticket) None (λ yes. absurd (grind (arith, nat_tests))) (λ _. refl)

in-order-accepted : (p i : ℕ) (s : State) (q j : ℕ) (m : Message)
    → KeepsOrder p i s (accepted s q j m).0 (accepted s q j m).1
in-order-accepted p i s q j m =
    moved p i q j s (accepted s q j m).0 (queue_of s.queues q j ++ m ∷ []) (accepted s q j m).1 refl
    (λ e. let ticket = one (accepted_ticket p i) (Accepted q j (ticket_of m)) (Some (ticket_of m))
    (emitted-here (source_number q j) (source_number p i) (ticket_of m) e) in
    equal _ _ (map-append ticket_of (queue_of s.queues q j) (m ∷ [])
    ∙ ap (λ l. map ticket_of (queue_of s.queues q j) ++ l) (sym ticket)))
    (λ ne. (
      refl,
      one (accepted_ticket p i) (Accepted q j (ticket_of m)) None
          (emitted-away (source_number q j) (source_number p i) (ticket_of m) ne),
    ))

in-order-placed : (p i : ℕ) (s : State) (q j : ℕ) (m : Message) (rest : List Message)
    → queue_of s.queues q j ≡ m ∷ rest → KeepsOrder p i s (placement s q j m rest).0 (placement s q j m rest).1
in-order-placed p i s q j m rest is =
    either (λ more. KeepsOrder p i s (placed_state s q j m rest) (Placed q j (ticket_of m) ∷ more))
    (nat_lt 0 (length rest)) (Pending q j ∷ []) []
    (λ _. by (Pending q j ∷ []) refl refl) (λ _. by [] refl refl)
  where
    by : (more : List Notice) → placed_at p i more ≡ [] → accepted_at p i more ≡ []
        → KeepsOrder p i s (placed_state s q j m rest) (Placed q j (ticket_of m) ∷ more)
    by more none no_more =
        let notice : Notice = Placed q j (ticket_of m) in
        let after_first : placed_at p i (notice ∷ more) ≡ placed_at p i (notice ∷ []) =
        filter_map-append (placed_ticket p i) (notice ∷ []) more
        ∙ ap (λ l. placed_at p i (notice ∷ []) ++ l) none ∙ append-nil (placed_at p i (notice ∷ [])) in
        moved p i q j s (placed_state s q j m rest) rest (notice ∷ more) refl
        (λ e. let ticket = after_first
        ∙ one (placed_ticket p i) notice (Some (ticket_of m))
        (emitted-here (source_number q j) (source_number p i) (ticket_of m) e) in
        equal _ _ (ap (λ l. l ++ map ticket_of rest) ticket ∙ ap (map ticket_of) (sym is)
        ∙ sym (append-nil (map ticket_of (queue_of s.queues q j)))
        ∙ ap (λ l. map ticket_of (queue_of s.queues q j) ++ l) (sym no_more)))
        (λ ne. (
          after_first ∙ one (placed_ticket p i) notice None
              (emitted-away (source_number q j) (source_number p i) (ticket_of m) ne),
          no_more,
        ))

none-withdrawn : (tells : Notice → Option ℕ) (q j : ℕ) → ((ticket : ℕ) → tells (Withdrawn q j ticket) ≡ None)
    → (tickets : List ℕ) → filter_map tells (map (λ t. Withdrawn q j t) tickets) ≡ []
none-withdrawn tells q j never [] = refl
none-withdrawn tells q j never (t ∷ tickets) =
    let notice : Notice = Withdrawn q j t in
    filter_map-append tells (notice ∷ []) (map (λ t. Withdrawn q j t) tickets)
    ∙ ap (λ l. l ++ filter_map tells (map (λ t. Withdrawn q j t) tickets)) (one tells notice None (never t))
    ∙ none-withdrawn tells q j never tickets

in-order-withdrawn : (p i : ℕ) (s : State) (q j port : ℕ)
    → KeepsOrder p i s (withdrawn s q j port).0 (withdrawn s q j port).1
in-order-withdrawn p i s q j port =
    let queue : List Message = queue_of s.queues q j in
    let emitted : List Notice = (withdrawn s q j port).1 in
    let none : placed_at p i emitted ≡ [] =
    none-withdrawn (placed_ticket p i) q j (λ _. refl) (withdrawn_of port queue) in
    let no_more : accepted_at p i emitted ≡ [] =
    none-withdrawn (accepted_ticket p i) q j (λ _. refl) (withdrawn_of port queue) in
    moved p i q j s (withdrawn s q j port).0 (left_of port queue) emitted refl
    (λ _. subst (λ l. IsSubsequence (l ++ map ticket_of (left_of port queue))
    (map ticket_of queue ++ accepted_at p i emitted)) (sym none)
    (subst (IsSubsequence (map ticket_of (left_of port queue)))
    (sym (ap (λ l. map ticket_of queue ++ l) no_more ∙ append-nil (map ticket_of queue)))
    (kept (λ m. not (is_from_port port m)) queue)))
    (λ _. (none, no_more))

in-order-emptied : (p i : ℕ) (s : State) (q j : ℕ) → KeepsOrder p i s (queue_emptied s q j).0 (queue_emptied s q j).1
in-order-emptied p i s q j =
    let tickets : List ℕ = map ticket_of (queue_of s.queues q j) in
    let emitted : List Notice = (queue_emptied s q j).1 in
    let none : placed_at p i emitted ≡ [] = none-withdrawn (placed_ticket p i) q j (λ _. refl) tickets in
    let no_more : accepted_at p i emitted ≡ [] = none-withdrawn (accepted_ticket p i) q j (λ _. refl) tickets in
    moved p i q j s (queue_emptied s q j).0 [] emitted refl
    (λ _. subst (λ l. IsSubsequence (l ++ []) (tickets ++ accepted_at p i emitted)) (sym none) tt)
    (λ _. (none, no_more))

none-expired : (tells : Notice → Option ℕ) (t : ℕ × ℕ) (signal : Option ℕ) (skipped : ℕ)
    → ((d : ℕ) → tells (Expired t.0 t.1 d) ≡ None) →
    ((n : ℕ) → tells (Skipped t.0 t.1 n) ≡ None) → filter_map tells (expiry_notices t signal skipped) ≡ []
none-expired tells t signal skipped never none =
    filter_map-append tells (expired_notices t signal) (skipped_notices t skipped)
    ∙ ap (λ l. l ++ filter_map tells (skipped_notices t skipped)) (first signal)
    ∙ either (λ ns. filter_map tells ns ≡ []) (skipped == 0) [] (Skipped t.0 t.1 skipped ∷ []) (λ _. refl)
    (λ _. one tells (Skipped t.0 t.1 skipped) None (none skipped))
  where
    first : (o : Option ℕ) → filter_map tells (expired_notices t o) ≡ []
    first None = refl
    first (Some d) = one tells (Expired t.0 t.1 d) None (never d)

abbrev Ordered : ℕ → ℕ → State → Effect → Type 0
Ordered p i s e = KeepsOrder p i s e.0 e.1

ordered : (p i : ℕ) → OfEffects (Ordered p i)
ordered p i = record {
  stays = λ s. mute p i s (nothing s) refl refl refl;
  joins = joined p i;
  requests = λ s q v _. mute p i s (request_made s q v) refl refl refl;
  accepts = in-order-accepted p i;
  locations = λ s q j m rest is _. in-order-placed p i s q j m rest is;
  marks = λ s q j. either (λ ns. KeepsOrder p i s (with_space s (after_pending (space_of s) q j)) ns)
      (is_pending (space_of s) q j) [] (Pending q j ∷ [])
      (λ _. mute p i s (with_space s (after_pending (space_of s) q j), []) refl refl refl)
      (λ _. mute p i s (with_space s (after_pending (space_of s) q j), Pending q j ∷ []) refl refl refl);
  consumes = λ s q j t _. mute p i s (consumption s q j t) refl refl refl;
  withdraws = in-order-withdrawn p i;
  frees = λ s q j t. mute p i s (withdrawn_ticket s q j t) refl refl refl;
  empties = in-order-emptied p i;
  expires = λ s t _. mute p i s (expiry_made s t) refl
      (none-expired (placed_ticket p i) t (expiry_at s t).signal (expiry_at s t).skipped (λ _. refl) (λ _. refl))
      (none-expired (accepted_ticket p i) t (expiry_at s t).signal (expiry_at s t).skipped (λ _. refl) (λ _. refl));
}

-- the property of an event
record IsOrdered (p i : ℕ) (s : State) (event : Event) (outcome : Outcome) : Type 0 where
  pub keeps : KeepsOrder p i s outcome.0 outcome.2

silent : (p i : ℕ) (s now : State) (event : Event) (reply : Reply) → now.queues ≡ s.queues
    → IsOrdered p i s event (unchanged now reply)
silent p i s now event reply same = record { keeps = mute p i s (now, []) same refl refl }

in-order : (p i : ℕ) (s : State) (event : Event) → KeepsOrder p i s (step s event).0 (step s event).2
in-order p i s event = (throughout (Ordered p i) (IsOrdered p i) (ordered p i) (record {
  refuses = λ s event r. silent p i s s event _ refl;
  faults = λ s event. silent p i s s event _ refl;
  reads = λ s q number. silent p i s s _ _ refl;
  loads = λ s address count. silent p i s s _ _ refl;
  acts = λ s event reply moment ports regs e _ h. record { keeps = h };
  eases = λ s event reply q a _ _ _. silent p i s _ event reply refl;
  stores = λ s address bytes e h. record { keeps = h };
  configures = λ s q n number value e _ _ h. record { keeps = h };
  counts = λ s q n number value e _ _ h. record { keeps = h };
  repeats = λ s port flag q j f _ _. silent p i s (with_flag s q j f) _ _ refl;
  signals = λ s port flag q j f _ _ h. let lit : State = with_flag s q j f in
      record {
        keeps = joined p i s (flagged s q j f) (raised lit q j)
            (mute p i s (flagged s q j f) refl refl refl) h;
      };
  pauses = λ s event q mark _ _. silent p i s (with_suspension s q mark) event _ refl;
  resets = λ s q _ h. let e : Effect = emptied s q in
      record { keeps = joined p i s e (cleared e.0 q, []) h (mute p i e.0 (cleared e.0 q, []) refl refl refl) };
}) s event).keeps

pub all_in_order : (s : State) (events : List Event) (p i : ℕ)
    → KeepsOrder p i s (run_of s events).0 (run_of s events).2
unfolding run_of
all_in_order s [] p i = mute p i s (nothing s) refl refl refl
all_in_order s (event ∷ events) p i =
    let first : Effect = ((step s event).0, (step s event).2) in
    let rest : Effect = ((run_of first.0 events).0, (run_of first.0 events).2) in
    joined p i s first rest (in-order p i s event) (all_in_order first.0 events p i)
