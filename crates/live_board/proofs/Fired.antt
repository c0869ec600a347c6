-- After writes of timers and ticks a source has the same messages, or its slot is occupied and has
-- MessagePending.
use Rattle.std.proofs.Common.{◌≡◌, ◌≢◌, ◌⊎◌, inl, inr, ℕ, ◌+◌, ◌*◌, ◌<◌, true, ◌&&◌, nat_lt, List, [], ◌∷◌, ◌++◌, length, get_or, Option, None, Some, refl, sym, ap, ◌∙◌, subst, arith, zero, suc}
use Rattle.std.specs.Prelude.{◌==◌, if◌then◌else◌}
use Rattle.std.specs.Int.{bit_at}
use Rattle.std.specs.FinSet.{contains}
use Rattle.std.proofs.lemmas.Bool.{cases_eq, and_parts}
use Rattle.std.proofs.lemmas.List.{get_or-set_other}
use Rattle.board_terms.specs.Dues.{number_of}
use Rattle.board_terms.specs.Sources.{source_number}
use Rattle.board_terms.specs.declared.messages.Message.{Message}
use Rattle.board_terms.specs.declared.messages.Message.TheVariants.{FromTimer}
use Rattle.message_queues.specs.Queues.{queue_of}
use Rattle.stimer_bank.specs.declared.timer.Timer.{Timer}
use Rattle.stimer_bank.specs.declared.timer.Mode.{Mode}
use Rattle.stimer_bank.specs.declared.timer.Mode.TheVariants.{Direct, Posted}
use Rattle.stimer_bank.specs.Timer.{after_expiry}
use Rattle.stimer_bank.specs.Bank.{timer_in, is_due_in, with_timer, dues, due_list}
use Rattle.synic_board.specs.State.{State, apic_of, bank_of, with_bank}
use Rattle.synic_board.specs.Effects.{Effect, Outcome, after}
use Rattle.synic_board.specs.Interrupts.{requested, raised}
use Rattle.synic_board.specs.Delivery.{delivers, is_slot_empty, placed_head, tried, accepted, delivered}
use Rattle.synic_board.specs.Slots.{slot_byte}
use Rattle.synic_board.specs.Sound.{IsMessage}
use Rattle.synic_board.specs.Timers.{mode_at, is_ready_for, is_ready, delivery_by, signalled_by, expired_state, expiry_at, fired, attempted, attempted_until, most_expiries, written_timer, at_moment, ticked}
use Rattle.synic_board.proofs.keeping.Changes.{kept-timer, kept-moment}
use Rattle.synic_board.proofs.keeping.Clocks.{Names, mode-names, keeps-attempted}
use Rattle.synic_board.proofs.keeping.Placements.{page-long}
use Rattle.synic_board.proofs.keeping.Requests.{either}
use Rattle.synic_board.proofs.keeping.Wholes.{IsIntact}
use Rattle.live_board.specs.Live.{is_waiting}
use Rattle.live_board.proofs.Ended.{aside-tried, bytes-tried, pages-aside, queues-raised, same-empty}
use Rattle.live_board.proofs.Grown.{due-on}
use Rattle.live_board.proofs.Posted.{accepted-whole}
use Rattle.live_board.proofs.Seen.{IsSeen, WaitsSeen, seen-tried}
use Rattle.live_board.proofs.Tried.{pages-tried}

-- the messages of a source are the same, and what was seen stays so; or it is seen now
abbrev pub Goes : State → ℕ → ℕ → State → Type 0
Goes s p i now =
    ((queue_of now.queues p i ≡ queue_of s.queues p i) × (WaitsSeen s p i → WaitsSeen now p i)) ⊎ WaitsSeen now p i

goes-trans : (s mid now : State) (p i : ℕ) → Goes s p i mid → Goes mid p i now → Goes s p i now
goes-trans s mid now p i a (inr seen) = inr seen
goes-trans s mid now p i (inr seen) (inl b) = inr (b.1 seen)
goes-trans s mid now p i (inl a) (inl b) = inl (b.0 ∙ a.0, λ h. b.1 (a.1 h))

goes-requested : (s : State) (q v p i : ℕ) → Goes s p i (requested s q v).0
goes-requested s q v p i =
    either (λ (e : Effect). Goes s p i e.0) (contains (apic_of s q).requested v) _ _ (λ _. inl (refl, λ h. h))
    (λ _. inl (refl, λ h w. record { occupied = (h w).occupied; pending = (h w).pending }))

-- an attempt at another source
pub queue-tried : (s : State) (q j k : ℕ) → k ≢ source_number q j
    → get_or (tried s q j).0.queues k [] ≡ get_or s.queues k []
unfolding tried
queue-tried s q j k ne =
    let Same = λ (e : Effect). get_or e.0.queues k [] ≡ get_or s.queues k [] in
    either Same (is_waiting s q j) _ _
    (λ _. either Same (is_slot_empty s q j) _ _ (λ _. head (queue_of s.queues q j)) (λ _. refl)) (λ _. refl)
  where
    head : (l : List Message)
        → get_or (after (placed_head s q j l) (raised (placed_head s q j l).0 q j)).0.queues k [] ≡ get_or s.queues k []
    head [] = ap (λ l. get_or l k []) (queues-raised s q j)
    head (m ∷ rest) =
        ap (λ l. get_or l k []) (queues-raised (placed_head s q j (m ∷ rest)).0 q j)
        ∙ get_or-set_other s.queues (source_number q j) k rest [] ne

abbrev Apart : ℕ → ℕ → ℕ → ℕ → Type 0
Apart p i q j = (p ≢ q) ⊎ ((p ≡ q) × (i ≢ j))

apart-number : (p i q j : ℕ) → i < 16 → j < 16 → Apart p i q j → source_number p i ≢ source_number q j
apart-number p i q j under low (inl ne) e = ne (omega (arith, e, under, low))
apart-number p i q j under low (inr (is, ne)) e = ne (omega (arith, e, is))

bytes-apart : (n : ℕ) (s : State) (p i q j : ℕ) → IsIntact n s → q < n → i < 16 → j < 16 → Apart p i q j → (b : ℕ)
    → b < 256 → slot_byte (tried s q j).0 p i b ≡ slot_byte s p i b
bytes-apart n s p i q j h on under low (inl ne) b small =
    ap (λ l. get_or l (256 * i + b) 0)
    (pages-aside s (tried s q j).0 q j (2 * p) (λ e. ne (omega (arith, e))) (pages-tried n s q j h.whole on low)).0
bytes-apart n s p i q j h on under low (inr (is, ne)) b small =
    (λ k. slot_byte (tried s q j).0 (is k) i b)
    ∙ bytes-tried s (tried s q j).0 q j i b (omega (arith, h.whole.own, on))
    (page-long n s q h.whole on) low under ne small (pages-tried n s q j h.whole on low)
    ∙ (λ k. slot_byte s (sym is k) i b)

goes-apart : (n : ℕ) (s : State) (p i q j : ℕ) → IsIntact n s → q < n → i < 16 → j < 16 → Apart p i q j
    → Goes s p i (tried s q j).0
goes-apart n s p i q j h on under low apart = inl (queue, λ seen w. still (seen (sym waits ∙ w)))
  where
    now : State
    now = (tried s q j).0

    queue : queue_of now.queues p i ≡ queue_of s.queues p i
    queue = queue-tried s q j (source_number p i) (apart-number p i q j under low apart)

    waits : is_waiting now p i ≡ is_waiting s p i
    waits = let a = aside-tried s q j in (λ k. delivers (record s { regs = a.regs k }) p && nat_lt 0 (length (queue k)))

    same : (b : ℕ) → b < 256 → slot_byte now p i b ≡ slot_byte s p i b
    same b small = bytes-apart n s p i q j h on under low apart b small

    still : IsSeen s p i → IsSeen now p i
    still seen =
        record {
          occupied = same-empty s now p i same ∙ seen.occupied;
          pending = ap (λ b. bit_at b 0 == 1) (same 5 (omega arith)) ∙ seen.pending;
        }

goes-tried : (n : ℕ) (s : State) (p i q j : ℕ) → IsIntact n s → q < n → i < 16 → j < 16 → (p ≡ q) ⊎ (p ≢ q) → (i ≡ j)
    ⊎ (i ≢ j) → Goes s p i (tried s q j).0
goes-tried n s p i q j h on under low (inl is) (inl same) =
    inr (λ w. subst (λ k. IsSeen (tried s q j).0 k i) (sym is) (subst (λ k. IsSeen (tried s q j).0 q k) (sym same)
    (seen-tried n s q j h on low
    (subst (λ k. is_waiting (tried s q j).0 q k ≡ true) same
    (subst (λ k. is_waiting (tried s q j).0 k i ≡ true) is w)))))
goes-tried n s p i q j h on under low (inl is) (inr ne) = goes-apart n s p i q j h on under low (inr (is, ne))
goes-tried n s p i q j h on under low (inr ne) which = goes-apart n s p i q j h on under low (inl ne)

-- a message that is accepted, and tried
goes-delivered : (n : ℕ) (s : State) (p i q j : ℕ) (m : Message) → IsIntact n s → q < n → i < 16 → j < 16
    → IsMessage m → Goes s p i (delivered s q j m).0
goes-delivered n s p i q j m h on under low good = by (cases_eq p q) (cases_eq i j)
  where
    a : State
    a = (accepted s q j m).0

    intact : IsIntact n a
    intact = record { count = h.count; whole = accepted-whole n s q j m h.whole on low good; empty = h.empty }

    joins : Apart p i q j → Goes s p i a
    joins apart =
        let queue = get_or-set_other s.queues (source_number q j) (source_number p i)
        (queue_of s.queues q j ++ m ∷ []) [] (apart-number p i q j under low apart) in
        let waits : is_waiting a p i ≡ is_waiting s p i = (λ k. delivers s p && nat_lt 0 (length (queue k))) in
        inl (
          queue,
          λ seen w. (let was = seen (sym waits ∙ w) in
              record { occupied = was.occupied; pending = was.pending }),
        )

    by : (p ≡ q) ⊎ (p ≢ q) → (i ≡ j) ⊎ (i ≢ j) → Goes s p i (delivered s q j m).0
    by (inl is) (inl same) = seen (goes-tried n a p i q j intact on under low (inl is) (inl same))
      where
        seen : Goes a p i (tried a q j).0 → Goes s p i (delivered s q j m).0
        seen (inr w) = inr w
        seen (inl b) =
            inr (λ w. subst (λ k. IsSeen (tried a q j).0 k i) (sym is)
            (subst (λ k. IsSeen (tried a q j).0 q k) (sym same)
            (seen-tried n a q j intact on low
            (subst (λ k. is_waiting (tried a q j).0 q k ≡ true) same
            (subst (λ k. is_waiting (tried a q j).0 k i ≡ true) is w)))))
    by (inl is) (inr ne) =
        goes-trans s a (tried a q j).0 p i (joins (inr (is, ne)))
        (goes-tried n a p i q j intact on under low (inl is) (inr ne))
    by (inr ne) which =
        goes-trans s a (tried a q j).0 p i (joins (inl ne)) (goes-tried n a p i q j intact on under low (inr ne) which)

-- an expiry
goes-emitted : (n : ℕ) (s : State) (t : ℕ × ℕ) (mode : Mode) (d p i : ℕ) → IsIntact n s → t.0 < n → i < 16
    → Names mode → Goes s p i (delivery_by s t mode d).0
goes-emitted n s t (Direct v) d p i h on under names = goes-requested s t.0 v p i
goes-emitted n s t (Posted j) d p i h on under names =
    goes-delivered n s p i t.0 j (FromTimer s.next_ticket t d) h on under names
    ((λ e. omega (arith, e)), omega arith, tt)

goes-signalled : (n : ℕ) (s : State) (t : ℕ × ℕ) (mode : Mode) (o : Option ℕ) (p i : ℕ) → IsIntact n s → t.0 < n
    → i < 16 → Names mode → Goes s p i (signalled_by s t mode o).0
goes-signalled n s t mode None p i h on under names = inl (refl, λ x. x)
goes-signalled n s t mode (Some d) p i h on under names = goes-emitted n s t mode d p i h on under names

-- timers and the clock are no part of it
goes-bank : (s now : State) (p i : ℕ) → now.queues ≡ s.queues → now.own ≡ s.own → now.regs ≡ s.regs → Goes s p i now
goes-bank s now p i queues own regs = inl (
  ap (λ l. queue_of l p i) queues,
  λ seen w. (let was = seen (sym waits ∙ w) in record {
    occupied = (λ k. is_slot_empty (record s { own = own k; regs = regs k }) p i) ∙ was.occupied;
    pending = ap (λ l. bit_at (get_or (get_or l (2 * p) []) (256 * i + 5) 0) 0 == 1) own ∙ was.pending;
  }),
)
  where
    waits : is_waiting now p i ≡ is_waiting s p i
    waits = (λ k. is_waiting (record s { regs = regs k; queues = queues k }) p i)

goes-fired : (n : ℕ) (s : State) (t : ℕ × ℕ) (mode : Mode) (p i : ℕ) → IsIntact n s → number_of t < 4 * n → i < 16
    → Names mode → Goes s p i (fired s t mode).0
goes-fired n s t mode p i h low under names =
    let now : State = expired_state s t in
    goes-trans s now (fired s t mode).0 p i (goes-bank s now p i refl refl refl)
    (goes-signalled n now t mode (expiry_at s t).signal p i
    (kept-timer n s t ((after_expiry (timer_in (bank_of s) t) s.moment).0) h) (omega (arith, low)) under names)

goes-attempted : (n : ℕ) (s : State) (t : ℕ × ℕ) (p i : ℕ) → IsIntact n s → i < 16 → Goes s p i (attempted s t).0
unfolding attempted
goes-attempted n s t p i h under =
    either (λ (e : Effect). Goes s p i e.0) (is_ready s t) _ _
    (λ ready. goes-fired n s t (mode_at s t) p i h
    (due-on n s t h (and_parts (is_due_in (bank_of s) t s.moment) (is_ready_for s t (mode_at s t)) ready).0) under
    (mode-names (timer_in (bank_of s) t).config))
    (λ _. inl (refl, λ x. x))

pub goes-attempted_until : (n few : ℕ) (s : State) (ts : List (ℕ × ℕ)) (p i : ℕ) → IsIntact n s → i < 16
    → Goes s p i (attempted_until few s ts).0
unfolding attempted_until
goes-attempted_until n zero s ts p i h under = inl (refl, λ x. x)
goes-attempted_until n (suc few) s [] p i h under = inl (refl, λ x. x)
goes-attempted_until n (suc few) s (t ∷ ts) p i h under =
    let now : State = (attempted s t).0 in
    let left = if is_ready s t then few else suc few in
    goes-trans s now (attempted_until left now ts).0 p i (goes-attempted n s t p i h under)
    (goes-attempted_until n left now ts p i (keeps-attempted n s t h).kept under)

-- a write of a timer
pub goes-written : (n : ℕ) (s : State) (t : ℕ × ℕ) (x : Timer) (p i : ℕ) → IsIntact n s → i < 16
    → Goes s p i (written_timer s (with_timer (bank_of s) t x) t).0
goes-written n s t x p i h under =
    let now : State = with_bank s (with_timer (bank_of s) t x) in
    goes-trans s now (attempted now t).0 p i (goes-bank s now p i refl refl refl)
    (goes-attempted n now t p i (kept-timer n s t x h) under)

-- a tick
pub goes-ticked : (n : ℕ) (s : State) (moment p i : ℕ) → IsIntact n s → i < 16 → Goes s p i (ticked s moment).0
goes-ticked n s moment p i h under =
    let now : State = at_moment s moment in
    either (λ (o : Outcome). Goes s p i o.0) (nat_lt moment s.moment) _ _
    (λ _. inl (refl, λ x. x))
    (λ _. either (λ (o : Outcome). Goes s p i o.0) (moment == s.moment) _ _
    (λ _. inl (refl, λ x. x))
    (λ _. goes-trans s now _ p i (goes-bank s now p i refl refl refl)
    (goes-attempted_until n most_expiries now (due_list (dues (bank_of s)) moment) p i
    (kept-moment n s moment h) under)))
