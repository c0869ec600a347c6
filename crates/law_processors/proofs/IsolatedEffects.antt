-- An event leaves the processors alone that it does not touch: the effects of one processor leave each other one alone.
use Rattle.std.proofs.Common.{◌≢◌, ℕ, zero, suc, ◌+◌, ◌*◌, ◌<◌, ◌≤◌, ◌==◌, ◌&&◌, false, nat_lt, List, [], ◌∷◌, ◌++◌, length, map, Option, None, Some, set, refl, arith}
use Rattle.std.specs.Prelude.{cond}
use Rattle.std.specs.List.{All}
use Rattle.std.specs.Option.{option_map_or}
use Rattle.std.proofs.lemmas.List.Elements.{All-append, All-cons, All-nil}
use Rattle.board_terms.specs.Messages.{ticket_of}
use Rattle.board_terms.specs.declared.messages.Message.{Message}
use Rattle.board_terms.specs.declared.messages.Message.TheVariants.{FromTimer}
use Rattle.board_terms.specs.declared.notices.Notice.{Notice}
use Rattle.board_terms.specs.declared.notices.Notice.TheVariants.{Accepted, Placed, Pending, Consumed, Withdrawn, Expired, Skipped}
use Rattle.board_terms.specs.declared.pages.Kind.TheVariants as kind
use Rattle.lapic_core.specs.Apic.{empty_apic}
use Rattle.synic_regs.specs.Regs.{reset_regs}
use Rattle.message_queues.specs.Queues.{queue_of, withdrawn_of, left_of}
use Rattle.message_queues.specs.Image.{image}
use Rattle.stimer_bank.specs.declared.timer.Mode.{Mode}
use Rattle.stimer_bank.specs.declared.timer.Mode.TheVariants.{Direct, Posted}
use Rattle.stimer_bank.specs.Timer.{after_expiry}
use Rattle.stimer_bank.specs.Bank.{idle_timer, timer_in, with_timer}
use Rattle.gpa_space.specs.Page.{zero_page, with_slot, with_bit, pending_place}
use Rattle.gpa_space.specs.Space.{own_page, overlay_of, is_pending}
use Rattle.event_ports.specs.declared.ports.Port.{Port}
use Rattle.synic_board.specs.State.{State, space_of, slot_of, bank_of, with_apic, with_regs, with_bank, with_slot_ticket}
use Rattle.synic_board.specs.Effects.{Effect, nothing, after}
use Rattle.synic_board.specs.Interrupts.{requested, raised}
use Rattle.synic_board.specs.Absorbing.{is_posted, absorbed_bit, absorbed_below}
use Rattle.synic_board.specs.Delivery.{delivers, is_slot_empty, with_image, with_messages, placed_state, placed_head, placed, marked, tried, tried_below, accepted, delivered}
use Rattle.synic_board.specs.Posts.{withdrawn}
use Rattle.synic_board.specs.Stores.{consumed_ticket, consumed, consumed_below}
use Rattle.synic_board.specs.Resetting.{withdrawn_ticket, slot_emptied, queue_emptied, source_emptied, emptied_below, cleared}
use Rattle.synic_board.specs.Timers.{mode_at, is_ready, expired_notices, skipped_notices, expiry_notices, delivery_by, signalled_by, expired_state, expiry_at, fired, attempted}
use Rattle.synic_board.proofs.keeping.Requests.{either}
use Rattle.synic_board.proofs.keeping.Clocks.{Names, mode-names}
use Rattle.law_processors.specs.Isolation.{Keeps, processor_of}
use Rattle.law_processors.proofs.Isolated.{keeps-then, Alone, alone-nothing, alone-after, alone-one, keeps-apic, keeps-regs, keeps-mark, keeps-own, keeps-queue, keeps-slot, keeps-timer, alone-requested, alone-raised}

-- what processors share
pub keeps-shared : (q : ℕ) (s : State) (moment next : ℕ) (pages : List (List ℕ)) (ports : List (Option Port))
    → Keeps q s (record s { moment = moment; next_ticket = next; pages = pages; ports = ports })
keeps-shared q s moment next pages ports =
    record {
      apic = refl;
      regs = refl;
      suspended = refl;
      pages = λ k. refl;
      queues = λ i _. refl;
      slots = λ i _. refl;
      timers = λ n _. refl;
    }

module _ (q p : ℕ) (apart : p ≢ q) where
  abbrev Others : List Notice → Type 0
  Others = All (λ notice. processor_of notice ≢ q)

  none : Others []
  none = All-nil (λ notice. processor_of notice ≢ q)

  more : (notice : Notice) (rest : List Notice) → processor_of notice ≢ q → Others rest → Others (notice ∷ rest)
  more notice rest one all = All-cons (λ notice. processor_of notice ≢ q) notice rest one all

  -- delivery
  keeps-placed : (s : State) (i : ℕ) (m : Message) (rest : List Message) → i < 16
      → Keeps q s (placed_state s p i m rest)
  keeps-placed s i m rest low =
      let imaged : State = with_image s p i m (nat_lt 0 (length rest)) in
      let queued : State = with_messages imaged p i rest in
      keeps-then q s imaged (placed_state s p i m rest)
      (keeps-own q p apart s kind.Sim
      (with_slot (own_page (space_of s) p kind.Sim) i (image m (nat_lt 0 (length rest)) s.moment)))
      (keeps-then q imaged queued (placed_state s p i m rest) (keeps-queue q p apart imaged i rest low)
      (keeps-slot q p apart queued i (Some (ticket_of m)) low))

  alone-head : (s : State) (i : ℕ) → i < 16 → (messages : List Message) → Alone q s (placed_head s p i messages)
  alone-head s i low [] = alone-nothing q s
  alone-head s i low (m ∷ rest) = (
    keeps-placed s i m rest low,
    more (Placed p i (ticket_of m)) _ apart
        (either Others (nat_lt 0 (length rest)) (Pending p i ∷ []) [] (λ _. more (Pending p i) [] apart none)
        (λ _. none)),
  )

  alone-marked : (s : State) (i : ℕ) → Alone q s (marked s p i)
  alone-marked s i = (
    keeps-own q p apart s kind.Sim (with_bit (own_page (space_of s) p kind.Sim) (pending_place i) 0),
    either Others (is_pending (space_of s) p i) [] (Pending p i ∷ []) (λ _. none)
        (λ _. more (Pending p i) [] apart none),
  )

  alone-tried : (s : State) (i : ℕ) → i < 16 → Alone q s (tried s p i)
  unfolding tried
  alone-tried s i low =
      let e : Effect = placed s p i in
      either (Alone q s) (delivers s p && nat_lt 0 (length (queue_of s.queues p i)))
      (cond (is_slot_empty s p i) (after e (raised e.0 p i)) (marked s p i)) (nothing s)
      (λ _. either (Alone q s) (is_slot_empty s p i) (after e (raised e.0 p i)) (marked s p i)
      (λ _. alone-after q s e (raised e.0 p i) (alone-head s i low (queue_of s.queues p i))
      (alone-raised q p apart e.0 i)) (λ _. alone-marked s i))
      (λ _. alone-nothing q s)

  pub alone-tried_below : (s : State) (n : ℕ) → n ≤ 16 → Alone q s (tried_below s p n)
  unfolding tried_below
  alone-tried_below s zero low = alone-nothing q s
  alone-tried_below s (suc i) low =
      let e : Effect = tried_below s p i in
      alone-after q s e (tried e.0 p i) (alone-tried_below s i (omega arith)) (alone-tried e.0 i (omega arith))

  alone-accepted : (s : State) (i : ℕ) (m : Message) → i < 16 → Alone q s (accepted s p i m)
  alone-accepted s i m low =
      let next : State = record s { next_ticket = s.next_ticket + 1 } in
      alone-one q s (accepted s p i m).0 (Accepted p i (ticket_of m))
      (keeps-then q s next (accepted s p i m).0 (keeps-shared q s s.moment (s.next_ticket + 1) s.pages s.ports)
      (keeps-queue q p apart next i (queue_of s.queues p i ++ m ∷ []) low)) apart

  pub alone-delivered : (s : State) (i : ℕ) (m : Message) → i < 16 → Alone q s (delivered s p i m)
  alone-delivered s i m low =
      let e : Effect = accepted s p i m in
      alone-after q s e (tried e.0 p i) (alone-accepted s i m low) (alone-tried e.0 i low)

  -- posted vectors
  pub alone-absorbed_below : (s : State) (part bits n : ℕ) → Alone q s (absorbed_below s p part bits n)
  unfolding absorbed_below
  alone-absorbed_below s part bits zero = alone-nothing q s
  alone-absorbed_below s part bits (suc i) =
      let e : Effect = absorbed_below s p part bits i in
      alone-after q s e (absorbed_bit e.0 p part bits i) (alone-absorbed_below s part bits i)
      (either (Alone q e.0) (is_posted part bits i) (requested e.0 p (64 * part + i)) (nothing e.0)
      (λ _. alone-requested q p apart e.0 (64 * part + i)) (λ _. alone-nothing q e.0))

  -- consumption
  alone-ticket : (s : State) (i : ℕ) (o : Option ℕ) → i < 16 → Alone q s (consumed_ticket s p i o)
  alone-ticket s i None low = alone-nothing q s
  alone-ticket s i (Some t) low =
      alone-one q s (with_slot_ticket s p i None) (Consumed p i t) (keeps-slot q p apart s i None low) apart

  alone-consumed : (s : State) (i : ℕ) → i < 16 → Alone q s (consumed s p i)
  unfolding consumed
  alone-consumed s i low =
      either (Alone q s) (is_slot_empty s p i) (consumed_ticket s p i (slot_of s p i)) (nothing s)
      (λ _. alone-ticket s i (slot_of s p i) low) (λ _. alone-nothing q s)

  pub alone-consumed_below : (s : State) (n : ℕ) → n ≤ 16 → Alone q s (consumed_below s p n)
  unfolding consumed_below
  alone-consumed_below s zero low = alone-nothing q s
  alone-consumed_below s (suc i) low =
      let e : Effect = consumed_below s p i in
      alone-after q s e (consumed e.0 p i) (alone-consumed_below s i (omega arith)) (alone-consumed e.0 i (omega arith))

  -- withdrawal
  withdrawals-other : (i : ℕ) (ts : List ℕ) → Others (map (λ t. Withdrawn p i t) ts)
  withdrawals-other i [] = none
  withdrawals-other i (t ∷ ts) = more (Withdrawn p i t) _ apart (withdrawals-other i ts)

  pub alone-withdrawn : (s : State) (i port : ℕ) → i < 16 → Alone q s (withdrawn s p i port)
  alone-withdrawn s i port low = (
    keeps-queue q p apart s i (left_of port (queue_of s.queues p i)) low,
    withdrawals-other i (withdrawn_of port (queue_of s.queues p i)),
  )

  alone-slot_emptied : (s : State) (i : ℕ) → i < 16 → Alone q s (slot_emptied s p i)
  alone-slot_emptied s i low =
      elim (slot_of s p i) as (λ o. Alone q s (option_map_or (withdrawn_ticket s p i) o (nothing s))) [
        | None ↦ alone-nothing q s
        | Some t ↦ alone-one q s (with_slot_ticket s p i None) (Withdrawn p i t)
            (keeps-slot q p apart s i None low) apart
      ]

  alone-queue_emptied : (s : State) (i : ℕ) → i < 16 → Alone q s (queue_emptied s p i)
  alone-queue_emptied s i low =
      (keeps-queue q p apart s i [] low, withdrawals-other i (map ticket_of (queue_of s.queues p i)))

  pub alone-emptied_below : (s : State) (n : ℕ) → n ≤ 16 → Alone q s (emptied_below s p n)
  unfolding emptied_below
  alone-emptied_below s zero low = alone-nothing q s
  alone-emptied_below s (suc i) low =
      let e : Effect = emptied_below s p i in
      let f : Effect = slot_emptied e.0 p i in
      alone-after q s e (source_emptied e.0 p i) (alone-emptied_below s i (omega arith))
      (alone-after q e.0 f (queue_emptied f.0 p i) (alone-slot_emptied e.0 i (omega arith))
      (alone-queue_emptied f.0 i (omega arith)))

  pub keeps-cleared : (s : State) → Keeps q s (cleared s p)
  keeps-cleared s =
      let a : State = with_apic s p empty_apic in
      let b : State = with_regs a p reset_regs in
      let c : State = record b { own = set b.own (overlay_of p kind.Sim) zero_page } in
      let d : State = record c { own = set c.own (overlay_of p kind.Sief) zero_page } in
      let e : State = with_bank d (with_timer (bank_of d) (p, 0) idle_timer) in
      let f : State = with_bank e (with_timer (bank_of e) (p, 1) idle_timer) in
      let g : State = with_bank f (with_timer (bank_of f) (p, 2) idle_timer) in
      let h : State = with_bank g (with_timer (bank_of g) (p, 3) idle_timer) in
      let now : State = cleared s p in
      keeps-then q s a now (keeps-apic q p apart s empty_apic)
      (keeps-then q a b now (keeps-regs q p apart a reset_regs)
      (keeps-then q b c now (keeps-own q p apart b kind.Sim zero_page)
      (keeps-then q c d now (keeps-own q p apart c kind.Sief zero_page)
      (keeps-then q d e now (keeps-timer q p apart d 0 idle_timer (omega arith))
      (keeps-then q e f now (keeps-timer q p apart e 1 idle_timer (omega arith))
      (keeps-then q f g now (keeps-timer q p apart f 2 idle_timer (omega arith))
      (keeps-then q g h now (keeps-timer q p apart g 3 idle_timer (omega arith))
      (keeps-mark q p apart h false))))))))

  -- timers
  expiries-other : (n : ℕ) (signal : Option ℕ) (skipped : ℕ) → Others (expiry_notices (p, n) signal skipped)
  expiries-other n signal skipped =
      All-append (λ notice. processor_of notice ≢ q) (expired_notices (p, n) signal) (skipped_notices (p, n) skipped)
      (elim signal as (λ o. Others (option_map_or (λ d. Expired p n d ∷ []) o [])) [
        | None ↦ none
        | Some d ↦ more (Expired p n d) [] apart none
      ])
      (either Others (skipped == 0) [] (Skipped p n skipped ∷ []) (λ _. none)
      (λ _. more (Skipped p n skipped) [] apart none))

  alone-delivery : (s : State) (n : ℕ) (mode : Mode) (d : ℕ) → Names mode → Alone q s (delivery_by s (p, n) mode d)
  alone-delivery s n (Direct v) d has = alone-requested q p apart s v
  alone-delivery s n (Posted i) d has = alone-delivered s i (FromTimer s.next_ticket (p, n) d) has

  alone-signalled : (s : State) (n : ℕ) (mode : Mode) (signal : Option ℕ) → Names mode
      → Alone q s (signalled_by s (p, n) mode signal)
  alone-signalled s n mode None has = alone-nothing q s
  alone-signalled s n mode (Some d) has = alone-delivery s n mode d has

  alone-fired : (s : State) (n : ℕ) (mode : Mode) → n < 4 → Names mode → Alone q s (fired s (p, n) mode)
  alone-fired s n mode low has =
      let t : ℕ × ℕ = (p, n) in
      let now : State = expired_state s t in
      let notices : List Notice = expiry_notices t (expiry_at s t).signal (expiry_at s t).skipped in
      alone-after q s (now, notices) (signalled_by now t mode (expiry_at s t).signal) (
        keeps-timer q p apart s n (after_expiry (timer_in (bank_of s) t) s.moment).0 low,
        expiries-other n (expiry_at s t).signal (expiry_at s t).skipped,
      )
      (alone-signalled now n mode (expiry_at s t).signal has)

  pub alone-attempted : (s : State) (n : ℕ) → n < 4 → Alone q s (attempted s (p, n))
  unfolding attempted
  alone-attempted s n low =
      either (Alone q s) (is_ready s (p, n)) (fired s (p, n) (mode_at s (p, n))) (nothing s)
      (λ _. alone-fired s n (mode_at s (p, n)) low (mode-names (timer_in (bank_of s) (p, n)).config))
      (λ _. alone-nothing q s)
