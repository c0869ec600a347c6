-- States that agree in what processor q has, and in the next ticket: messages that q gets, and its timers.
use Rattle.std.proofs.Common.{◌≡◌, ◌≢◌, ℕ, zero, suc, ◌+◌, ◌*◌, ◌/◌, ◌%◌, ◌<◌, ◌==◌, ◌&&◌, Bool, true, false, not, nat_lt, List, [], ◌∷◌, ◌++◌, length, Option, None, Some, get_or, refl, sym, ap, ◌∙◌, subst, arith}
use Rattle.std.specs.List.{All, sum_by, count_by}
use Rattle.std.specs.Option.{option_map_or}
use Rattle.std.proofs.lemmas.Bool.Decides.{nat_tests}
use Rattle.std.proofs.lemmas.List.Elements.{All-head, All-tail}
use Rattle.std.proofs.lemmas.List.Sums.{sum_by-cons}
use Rattle.board_terms.specs.Messages.{ticket_of}
use Rattle.board_terms.specs.declared.messages.Message.{Message}
use Rattle.board_terms.specs.declared.messages.Message.TheVariants.{FromPort, FromTimer}
use Rattle.board_terms.specs.declared.notices.Notice.TheVariants.{Accepted}
use Rattle.event_ports.specs.declared.ports.Port.{Port}
use Rattle.event_ports.specs.Ports.{port_at}
use Rattle.message_queues.specs.Queues.{queue_of, is_from_port, is_from_timer, is_timer_free}
use Rattle.stimer_bank.specs.declared.timer.Expiry.{Expiry}
use Rattle.stimer_bank.specs.declared.timer.Mode.{Mode}
use Rattle.stimer_bank.specs.declared.timer.Mode.TheVariants.{Direct, Posted}
use Rattle.stimer_bank.specs.declared.timer.Timer.{Timer}
use Rattle.stimer_bank.specs.Timer.{after_expiry, mode_of, is_due}
use Rattle.stimer_bank.specs.Bank.{timer_in, is_suspended, is_due_in}
use Rattle.stimer_bank.proofs.Shown.{due-by_dues}
use Rattle.synic_regs.specs.Regs.{Regs, has, enable}
use Rattle.synic_board.specs.State.{State, regs_of, bank_of, ports_of}
use Rattle.synic_board.specs.Effects.{Effect, nothing}
use Rattle.synic_board.specs.Buffers.{IsHome, HasBuffers}
use Rattle.synic_board.specs.Delivery.{tried, accepted, delivered}
use Rattle.synic_board.specs.Posts.{are_tickets_left}
use Rattle.synic_board.specs.Timers.{mode_at, is_ready_for, is_ready, expiry_notices, delivery_by, signalled_by, expired_state, expiry_at, fired, attempted}
use Rattle.synic_board.proofs.keeping.Clocks.{Names, mode-names}
use Rattle.law_processors.proofs.Agreeing.{Same, Both, twice, both-after, same-queue, same-shared, same-timer, both-requested}
use Rattle.law_processors.proofs.IsolatedEffects.{alone-attempted}
use Rattle.law_processors.proofs.Shared.{Parts, same-tried, same-requested}
use Rattle.law_processors.proofs.AgreeingEffects.{queue-same, both-tried}

-- how many messages of some kind are queued: equal for lists that are equal at each place
sum-alike : {X : Type 0} (f : X → ℕ) (xs ys : List X) (d : X) → length ys ≡ length xs
    → ((m : ℕ) → f (get_or ys m d) ≡ f (get_or xs m d)) → sum_by f ys ≡ sum_by f xs
sum-alike f [] [] d long h = refl
sum-alike f [] (y ∷ ys) d long h = absurd (cc)
sum-alike f (x ∷ xs) [] d long h = absurd (cc)
sum-alike f (x ∷ xs) (y ∷ ys) d long h =
    let rest : sum_by f ys ≡ sum_by f xs = sum-alike f xs ys d (cc) (λ m. h (suc m)) in
    sum_by-cons f y ys ∙ ap (λ n. n + sum_by f ys) (h zero) ∙ ap (λ n. f x + n) rest ∙ sym (sum_by-cons f x xs)

-- as many messages of a kind are queued in both states at each source of another processor
abbrev pub Outside : ℕ → (Message → Bool) → State → State → Type 0
Outside q is s t = (m : ℕ) → m / 16 ≢ q → count_by is (get_or t.queues m []) ≡ count_by is (get_or s.queues m [])

pub used-same : (q : ℕ) (is : Message → Bool) (s t : State) → Same q s t → Outside q is s t
    → sum_by (count_by is) t.queues ≡ sum_by (count_by is) s.queues
used-same q is s t h outside = sum-alike (count_by is) s.queues t.queues [] h.queues.0 (λ m. at m (m / 16 == q) refl)
  where
    at : (m : ℕ) (b : Bool) → (m / 16 == q) ≡ b
        → count_by is (get_or t.queues m []) ≡ count_by is (get_or s.queues m [])
    at m true e =
        let own : m / 16 ≡ q = grind (arith, nat_tests) in ap (count_by is) (h.queues.1 m own)
    at m false e =
        let apart : m / 16 ≢ q = grind (arith, nat_tests) in outside m apart

-- none of a kind is queued there, if none may be
none-of : (is : Message → Bool) (P : Message → Type 0) → ((m : Message) → P m → is m ≡ false)
    → (messages : List Message) → All P messages → count_by is messages ≡ 0
none-of is P never [] all = refl
none-of is P never (m ∷ rest) all =
    let first : is m ≡ false = never m (All-head P m rest all) in
    let others : count_by is rest ≡ 0 = none-of is P never rest (All-tail P m rest all) in
    grind (first, others, arith)

none-outside : (q : ℕ) (is : Message → Bool) (s : State) → HasBuffers s
    → ((p i : ℕ) → p ≢ q → (m : Message) → IsHome s.ports p i m → is m ≡ false) → (m : ℕ) → m / 16 ≢ q
    → count_by is (get_or s.queues m []) ≡ 0
none-outside q is s buffers never m apart =
    let at : 16 * (m / 16) + m % 16 ≡ m = omega arith in
    subst (λ k. count_by is (get_or s.queues k []) ≡ 0) at
    (none-of is (IsHome s.ports (m / 16) (m % 16)) (never (m / 16) (m % 16) apart)
    (queue_of s.queues (m / 16) (m % 16)) (buffers.home (m / 16) (m % 16) (omega arith)))

pub port-outside : (q port : ℕ) (x : Port) (s : State) → HasBuffers s → port_at (ports_of s) port ≡ Some x → x.vp ≡ q
    → (m : ℕ) → m / 16 ≢ q → count_by (is_from_port port) (get_or s.queues m []) ≡ 0
port-outside q port x s buffers is own = none-outside q (is_from_port port) s buffers never
  where
    target : Option Port → ℕ
    target o = option_map_or (λ (p : Port). p.vp) o 0

    never : (p i : ℕ) → p ≢ q → (m : Message) → IsHome s.ports p i m → is_from_port port m ≡ false
    never p i apart (FromTimer ticket t expiration) home = refl
    never p i apart (FromPort ticket n kind payload) home = by (n == port) refl
      where
        by : (b : Bool) → (n == port) ≡ b → (n == port) ≡ false
        by false e = e
        by true e =
            let at : n ≡ port = grind (arith, nat_tests) in
            let there : p ≡ x.vp =
            sym (ap target home.1.1) ∙ ap (λ k. target (get_or s.ports k None)) at ∙ ap target is in
            absurd (apart (there ∙ own))

timer-outside : (q n : ℕ) (s : State) → HasBuffers s → (m : ℕ) → m / 16 ≢ q
    → count_by (is_from_timer (q, n)) (get_or s.queues m []) ≡ 0
timer-outside q n s buffers = none-outside q (is_from_timer (q, n)) s buffers never
  where
    never : (p i : ℕ) → p ≢ q → (m : Message) → IsHome s.ports p i m → is_from_timer (q, n) m ≡ false
    never p i apart (FromPort ticket port kind payload) home = refl
    never p i apart (FromTimer ticket t expiration) home =
        let of : t.0 ≡ p = home.0 in
        let other : (t.0 == q) ≡ false = grind (of, arith, nat_tests) in ap (λ b. b && (t.1 == n)) other

pub timers-outside : (q : ℕ) (s t : State) → HasBuffers s → HasBuffers t → (n : ℕ)
    → Outside q (is_from_timer (q, n)) s t
timers-outside q s t a b n m apart = timer-outside q n t b m apart ∙ sym (timer-outside q n s a m apart)

module _ (q : ℕ) (s t : State) (h : Same q s t) (tickets : t.next_ticket ≡ s.next_ticket) where
  -- a message that q gets
  pub both-delivered : (i : ℕ) → i < 16 → (a b : Message) → b ≡ a → Both q (delivered s q i a) (delivered t q i b)
  both-delivered i low a b is =
      let e : Effect = accepted s q i a in
      let f : Effect = accepted t q i b in
      let here : List Message = queue_of s.queues q i ++ a ∷ [] in
      let there : List Message = queue_of t.queues q i ++ b ∷ [] in
      let queued =
      same-queue q s t h i here there
      (ap (λ (ms : List Message). ms ++ b ∷ []) (queue-same q s t h i low)
      ∙ ap (λ (m : Message). queue_of s.queues q i ++ m ∷ []) is) in
      let both : Both q e f = (
        same-shared q (record e.0 { next_ticket = s.next_ticket }) (record f.0 { next_ticket = t.next_ticket }) queued
            (s.next_ticket + 1) (t.next_ticket + 1) s.ports t.ports s.pages t.pages,
        ap (λ (m : Message). Accepted q i (ticket_of m) ∷ []) is,
      ) in
      both-after q e (tried e.0 q i) f (tried f.0 q i) both (both-tried q e.0 f.0 both.0 i low)

  both-delivery : (n : ℕ) (mode : Mode) (d : ℕ) → Names mode
      → Both q (delivery_by s (q, n) mode d) (delivery_by t (q, n) mode d)
  both-delivery n (Direct v) d names = both-requested q s t h v
  both-delivery n (Posted i) d names =
      both-delivered i names (FromTimer s.next_ticket (q, n) d) (FromTimer t.next_ticket (q, n) d)
      (ap (λ ticket. FromTimer ticket (q, n) d) tickets)

  both-signalled_by : (n : ℕ) (mode : Mode) (o : Option ℕ) → Names mode
      → Both q (signalled_by s (q, n) mode o) (signalled_by t (q, n) mode o)
  both-signalled_by n mode None names = (h, refl)
  both-signalled_by n mode (Some d) names = both-delivery n mode d names

pub both-signals : (q : ℕ) (s t : State) → Same q s t → t.next_ticket ≡ s.next_ticket → (n : ℕ) (mode : Mode)
    (o : Option ℕ) → Names mode → Both q (signalled_by s (q, n) mode o) (signalled_by t (q, n) mode o)
both-signals q s t h tickets n mode o names = both-signalled_by q s t h tickets n mode o names

module _ (q : ℕ) (s t : State) (h : Same q s t) (tickets : t.next_ticket ≡ s.next_ticket) where
  -- a timer
  timer-same : (n : ℕ) → n < 4 → timer_in (bank_of t) (q, n) ≡ timer_in (bank_of s) (q, n)
  timer-same n low = h.timers.1 (4 * q + n) (omega arith)

  due-same : (n : ℕ) → n < 4 → is_due_in (bank_of t) (q, n) t.moment ≡ is_due_in (bank_of s) (q, n) s.moment
  due-same n low =
      due-by_dues (bank_of t) (q, n) t.moment low
      ∙ ap (λ b. not b && is_due (timer_in (bank_of t) (q, n)) t.moment) (h.marks.1 q refl)
      ∙ ap (λ (x : Timer). not (is_suspended (bank_of s) q) && is_due x t.moment) (timer-same n low)
      ∙ ap (λ m. not (is_suspended (bank_of s) q) && is_due (timer_in (bank_of s) (q, n)) m) h.moment
      ∙ sym (due-by_dues (bank_of s) (q, n) s.moment low)

  ready-for-same : (n : ℕ) → Outside q (is_from_timer (q, n)) s t → (mode : Mode)
      → is_ready_for t (q, n) mode ≡ is_ready_for s (q, n) mode
  ready-for-same n outside (Direct v) = refl
  ready-for-same n outside (Posted i) =
      ap (λ (r : Regs). has r.control enable && is_timer_free t.queues (q, n) && are_tickets_left t) (h.regs.1 q refl)
      ∙ ap (λ used. has (regs_of s q).control enable && (used == 0) && are_tickets_left t)
      (used-same q (is_from_timer (q, n)) s t h outside)
      ∙ ap (λ next. has (regs_of s q).control enable && is_timer_free s.queues (q, n) && nat_lt next 0xffffffffffffffff)
      tickets

  mode-same : (n : ℕ) → n < 4 → mode_at t (q, n) ≡ mode_at s (q, n)
  mode-same n low = ap (λ (x : Timer). mode_of x.config) (timer-same n low)

  pub ready-same : (n : ℕ) → n < 4 → Outside q (is_from_timer (q, n)) s t → is_ready t (q, n) ≡ is_ready s (q, n)
  ready-same n low outside =
      ap (λ b. b && is_ready_for t (q, n) (mode_at t (q, n))) (due-same n low)
      ∙ ap (λ mode. is_due_in (bank_of s) (q, n) s.moment && is_ready_for t (q, n) mode) (mode-same n low)
      ∙ ap (λ b. is_due_in (bank_of s) (q, n) s.moment && b) (ready-for-same n outside (mode_at s (q, n)))

  expiry-same : (n : ℕ) → n < 4
      → after_expiry (timer_in (bank_of t) (q, n)) t.moment ≡ after_expiry (timer_in (bank_of s) (q, n)) s.moment
  expiry-same n low =
      ap (λ (x : Timer). after_expiry x t.moment) (timer-same n low)
      ∙ ap (λ m. after_expiry (timer_in (bank_of s) (q, n)) m) h.moment

  same-expired : (n : ℕ) → n < 4 → Same q (expired_state s (q, n)) (expired_state t (q, n))
  same-expired n low =
      same-timer q s t h n (after_expiry (timer_in (bank_of s) (q, n)) s.moment).0
      (after_expiry (timer_in (bank_of t) (q, n)) t.moment).0 (ap (λ (x : Timer × Expiry). x.0) (expiry-same n low))

  both-fired : (n : ℕ) → n < 4 → Both q (fired s (q, n) (mode_at s (q, n))) (fired t (q, n) (mode_at t (q, n)))
  both-fired n low =
      let x : Expiry = expiry_at s (q, n) in
      let y : Expiry = expiry_at t (q, n) in
      let is : y ≡ x = ap (λ (z : Timer × Expiry). z.1) (expiry-same n low) in
      let here : State = expired_state s (q, n) in
      let there : State = expired_state t (q, n) in
      let mode : Mode = mode_at s (q, n) in
      both-after q (here, expiry_notices (q, n) x.signal x.skipped) (signalled_by here (q, n) mode x.signal)
      (there, expiry_notices (q, n) y.signal y.skipped) (signalled_by there (q, n) (mode_at t (q, n)) y.signal)
      (same-expired n low, ap (λ (z : Expiry). expiry_notices (q, n) z.signal z.skipped) is)
      (subst (λ (z : Expiry). Both q (signalled_by here (q, n) mode x.signal)
      (signalled_by there (q, n) (mode_at t (q, n)) z.signal)) (sym is)
      (subst (λ (m : Mode). Both q (signalled_by here (q, n) mode x.signal) (signalled_by there (q, n) m x.signal))
      (sym (mode-same n low))
      (both-signals q here there (same-expired n low) tickets n mode x.signal
      (mode-names (timer_in (bank_of s) (q, n)).config))))

  pub both-attempted : (n : ℕ) → n < 4 → Outside q (is_from_timer (q, n)) s t
      → Both q (attempted s (q, n)) (attempted t (q, n))
  unfolding attempted
  both-attempted n low outside =
      twice (Both q) (is_ready s (q, n)) (is_ready t (q, n)) (fired s (q, n) (mode_at s (q, n))) (nothing s)
      (fired t (q, n) (mode_at t (q, n))) (nothing t) (ready-same n low outside) (λ _. both-fired n low)
      (λ _. (h, refl))

-- the next ticket after an effect of q
tickets-delivered : (s : State) (p i : ℕ) (m : Message) → (delivered s p i m).0.next_ticket ≡ s.next_ticket + 1
tickets-delivered s p i m = ap (λ (x : Parts). x.1) (same-tried (accepted s p i m).0 p i)

module _ (q : ℕ) (s t : State) (h : Same q s t) (tickets : t.next_ticket ≡ s.next_ticket) where
  abbrev Counts : Effect → Effect → Type 0
  Counts e f = f.0.next_ticket ≡ e.0.next_ticket

  counts-delivery : (a b : State) → b.next_ticket ≡ a.next_ticket → (n : ℕ) (mode : Mode) (d : ℕ)
      → Counts (delivery_by a (q, n) mode d) (delivery_by b (q, n) mode d)
  counts-delivery a b is n (Direct v) d =
      ap (λ (x : Parts). x.1) (same-requested b q v) ∙ is ∙ sym (ap (λ (x : Parts). x.1) (same-requested a q v))
  counts-delivery a b is n (Posted i) d =
      tickets-delivered b q i (FromTimer b.next_ticket (q, n) d) ∙ ap (λ k. k + 1) is
      ∙ sym (tickets-delivered a q i (FromTimer a.next_ticket (q, n) d))

  counts-signalled : (a b : State) → b.next_ticket ≡ a.next_ticket → (n : ℕ) (mode : Mode) (o : Option ℕ)
      → Counts (signalled_by a (q, n) mode o) (signalled_by b (q, n) mode o)
  counts-signalled a b is n mode None = is
  counts-signalled a b is n mode (Some d) = counts-delivery a b is n mode d

  pub counts-attempted : (n : ℕ) → n < 4 → Outside q (is_from_timer (q, n)) s t
      → Counts (attempted s (q, n)) (attempted t (q, n))
  unfolding attempted
  counts-attempted n low outside =
      let here : State = expired_state s (q, n) in
      let there : State = expired_state t (q, n) in
      let is : expiry_at t (q, n) ≡ expiry_at s (q, n) =
      ap (λ (z : Timer × Expiry). z.1) (expiry-same q s t h tickets n low) in
      twice Counts (is_ready s (q, n)) (is_ready t (q, n)) (fired s (q, n) (mode_at s (q, n))) (nothing s)
      (fired t (q, n) (mode_at t (q, n))) (nothing t) (ready-same q s t h tickets n low outside)
      (λ _. subst (λ (z : Expiry). Counts (fired s (q, n) (mode_at s (q, n)))
      (signalled_by there (q, n) (mode_at t (q, n)) z.signal)) (sym is)
      (subst (λ (m : Mode). Counts (fired s (q, n) (mode_at s (q, n)))
      (signalled_by there (q, n) m (expiry_at s (q, n)).signal)) (sym (mode-same q s t h tickets n low))
      (counts-signalled here there tickets n (mode_at s (q, n)) (expiry_at s (q, n)).signal)))
      (λ _. tickets)

  -- the queues of other processors
  stays : (x : State) (m n : ℕ) → m / 16 ≢ q → n < 4 → get_or (attempted x (q, n)).0.queues m [] ≡ get_or x.queues m []
  stays x m n apart low =
      let at : 16 * (m / 16) + m % 16 ≡ m = omega arith in
      subst (λ k. get_or (attempted x (q, n)).0.queues k [] ≡ get_or x.queues k []) at
      ((alone-attempted (m / 16) q (λ e. apart (sym e)) x n low).0.queues (m % 16) (omega arith))

  pub outside-attempted : (is : Message → Bool) (n : ℕ) → n < 4 → Outside q is s t
      → Outside q is (attempted s (q, n)).0 (attempted t (q, n)).0
  outside-attempted is n low outside m apart =
      ap (count_by is) (stays t m n apart low) ∙ outside m apart ∙ sym (ap (count_by is) (stays s m n apart low))
