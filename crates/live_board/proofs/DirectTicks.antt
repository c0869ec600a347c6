-- A tick leaves the message page of a processor whose due timers are all in direct mode.
use Rattle.std.proofs.Common.{◌≡◌, ◌≢◌, ◌⊎◌, inl, inr, ℕ, suc, ◌*◌, ◌<◌, Bool, true, false, nat_lt, List, [], ◌∷◌, ◌++◌, length, map, get_or, Option, None, Some, refl, sym, ap, ◌∙◌, subst, arith, zero}
use Rattle.std.specs.Prelude.{◌==◌, if◌then◌else◌}
use Rattle.std.specs.Option.{option_map_or}
use Rattle.std.proofs.lemmas.Bool.{cases_eq}
use Rattle.std.proofs.lemmas.List.{get_or-set_other}
use Rattle.std.proofs.Math.ListN.{get_or-map}
use Rattle.std.proofs.Math.Seq.{map-set_same}
use Rattle.board_terms.specs.Dues.{number_of}
use Rattle.board_terms.specs.Sources.{source_number}
use Rattle.board_terms.specs.declared.messages.Message.{Message}
use Rattle.board_terms.specs.declared.messages.Message.TheVariants.{FromTimer}
use Rattle.board_terms.specs.declared.notices.Notice.{Notice}
use Rattle.message_queues.specs.Queues.{queue_of}
use Rattle.stimer_bank.specs.declared.timer.Timer.{Timer}
use Rattle.stimer_bank.specs.declared.timer.Mode.{Mode}
use Rattle.stimer_bank.specs.declared.timer.Mode.TheVariants.{Direct, Posted}
use Rattle.stimer_bank.specs.Timer.{is_direct, is_due, is_periodic, disabled, after_expiry}
use Rattle.stimer_bank.specs.Bank.{timer_in, idle_timer, dues, due_list}
use Rattle.stimer_bank.specs.DueList.{Each}
use Rattle.stimer_bank.proofs.Members.{listed-index, listed-low, listed-due}
use Rattle.stimer_bank.proofs.Shown.{due-reached, length-dues}
use Rattle.synic_regs.specs.Regs.{raised_by}
use Rattle.synic_board.specs.declared.event.Event.{Event}
use Rattle.synic_board.specs.declared.event.Event.TheVariants.{Tick}
use Rattle.synic_board.specs.declared.event.Reply.{Reply}
use Rattle.synic_board.specs.State.{State, processors, bank_of, regs_of}
use Rattle.synic_board.specs.Effects.{Effect, Outcome, nothing, after}
use Rattle.synic_board.specs.Interrupts.{requested, raised}
use Rattle.synic_board.specs.Delivery.{is_slot_empty, placed_head, tried, accepted}
use Rattle.synic_board.specs.Sound.{IsSound, HasShape}
use Rattle.synic_board.specs.Step.{step}
use Rattle.synic_board.specs.Timers.{mode_at, is_ready, signalled_by, expired_state, expiry_at, attempted, attempted_until, most_expiries, at_moment, ticked}
use Rattle.synic_board.proofs.keeping.Changes.{kept-moment}
use Rattle.synic_board.proofs.keeping.Clocks.{Names, mode-names, keeps-attempted}
use Rattle.synic_board.proofs.keeping.Requests.{either}
use Rattle.synic_board.proofs.keeping.Wholes.{IsIntact, kept_from_sound}
use Rattle.live_board.specs.Live.{is_waiting, AreDueDirect}
use Rattle.live_board.specs.inside.Parts.{AreDirectAt}
use Rattle.live_board.proofs.Direct.{own-attempted, queues-attempted, direct-disabled}
use Rattle.live_board.proofs.Fired.{queue-tried}
use Rattle.live_board.proofs.Grown.{grows-attempted}

-- an attempt to deliver changes no timer
timers-requested : (s : State) (p v : ℕ) → (requested s p v).0.timers ≡ s.timers
timers-requested s p v = either (λ (e : Effect). e.0.timers ≡ s.timers) _ _ _ (λ _. refl) (λ _. refl)

timers-raised : (s : State) (p i : ℕ) → (raised s p i).0.timers ≡ s.timers
timers-raised s p i =
    elim (raised_by (regs_of s p) i) as
    (λ o. (option_map_or (requested s p) o (nothing s)).0.timers ≡ s.timers) [
      | None ↦ refl
      | Some v ↦
          timers-requested s p v
    ]

timers-tried : (s : State) (p i : ℕ) → (tried s p i).0.timers ≡ s.timers
unfolding tried
timers-tried s p i =
    either (λ (e : Effect). e.0.timers ≡ s.timers) (is_waiting s p i) _ _
    (λ _. either (λ (e : Effect). e.0.timers ≡ s.timers) (is_slot_empty s p i) _ _ (λ _. head (queue_of s.queues p i))
    (λ _. refl))
    (λ _. refl)
  where
    head : (q : List Message) → (after (placed_head s p i q) (raised (placed_head s p i q).0 p i)).0.timers ≡ s.timers
    head [] = timers-raised s p i
    head (m ∷ rest) = timers-raised (placed_head s p i (m ∷ rest)).0 p i

timers-signalled : (s : State) (t : ℕ × ℕ) (mode : Mode) (o : Option ℕ) → (signalled_by s t mode o).0.timers ≡ s.timers
timers-signalled s t mode None = refl
timers-signalled s t (Direct v) (Some d) = timers-requested s t.0 v
timers-signalled s t (Posted i) (Some d) = timers-tried (accepted s t.0 i (FromTimer s.next_ticket t d)).0 t.0 i

-- an attempt of a timer changes the mode of none
in_direct_mode : Timer → Bool
in_direct_mode x = is_direct x.config

modes : State → List Bool
modes s = map in_direct_mode s.timers

mode-here : (s : State) (t : ℕ × ℕ) → get_or (modes s) (number_of t) false ≡ is_direct (timer_in (bank_of s) t).config
unfolding modes in_direct_mode
mode-here s t = get_or-map in_direct_mode s.timers (number_of t) idle_timer

mode-expired : (x : Timer) (moment : ℕ) → is_direct (after_expiry x moment).0.config ≡ is_direct x.config
mode-expired x moment =
    elim (is_periodic x.config) as
    (λ b. is_direct (if b then x.config else disabled x.config) ≡ is_direct x.config) [
      | true ↦ refl
      | false ↦
          direct-disabled x.config
    ]

modes-attempted : (s : State) (t : ℕ × ℕ) → modes (attempted s t).0 ≡ modes s
unfolding attempted modes in_direct_mode
modes-attempted s t =
    let x : Timer = timer_in (bank_of s) t in
    either (λ (e : Effect). modes e.0 ≡ modes s) (is_ready s t) _ _
    (λ _. ap (map in_direct_mode) (timers-signalled (expired_state s t) t (mode_at s t) (expiry_at s t).signal)
    ∙ map-set_same in_direct_mode s.timers (number_of t) (after_expiry x s.moment).0 idle_timer
    (mode-expired x s.moment))
    (λ _. refl)

-- if a timer is of the processor, it is in direct mode
abbrev DirectIf : List Bool → ℕ → ℕ × ℕ → Type 0
DirectIf ms p t = t.0 ≡ p → get_or ms (number_of t) false ≡ true

own-all : (n few : ℕ) (s : State) (p : ℕ) (ts : List (ℕ × ℕ)) → IsIntact n s → Each (DirectIf (modes s) p) ts
    → get_or (attempted_until few s ts).0.own (2 * p) [] ≡ get_or s.own (2 * p) []
unfolding attempted_until
own-all n zero s p ts h each = refl
own-all n (suc few) s p [] h each = refl
own-all n (suc few) s p (t ∷ ts) h each =
    let now : State = (attempted s t).0 in
    own-all n (if is_ready s t then few else suc few) now p ts (keeps-attempted n s t h).kept
    (subst (λ ms. Each (DirectIf ms p) ts) (sym (modes-attempted s t)) each.1) ∙ one (cases_eq t.0 p)
  where
    one : (t.0 ≡ p) ⊎ (t.0 ≢ p) → get_or (attempted s t).0.own (2 * p) [] ≡ get_or s.own (2 * p) []
    one (inl same) = ap (λ l. get_or l (2 * p) []) (own-attempted s t (sym (mode-here s t) ∙ each.0 same))
    one (inr ne) = (grows-attempted n s t h).others (2 * p) (λ e. ne (omega (arith, e)))

-- nor a queue of the processor
queue-apart : (s : State) (t : ℕ × ℕ) (p i : ℕ) → i < 16 → t.0 ≢ p
    → queue_of (attempted s t).0.queues p i ≡ queue_of s.queues p i
unfolding attempted
queue-apart s t p i under ne =
    either (λ (e : Effect). queue_of e.0.queues p i ≡ queue_of s.queues p i) (is_ready s t) _ _
    (λ _. by (mode_at s t) (mode-names (timer_in (bank_of s) t).config) (expiry_at s t).signal) (λ _. refl)
  where
    by : (m : Mode) → Names m → (o : Option ℕ)
        → queue_of (signalled_by (expired_state s t) t m o).0.queues p i ≡ queue_of s.queues p i
    by m names None = refl
    by (Direct v) names (Some d) =
        either (λ (e : Effect). queue_of e.0.queues p i ≡ queue_of s.queues p i) _ _ _ (λ _. refl) (λ _. refl)
    by (Posted j) names (Some d) =
        let other : source_number p i ≢ source_number t.0 j = λ e. ne (omega (arith, e, under, names)) in
        let m : Message = FromTimer s.next_ticket t d in
        queue-tried (accepted (expired_state s t) t.0 j m).0 t.0 j (source_number p i) other
        ∙ get_or-set_other s.queues (source_number t.0 j) (source_number p i)
        (queue_of s.queues t.0 j ++ m ∷ []) [] other

queue-all : (few : ℕ) (s : State) (p i : ℕ) (ts : List (ℕ × ℕ)) → i < 16 → Each (DirectIf (modes s) p) ts
    → queue_of (attempted_until few s ts).0.queues p i ≡ queue_of s.queues p i
unfolding attempted_until
queue-all zero s p i ts under each = refl
queue-all (suc few) s p i [] under each = refl
queue-all (suc few) s p i (t ∷ ts) under each =
    let now : State = (attempted s t).0 in
    queue-all (if is_ready s t then few else suc few) now p i ts under
    (subst (λ ms. Each (DirectIf ms p) ts) (sym (modes-attempted s t)) each.1) ∙ one (cases_eq t.0 p)
  where
    one : (t.0 ≡ p) ⊎ (t.0 ≢ p) → queue_of (attempted s t).0.queues p i ≡ queue_of s.queues p i
    one (inl same) = ap (λ l. queue_of l p i) (queues-attempted s t (sym (mode-here s t) ∙ each.0 same))
    one (inr ne) = queue-apart s t p i under ne

-- attempts of timers in direct mode alone change no own page
all-still : (few : ℕ) (s : State) (ts : List (ℕ × ℕ))
    → Each (λ t. get_or (modes s) (number_of t) false ≡ true) ts → (attempted_until few s ts).0.own ≡ s.own
unfolding attempted_until
all-still zero s ts each = refl
all-still (suc few) s [] each = refl
all-still (suc few) s (t ∷ ts) each =
    let now : State = (attempted s t).0 in
    all-still (if is_ready s t then few else suc few) now ts
    (subst (λ ms. Each (λ t. get_or ms (number_of t) false ≡ true) ts) (sym (modes-attempted s t)) each.1)
    ∙ own-attempted s t (sym (mode-here s t) ∙ each.0)

each-from : (P : ℕ × ℕ → Type 0) (ts : List (ℕ × ℕ)) → ((k : ℕ) → k < length ts → P (get_or ts k (0, 0))) → Each P ts
each-from P [] h = tt
each-from P (t ∷ ts) h = (h 0 (omega arith), each-from P ts (λ k low. h (suc k) (omega (arith, low))))

-- the listed timers of a processor
listed-direct : (s : State) (p moment : ℕ) → AreDueDirect s p moment
    → Each (DirectIf (modes s) p) (due_list (dues (bank_of s)) moment)
unfolding modes
listed-direct s p moment direct = each-from (DirectIf (modes s) p) ts listed
  where
    ts : List (ℕ × ℕ)
    ts = due_list (dues (bank_of s)) moment

    listed : (k : ℕ) → k < length ts → DirectIf (modes s) p (get_or ts k (0, 0))
    listed k low same =
        let t : ℕ × ℕ = get_or ts k (0, 0) in
        let due : is_due (timer_in (bank_of s) (p, t.1)) moment ≡ true =
        ap (λ q. is_due (timer_in (bank_of s) (q, t.1)) moment) (sym same)
        ∙ due-reached (bank_of s) t moment (listed-due (bank_of s) moment k low) in
        mode-here s t ∙ ap (λ q. is_direct (timer_in (bank_of s) (q, t.1)).config) same
        ∙ direct t.1 (listed-index (dues (bank_of s)) moment k low) due

-- a tick is nothing, or the attempts of the due timers
ticked-by : (P : State → Type 0) (s : State) (moment : ℕ) → P s
    → P (attempted_until most_expiries (at_moment s moment) (due_list (dues (bank_of s)) moment)).0
    → P (ticked s moment).0
ticked-by P s moment same tried =
    either (λ (o : Outcome). P o.0) (nat_lt moment s.moment) _ _ (λ _. same)
    (λ _. either (λ (o : Outcome). P o.0) (moment == s.moment) _ _ (λ _. same) (λ _. tried))

pub own-tick : (s now : State) (p : ℕ) (event : Event) (reply : Reply) (notices : List Notice) → AreDirectAt s p event
    → IsSound s → (now, reply, notices) ≡ step s event → get_or now.own (2 * p) [] ≡ get_or s.own (2 * p) []
unfolding step modes
own-tick s now p (Tick moment) reply notices direct sound is =
    ap (λ (o : Outcome). get_or o.0.own (2 * p) []) is
    ∙ ticked-by (λ (t : State). get_or t.own (2 * p) [] ≡ get_or s.own (2 * p) []) s moment refl
    (own-all (processors s) most_expiries (at_moment s moment) p (due_list (dues (bank_of s)) moment)
    (kept-moment (processors s) s moment (kept_from_sound s sound)) (listed-direct s p moment direct))
own-tick s now p event reply notices other sound is = absurd other

pub queue-tick : (s : State) (p i moment : ℕ) → i < 16 → AreDueDirect s p moment
    → queue_of (step s (Tick moment)).0.queues p i ≡ queue_of s.queues p i
unfolding step modes
queue-tick s p i moment under direct =
    ticked-by (λ (t : State). queue_of t.queues p i ≡ queue_of s.queues p i) s moment refl
    (queue-all most_expiries (at_moment s moment) p i (due_list (dues (bank_of s)) moment) under
    (listed-direct s p moment direct))

-- if the due timers of all processors are in direct mode, a tick changes no own page
pub all-tick : (s now : State) (moment : ℕ) (reply : Reply) (notices : List Notice)
    → ((p : ℕ) → p < processors s → AreDueDirect s p moment) → HasShape s
    → (now, reply, notices) ≡ step s (Tick moment) → now.own ≡ s.own
unfolding step modes
all-tick s now moment reply notices direct shape is =
    ap (λ (o : Outcome). o.0.own) is
    ∙ ticked-by (λ (t : State). t.own ≡ s.own) s moment refl
    (all-still most_expiries (at_moment s moment) ts
    (each-from (λ t. get_or (modes s) (number_of t) false ≡ true) ts listed))
  where
    ts : List (ℕ × ℕ)
    ts = due_list (dues (bank_of s)) moment

    listed : (k : ℕ) → k < length ts → get_or (modes s) (number_of (get_or ts k (0, 0))) false ≡ true
    listed k low =
        let t : ℕ × ℕ = get_or ts k (0, 0) in
        let index = listed-index (dues (bank_of s)) moment k low in
        let under = listed-low (dues (bank_of s)) moment k low in
        let on : t.0 < processors s = omega (arith, index, under, length-dues (bank_of s), shape.timers) in
        mode-here s t ∙ direct t.0 on t.1 index
        (due-reached (bank_of s) t moment (listed-due (bank_of s) moment k low))

-- whether timers are in direct mode depends on neither own pages nor tickets of slots
pub rest-due : (s now : State) (p : ℕ) (event : Event) → now ≡ record s { own = now.own; slots = now.slots }
    → AreDirectAt s p event → AreDirectAt now p event
rest-due s now p (Tick moment) rest direct = subst (λ (t : State). AreDueDirect t p moment) (sym rest) direct
rest-due s now p event rest other = absurd other

pub rest-back : (s now : State) → now ≡ record s { own = now.own; slots = now.slots }
    → s ≡ record now { own = s.own; slots = s.slots }
rest-back s now rest = sym (ap (λ (t : State). record t { own = s.own; slots = s.slots }) rest)
