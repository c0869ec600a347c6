-- A message that waits after a write of a timer is in a slot that the host has left marked, unless the processor is
-- owed an EOM.
use Rattle.std.proofs.Common.{◌≡◌, ◌≢◌, ◌⊎◌, inl, inr, ℕ, zero, suc, ◌+◌, ◌*◌, ◌<◌, ◌≤◌, Bool, true, false, nat_lt, List, [], ◌∷◌, ◌++◌, length, get_or, set, Option, None, Some, refl, sym, ap, ◌∙◌, subst, arith, append_assoc, append-nil, length-set}
use Rattle.std.specs.Prelude.{◌==◌, ◌||◌, bit_or, if◌then◌else◌}
use Rattle.std.specs.Int.{bit_at, to_le_bytes, w64}
use Rattle.std.specs.Option.{option_map_or}
use Rattle.std.proofs.lemmas.Bool.{cases_eq, cases_lt}
use Rattle.std.proofs.lemmas.Bool.Decides.{nat_tests}
use Rattle.std.proofs.lemmas.List.{get_or-set_same, get_or-set_other}
use Rattle.std.proofs.lemmas.List.Elements.{All-cons, All-nil}
use Rattle.std.proofs.lemmas.Nat.Bits.{bit_at_set_same}
use Rattle.board_terms.specs.declared.notices.Notice.{Notice}
use Rattle.board_terms.specs.declared.pages.Kind.TheVariants.{Sim}
use Rattle.board_terms.specs.declared.pages.Owner.TheVariants as owner
use Rattle.gpa_space.specs.Page.{overwritten}
use Rattle.message_queues.specs.Queues.{queue_of}
use Rattle.stimer_bank.specs.Bank.{timer_in}
use Rattle.stimer_bank.specs.Timer.{after_config, after_count}
use Rattle.synic_regs.specs.declared.register.Register.{Register}
use Rattle.synic_regs.specs.declared.register.Register.TheVariants.{TimerConfig, TimerCount}
use Rattle.synic_regs.specs.Registers.{register_of, Exists}
use Rattle.synic_regs.proofs.Numbers.{have_their_numbers}
use Rattle.synic_board.specs.declared.event.Event.{Event}
use Rattle.synic_board.specs.declared.event.Event.TheVariants.{Write}
use Rattle.synic_board.specs.declared.event.Event.TheVariants as event
use Rattle.synic_board.specs.declared.event.Reply.{Reply}
use Rattle.synic_board.specs.declared.event.Reply.TheVariants.{GeneralProtection}
use Rattle.synic_board.specs.State.{State, processors, bank_of}
use Rattle.synic_board.specs.Effects.{Outcome, unchanged}
use Rattle.synic_board.specs.Delivery.{is_slot_empty}
use Rattle.synic_board.specs.Ranges.{HasRanges}
use Rattle.synic_board.specs.Registers.{written, written_register}
use Rattle.synic_board.specs.Run.{Run, run_of}
use Rattle.synic_board.specs.Slots.{slot_byte}
use Rattle.synic_board.specs.Sound.{IsSound, HasShape, PayloadFits}
use Rattle.synic_board.specs.Step.{step}
use Rattle.synic_board.proofs.keeping.Slots.{overwritten-other}
use Rattle.synic_board.proofs.keeping.Wholes.{kept_from_sound}
use Rattle.live_pages.specs.Words.{known, header, type_of}
use Rattle.live_pages.specs.declared.access.Access.{Access}
use Rattle.live_pages.specs.declared.access.Access.TheVariants.{Load, FetchOr, Store}
use Rattle.live_pages.specs.Traces.{is_accessed}
use Rattle.live_board.specs.Timers.{is_timer_register, is_timer_write}
use Rattle.live_board.specs.Live.{LiveModel, Shadows, IsTimed, IsShown, AreLooks, AreMarks, finds_empty, number_at, store_of, is_waiting, explained, explained_after, log_of}
use Rattle.live_board.specs.Waking.{IsLeftMarked, LeavesMarkedUnlessOwed}
use Rattle.live_board.proofs.Fired.{Goes, goes-written}
use Rattle.live_board.proofs.Grown.{Grows, Only}
use Rattle.live_board.proofs.Guests.{Rest, looks-of, page-run, guest-stores, late-stores, fits-all, kept-by, rest-after, rest-store}
use Rattle.live_board.proofs.Joined.{run-append, rest-number, rest-shown}
use Rattle.live_board.proofs.Part.{type-marked}
use Rattle.live_board.proofs.Remembered.{Marks, known-other}
use Rattle.live_board.proofs.Seen.{IsSeen}
use Rattle.live_board.proofs.Shown.{with_word, stored-word, still-in}
use Rattle.live_board.proofs.TimedPart.{timer-grows, shown-same}
use Rattle.live_board.proofs.Woken.{accessed-right, marked-known, on-after, same}

-- a mark that found an occupied slot leaves it marked
first-false : (a b : Bool) → (a || b) ≡ false → (a ≡ false) × (b ≡ false)
first-false true b e = absurd (cc)
first-false false b e = (refl, e)

pub marks-known : (marks rest : List Access) (w : ℕ) → AreMarks marks → finds_empty marks ≡ false
    → is_accessed w marks ≡ true → Marks (known (marks ++ rest) w)
marks-known [] rest w are none some = absurd (cc)
marks-known (Load x found ∷ marks) rest w are none some = absurd are
marks-known (Store x value ∷ marks) rest w are none some = absurd are
marks-known (FetchOr x mask found ∷ marks) rest w (i, low, at, is, more) none some =
    let both = first-false (type_of found == 0) (finds_empty marks) none in
    by both.0 (w == x) refl (λ later. marks-known marks rest w more both.1 later)
  where
    by : (type_of found == 0) ≡ false → (b : Bool) → (w == x) ≡ b
        → (is_accessed w marks ≡ true → Marks (known (marks ++ rest) w))
        → Marks (known (FetchOr x mask found ∷ (marks ++ rest)) w)
    by full true e later =
        subst Marks
        (sym (ap (λ (b : Bool). if b then bit_or found mask else known (marks ++ rest) w) e ∙ ap (bit_or found) is))
        (record {
          occupied = λ z.
              (let zero : type_of found ≡ 0 = sym (type-marked found) ∙ z in absurd (grind (arith, nat_tests)));
          pending = ap (λ b. b == 1) (bit_at_set_same w64 found 40 (omega arith));
        })
    by full false e later =
        subst Marks (sym (known-other (FetchOr x mask found) (marks ++ rest) w e))
        (later (sym (ap (λ c. c || is_accessed w marks) e) ∙ some))

-- the header of a slot, after stores of other words
pub record Held (s : State) (p i : ℕ) (now : State) : Type 0 where
  pub rest : Rest s now
  pub bytes : (b : ℕ) → b < 8 → slot_byte now p i b ≡ slot_byte s p i b

pub held-after : (s mid now : State) (p i : ℕ) → Held s p i mid → Held mid p i now → Held s p i now
held-after s mid now p i a b =
    record { rest = rest-after s mid now a.rest b.rest; bytes = λ k low. b.bytes k low ∙ a.bytes k low }

pub held-seen : (s now : State) (p i : ℕ) → Held s p i now → IsSeen s p i → IsSeen now p i
held-seen s now p i h seen = record {
  occupied = (let e : is_slot_empty now p i
      ≡ is_slot_empty s p i =
      rw (h.bytes 0 (omega arith), h.bytes 1 (omega arith), h.bytes 2 (omega arith), h.bytes 3 (omega arith)) refl in
      e) ∙ seen.occupied;
  pending = ap (λ b. bit_at b 0 == 1) (h.bytes 5 (omega arith)) ∙ seen.pending;
}

held-store : (s : State) (p i q x value : ℕ) → IsSound s → q < processors s → IsShown s q Sim → x < 512 → (q ≢ p)
    ⊎ (x ≢ 32 * i) → Held s p i (step s (store_of s q Sim x value)).0
held-store s p i q x value h on shown low apart =
    record {
      rest = rest-store s q Sim x value shown low;
      bytes = λ b small. ap (λ l. get_or (get_or l (2 * p) []) (256 * i + b) 0) own ∙ by b small (cases_eq q p) apart;
    }
  where
    page : List ℕ
    page = get_or s.own (2 * q) []

    more : List ℕ
    more = overwritten page (8 * x) (to_le_bytes w64 value)

    inside : 2 * q < length s.own
    inside = omega (arith, h.whole.own, on)

    long : length page ≡ 4096
    long = h.whole.pages (2 * q) [] inside

    own : (step s (store_of s q Sim x value)).0.own ≡ set s.own (2 * q) more
    own = ap (λ (o : Outcome). o.0.own) (stored-word s q Sim x value shown low)
        ∙ ap (λ (t : State). t.own) (still-in (with_word s (2 * q) x value) (owner.Sim q))

    by : (b : ℕ) → b < 8 → (q ≡ p) ⊎ (q ≢ p) → (q ≢ p) ⊎ (x ≢ 32 * i)
        → get_or (get_or (set s.own (2 * q) more) (2 * p) []) (256 * i + b) 0 ≡ slot_byte s p i b
    by b small (inr ne) which =
        ap (λ l. get_or l (256 * i + b) 0) (get_or-set_other s.own (2 * q) (2 * p) more [] (λ e. ne (omega (arith, e))))
    by b small (inl is) (inl ne) = absurd (ne is)
    by b small (inl is) (inr ne) =
        (λ k. get_or (get_or (set s.own (2 * q) more) (2 * sym is k) []) (256 * i + b) 0)
        ∙ ap (λ l. get_or l (256 * i + b) 0) (get_or-set_same s.own (2 * q) more [] inside)
        ∙ overwritten-other page (to_le_bytes w64 value) (8 * x) (256 * i + b) (omega (arith, long, low))
        (side (cases_lt x (32 * i))) ∙ (λ k. slot_byte s (is k) i b)
      where
        side : (x < 32 * i) ⊎ (32 * i ≤ x) → (256 * i + b < 8 * x) ⊎ (8 * x + 8 ≤ 256 * i + b)
        side (inl less) = inr (omega arith)
        side (inr le) = inl (omega (arith, le, ne, small))

same-numbered : (s mid : State) (q x value : ℕ) → number_at mid q Sim ≡ number_at s q Sim
    → store_of mid q Sim x value ≡ store_of s q Sim x value
same-numbered s mid q x value e = ap (λ n. event.Store (n * 4096 + 8 * x) (record { items = to_le_bytes w64 value })) e

-- marks of a page: a slot that they do not access
pub held-marks : (s t : State) (p i q : ℕ) (marks log : List Access) → IsSound t → q < processors t → IsShown t q Sim
    → number_at t q Sim ≡ number_at s q Sim → AreMarks marks → (q ≢ p) ⊎ (is_accessed (header i) marks ≡ false)
    → Held t p i (run_of t (explained_after s q marks log)).0
unfolding run_of
held-marks s t p i q [] log h on shown number are apart = record { rest = refl; bytes = λ b _. refl }
held-marks s t p i q (Load x found ∷ marks) log h on shown number are apart = absurd are
held-marks s t p i q (Store x value ∷ marks) log h on shown number are apart = absurd are
held-marks s t p i q (FetchOr x mask found ∷ marks) log h on shown number (j, low, at, is, more) apart =
    last (held-marks s t p i q marks log h on shown number more (before apart))
    (bit_or found mask == bit_or (known (marks ++ log) x) mask)
  where
    es : List Event
    es = explained_after s q marks log

    mid : State
    mid = (run_of t es).0

    before : (q ≢ p) ⊎ (is_accessed (header i) (FetchOr x mask found ∷ marks) ≡ false) → (q ≢ p)
        ⊎ (is_accessed (header i) marks ≡ false)
    before (inl ne) = inl ne
    before (inr none) = inr (first-false (header i == x) (is_accessed (header i) marks) none).1

    other : (q ≢ p) ⊎ (is_accessed (header i) (FetchOr x mask found ∷ marks) ≡ false) → (q ≢ p) ⊎ (x ≢ 32 * i)
    other (inl ne) = inl ne
    other (inr none) =
        inr (λ e. let no = (first-false (header i == x) (is_accessed (header i) marks) none).0 in
        absurd (grind (arith, nat_tests)))

    last : Held t p i mid → (b : Bool)
        → Held t p i (run_of t (es ++ (if b then [] else store_of s q Sim x (bit_or found mask) ∷ []))).0
    last held true = subst (λ l. Held t p i (run_of t l).0) (sym (append-nil es)) held
    last held false =
        let sound = (kept-by t mid es (run_of t es).1 (run_of t es).2
        (fits-all s q Sim es (late-stores s q marks log)) h refl).0 in
        let there : q < processors mid = subst (λ n. q < n) (sym (ap processors held.rest)) on in
        let seen = rest-shown t mid q Sim held.rest shown in
        let event : store_of mid q Sim x (bit_or found mask) ≡ store_of s q Sim x (bit_or found mask) =
        same-numbered s mid q x (bit_or found mask) (rest-number t mid q Sim held.rest ∙ number) in
        let one = held-store mid p i q x (bit_or found mask) sound there seen (omega (arith, low, at)) (other apart) in
        subst (λ (r : Run). Held t p i r.0) (sym (run-append t es (store_of s q Sim x (bit_or found mask) ∷ [])))
        (held-after t mid (step mid (store_of s q Sim x (bit_or found mask))).0 p i held
        (subst (λ e. Held mid p i (step mid e).0) event one))

-- a look at each slot
looks-access : (n i : ℕ) (looks : List Access) → i < n → AreLooks n looks → is_accessed (header i) looks ≡ true
looks-access zero i looks low are = absurd (omega (arith, low))
looks-access (suc n) i looks low (found, rest, is, more) =
    ap (is_accessed (header i)) is ∙ by (λ less. looks-access n i rest less more) (cases_eq i n)
  where
    by : (i < n → is_accessed (header i) rest ≡ true) → (i ≡ n) ⊎ (i ≢ n)
        → is_accessed (header i) (Load (32 * n) found ∷ rest) ≡ true
    by later (inl e) = (λ k. is_accessed (header i) (Load (32 * sym e k) found ∷ rest)) ∙ rw (same (header i)) refl
    by later (inr ne) = accessed-right (header i) (Load (32 * n) found ∷ []) rest (later (omega (arith, low, ne)))

-- a write of a timer
goes-register : (s : State) (p : ℕ) (r : Register) (value i : ℕ) → is_timer_register r ≡ true → Exists r
    → p < processors s → i < 16 → IsSound s → Goes s p i (written_register s p r value).0
goes-register s p (TimerConfig k) value i timer exists on under sound =
    goes-written (processors s) s (p, k) (after_config (timer_in (bank_of s) (p, k)) value s.moment) p i
    (kept_from_sound s sound) under
goes-register s p (TimerCount k) value i timer exists on under sound =
    goes-written (processors s) s (p, k) (after_count (timer_in (bank_of s) (p, k)) value s.moment) p i
    (kept_from_sound s sound) under
goes-register s p r value i timer exists on under sound = absurd (cc)

timer-goes : (s : State) (p number value i : ℕ) → p < processors s
    → option_map_or is_timer_register (register_of number) false ≡ true → i < 16 → IsSound s
    → Goes s p i (step s (Write p number value)).0
unfolding step
timer-goes s p number value i on timer under sound = subst (Goes s p i) (sym state) (by (register_of number) refl timer)
  where
    there : nat_lt p (processors s) ≡ true
    there = grind (arith, nat_tests)

    state : (step s (Write p number value)).0 ≡ (written s p number value).0
    state = rw there refl

    by : (o : Option Register) → register_of number ≡ o → option_map_or is_timer_register o false ≡ true
        → Goes s p i (option_map_or (λ r. written_register s p r value) o (unchanged s GeneralProtection)).0
    by None e t = absurd (cc)
    by (Some r) e t = goes-register s p r value i t ((have_their_numbers number r).0 e).0 on under sound

-- the states of a write of a timer: after the looks, after the event, and after the marks
record AreSteps (s : State) (p : ℕ) (event : Event) (looks log marks rest : List Access) (now : State) : Type 0 where
  pub mid : State
  pub end : State
  pub seen : Rest s mid
  pub sound : IsSound mid
  pub is : end ≡ (step mid event).0
  pub state : now ≡ (run_of end (explained_after s p marks rest)).0

steps-of : (s now : State) (p : ℕ) (event : Event) (looks log marks rest : List Access) (replies : List Reply)
    (notices : List Notice) → IsSound s → IsShown s p Sim → AreLooks 16 looks
    → run_of s (explained s p Sim looks log ++ event ∷ explained_after s p marks rest) ≡ (now, replies, notices)
    → AreSteps s p event looks log marks rest now
unfolding run_of
steps-of s now p event looks log marks rest replies notices h shown are run = record {
  mid = (run_of s es).0;
  end = (step (run_of s es).0 event).0;
  seen = page-run s p Sim looks log shown (looks-of 16 looks (omega arith) are);
  sound = (kept-by s (run_of s es).0 es (run_of s es).1 (run_of s es).2
      (fits-all s p Sim es (guest-stores s p Sim looks log)) h refl).0;
  is = refl;
  state = sym (ap (λ (r : Run). r.0) (sym (run-append s es (event ∷ explained_after s p marks rest)) ∙ run));
}
  where
    es : List Event
    es = explained s p Sim looks log

pub after-sound : (mid : State) (event : Event) → PayloadFits event → IsSound mid → IsSound (step mid event).0
unfolding run_of
after-sound mid event fits h =
    (kept-by mid (run_of mid (event ∷ [])).0 (event ∷ []) (run_of mid (event ∷ [])).1 (run_of mid (event ∷ [])).2
    (All-cons PayloadFits event [] fits (All-nil PayloadFits)) h refl).0

-- what is known of a header after looks, stores and marks
pub left-marked : (i : ℕ) (looks stores marks log now : List Access) → now ≡ marks ++ (stores ++ (looks ++ log))
    → i < 16 → AreLooks 16 looks → Marks (known now (header i)) → IsLeftMarked i log now
left-marked i looks stores marks log now is under are word = record {
  news = marks ++ (stores ++ looks);
  page = is ∙ ap (λ l. marks ++ l) (sym (append_assoc stores looks log))
      ∙ sym (append_assoc marks (stores ++ looks) log);
  accessed = accessed-right (header i) marks (stores ++ looks)
      (accessed-right (header i) stores looks (looks-access 16 i looks under are));
  occupied = word.occupied;
  pending = word.pending;
}

-- a source that waits then, with other messages than before
pub seen-after : (s mid end now : State) (p i : ℕ) → Rest s mid → Rest end now → Goes mid p i end
    → queue_of now.queues p i ≢ queue_of s.queues p i → is_waiting now p i ≡ true → IsSeen end p i
seen-after s mid end now p i first last (inl same) other waits =
    absurd
    (other (ap (λ (t : State). queue_of t.queues p i) last ∙ same.0 ∙ ap (λ (t : State). queue_of t.queues p i) first))
seen-after s mid end now p i first last (inr seen) other waits =
    seen (sym (ap (λ (t : State). is_waiting t p i) last) ∙ waits)

-- no mark is beyond the page
pub no-sixteen : (marks : List Access) → AreMarks marks → is_accessed (header 16) marks ≡ false
no-sixteen [] are = refl
no-sixteen (Load x found ∷ marks) are = absurd are
no-sixteen (Store x value ∷ marks) are = absurd are
no-sixteen (FetchOr x mask found ∷ marks) (j, low, at, is, more) =
    let apart : (512 == x) ≡ false = grind (arith, nat_tests) in
    ap (λ c. c || is_accessed (header 16) marks) apart ∙ no-sixteen marks more

-- the word that the host knows
pub word-marked : (end now : State) (p i : ℕ) (marks rest log-now : List Access) (pages : List (List Access))
    → AreMarks marks → finds_empty marks ≡ false → log-now ≡ marks ++ rest → log-now ≡ get_or pages (2 * p) []
    → (is_accessed (header i) marks ≡ false → Held end p i now) → IsSeen end p i → p < processors now → HasShape now
    → HasRanges now → Shadows now pages → i < 16 → Marks (known log-now (header i))
word-marked end now p i marks rest log-now pages are none is there held seen on shape ranges shadows under =
    by (is_accessed (header i) marks) refl
  where
    by : (b : Bool) → is_accessed (header i) marks ≡ b → Marks (known log-now (header i))
    by true some = subst (λ l. Marks (known l (header i))) (sym is) (marks-known marks rest (header i) are none some)
    by false not =
        let word = marked-known now pages p i shape ranges shadows on under (held-seen end now p i (held not) seen) in
        subst (λ l. Marks (known l (header i))) (sym there) (record { occupied = word.0; pending = word.1 })

-- a write of a timer, where the guest sees the page: the states, and what holds of the one after the event
record IsWritten (s : State) (p number value : ℕ) (looks log marks rest : List Access) (now : State) : Type 0 where
  pub steps : AreSteps s p (Write p number value) looks log marks rest now
  pub end_sound : IsSound steps.end
  pub end_on : p < processors steps.end
  pub end_shown : IsShown steps.end p Sim
  pub same_number : number_at steps.end p Sim ≡ number_at s p Sim

written-of : (s now : State) (p number value : ℕ) (looks log marks rest : List Access) (replies : List Reply)
    (notices : List Notice) → IsSound s → p < processors s → is_timer_write (Write p number value) ≡ true
    → IsShown s p Sim → AreLooks 16 looks
    → run_of s (explained s p Sim looks log ++ Write p number value ∷ explained_after s p marks rest)
    ≡ (now, replies, notices)
    → IsWritten s p number value looks log marks rest now
written-of s now p number value looks log marks rest replies notices sound on timer shown are run = record {
  steps = steps;
  end_sound = subst IsSound (sym steps.is) (after-sound steps.mid (Write p number value) tt steps.sound);
  end_on = on-after steps.mid steps.end p (Write p number value) tt steps.sound steps.is mid-on;
  end_shown = shown-same steps.mid steps.end p grows.regs grows.pages (rest-shown s steps.mid p Sim steps.seen shown);
  same_number = (λ k. number_at (record s { regs = grows.regs k }) p Sim) ∙ rest-number s steps.mid p Sim steps.seen;
}
  where
    steps : AreSteps s p (Write p number value) looks log marks rest now
    steps = steps-of s now p (Write p number value) looks log marks rest replies notices sound shown are run

    mid-on : p < processors steps.mid
    mid-on = subst (λ n. p < n) (sym (ap processors steps.seen)) on

    grows : Grows (processors steps.mid) (Only p) steps.mid steps.end
    grows = timer-grows steps.mid steps.end p (Write p number value) (step steps.mid (Write p number value)).1
        (step steps.mid (Write p number value)).2 (mid-on, refl, timer)
        (λ k. (steps.is k, (step steps.mid (Write p number value)).1, (step steps.mid (Write p number value)).2))
        steps.sound

-- the marks leave a slot that they do not access
held-beside : (s : State) (p number value : ℕ) (looks log marks rest : List Access) (now : State)
    → (w : IsWritten s p number value looks log marks rest now) → AreMarks marks → (j : ℕ)
    → is_accessed (header j) marks ≡ false → Held w.steps.end p j now
held-beside s p number value looks log marks rest now w are j not =
    subst (Held w.steps.end p j) (sym w.steps.state)
    (held-marks s w.steps.end p j p marks rest w.end_sound w.end_on w.end_shown w.same_number are (inr not))

timed-written : (old now : LiveModel) (p number value : ℕ) (reply : Reply) (owed : Bool) (notices : List Notice)
    → IsSound old.board.state → p < processors old.board.state → is_timer_write (Write p number value) ≡ true
    → IsShown old.board.state p Sim → (t : IsTimed p old (Write p number value) now reply owed notices)
    → IsWritten old.board.state p number value t.looks (log_of old p Sim) t.marks
    (t.stores ++ (t.looks ++ log_of old p Sim)) now.board.state
timed-written old now p number value reply owed notices sound on timer shown t =
    written-of old.board.state now.board.state p number value t.looks (log_of old p Sim) t.marks
    (t.stores ++ (t.looks ++ log_of old p Sim)) _ notices sound on timer shown (t.are.shown shown) t.run

-- the processor is still on the board, and the guest sees its page
pub timed-shown : (old now : LiveModel) (p number value : ℕ) (reply : Reply) (owed : Bool) (notices : List Notice)
    → IsSound old.board.state → p < processors old.board.state → is_timer_write (Write p number value) ≡ true
    → IsShown old.board.state p Sim → IsTimed p old (Write p number value) now reply owed notices
    → (p < processors now.board.state) × IsShown now.board.state p Sim
timed-shown old now p number value reply owed notices sound on timer shown t =
    let w = timed-written old now p number value reply owed notices sound on timer shown t in
    let held = held-beside old.board.state p number value t.looks (log_of old p Sim) t.marks
    (t.stores ++ (t.looks ++ log_of old p Sim)) now.board.state w t.are.marked 16
    (no-sixteen t.marks t.are.marked) in (
      subst (λ n. p < n) (sym (ap processors held.rest)) w.end_on,
      rest-shown w.steps.end now.board.state p Sim held.rest w.end_shown,
    )

pub timer-marked : (old now : LiveModel) (p i number value : ℕ) (reply : Reply) (owed : Bool) (notices : List Notice)
    → IsSound old.board.state → HasShape now.board.state → HasRanges now.board.state → Shadows now.board.state now.pages
    → p < processors old.board.state → i < 16 → is_timer_write (Write p number value) ≡ true
    → IsTimed p old (Write p number value) now reply owed notices → LeavesMarkedUnlessOwed p i old now owed
timer-marked old now p i number value reply owed notices sound shape ranges shadows on under timer timed none other
    shown waits =
    left-marked i timed.looks timed.stores timed.marks log (log_of now p Sim) page under (timed.are.shown shown)
    (word-marked w.steps.end now.board.state p i timed.marks rest (log_of now p Sim) now.pages timed.are.marked
    (sym timed.owes ∙ none) page refl
    (held-beside s p number value timed.looks log timed.marks rest now.board.state w timed.are.marked i)
    (seen-after s w.steps.mid w.steps.end now.board.state p i w.steps.seen held.rest goes other waits) now-on shape
    ranges shadows under)
  where
    s : State
    s = old.board.state

    log : List Access
    log = log_of old p Sim

    rest : List Access
    rest = timed.stores ++ (timed.looks ++ log)

    w : IsWritten s p number value timed.looks log timed.marks rest now.board.state
    w = timed-written old now p number value reply owed notices sound on timer shown timed

    goes : Goes w.steps.mid p i w.steps.end
    goes = subst (Goes w.steps.mid p i) (sym w.steps.is) (timer-goes w.steps.mid p number value i
        (subst (λ n. p < n) (sym (ap processors w.steps.seen)) on) timer under w.steps.sound)

    held : Held w.steps.end p 16 now.board.state
    held = held-beside s p number value timed.looks log timed.marks rest now.board.state w timed.are.marked 16
        (no-sixteen timed.marks timed.are.marked)

    now-on : p < processors now.board.state
    now-on = (timed-shown old now p number value reply owed notices sound on timer shown timed).0

    size : 2 * p < length old.pages
    size = omega (
      arith,
      shadows.count,
      shape.overlays,
      ap length timed.pages,
      length-set old.pages (2 * p) (timed.marks ++ rest),
      now-on,
    )

    page : log_of now p Sim ≡ timed.marks ++ rest
    page = ap (λ l. get_or l (2 * p) []) timed.pages ∙ get_or-set_same old.pages (2 * p) (timed.marks ++ rest) [] size
