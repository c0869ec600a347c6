-- Any call leaves alone what it may not touch.
use Rattle.std.proofs.Common.{◌≡◌, ◌≢◌, ◌⊎◌, inl, inr, ℕ, zero, suc, ◌+◌, ◌*◌, ◌/◌, ◌<◌, Bool, true, false, List, [], ◌∷◌, ◌++◌, length, get_or, Option, Some, None, refl, sym, ap, ◌∙◌, subst, arith}
use Rattle.std.specs.Prelude.{◌==◌, ◌&&◌, ◌||◌, nat_lt}
use Rattle.std.specs.Option.{option_map_or}
use Rattle.std.proofs.lemmas.Bool.Decides.{nat_tests}
use Rattle.std.proofs.lemmas.List.Elements.{All-append, All-cons, All-nil}
use Rattle.board_terms.specs.Dues.{number_of}
use Rattle.board_terms.specs.declared.notices.Notice.{Notice}
use Rattle.board_terms.specs.declared.pages.Kind.{Kind}
use Rattle.board_terms.specs.declared.pages.Kind.TheVariants as kind
use Rattle.deadline_tree.specs.Deadlines.{has_due, is_due_by}
use Rattle.event_ports.specs.declared.ports.Port.{Port}
use Rattle.event_ports.specs.Ports.{port_at}
use Rattle.gpa_space.specs.Space.{is_covered, overlay_of, owner_of, page_of}
use Rattle.stimer_bank.specs.Bank.{dues, timer_in}
use Rattle.stimer_bank.specs.Timer.{is_due}
use Rattle.stimer_bank.proofs.Shown.{due-reached}
use Rattle.synic_regs.specs.declared.register.Register.{Register}
use Rattle.synic_regs.specs.declared.register.Register.TheVariants as register
use Rattle.synic_regs.specs.Registers.{register_of}
use Rattle.synic_board.specs.declared.event.Event.{Event}
use Rattle.synic_board.specs.declared.event.Event.TheVariants.{OpenPort, ClosePort, Write, Read, Post, Signal, Assert, Absorb, Store, Load, Tick, Take, Suspend, Resume, Reset, Send}
use Rattle.synic_board.specs.declared.event.Reply.{Reply}
use Rattle.synic_board.specs.declared.event.Reply.TheVariants.{Done}
use Rattle.synic_board.specs.Run.{Run, run_of}
use Rattle.synic_board.specs.Sound.{IsSound, PayloadFits}
use Rattle.synic_board.specs.State.{State, processors, space_of, bank_of, ports_of}
use Rattle.synic_board.specs.Step.{step}
use Rattle.live_pages.specs.declared.access.Access.{Access}
use Rattle.live_board.specs.Acting.{Acts, AccessesOnly, IsEnded, IsPaid, ArePaid, IsTimedPaid, IsTickedPaid, IsTimedWrite, IsRegisterWrite, IsAccess, IsResetOf, eom_by}
use Rattle.live_board.specs.Live.{LiveModel, IsLive, IsQuietly, IsTicked, AreDueDirect, AreMarks, is_any_due, number_at, log_of, has_processor, finds_empty, looked_from, marked_from}
use Rattle.live_board.specs.Runs.{Call, notices_of}
use Rattle.live_board.specs.Timers.{is_timer_register, is_timer_write, is_direct_write}
use Rattle.live_board.proofs.Grown.{Grows, Any}
use Rattle.live_board.proofs.Guests.{Rest, AreOfPage, fits-looked, fits-marked, kept-by, looks-of, event-conserves, timer-conserves, tick-conserves}
use Rattle.live_board.proofs.Joined.{rest-number, rest-shown}
use Rattle.live_board.proofs.Paid.{run-stays}
use Rattle.live_board.proofs.Runs.{run-explained, between-fits}
use Rattle.live_board.proofs.TimedPart.{shown-same}
use Rattle.live_board.proofs.WokenTicks.{direct-or, tick-grows}
use Rattle.law_processors.specs.Isolation.{Untouched, is_at, is_overlay_of, touches}
use Rattle.law_processors.proofs.Isolating.{four-clear}
use Rattle.law_live.specs.Alone.{IsLeftAlone, IsReady, CallsLeaveAlone, RunsLeaveAlone, AreCallsApart, has_due_timer, is_page_register, may_touch}
use Rattle.law_live.proofs.Calls.{alone-run, alone-same, alone-then, alone-quiet, alone-live, alone-timed, only-beside}
use Rattle.law_live.proofs.Pages.{alone-reset, alone-hiding, apart}
use Rattle.law_live.proofs.Stores.{IsOfPage, untouched-append, all-looked, all-marked, not-same}

-- an EOM of another processor
alone-ended : (p q number value : ℕ) (old now : LiveModel) (reply : Reply) (notices : List Notice)
    → IsSound old.board.state → 2 * q + 1 < length old.pages → p ≢ q
    → IsEnded p old (Write p number value) now reply notices → IsLeftAlone q old now notices
alone-ended p q number value old now reply notices sound size ne (live, probed, idle, only) =
    alone-live q old now (Write p number value) reply notices sound tt size live
    (λ k. only-beside p q kind.Sim k old now ne only) (λ t rest. not-same p q ne)

-- what holds after EOMs that are paid
record IsPaidFor (q : ℕ) (old now : LiveModel) (notices : List Notice) : Type 0 where
  pub alone : IsLeftAlone q old now notices
  pub sound : IsSound now.board.state

paid-one : (owed : Bool) (p q : ℕ) (old now : LiveModel) (notices : List Notice) → IsSound old.board.state
    → 2 * q + 1 < length old.pages → (p ≡ q → owed ≡ false) → IsPaid owed p old now notices
    → IsPaidFor q old now notices
paid-one false p q old now notices sound size own h = record {
  alone = alone-same q old now notices h.0 h.1;
  sound = subst (λ (m : LiveModel). IsSound m.board.state) (sym h.0) sound;
}
paid-one true p q old now notices sound size own h = record {
  alone = alone-ended p q 0x40000084 0 old now Done notices sound size
      (λ e. absurd (let no : true ≡ false = own e in cc)) h;
  sound = (event-conserves old now (eom_by p) Done notices sound tt h.0).0;
}

paid-all : (n owed q : ℕ) (old now : LiveModel) (notices : List Notice) → IsSound old.board.state
    → 2 * q + 1 < length old.pages → has_processor owed q ≡ false → ArePaid owed n old now notices
    → IsPaidFor q old now notices
paid-all zero owed q old now notices sound size none h = record {
  alone = alone-same q old now notices h.0 h.1;
  sound = subst (λ (m : LiveModel). IsSound m.board.state) (sym h.0) sound;
}
paid-all (suc n) owed q old now notices sound size none (mid, first, last, before, one, joined) =
    let a = paid-all n owed q old mid first sound size none before in
    let b = paid-one (has_processor owed n) n q mid now last a.sound
    (subst (λ l. 2 * q + 1 < l) (sym a.alone.count) size)
    (λ e. ap (has_processor owed) e ∙ none) one in
    record {
      alone = subst (IsLeftAlone q old now) (sym joined) (alone-then q old mid now first last a.alone b.alone);
      sound = b.sound;
    }

alone-timed-paid : (p q number value : ℕ) (old now : LiveModel) (reply : Reply) (owed : ℕ) (notices : List Notice)
    → IsSound old.board.state → 2 * q + 1 < length old.pages → p ≢ q → p < processors old.board.state
    → is_timer_write (Write p number value) ≡ true
    → IsTimedPaid p old (Write p number value) now reply owed notices → IsLeftAlone q old now notices
alone-timed-paid p q number value old now reply owed notices sound size ne on timer h =
    let first = alone-timed p q number value old h.mid reply (has_processor owed p) h.first sound ne on timer h.timed in
    let mid-sound =
    (timer-conserves p old h.mid (Write p number value) reply (has_processor owed p) h.first sound tt h.timed).0 in
    let last = paid-one (has_processor owed p) p q h.mid now h.last mid-sound
    (subst (λ l. 2 * q + 1 < l) (sym first.count) size) (λ e. absurd (ne e)) h.paid in
    subst (IsLeftAlone q old now) (sym h.joined) (alone-then q old h.mid now h.first h.last first last.alone)

-- a tick at which no timer of the processor is due
four-or : (a b c d : Bool) → a ≡ false → b ≡ false → c ≡ false → d ≡ false → (a || b || c || d) ≡ false
four-or a b c d e f g h = grind arith

none-due : (s : State) (moment q : ℕ) → has_due_timer s moment q ≡ false → (n : ℕ) → n < 4
    → is_due (timer_in (bank_of s) (q, n)) moment ≡ false
none-due s moment q none = each (four-clear _ _ _ _ none)
  where
    Clear : ℕ → Type 0
    Clear n = is_due (timer_in (bank_of s) (q, n)) moment ≡ false

    each : Clear 0 × Clear 1 × Clear 2 × Clear 3 → (n : ℕ) → n < 4 → Clear n
    each h zero low = h.0
    each h (suc zero) low = h.1
    each h (suc (suc zero)) low = h.2
    each h (suc (suc (suc zero))) low = h.3
    each h (suc (suc (suc (suc n)))) low = absurd (omega (arith, low))

-- so none is due for the clock
not-listed : (s : State) (moment q : ℕ) → has_due_timer s moment q ≡ false → has_due (dues (bank_of s)) moment q ≡ false
not-listed s moment q none = four-or _ _ _ _ (one 0 (omega arith)) (one 1 (omega arith)) (one 2 (omega arith))
    (one 3 (omega arith))
  where
    one : (n : ℕ) → n < 4 → is_due_by (dues (bank_of s)) moment (number_of (q, n)) ≡ false
    one n low = by (is_due_by (dues (bank_of s)) moment (number_of (q, n))) refl
      where
        by : (b : Bool) → is_due_by (dues (bank_of s)) moment (number_of (q, n)) ≡ b
            → is_due_by (dues (bank_of s)) moment (number_of (q, n)) ≡ false
        by false e = e
        by true e =
            let both = sym (due-reached (bank_of s) (q, n) moment e) ∙ none-due s moment q none n low in absurd (cc)

tick-apart : (s : State) (moment q : ℕ) → has_due (dues (bank_of s)) moment q ≡ false
    → touches s (Tick moment) q ≡ false
tick-apart s moment q none = and-none (nat_lt s.moment moment) (has_due (dues (bank_of s)) moment q) none
  where
    and-none : (a b : Bool) → b ≡ false → (a && b) ≡ false
    and-none a b e = grind arith

alone-ticked : (q moment : ℕ) (old now : LiveModel) (reply : Reply) (owed : ℕ) (notices : List Notice)
    → IsSound old.board.state → q < processors old.board.state → has_due_timer old.board.state moment q ≡ false
    → IsTicked old moment now reply owed notices
    → IsLeftAlone q old now notices × (has_processor owed q ≡ false)
alone-ticked q moment old now reply owed notices sound on none t = (
  alone-run q old now (before ++ Tick moment ∷ after) _ notices sound
      (All-append PayloadFits before (Tick moment ∷ after) (fits-looked (processors s) 0 s old.pages t.looks)
      (All-cons PayloadFits (Tick moment) after tt (fits-marked (processors s) 0 s old.pages t.looks t.stores t.marks)))
      (untouched-append before (Tick moment ∷ after) s q first.0 (ticks, last.0)) t.run pages t.size,
  t.owes q on ∙ ap finds_empty own.2,
)
  where
    s : State
    s = old.board.state

    own : (t.looks q ≡ []) × (t.stores q ≡ []) × (t.marks q ≡ [])
    own = t.direct q on (λ n low due. absurd (let both = sym due ∙ none-due s moment q none n low in cc))

    before : List Event
    before = looked_from s old.pages t.looks 0 (processors s)

    after : List Event
    after = marked_from s old.pages t.looks t.stores t.marks 0 (processors s)

    -- the accesses of each page
    of : (r : ℕ) → r < processors s → IsOfPage s q r (t.looks r) (t.marks r)
    of r low = by (direct-or s r moment) (is_any_due s moment) refl
      where
        mine : r ≡ q → (t.looks r ≡ []) × (t.marks r ≡ [])
        mine e = (ap t.looks e ∙ own.0, ap t.marks e ∙ own.2)

        nothing : (t.looks r ≡ []) × (t.stores r ≡ []) × (t.marks r ≡ []) → IsOfPage s q r (t.looks r) (t.marks r)
        nothing h = record {
          shown = λ shown. subst AreOfPage (sym h.0) tt;
          hidden = λ _. (h.0, h.2);
          marked = subst AreMarks (sym h.2) tt;
          own = mine;
        }

        by : AreDueDirect s r moment ⊎ (AreDueDirect s r moment → ⊥) → (b : Bool) → is_any_due s moment ≡ b
            → IsOfPage s q r (t.looks r) (t.marks r)
        by (inl direct) b is = nothing (t.direct r low direct)
        by (inr posted) false idle = nothing (t.idle idle r)
        by (inr posted) true due =
            let are = t.due due r low posted in
            record {
              shown = λ shown. looks-of 16 (t.looks r) (omega arith) (are.shown shown);
              hidden = are.hidden;
              marked = are.marked;
              own = mine;
            }

    first : Untouched s before q × Rest s (run_of s before).0
    first = all-looked (processors s) 0 q s s old.pages t.looks t.marks refl (λ r low. of r (omega (arith, low)))

    mid : State
    mid = (run_of s before).0

    mid-sound : IsSound mid
    mid-sound = (kept-by s mid before (run_of s before).1 (run_of s before).2
        (fits-looked (processors s) 0 s old.pages t.looks) sound refl).0

    ticks : touches mid (Tick moment) q ≡ false
    ticks = tick-apart mid moment q
        (ap (λ (x : State). has_due (dues (bank_of x)) moment q) first.1 ∙ not-listed s moment q none)

    end : State
    end = (step mid (Tick moment)).0

    grows : Grows (processors mid) Any mid end
    grows = tick-grows mid moment mid-sound

    last : Untouched end after q × Rest end (run_of end after).0
    last = all-marked (processors s) 0 q s end old.pages t.looks t.stores t.marks
        (λ r. (λ k. number_at (record mid { regs = grows.regs k }) r kind.Sim) ∙ rest-number s mid r kind.Sim first.1)
        (λ r shown. shown-same mid end r grows.regs grows.pages (rest-shown s mid r kind.Sim first.1 shown))
        (λ r low. of r (omega (arith, low)))

    pages : (k : Kind) → log_of now q k ≡ log_of old q k
    pages kind.Sim = t.logs q on ∙ (λ i. own.2 i ++ (own.1 i ++ (own.0 i ++ log_of old q kind.Sim)))
    pages kind.Sief = t.flags q

alone-ticked-paid : (q moment : ℕ) (old now : LiveModel) (reply : Reply) (owed : ℕ) (notices : List Notice)
    → IsSound old.board.state → 2 * q + 1 < length old.pages → q < processors old.board.state
    → has_due_timer old.board.state moment q ≡ false → IsTickedPaid old moment now reply owed notices
    → IsLeftAlone q old now notices
alone-ticked-paid q moment old now reply owed notices sound size on none h =
    let first = alone-ticked q moment old h.mid reply owed h.first sound on none h.ticked in
    let mid-sound = (tick-conserves old h.mid moment reply owed h.first sound h.ticked).0 in
    let last = paid-all (processors old.board.state) owed q h.mid now h.last mid-sound
    (subst (λ l. 2 * q + 1 < l) (sym first.0.count) size) first.1 h.paid in
    subst (IsLeftAlone q old now) (sym h.joined) (alone-then q old h.mid now h.first h.last first.0 last.alone)

-- an event of a port that does not target the processor
not-target : (q : ℕ) (port : Option Port) (target : Port) → port ≡ Some target → is_at q port ≡ false → target.vp ≢ q
not-target q port target is none =
    apart target.vp q (sym (ap (is_at q) is) ∙ none)

alone-at-port : (q port : ℕ) (k : Kind) (old now : LiveModel) (event : Event) (reply : Reply) (notices : List Notice)
    → IsSound old.board.state → PayloadFits event → 2 * q + 1 < length old.pages
    → IsLive old event now reply notices → is_at q (port_at (ports_of old.board.state) port) ≡ false
    → ((t : State) → touches t event q ≡ is_at q (port_at (ports_of t) port)) → AccessesOnly port k old now
    → IsLeftAlone q old now notices
alone-at-port q port k old now event reply notices sound fits size live none at only =
    alone-live q old now event reply notices sound fits size live
    (by (port_at (ports_of old.board.state) port) refl)
    (λ t rest. at t ∙ ap (λ (x : State). is_at q (port_at (ports_of x) port)) rest ∙ none)
  where
    by : (o : Option Port) → port_at (ports_of old.board.state) port ≡ o → (m : Kind)
        → log_of now q m ≡ log_of old q m
    by (Some target) is m =
        only-beside target.vp q k m old now
        (not-target q (port_at (ports_of old.board.state) port) target is none) (only.0 target is)
    by None is m = ap (λ (ps : List (List Access)). get_or ps (overlay_of q m) []) (only.1 is)

-- a write of a register of another processor
alone-written : (p q number value : ℕ) (old now : LiveModel) (reply : Reply) (owed : ℕ) (notices : List Notice)
    → IsSound old.board.state → 2 * q + 1 < length old.pages
    → may_touch old.board.state (Write p number value) q ≡ false
    → (r : Option Register) → register_of number ≡ r
    → IsRegisterWrite r p old (Write p number value) now reply owed notices → IsLeftAlone q old now notices
alone-written p q number value old now reply owed notices sound size none = by
  where
    s : State
    s = old.board.state

    ne : p ≢ q
    ne = apart p q (left (p == q) _ none)
      where
        left : (a b : Bool) → (a || b) ≡ false → a ≡ false
        left a b e = grind arith

    quiet : IsQuietly old (Write p number value) now reply notices → IsLeftAlone q old now notices
    quiet h = alone-quiet q old now (Write p number value) reply notices sound (not-same p q ne) h

    timed : (on direct : Bool) → nat_lt p (processors s) ≡ on
        → option_map_or is_timer_register (register_of number) false ≡ true
        → IsTimedWrite on direct p old (Write p number value) now reply owed notices → IsLeftAlone q old now notices
    timed true false below timer h =
        alone-timed-paid p q number value old now reply owed notices sound size ne (grind (arith, nat_tests)) timer h
    timed true true below timer h = quiet h.0
    timed false false below timer h = quiet h.0
    timed false true below timer h = quiet h.0

    -- the page that is seen at the new number
    beside : option_map_or is_page_register (register_of number) false ≡ true
        → is_overlay_of q (owner_of (space_of s) (page_of value)) ≡ false
    beside page = right (p == q) _ _ page none
      where
        right : (a b c : Bool) → b ≡ true → (a || (b && c)) ≡ false → c ≡ false
        right a b c e f = grind arith

    by : (r : Option Register) → register_of number ≡ r
        → IsRegisterWrite r p old (Write p number value) now reply owed notices → IsLeftAlone q old now notices
    by (Some register.Eom) is h = alone-ended p q number value old now reply notices sound size ne h.0
    by (Some (register.TimerConfig n)) is h =
        timed (nat_lt p (processors s)) (is_direct_write s (Write p number value)) refl
        (ap (λ o. option_map_or is_timer_register o false) is) h
    by (Some (register.TimerCount n)) is h =
        timed (nat_lt p (processors s)) (is_direct_write s (Write p number value)) refl
        (ap (λ o. option_map_or is_timer_register o false) is) h
    by (Some register.Sim) is h =
        alone-hiding p q number value old now reply notices sound ne
        (beside (ap (λ o. option_map_or is_page_register o false) is)) h.0
    by (Some register.Sief) is h =
        alone-hiding p q number value old now reply notices sound ne
        (beside (ap (λ o. option_map_or is_page_register o false) is)) h.0
    by (Some register.ReferenceCounter) is h = quiet h.0
    by (Some register.Eoi) is h = quiet h.0
    by (Some register.Tpr) is h = quiet h.0
    by (Some register.Control) is h = quiet h.0
    by (Some register.Version) is h = quiet h.0
    by (Some (register.Source n)) is h = quiet h.0
    by None is h = quiet h.0

alone-access : (b : Bool) (q : ℕ) (old now : LiveModel) (event : Event) (reply : Reply) (notices : List Notice)
    → IsSound old.board.state → touches old.board.state event q ≡ false → IsAccess b old event now reply notices
    → IsLeftAlone q old now notices
alone-access true q old now event reply notices sound none h = alone-same q old now notices h.0 h.2
alone-access false q old now event reply notices sound none h = alone-quiet q old now event reply notices sound none h

alone-reset-of : (b : Bool) (p q : ℕ) (old now : LiveModel) (reply : Reply) (notices : List Notice)
    → IsSound old.board.state → (p == q) ≡ false → IsResetOf b p old now reply notices → IsLeftAlone q old now notices
alone-reset-of true p q old now reply notices sound none h =
    alone-reset p q old now reply notices sound (apart p q none) h
alone-reset-of false p q old now reply notices sound none h =
    alone-quiet q old now (Reset p) reply notices sound none h

pub page-count : (q : ℕ) (m : LiveModel) → IsReady q m → 2 * q + 1 < length m.pages
page-count q m ready = omega (arith, ready.shadows.count, ready.shape.overlays, ready.on)

-- any event
pub acts-alone : (q : ℕ) (old now : LiveModel) (event : Event) (reply : Reply) (owed : ℕ) (notices : List Notice)
    → IsSound old.board.state → 2 * q + 1 < length old.pages → q < processors old.board.state → PayloadFits event
    → Acts old event now reply owed notices → may_touch old.board.state event q ≡ false
    → IsLeftAlone q old now notices
acts-alone q old now (Post port type payload) reply owed notices sound size on fits h none =
    alone-at-port q port kind.Sim old now (Post port type payload) reply notices sound fits size h.0 none
    (λ t. refl) h.3
acts-alone q old now (Signal port flag) reply owed notices sound size on fits h none =
    alone-at-port q port kind.Sief old now (Signal port flag) reply notices sound fits size h.0 none (λ t. refl) h.2
acts-alone q old now (Write p number value) reply owed notices sound size on fits h none =
    alone-written p q number value old now reply owed notices sound size none (register_of number) refl h
acts-alone q old now (Store address bytes) reply owed notices sound size on fits h none =
    alone-access (is_covered (space_of old.board.state) (address / 4096)) q old now (Store address bytes) reply notices
    sound none h.0
acts-alone q old now (Load address count) reply owed notices sound size on fits h none =
    alone-access (is_covered (space_of old.board.state) (address / 4096)) q old now (Load address count) reply notices
    sound none h.0
acts-alone q old now (Tick moment) reply owed notices sound size on fits h none =
    alone-ticked-paid q moment old now reply owed notices sound size on none h
acts-alone q old now (Reset p) reply owed notices sound size on fits h none =
    alone-reset-of (nat_lt p (processors old.board.state)) p q old now reply notices sound none h.0
acts-alone q old now (OpenPort port p i shape) reply owed notices sound size on fits h none =
    alone-quiet q old now _ reply notices sound none h.0
acts-alone q old now (ClosePort port) reply owed notices sound size on fits h none =
    alone-quiet q old now _ reply notices sound none h.0
acts-alone q old now (Read p number) reply owed notices sound size on fits h none =
    alone-quiet q old now _ reply notices sound none h.0
acts-alone q old now (Assert p v) reply owed notices sound size on fits h none =
    alone-quiet q old now _ reply notices sound none h.0
acts-alone q old now (Absorb p part bits) reply owed notices sound size on fits h none =
    alone-quiet q old now _ reply notices sound none h.0
acts-alone q old now (Take p) reply owed notices sound size on fits h none =
    alone-quiet q old now _ reply notices sound none h.0
acts-alone q old now (Suspend p) reply owed notices sound size on fits h none =
    alone-quiet q old now _ reply notices sound none h.0
acts-alone q old now (Resume p) reply owed notices sound size on fits h none =
    alone-quiet q old now _ reply notices sound none h.0
acts-alone q old now (Send v mask) reply owed notices sound size on fits h none =
    alone-quiet q old now _ reply notices sound none h.0

pub calls-leave-alone : CallsLeaveAlone
calls-leave-alone q old now event reply owed notices ready fits acts none =
    acts-alone q old now event reply owed notices ready.sound (page-count q old ready) ready.on fits acts none

-- calls one after another
acts-sound : (old now : LiveModel) (c : Call) → IsSound old.board.state → PayloadFits c.event
    → Acts old c.event now c.reply c.owed c.notices
    → IsSound now.board.state × (processors now.board.state ≡ processors old.board.state)
acts-sound old now c sound fits acts =
    let s : State = old.board.state in
    let one = All-cons (λ (x : Call). PayloadFits x.event) c [] fits (All-nil (λ (x : Call). PayloadFits x.event)) in
    let r = run-explained (c ∷ []) old now (now, acts, refl) in
    let kept = run-stays r.events s (between-fits (c ∷ []) r.events r.replies one r.between) sound in (
      subst (λ (x : Run). IsSound x.0) r.run kept.1,
      ap (λ (x : Run). processors x.0) (sym r.run) ∙ kept.0,
    )

runs-alone : (calls : List Call) (q : ℕ) (old now : LiveModel) → IsSound old.board.state
    → 2 * q + 1 < length old.pages → q < processors old.board.state → AreCallsApart q old calls now
    → IsLeftAlone q old now (notices_of calls)
runs-alone [] q old now sound size on is = alone-same q old now [] is refl
runs-alone (c ∷ calls) q old now sound size on (mid, acts, fits, none, rest) =
    let first = acts-alone q old mid c.event c.reply c.owed c.notices sound size on fits acts none in
    let next = acts-sound old mid c sound fits acts in
    alone-then q old mid now c.notices (notices_of calls) first
    (runs-alone calls q mid now next.0 (subst (λ l. 2 * q + 1 < l) (sym first.count) size)
    (subst (λ n. q < n) (sym next.1) on) rest)

pub runs_leave_alone : RunsLeaveAlone
runs_leave_alone q old now calls ready apart =
    runs-alone calls q old now ready.sound (page-count q old ready) ready.on apart
