-- The same for a tick, which accesses several pages.
use Rattle.std.proofs.Common.{◌≡◌, ◌≢◌, ◌⊎◌, inl, inr, ℕ, zero, suc, ◌+◌, ◌*◌, ◌<◌, ◌≤◌, Bool, true, false, List, [], ◌∷◌, ◌++◌, get_or, refl, sym, ap, ◌∙◌, subst, arith}
use Rattle.std.proofs.lemmas.Bool.{cases_eq}
use Rattle.board_terms.specs.declared.notices.Notice.{Notice}
use Rattle.board_terms.specs.declared.pages.Kind.TheVariants.{Sim}
use Rattle.gpa_space.specs.Space.{owner_of}
use Rattle.message_queues.specs.Queues.{queue_of}
use Rattle.synic_board.specs.declared.event.Event.{Event}
use Rattle.synic_board.specs.declared.event.Event.TheVariants.{Tick}
use Rattle.synic_board.specs.declared.event.Reply.{Reply}
use Rattle.stimer_bank.specs.Bank.{timer_in}
use Rattle.stimer_bank.specs.Timer.{is_due, is_direct}
use Rattle.synic_board.specs.State.{State, processors, bank_of, space_of}
use Rattle.synic_board.specs.Ranges.{HasRanges}
use Rattle.synic_board.specs.Run.{Run, run_of}
use Rattle.synic_board.specs.Sound.{IsSound, HasShape}
use Rattle.synic_board.specs.Step.{step}
use Rattle.synic_board.proofs.keeping.Wholes.{kept_from_sound}
use Rattle.live_pages.specs.Words.{header}
use Rattle.live_pages.specs.declared.access.Access.{Access}
use Rattle.live_pages.specs.Traces.{is_accessed}
use Rattle.live_board.specs.Live.{LiveModel, Shadows, IsTicked, IsShown, AreMarks, number_at, explained, explained_after, looked_from, marked_from, is_any_due, AreDueDirect, has_processor, log_of}
use Rattle.live_board.specs.Waking.{IsLeftMarked, LeavesMarkedUnlessOwed}
use Rattle.live_board.proofs.Clocked.{early-queues}
use Rattle.live_board.proofs.DirectTicks.{queue-tick, rest-due}
use Rattle.live_board.proofs.Fired.{Goes, goes-ticked}
use Rattle.live_board.proofs.Grown.{Grows, Any, grows-ticked}
use Rattle.live_board.proofs.Guests.{Rest, AreOfPage, looks-of, page-changes, is-owner, fits-looked, fits-marked, kept-by, rest-after}
use Rattle.live_board.proofs.Joined.{run-append, same-explained, rest-number, rest-shown, shown-before}
use Rattle.live_board.proofs.TimedPart.{shown-same}
use Rattle.live_board.proofs.Woken.{on-after}
use Rattle.live_board.proofs.WokenTimers.{Held, held-after, held-marks, no-sixteen, left-marked, seen-after, after-sound, word-marked}

-- what is accessed at one page
record OfPage (s : State) (q : ℕ) (looks marks : List Access) : Type 0 where
  pub shown : IsShown s q Sim → AreOfPage looks
  pub hidden : (IsShown s q Sim → ⊥) → (looks ≡ []) × (marks ≡ [])
  pub marked : AreMarks marks

-- the looks change own pages and tickets alone
looked-rest : (m k : ℕ) (s t : State) (pages : List (List Access)) (looks marks : ℕ → List Access) → Rest s t
    → ((q : ℕ) → q < k + m → OfPage s q (looks q) (marks q)) → Rest s (run_of t (looked_from s pages looks k m)).0
unfolding run_of
looked-rest zero k s t pages looks marks rest of = rest
looked-rest (suc m) k s t pages looks marks rest of =
    subst (λ (r : Run). Rest s r.0) (sym (run-append t es (looked_from s pages looks (suc k) m)))
    (looked-rest m (suc k) s (run_of t es).0 pages looks marks (rest-after s t (run_of t es).0 rest first)
    (λ q low. of q (omega (arith, low))))
  where
    log : List Access
    log = get_or pages (2 * k) []

    es : List Event
    es = explained s k Sim (looks k) log

    page : OfPage s k (looks k) (marks k)
    page = of k (omega arith)

    first : Rest t (run_of t es).0
    first = subst (λ l. Rest t (run_of t l).0) (same-explained s t k Sim (looks k) log (rest-number s t k Sim rest))
        (page-changes t k Sim (looks k) log (λ shown. page.shown (shown-before s t k Sim rest shown))
        (λ hidden. (page.hidden (λ shown. hidden (rest-shown s t k Sim rest shown))).0))

-- the marks leave a slot that they do not access
held-all : (m k : ℕ) (s t : State) (p i : ℕ) (pages : List (List Access)) (looks stores marks : ℕ → List Access)
    → IsSound t → k + m ≤ processors t → ((q : ℕ) → number_at t q Sim ≡ number_at s q Sim)
    → ((q : ℕ) → q < k + m → ((IsShown t q Sim → ⊥) → marks q ≡ []) × AreMarks (marks q)
    × ((q ≢ p) ⊎ (is_accessed (header i) (marks q) ≡ false)))
    → Held t p i (run_of t (marked_from s pages looks stores marks k m)).0
unfolding run_of
held-all zero k s t p i pages looks stores marks h on number of = record { rest = refl; bytes = λ b _. refl }
held-all (suc m) k s t p i pages looks stores marks h on number of =
    subst (λ (r : Run). Held t p i r.0) (sym (run-append t es (explained_after s k (marks k) rest)))
    (next (held-all m (suc k) s t p i pages looks stores marks h (omega (arith, on)) number
    (λ q low. of q (omega (arith, low)))))
  where
    es : List Event
    es = marked_from s pages looks stores marks (suc k) m

    rest : List Access
    rest = stores k ++ (looks k ++ get_or pages (2 * k) [])

    mid : State
    mid = (run_of t es).0

    sound : IsSound mid
    sound = (kept-by t mid es (run_of t es).1 (run_of t es).2
        (fits-marked m (suc k) s pages looks stores marks) h refl).0

    next : Held t p i mid → Held t p i (run_of mid (explained_after s k (marks k) rest)).0
    next held = by (is-owner (owner_of (space_of mid) (number_at mid k Sim)) k Sim)
      where
        page : ((IsShown t k Sim → ⊥) → marks k ≡ []) × AreMarks (marks k)
            × ((k ≢ p) ⊎ (is_accessed (header i) (marks k) ≡ false))
        page = of k (omega arith)

        there : k < processors mid
        there = omega (arith, on, ap processors held.rest)

        by : (IsShown mid k Sim) ⊎ (IsShown mid k Sim → ⊥)
            → Held t p i (run_of mid (explained_after s k (marks k) rest)).0
        by (inl shown) =
            held-after t mid (run_of mid (explained_after s k (marks k) rest)).0 p i held
            (held-marks s mid p i k (marks k) rest sound there shown
            (rest-number t mid k Sim held.rest ∙ number k) page.1 page.2)
        by (inr hidden) =
            subst (λ l. Held t p i (run_of mid (explained_after s k l rest)).0)
            (sym (page.0 (λ shown. hidden (rest-shown t mid k Sim held.rest shown)))) held

tick-goes : (s : State) (moment p i : ℕ) → IsSound s → i < 16 → Goes s p i (step s (Tick moment)).0
unfolding step
tick-goes s moment p i h under = goes-ticked (processors s) s moment p i (kept_from_sound s h) under

pub tick-grows : (s : State) (moment : ℕ) → IsSound s → Grows (processors s) Any s (step s (Tick moment)).0
unfolding step
tick-grows s moment h = grows-ticked (processors s) s moment (kept_from_sound s h)

tick-early : (s : State) (moment : ℕ) → is_any_due s moment ≡ false → (step s (Tick moment)).0.queues ≡ s.queues
unfolding step
tick-early s moment none = early-queues s moment none

-- the states of a tick: after the looks, after the tick, and after the marks
record AreSteps (s : State) (moment : ℕ) (pages : List (List Access)) (looks stores marks : ℕ → List Access)
    (now : State) : Type 0 where
  pub mid : State
  pub seen : Rest s mid
  pub sound : IsSound mid
  pub state : now ≡ (run_of (step mid (Tick moment)).0 (marked_from s pages looks stores marks 0 (processors s))).0

steps-of : (s now : State) (moment : ℕ) (pages : List (List Access)) (looks stores marks : ℕ → List Access)
    (replies : List Reply) (notices : List Notice) → IsSound s
    → ((q : ℕ) → q < processors s → OfPage s q (looks q) (marks q))
    → run_of s (looked_from s pages looks 0 (processors s)
    ++ Tick moment ∷ marked_from s pages looks stores marks 0 (processors s)) ≡ (now, replies, notices)
    → AreSteps s moment pages looks stores marks now
unfolding run_of
steps-of s now moment pages looks stores marks replies notices h of run = record {
  mid = (run_of s es).0;
  seen = looked-rest (processors s) 0 s s pages looks marks refl (λ q low. of q (omega (arith, low)));
  sound = (kept-by s (run_of s es).0 es (run_of s es).1 (run_of s es).2
      (fits-looked (processors s) 0 s pages looks) h refl).0;
  state = sym (ap (λ (r : Run). r.0)
      (sym (run-append s es (Tick moment ∷ marked_from s pages looks stores marks 0 (processors s))) ∙ run));
}
  where
    es : List Event
    es = looked_from s pages looks 0 (processors s)

-- a due timer is in direct mode
abbrev IsDirectIfDue : State → ℕ → ℕ → ℕ → Type 0
IsDirectIfDue s p moment i =
    is_due (timer_in (bank_of s) (p, i)) moment ≡ true → is_direct (timer_in (bank_of s) (p, i)).config ≡ true

one-or : (a b : Bool) → (a ≡ true → b ≡ true) ⊎ ((a ≡ true → b ≡ true) → ⊥)
one-or a true = inl (λ _. refl)
one-or false false = inl (λ no. absurd (cc))
one-or true false = inr (λ h. let e : false ≡ true = h refl in cc)

-- whether those of a processor are
pub direct-or : (s : State) (p moment : ℕ) → AreDueDirect s p moment ⊎ (AreDueDirect s p moment → ⊥)
direct-or s p moment = by (one 0) (one 1) (one 2) (one 3)
  where
    one : (i : ℕ) → IsDirectIfDue s p moment i ⊎ (IsDirectIfDue s p moment i → ⊥)
    one i = one-or (is_due (timer_in (bank_of s) (p, i)) moment) (is_direct (timer_in (bank_of s) (p, i)).config)

    all : IsDirectIfDue s p moment 0 → IsDirectIfDue s p moment 1 → IsDirectIfDue s p moment 2
        → IsDirectIfDue s p moment 3 → AreDueDirect s p moment
    all a b c d zero low = a
    all a b c d (suc zero) low = b
    all a b c d (suc (suc zero)) low = c
    all a b c d (suc (suc (suc zero))) low = d
    all a b c d (suc (suc (suc (suc i)))) low = absurd (omega (arith, low))

    none : {n : ℕ} → n < 4 → (IsDirectIfDue s p moment n → ⊥)
        → AreDueDirect s p moment ⊎ (AreDueDirect s p moment → ⊥)
    none {n} low not = inr (λ h. not (h n low))

    last : IsDirectIfDue s p moment 0 → IsDirectIfDue s p moment 1 → IsDirectIfDue s p moment 2
        → IsDirectIfDue s p moment 3 ⊎ (IsDirectIfDue s p moment 3 → ⊥)
        → AreDueDirect s p moment ⊎ (AreDueDirect s p moment → ⊥)
    last a b c (inl d) = inl (all a b c d)
    last a b c (inr not) = none (omega arith) not

    by : IsDirectIfDue s p moment 0 ⊎ (IsDirectIfDue s p moment 0 → ⊥)
        → IsDirectIfDue s p moment 1 ⊎ (IsDirectIfDue s p moment 1 → ⊥)
        → IsDirectIfDue s p moment 2 ⊎ (IsDirectIfDue s p moment 2 → ⊥)
        → IsDirectIfDue s p moment 3 ⊎ (IsDirectIfDue s p moment 3 → ⊥)
        → AreDueDirect s p moment ⊎ (AreDueDirect s p moment → ⊥)
    by (inr not) b c d = none (omega arith) not
    by (inl a) (inr not) c d = none (omega arith) not
    by (inl a) (inl b) (inr not) d = none (omega arith) not
    by (inl a) (inl b) (inl c) d = last a b c d

-- the accesses of each page
pages-of : (old now : LiveModel) (moment : ℕ) (reply : Reply) (owed : ℕ) (notices : List Notice)
    → (t : IsTicked old moment now reply owed notices) → (q : ℕ) → q < processors old.board.state
    → OfPage old.board.state q (t.looks q) (t.marks q)
pages-of old now moment reply owed notices t q low =
    by (direct-or old.board.state q moment) (is_any_due old.board.state moment) refl
  where
    nothing : (t.looks q ≡ []) × (t.stores q ≡ []) × (t.marks q ≡ []) → OfPage old.board.state q (t.looks q) (t.marks q)
    nothing none = record {
      shown = λ _. subst AreOfPage (sym none.0) tt;
      hidden = λ _. (none.0, none.2);
      marked = subst AreMarks (sym none.2) tt;
    }

    by : AreDueDirect old.board.state q moment ⊎ (AreDueDirect old.board.state q moment → ⊥) → (b : Bool)
        → is_any_due old.board.state moment ≡ b → OfPage old.board.state q (t.looks q) (t.marks q)
    by (inl direct) b is = nothing (t.direct q low direct)
    by (inr posted) false idle = nothing (t.idle idle q)
    by (inr posted) true due =
        let are =
        t.due due q low posted in
        record {
          shown = λ shown. looks-of 16 (t.looks q) (omega arith) (are.shown shown);
          hidden = are.hidden;
          marked = are.marked;
        }

pub tick-marked : (old now : LiveModel) (p i moment : ℕ) (reply : Reply) (owed : ℕ)
    (notices : List Notice) → IsSound old.board.state → HasShape now.board.state → HasRanges now.board.state
    → Shadows now.board.state now.pages
    → p < processors old.board.state → i < 16 → IsTicked old moment now reply owed notices
    → LeavesMarkedUnlessOwed p i old now (has_processor owed p)
tick-marked old now p i moment reply owed notices sound shape ranges shadows on under t none other shown waits =
    by (direct-or s p moment) (is_any_due s moment) refl
  where
    s : State
    s = old.board.state

    of : (q : ℕ) → q < processors s → OfPage s q (t.looks q) (t.marks q)
    of = pages-of old now moment reply owed notices t

    steps : AreSteps s moment old.pages t.looks t.stores t.marks now.board.state
    steps = steps-of s now.board.state moment old.pages t.looks t.stores t.marks _ notices sound of t.run

    end : State
    end = (step steps.mid (Tick moment)).0

    count : processors steps.mid ≡ processors s
    count = ap processors steps.seen

    grows : Grows (processors steps.mid) Any steps.mid end
    grows = tick-grows steps.mid moment steps.sound

    number : (q : ℕ) → number_at end q Sim ≡ number_at s q Sim
    number q = (λ k. number_at (record s { regs = grows.regs k }) q Sim) ∙ rest-number s steps.mid q Sim steps.seen

    end-on : (q : ℕ) → q < processors s → q < processors end
    end-on q low = on-after steps.mid end q (Tick moment) tt steps.sound refl (omega (arith, low, count))

    whole : processors s ≤ processors end
    whole = bound (processors s) refl
      where
        bound : (n : ℕ) → processors s ≡ n → n ≤ processors end
        bound zero e = omega arith
        bound (suc n) e = let last = end-on n (omega (arith, e)) in omega (arith, last)

    hidden : (q : ℕ) → q < processors s → (IsShown end q Sim → ⊥) → t.marks q ≡ []
    hidden q low unseen =
        ((of q low).hidden (λ seen.
        unseen (shown-same steps.mid end q grows.regs grows.pages (rest-shown s steps.mid q Sim steps.seen seen)))).1

    held : (j : ℕ) → is_accessed (header j) (t.marks p) ≡ false → Held end p j now.board.state
    held j not =
        subst (Held end p j) (sym steps.state)
        (held-all (processors s) 0 s end p j old.pages t.looks t.stores t.marks
        (after-sound steps.mid (Tick moment) tt steps.sound) (omega (arith, whole)) number
        (λ q low. (hidden q (omega (arith, low)), (of q (omega (arith, low))).marked, apart q (cases_eq q p))))
      where
        apart : (q : ℕ) → (q ≡ p) ⊎ (q ≢ p) → (q ≢ p) ⊎ (is_accessed (header j) (t.marks q) ≡ false)
        apart q (inl e) = inr (ap (λ k. is_accessed (header j) (t.marks k)) e ∙ not)
        apart q (inr ne) = inl ne

    last : Rest end now.board.state
    last = (held 16 (no-sixteen (t.marks p) (of p on).marked)).rest

    now-on : p < processors now.board.state
    now-on = subst (λ n. p < n) (sym (ap processors last)) (end-on p on)

    same : queue_of end.queues p i ≡ queue_of steps.mid.queues p i
        → IsLeftMarked i (log_of old p Sim) (log_of now p Sim)
    same early =
        absurd (other (ap (λ (x : State). queue_of x.queues p i) last ∙ early
        ∙ ap (λ (x : State). queue_of x.queues p i) steps.seen))

    by : AreDueDirect s p moment ⊎ (AreDueDirect s p moment → ⊥) → (b : Bool) → is_any_due s moment ≡ b
        → IsLeftMarked i (log_of old p Sim) (log_of now p Sim)
    by (inl direct) b is =
        same (queue-tick steps.mid p i moment under (rest-due s steps.mid p (Tick moment) steps.seen direct))
    by (inr posted) false idle =
        same (ap (λ l. queue_of l p i) (tick-early steps.mid moment (ap (λ x. is_any_due x moment) steps.seen ∙ idle)))
    by (inr posted) true due =
        left-marked i (t.looks p) (t.stores p) (t.marks p) (log_of old p Sim) (log_of now p Sim) (t.logs p on) under
        ((t.due due p on posted).shown shown)
        (word-marked end now.board.state p i (t.marks p) (t.stores p ++ (t.looks p ++ log_of old p Sim))
        (log_of now p Sim) now.pages (of p on).marked (sym (t.owes p on) ∙ none) (t.logs p on) refl (held i)
        (seen-after s steps.mid end now.board.state p i steps.seen last
        (tick-goes steps.mid moment p i steps.sound under) other waits) now-on shape ranges shadows under)
