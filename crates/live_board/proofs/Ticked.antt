-- A tick on several message pages.
use Rattle.std.proofs.Common.{◌≡◌, ◌≢◌, ◌⊎◌, inl, inr, ℕ, zero, suc, ◌+◌, ◌*◌, ◌<◌, ◌≤◌, Bool, true, false, List, [], ◌∷◌, ◌++◌, length, get_or, set, refl, sym, ap, ◌∙◌, subst, arith, append_assoc, append-nil, length-append, length-set}
use Rattle.std.specs.Prelude.{◌==◌, if◌then◌else◌}
use Rattle.std.proofs.lemmas.Bool.{cases_eq}
use Rattle.std.proofs.lemmas.Bool.Decides.{nat_tests}
use Rattle.std.proofs.lemmas.Nat.Bits.{bit_at-zero}
use Rattle.std.proofs.lemmas.List.{get_or-set_same, get_or-set_other, set-get_or}
use Rattle.board_terms.specs.declared.notices.Notice.{Notice}
use Rattle.board_terms.specs.declared.pages.Kind.TheVariants.{Sim}
use Rattle.gpa_space.specs.Space.{page_of as page_in}
use Rattle.synic_regs.specs.Regs.{Regs, reset_regs}
use Rattle.synic_board.specs.declared.event.Event.{Event}
use Rattle.synic_board.specs.declared.event.Event.TheVariants.{Tick}
use Rattle.synic_board.specs.declared.event.Reply.{Reply}
use Rattle.synic_board.specs.State.{State, processors}
use Rattle.synic_board.specs.Effects.{Outcome}
use Rattle.synic_board.specs.Bounds.{most_notices}
use Rattle.synic_board.specs.Delivery.{is_slot_empty}
use Rattle.synic_board.specs.Run.{Run, run_of}
use Rattle.synic_board.specs.Ranges.{HasRanges}
use Rattle.synic_board.specs.Sound.{IsSound, HasShape}
use Rattle.synic_board.specs.Step.{step}
use Rattle.synic_board.proofs.keeping.Wholes.{kept_from_sound}
use Rattle.live_pages.specs.Words.{known}
use Rattle.live_pages.specs.declared.access.Access.{Access}
use Rattle.live_board.specs.Words.{word_at, word_of}
use Rattle.live_board.proofs.Watched.{unwatched}
use Rattle.live_board.specs.Live.{number_at, explained, explained_after, all_done, AreCareful, IsShown, AreLooks, AreTimed, looked_from, marked_from, has_processor, finds_empty, ArePlaced}
use Rattle.live_board.specs.inside.Parts.{IsShadow, IsStep, IsWatched, IsFirst, IsFinished, IsTick, AreDirectAt, IsTickFrom, SlotGrows, SlotFills, WordsGrow, AreKept}
use Rattle.live_board.proofs.DirectTicks.{own-tick, rest-due, rest-back}
use Rattle.live_board.proofs.Finished.{finished-none}
use Rattle.live_board.proofs.Grown.{Grows, Any, grows-ticked, slot-same, slot-trans, fills-same, fills-trans, still-occupied}
use Rattle.live_board.proofs.Joined as runs
use Rattle.live_board.proofs.Kept.{kept-grown}
use Rattle.live_board.proofs.Marked.{same-after}
use Rattle.live_board.proofs.Staying.{stays}
use Rattle.live_board.proofs.TimedPart.{shown-same, words-grow}

same-true : (x h : ℕ) → x ≡ h → (x == h) ≡ true
same-true x h e = grind (arith, nat_tests)

other-false : (x h : ℕ) → x ≢ h → (x == h) ≡ false
other-false x h e = grind (arith, nat_tests)

-- what looks and marks show depends on the page numbers and on the accesses
looked-cong : (m k : ℕ) (s t : State) (pages others : List (List Access)) (f g : ℕ → List Access)
    → ((p : ℕ) → number_at t p Sim ≡ number_at s p Sim)
    → ((p : ℕ) → k ≤ p → get_or others (2 * p) [] ≡ get_or pages (2 * p) []) → ((p : ℕ) → k ≤ p → g p ≡ f p)
    → looked_from t others g k m ≡ looked_from s pages f k m
looked-cong zero k s t pages others f g number logs same = refl
looked-cong (suc m) k s t pages others f g number logs same =
    let first = runs.same-explained s t k Sim (g k) (get_or others (2 * k) []) (number k)
    ∙ (λ i. explained s k Sim (same k (omega arith) i) (logs k (omega arith) i)) in
    let rest = looked-cong m (suc k) s t pages others f g number (λ p le. logs p (omega (arith, le)))
    (λ p le. same p (omega (arith, le))) in
    (λ i. first i ++ rest i)

marked-cong : (m k : ℕ) (s t : State) (pages others : List (List Access)) (f g f2 g2 f3 g3 : ℕ → List Access)
    → ((p : ℕ) → number_at t p Sim ≡ number_at s p Sim)
    → ((p : ℕ) → k ≤ p → get_or others (2 * p) [] ≡ get_or pages (2 * p) [])
    → ((p : ℕ) → k ≤ p → g p ≡ f p) → ((p : ℕ) → k ≤ p → g2 p ≡ f2 p) → ((p : ℕ) → k ≤ p → g3 p ≡ f3 p)
    → marked_from t others g g2 g3 k m ≡ marked_from s pages f f2 f3 k m
marked-cong zero k s t pages others f g f2 g2 f3 g3 number logs a b c = refl
marked-cong (suc m) k s t pages others f g f2 g2 f3 g3 number logs a b c =
    let at : k ≤ k = omega arith in
    let last = same-after s t k (g3 k) (g2 k ++ (g k ++ get_or others (2 * k) [])) (number k)
    ∙ (λ i. explained_after s k (c k at i) (b k at i ++ (a k at i ++ logs k at i))) in
    let rest = marked-cong m (suc k) s t pages others f g f2 g2 f3 g3 number (λ p le. logs p (omega (arith, le)))
    (λ p le. a p (omega (arith, le))) (λ p le. b p (omega (arith, le))) (λ p le. c p (omega (arith, le))) in
    (λ i. rest i ++ last i)

tick-grows : (s now : State) (event : Event) (reply : Reply) (notices : List Notice) → IsTick event
    → (now, reply, notices) ≡ step s event → IsSound s → Grows (processors s) Any s now
unfolding step
tick-grows s now event reply notices (moment, e) is sound =
    subst (Grows (processors s) Any s) (sym (ap (λ (o : Outcome). o.0) (is ∙ ap (step s) e)))
    (grows-ticked (processors s) s moment (kept_from_sound s sound))

tick-few : (event : Event) → IsTick event → most_notices event ≤ 192
tick-few event (moment, is) = subst (λ (e : Event). most_notices e ≤ 192) (sym is) (omega arith)

-- no processor is owed an EOM
pub none-owed : (p : ℕ) → has_processor 0 p ≡ false
none-owed p = ap (λ n. n == 1) (bit_at-zero p)

tick-stays : (s now : State) (event : Event) (reply : Reply) (notices : List Notice) → IsTick event → IsSound s
    → (now, reply, notices) ≡ step s event → processors now ≡ processors s
tick-stays s now event reply notices (moment, e) sound is =
    stays s now (Tick moment) reply notices tt sound (is ∙ ap (step s) e)

-- the tick itself
pub tick-base : (s now : State) (k : ℕ) (pages : List (List Access)) (event : Event) (reply : Reply)
    (before after : List Notice) → k ≡ processors s → IsTick event → IsSound s
    → IsStep s event now reply before after → IsTickFrom s k 0 pages event now pages reply 0 before after
unfolding run_of
tick-base s now k pages event reply before after all tick sound one = record {
  looks = λ _. [];
  stores = λ _. [];
  marks = λ _. [];
  emitted = one.emitted;
  notices = one.notices;
  few = omega (arith, one.bound, tick-few event tick);
  posted = λ p le less. absurd (omega (arith, le, less));
  direct = λ p le less. absurd (omega (arith, le, less));
  logs = λ p le less. absurd (omega (arith, le, less));
  lower = λ p _. refl;
  flags = λ p. refl;
  size = refl;
  run = ap (λ (o : Outcome). (o.0, o.1 ∷ [], o.2 ++ [])) (sym one.step)
      ∙ ap (λ (ns : List Notice). (now, reply ∷ [], ns)) (append-nil one.emitted);
  shadow = λ p le less. absurd (omega (arith, le, less));
  regs = g.regs;
  guest = g.pages;
  count = g.count;
  processors = tick-stays s now event reply one.emitted tick sound one.step;
  odd = λ p x low. ap (λ l. word_at l (8 * x)) (g.others (2 * p + 1) (λ may. omega (arith, may.1)));
  slots = λ p i less under full. g.slots p i (omega (arith, less, all)) under full;
  fills = λ p i less under empty. g.fills p i (omega (arith, less, all)) under empty;
  owes = λ p le less. absurd (omega (arith, le, less));
  unowed = λ p _. none-owed p;
  beyond = λ p _. none-owed p;
  still = λ p _ direct. own-tick s now p event reply one.emitted direct sound one.step;
}
  where
    g : Grows (processors s) Any s now
    g = tick-grows s now event reply one.emitted tick one.step sound

-- in the message page of the processor before, the inner tick sets at most MessagePending in occupied slots
pub tick-leaves : (s s1 s2 : State) (v k m : ℕ) (pages pages2 : List (List Access)) (log log1 : List Access)
    (words : List ℕ) (event : Event) (reply : Reply) (owed : ℕ) (before between after : List Notice)
    → v ≡ k → k < processors s
    → IsFirst s v log s1 log1 before between → ((x : ℕ) → x < 512 → get_or words x 0 ≡ word_of s1 (2 * v) x)
    → IsTickFrom s1 (k + 1) m pages event s2 pages2 reply owed between after → HasShape s1 → HasRanges s1
    → HasShape s2 → HasRanges s2 → WordsGrow s2 v words × AreKept s2 v words
tick-leaves s s1 s2 v k m pages pages2 log log1 words event reply owed before between after same less first are
    inner shape ranges shape2 ranges2 = (
      words-grow s1 s2 v words are slots shape ranges on,
      kept-grown s1 s2 v words shape ranges shape2 ranges2 on (omega (arith, on, inner.processors)) are slots
          (λ i under empty. inner.fills v i (omega (arith, same)) under empty),
    )
  where
    on : v < processors s1
    on = omega (arith, same, less, ap processors first.viewed.watched.rest)

    slots : (i : ℕ) → i < 16 → is_slot_empty s1 v i ≡ false → SlotGrows s1 v i s2
    slots i under full = inner.slots v i (omega (arith, same)) under full

-- three runs
run-three : (s s1 s2 s3 : State) (a b c d : List Event) (event : Event) (reply : Reply)
    (first second third : List Notice) → run_of s a ≡ (s1, all_done a, first)
    → run_of s1 (b ++ event ∷ c) ≡ (s2, all_done b ++ reply ∷ all_done c, second)
    → run_of s2 d ≡ (s3, all_done d, third)
    → run_of s ((a ++ b) ++ event ∷ (c ++ d))
    ≡ (s3, all_done (a ++ b) ++ reply ∷ all_done (c ++ d), first ++ (second ++ third))
run-three s s1 s2 s3 a b c d event reply first second third one two three =
    ap (run_of s) events ∙ runs.run-append s a ((b ++ event ∷ c) ++ d)
    ∙ ap (λ (r : Run). runs.joined r (run_of r.0 ((b ++ event ∷ c) ++ d))) one
    ∙ ap (runs.joined (s1, all_done a, first))
    (runs.run-append s1 (b ++ event ∷ c) d ∙ ap (λ (r : Run). runs.joined r (run_of r.0 d)) two
    ∙ ap (runs.joined (s2, all_done b ++ reply ∷ all_done c, second)) three)
    ∙ ap (λ (rs : List Reply). (s3, rs, first ++ (second ++ third))) (sym replies)
  where
    events : ((a ++ b) ++ event ∷ (c ++ d)) ≡ a ++ ((b ++ event ∷ c) ++ d)
    events = append_assoc a b (event ∷ (c ++ d)) ∙ ap (λ l. a ++ l) (sym (append_assoc b (event ∷ c) d))

    replies : (all_done (a ++ b) ++ reply ∷ all_done (c ++ d))
        ≡ all_done a ++ ((all_done b ++ reply ∷ all_done c) ++ all_done d)
    replies =
        (λ i. runs.done-append a b i ++ reply ∷ runs.done-append c d i)
        ∙ append_assoc (all_done a) (all_done b) (reply ∷ (all_done c ++ all_done d))
        ∙ ap (λ l. all_done a ++ l) (sym (append_assoc (all_done b) (reply ∷ all_done c) (all_done d)))

-- what happens at a page before the tick: looks, if a timer in message mode is due there, and nothing otherwise
pub record Begins (s : State) (p : ℕ) (event : Event) (log : List Access) (now : State) (log-now : List Access)
    (before after : List Notice) : Type 0 where
  pub emitted : List Notice
  pub notices : after ≡ before ++ emitted
  pub few : length emitted ≤ 16
  pub watched : IsWatched s p Sim log now log-now emitted
  pub shown : (AreDirectAt s p event → ⊥) → IsShown s p Sim → AreLooks 16 watched.news
  pub hidden : (IsShown s p Sim → ⊥) → watched.news ≡ []
  pub none : AreDirectAt s p event → watched.news ≡ []

begins-first : (s now : State) (p : ℕ) (event : Event) (log log-now : List Access) (before after : List Notice)
    → (AreDirectAt s p event → ⊥) → IsFirst s p log now log-now before after
    → Begins s p event log now log-now before after
begins-first s now p event log log-now before after posted first = record {
  emitted = first.emitted;
  notices = first.notices;
  few = first.viewed.few;
  watched = first.viewed.watched;
  shown = λ _. first.viewed.shown;
  hidden = first.viewed.hidden;
  none = λ direct. absurd (posted direct);
}

begins-none : (s : State) (p : ℕ) (event : Event) (log : List Access) (before : List Notice) → AreDirectAt s p event
    → Begins s p event log s log before before
unfolding unwatched
begins-none s p event log before direct = record {
  emitted = [];
  notices = sym (append-nil before);
  few = omega arith;
  watched = unwatched s p Sim log [] refl;
  shown = λ posted. absurd (posted direct);
  hidden = λ _. refl;
  none = λ _. refl;
}

-- one page more
module _ (s s1 s2 s3 : State) (k m : ℕ) (pages pages2 : List (List Access)) (log1 log3 : List Access) (event : Event)
    (reply : Reply) (owed owed3 : ℕ) (owe : Bool) (before between after2 after3 : List Notice)
    (below : 2 * k < length pages)
    (first : Begins s k event (get_or pages (2 * k) []) s1 log1 before between)
    (inner : IsTickFrom s1 (suc k) m (set pages (2 * k) log1) event s2 pages2 reply owed between after2)
    (last : IsFinished s2 k (get_or pages2 (2 * k) []) s3 log3 owe after2 after3)
    (quiet : AreDirectAt s k event → (last.stores ≡ []) × (last.marks ≡ []))
    (owed-here : has_processor owed3 k ≡ owe)
    (owed-other : (p : ℕ) → p ≢ k → has_processor owed3 p ≡ has_processor owed p) where
  looks : ℕ → List Access
  looks p = if p == k then first.watched.news else inner.looks p

  stores : ℕ → List Access
  stores p = if p == k then last.stores else inner.stores p

  marks : ℕ → List Access
  marks p = if p == k then last.marks else inner.marks p

  apart : (p : ℕ) → p ≢ k → 2 * p ≢ 2 * k
  apart p ne e = ne (omega (arith, e))

  pages1 : List (List Access)
  pages1 = set pages (2 * k) log1

  log-here : get_or pages2 (2 * k) [] ≡ first.watched.news ++ get_or pages (2 * k) []
  unfolding pages1
  log-here = inner.lower k (omega arith) ∙ get_or-set_same pages (2 * k) log1 [] below ∙ first.watched.page

  log-other : (p : ℕ) → p ≢ k → get_or pages1 (2 * p) [] ≡ get_or pages (2 * p) []
  unfolding pages1
  log-other p ne = get_or-set_other pages (2 * k) (2 * p) log1 [] (apart p ne)

  rest-regs : s1.regs ≡ s.regs
  rest-regs = ap (λ (t : State). t.regs) first.watched.rest

  rest-pages : s1.pages ≡ s.pages
  rest-pages = ap (λ (t : State). t.pages) first.watched.rest

  number1 : (p : ℕ) → number_at s1 p Sim ≡ number_at s p Sim
  number1 p = runs.rest-number s s1 p Sim first.watched.rest

  number2 : number_at s2 k Sim ≡ number_at s k Sim
  number2 = ap (λ (rs : List Regs). page_in (get_or rs k reset_regs).sim) (inner.regs ∙ rest-regs)

  are-here : (AreDirectAt s k event → ⊥)
      → AreTimed s k first.watched.news last.stores last.marks (get_or pages (2 * k) [])
  are-here posted = record {
    shown = first.shown posted;
    hidden = λ no. (
      first.hidden no,
      last.hidden (λ shown. no
          (shown-same s2 s k (sym (inner.regs ∙ rest-regs)) (sym (inner.guest ∙ rest-pages)) shown)),
    );
    stored = last.stored;
    placed = subst (λ l. ArePlaced 16 l last.stores) log-here last.placed;
    marked = last.marked;
    careful = λ shown. subst (AreCareful Sim last.stores) log-here
        (last.careful (shown-same s s2 k (inner.regs ∙ rest-regs) (inner.guest ∙ rest-pages) shown));
  }

  are-other : (p : ℕ) → p ≢ k → suc k ≤ p → p < suc k + m → (AreDirectAt s p event → ⊥)
      → AreTimed s p (inner.looks p) (inner.stores p) (inner.marks p) (get_or pages (2 * p) [])
  unfolding pages1
  are-other p ne le less posted =
      let a = inner.posted p le less
      (λ direct. posted (rest-due s1 s p event (rest-back s s1 first.watched.rest) direct)) in
      record {
        shown = λ shown. a.shown (shown-same s s1 p rest-regs rest-pages shown);
        hidden = λ no. a.hidden (λ shown. no (shown-same s1 s p (sym rest-regs) (sym rest-pages) shown));
        stored = a.stored;
        placed = subst (λ l. ArePlaced 16 (inner.looks p ++ l) (inner.stores p)) (log-other p ne) a.placed;
        marked = a.marked;
        careful = λ shown. subst (λ l. AreCareful Sim (inner.stores p) (inner.looks p ++ l)) (log-other p ne)
            (a.careful (shown-same s s1 p rest-regs rest-pages shown));
      }

  are : (p : ℕ) → k ≤ p → p < k + suc m → (AreDirectAt s p event → ⊥)
      → AreTimed s p (looks p) (stores p) (marks p) (get_or pages (2 * p) [])
  unfolding looks stores marks
  are p le less posted = by (cases_eq p k)
    where
      by : (p ≡ k) ⊎ (p ≢ k) → AreTimed s p (if p == k then first.watched.news else inner.looks p)
          (if p == k then last.stores else inner.stores p) (if p == k then last.marks else inner.marks p)
          (get_or pages (2 * p) [])
      by (inl e) =
          subst (λ b. AreTimed s p (if b then first.watched.news else inner.looks p)
          (if b then last.stores else inner.stores p) (if b then last.marks else inner.marks p)
          (get_or pages (2 * p) [])) (sym (same-true p k e))
          (subst (λ q. AreTimed s q first.watched.news last.stores last.marks (get_or pages (2 * q) []))
          (sym e) (are-here (λ direct. posted (subst (λ q. AreDirectAt s q event) (sym e) direct))))
      by (inr ne) =
          subst (λ b. AreTimed s p (if b then first.watched.news else inner.looks p)
          (if b then last.stores else inner.stores p) (if b then last.marks else inner.marks p)
          (get_or pages (2 * p) [])) (sym (other-false p k ne))
          (are-other p ne (omega (arith, le, ne)) (omega (arith, less)) posted)

  abbrev HasLogs : ℕ → Bool → Type 0
  HasLogs q b =
      get_or (set pages2 (2 * k) log3) (2 * q) []
      ≡ (if b then last.marks else inner.marks q)
      ++ ((if b then last.stores else inner.stores q)
      ++ ((if b then first.watched.news else inner.looks q) ++ get_or pages (2 * q) []))

  logs : (p : ℕ) → k ≤ p → p < k + suc m
      → get_or (set pages2 (2 * k) log3) (2 * p) [] ≡ marks p ++ (stores p ++ (looks p ++ get_or pages (2 * p) []))
  unfolding looks stores marks pages1
  logs p le less = by (cases_eq p k)
    where
      by : (p ≡ k) ⊎ (p ≢ k) → HasLogs p (p == k)
      by (inl e) = subst (HasLogs p) (sym (same-true p k e)) (subst (λ q. HasLogs q true) (sym e)
          (get_or-set_same pages2 (2 * k) log3 [] (omega (arith, inner.size, length-set pages (2 * k) log1, below))
          ∙ last.page ∙ ap (λ l. last.marks ++ (last.stores ++ l)) log-here))
      by (inr ne) = subst (HasLogs p) (sym (other-false p k ne))
          (get_or-set_other pages2 (2 * k) (2 * p) log3 [] (apart p ne)
          ∙ inner.logs p (omega (arith, le, ne)) (omega (arith, less))
          ∙ ap (λ l. inner.marks p ++ (inner.stores p ++ (inner.looks p ++ l))) (log-other p ne))

  looks-here : looks k ≡ first.watched.news
  unfolding looks
  looks-here = ap (λ b. if b then first.watched.news else inner.looks k) (same-true k k refl)

  stores-here : stores k ≡ last.stores
  unfolding stores
  stores-here = ap (λ b. if b then last.stores else inner.stores k) (same-true k k refl)

  marks-here : marks k ≡ last.marks
  unfolding marks
  marks-here = ap (λ b. if b then last.marks else inner.marks k) (same-true k k refl)

  looks-other : (p : ℕ) → suc k ≤ p → inner.looks p ≡ looks p
  unfolding looks
  looks-other p le =
      sym (ap (λ b. if b then first.watched.news else inner.looks p)
      (other-false p k (λ e. omega (arith, e, le))))

  stores-other : (p : ℕ) → suc k ≤ p → inner.stores p ≡ stores p
  unfolding stores
  stores-other p le =
      sym (ap (λ b. if b then last.stores else inner.stores p) (other-false p k (λ e. omega (arith, e, le))))

  marks-other : (p : ℕ) → suc k ≤ p → inner.marks p ≡ marks p
  unfolding marks
  marks-other p le =
      sym (ap (λ b. if b then last.marks else inner.marks p) (other-false p k (λ e. omega (arith, e, le))))

  e1 : List Event
  e1 = explained s k Sim first.watched.news (get_or pages (2 * k) [])

  m1 : List Event
  m1 = explained_after s2 k last.marks (last.stores ++ get_or pages2 (2 * k) [])

  looked : looked_from s pages looks k (suc m) ≡ e1 ++ looked_from s1 pages1 inner.looks (suc k) m
  unfolding e1
  looked = (λ i. explained s k Sim (looks-here i) (get_or pages (2 * k) [])
      ++ sym (looked-cong m (suc k) s s1 pages pages1 looks inner.looks number1
      (λ p le. log-other p (λ e. omega (arith, e, le))) looks-other) i)

  marked : marked_from s pages looks stores marks k (suc m)
      ≡ marked_from s1 pages1 inner.looks inner.stores inner.marks (suc k) m ++ m1
  unfolding m1
  marked =
      let here = (λ i. explained_after s k (marks-here i)
      (stores-here i ++ (looks-here i ++ get_or pages (2 * k) [])))
      ∙ ap (λ l. explained_after s k last.marks (last.stores ++ l)) (sym log-here)
      ∙ sym (same-after s s2 k last.marks (last.stores ++ get_or pages2 (2 * k) []) number2) in
      (λ i. sym (marked-cong m
      (suc k) s s1 pages pages1 looks inner.looks stores inner.stores marks inner.marks number1
      (λ p le. log-other p (λ e. omega (arith, e, le))) looks-other stores-other marks-other) i ++ here i)

  run : run_of s (looked_from s pages looks k (suc m) ++ event ∷ marked_from s pages looks stores marks k (suc m))
      ≡ (
        s3,
        all_done (looked_from s pages looks k (suc m))
            ++ reply ∷ all_done (marked_from s pages looks stores marks k (suc m)),
        first.emitted ++ (inner.emitted ++ last.emitted),
      )
  unfolding e1 m1 pages1
  run =
      let le : List Event = looked_from s1 pages1 inner.looks (suc k) m in
      let me : List Event = marked_from s1 pages1 inner.looks inner.stores inner.marks (suc k) m in
      (λ i. run_of s (looked i ++ event ∷ marked i))
      ∙ run-three s s1 s2 s3 e1 le me m1 event reply first.emitted inner.emitted last.emitted first.watched.run
      inner.run last.run
      ∙ (λ i. (
        s3,
        all_done (sym looked i) ++ reply ∷ all_done (sym marked i),
        first.emitted ++ (inner.emitted ++ last.emitted),
      ))

  shadow : (p : ℕ) → k ≤ p → p < k + suc m → IsShadow s3 (2 * p) (get_or (set pages2 (2 * k) log3) (2 * p) [])
  shadow p le less = by (cases_eq p k)
    where
      by : (p ≡ k) ⊎ (p ≢ k) → IsShadow s3 (2 * p) (get_or (set pages2 (2 * k) log3) (2 * p) [])
      by (inl e) = subst (λ q. IsShadow s3 (2 * q) (get_or (set pages2 (2 * k) log3) (2 * q) [])) (sym e)
          (subst (IsShadow s3 (2 * k))
          (sym (get_or-set_same pages2 (2 * k) log3 []
          (omega (arith, inner.size, length-set pages (2 * k) log1, below)))) last.shadow)
      by (inr ne) = subst (IsShadow s3 (2 * p)) (sym (get_or-set_other pages2 (2 * k) (2 * p) log3 [] (apart p ne)))
          (λ x low. inner.shadow p (omega (arith, le, ne)) (omega (arith, less)) x low
          ∙ sym (last.others (2 * p) x low (apart p ne)))

  slots : (p i : ℕ) → p < k → i < 16 → is_slot_empty s p i ≡ false → SlotGrows s p i s3
  slots p i less under full =
      let other : 2 * p ≢ 2 * k = λ e. omega (arith, e, less) in
      let a = slot-same s s1 p i (first.watched.same (2 * p) other) in
      let b = inner.slots p i (omega (arith, less)) under (still-occupied s s1 p i a ∙ full) in
      slot-trans s s2 s3 p i (slot-trans s s1 s2 p i a b) (slot-same s2 s3 p i (last.same (2 * p) other))

  fills : (p i : ℕ) → p < k → i < 16 → is_slot_empty s p i ≡ true → SlotFills s p i s3
  fills p i less under empty =
      let other : 2 * p ≢ 2 * k = λ e. omega (arith, e, less) in
      let a = slot-same s s1 p i (first.watched.same (2 * p) other) in
      let c = last.same (2 * p) other in
      fills-trans s s2 s3 p i empty
      (fills-trans s s1 s2 p i empty (fills-same s s1 p i (first.watched.same (2 * p) other))
      (inner.fills p i (omega (arith, less)) under) (inner.slots p i (omega (arith, less)) under))
      (λ _. fills-same s2 s3 p i c) (λ _. slot-same s2 s3 p i c)

  owes : (p : ℕ) → k ≤ p → p < k + suc m → has_processor owed3 p ≡ finds_empty (marks p)
  unfolding marks
  owes p le less = by (cases_eq p k)
    where
      by : (p ≡ k) ⊎ (p ≢ k)
          → has_processor owed3 p ≡ finds_empty (if p == k then last.marks else inner.marks p)
      by (inl e) =
          ap (has_processor owed3) e ∙ owed-here ∙ last.owes
          ∙ ap (λ b. finds_empty (if b then last.marks else inner.marks p)) (sym (same-true p k e))
      by (inr ne) =
          owed-other p ne ∙ inner.owes p (omega (arith, le, ne)) (omega (arith, less))
          ∙ ap (λ b. finds_empty (if b then last.marks else inner.marks p)) (sym (other-false p k ne))

  still : (p : ℕ) → p < k → AreDirectAt s p event → get_or s3.own (2 * p) [] ≡ get_or s.own (2 * p) []
  still p less direct =
      let other : 2 * p ≢ 2 * k = λ e. omega (arith, e, less) in
      last.same (2 * p) other ∙ inner.still p (omega (arith, less))
      (rest-due s s1 p event first.watched.rest direct) ∙ first.watched.same (2 * p) other

  abbrev AreNone : ℕ → Bool → Type 0
  AreNone p b =
      ((if b then first.watched.news else inner.looks p) ≡ []) × ((if b then last.stores else inner.stores p) ≡ [])
      × ((if b then last.marks else inner.marks p) ≡ [])

  direct : (p : ℕ) → k ≤ p → p < k + suc m → AreDirectAt s p event → (looks p ≡ []) × (stores p ≡ []) × (marks p ≡ [])
  unfolding looks stores marks
  direct p le less at = by (cases_eq p k)
    where
      by : (p ≡ k) ⊎ (p ≢ k) → AreNone p (p == k)
      by (inl e) =
          let here = subst (λ q. AreDirectAt s q event) e at in
          subst (AreNone p) (sym (same-true p k e)) (first.none here, (quiet here).0, (quiet here).1)
      by (inr ne) =
          subst (AreNone p) (sym (other-false p k ne)) (inner.direct p (omega (arith, le, ne)) (omega (arith, less))
          (rest-due s s1 p event first.watched.rest at))

  pub tick-step : IsTickFrom s k (suc m) pages event s3 (set pages2 (2 * k) log3) reply owed3 before after3
  tick-step = record {
    looks = looks;
    stores = stores;
    marks = marks;
    emitted = first.emitted ++ (inner.emitted ++ last.emitted);
    notices = last.notices
        ∙ ap (λ ns. ns ++ last.emitted) (inner.notices ∙ ap (λ ns. ns ++ inner.emitted) first.notices)
        ∙ ap (λ ns. ns ++ last.emitted) (append_assoc before first.emitted inner.emitted)
        ∙ append_assoc before (first.emitted ++ inner.emitted) last.emitted
        ∙ ap (λ ns. before ++ ns) (append_assoc first.emitted inner.emitted last.emitted);
    few = omega (
      arith,
      first.few,
      inner.few,
      last.few,
      length-append first.emitted (inner.emitted ++ last.emitted),
      length-append inner.emitted last.emitted,
    );
    posted = are;
    direct = direct;
    logs = logs;
    lower = λ p less. (let other : 2 * p ≢ 2 * k = λ e. omega (arith, e, less) in
        get_or-set_other pages2 (2 * k) (2 * p) log3 [] other ∙ inner.lower p (omega (arith, less))
        ∙ get_or-set_other pages (2 * k) (2 * p) log1 [] other);
    flags = λ p. (let other : 2 * p + 1 ≢ 2 * k = λ e. omega (arith, e) in
        get_or-set_other pages2 (2 * k) (2 * p + 1) log3 [] other ∙ inner.flags p
        ∙ get_or-set_other pages (2 * k) (2 * p + 1) log1 [] other);
    size = length-set pages2 (2 * k) log3 ∙ inner.size ∙ length-set pages (2 * k) log1;
    run = run;
    shadow = shadow;
    regs = ap (λ (t : State). t.regs) last.rest ∙ inner.regs ∙ rest-regs;
    guest = ap (λ (t : State). t.pages) last.rest ∙ inner.guest ∙ rest-pages;
    count = last.count ∙ inner.count ∙ first.watched.count;
    processors =
        ap (λ (t : State). length t.apics) last.rest ∙ inner.processors
        ∙ ap (λ (t : State). length t.apics) first.watched.rest;
    odd = λ p x low. (let other : 2 * p + 1 ≢ 2 * k = λ e. omega (arith, e) in
        last.others (2 * p + 1) x low other ∙ inner.odd p x low ∙ first.watched.others (2 * p + 1) x low other);
    slots = slots;
    fills = fills;
    owes = owes;
    unowed = λ p less. owed-other p (λ e. omega (arith, e, less)) ∙ inner.unowed p (omega (arith, less));
    beyond = λ p le. owed-other p (λ e. omega (arith, e, le)) ∙ inner.beyond p (omega (arith, le));
    still = still;
  }

-- the same, with the numbers and pages of a call
pub tick-step-at : (s s1 s2 s3 : State) (k m total v i : ℕ) (pages pages2 : List (List Access))
    (page1 page2 log1 log3 : List Access) (event : Event) (reply : Reply) (owed owed3 : ℕ) (owe : Bool)
    (before between after2 after3 : List Notice)
    → v ≡ k → i ≡ 2 * k → page1 ≡ get_or pages (2 * k) [] → page2 ≡ get_or pages2 (2 * k) [] → total ≡ suc m
    → 2 * k < length pages → (AreDirectAt s v event → ⊥) → IsFirst s v page1 s1 log1 before between
    → IsTickFrom s1 (k + 1) m (set pages i log1) event s2 pages2 reply owed between after2
    → IsFinished s2 v page2 s3 log3 owe after2 after3 → has_processor owed3 v ≡ owe
    → ((p : ℕ) → p ≢ v → has_processor owed3 p ≡ has_processor owed p)
    → IsTickFrom s k total pages event s3 (set pages2 i log3) reply owed3 before after3
tick-step-at s s1 s2 s3 k m total v i pages pages2 page1 page2 log1 log3 event reply owed owed3 owe before between
    after2 after3 a b d e f below posted first inner last here other =
    let first-at =
    subst (λ q. IsFirst s q (get_or pages (2 * k) []) s1 log1 before between) a
    (subst (λ l. IsFirst s v l s1 log1 before between) d first) in
    let posted-at : AreDirectAt s k event → ⊥ = λ at. posted (subst (λ q. AreDirectAt s q event) (sym a) at) in
    let inner-at =
    subst (λ n. IsTickFrom s1 n m (set pages (2 * k) log1) event s2 pages2 reply owed between after2)
    (let one : k + 1 ≡ suc k = omega arith in one)
    (subst (λ n. IsTickFrom s1 (k + 1) m (set pages n log1) event s2 pages2 reply owed between after2) b inner) in
    let last-at =
    subst (λ q. IsFinished s2 q (get_or pages2 (2 * k) []) s3 log3 owe after2 after3) a
    (subst (λ l. IsFinished s2 v l s3 log3 owe after2 after3) e last) in
    subst (λ n. IsTickFrom s k n pages event s3 (set pages2 i log3) reply owed3 before after3) (sym f)
    (subst (λ n. IsTickFrom s k (suc m) pages event s3 (set pages2 n log3) reply owed3 before after3)
    (sym b)
    (tick-step s s1 s2 s3 k m pages pages2 log1 log3 event reply owed owed3 owe before between after2 after3 below
    (begins-first s s1 k event _ log1 before between posted-at first-at) inner-at last-at
    (λ at. absurd (posted-at at)) (ap (has_processor owed3) (sym a) ∙ here)
    (λ p ne. other p (λ same. ne (same ∙ a)))))

-- one page more, at which no timer in message mode is due
pub tick-skip : (s s2 : State) (k m total v : ℕ) (pages pages2 : List (List Access)) (event : Event) (reply : Reply)
    (owed : ℕ) (before after : List Notice) → v ≡ k → total ≡ suc m → 2 * k < length pages
    → AreDirectAt s v event → IsShadow s (2 * k) (get_or pages (2 * k) [])
    → IsTickFrom s (k + 1) m pages event s2 pages2 reply owed before after
    → IsTickFrom s k total pages event s2 pages2 reply owed before after
tick-skip s s2 k m total v pages pages2 event reply owed before after a f below direct same inner =
    subst (λ n. IsTickFrom s k n pages event s2 pages2 reply owed before after) (sym f)
    (subst (λ ps. IsTickFrom s k (suc m) pages event s2 ps reply owed before after) (set-get_or pages2 (2 * k) [])
    (tick-step s s s2 s2 k m pages pages2 (get_or pages (2 * k) []) (get_or pages2 (2 * k) []) event reply owed owed
    false before before after after below (begins-none s k event _ before direct-at) inner-at none.0
    (λ _. (none.1, none.2)) (inner-at.unowed k (omega arith)) (λ p ne. refl)))
  where
    direct-at : AreDirectAt s k event
    direct-at = subst (λ q. AreDirectAt s q event) a direct

    inner-at : IsTickFrom s (suc k) m (set pages (2 * k) (get_or pages (2 * k) [])) event s2 pages2 reply owed before
        after
    inner-at = subst (λ ps. IsTickFrom s (suc k) m ps event s2 pages2 reply owed before after)
        (sym (set-get_or pages (2 * k) []))
        (subst (λ n. IsTickFrom s n m pages event s2 pages2 reply owed before after)
        (let one : k + 1 ≡ suc k = omega arith in one) inner)

    shadow : IsShadow s2 (2 * k) (get_or pages2 (2 * k) [])
    shadow x low =
        ap (λ l. known l x) (inner-at.lower k (omega arith)
        ∙ ap (λ ps. get_or ps (2 * k) []) (set-get_or pages (2 * k) [])) ∙ same x low
        ∙ ap (λ l. word_at l (8 * x)) (sym (inner-at.still k (omega arith) direct-at))

    none : (one : IsFinished s2 k (get_or pages2 (2 * k) []) s2 (get_or pages2 (2 * k) []) false after after)
        × (one.stores ≡ []) × (one.marks ≡ [])
    none = finished-none s2 k (get_or pages2 (2 * k) []) after shadow
