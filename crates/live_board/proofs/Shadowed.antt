-- A call on one page of a live board.
use Rattle.std.proofs.Common.{◌≡◌, ◌≢◌, ◌⊎◌, inl, inr, ℕ, ◌+◌, ◌*◌, ◌<◌, Bool, List, [], ◌∷◌, ◌++◌, length, get_or, set, refl, sym, ap, ◌∙◌, subst, arith, length-set, append-nil}
use Rattle.std.specs.Prelude.{None, Some}
use Rattle.event_ports.specs.declared.ports.Port.{Port}
use Rattle.live_board.specs.Signals.{signalled_flag, IsSet, HasSetAt}
use Rattle.std.proofs.lemmas.Bool.{cases_eq}
use Rattle.std.proofs.lemmas.List.{get_or-set_same, get_or-set_other, get_or_default, set-get_or}
use Rattle.arrayvec.specs.ArrayVec.{ArrayVec}
use Rattle.board_terms.specs.declared.notices.Notice.{Notice}
use Rattle.board_terms.specs.declared.pages.Kind.{Kind}
use Rattle.board_terms.specs.declared.pages.Kind.TheVariants as kind
use Rattle.event_ports.specs.Ports.{port_at}
use Rattle.gpa_space.specs.Space.{overlay_of}
use Rattle.synic_board.specs.declared.event.Event.{Event}
use Rattle.synic_board.specs.declared.event.Event.TheVariants.{Post, Signal}
use Rattle.synic_board.specs.declared.event.Event.TheVariants as event
use Rattle.live_board.proofs.Cleared.{clears-known}
use Rattle.synic_board.specs.declared.event.Reply.{Reply}
use Rattle.synic_board.specs.State.{State, BoardModel, ports_of}
use Rattle.synic_board.specs.Effects.{Outcome}
use Rattle.synic_board.specs.Step.{step}
use Rattle.synic_board.specs.Run.{run_of}
use Rattle.live_pages.specs.Words.{known}
use Rattle.live_pages.specs.declared.access.Access.{Access}
use Rattle.live_board.specs.Words.{word_of}
use Rattle.live_board.specs.Live.{LiveModel, Shadows, IsLive, IsQuietly, IsObserved, IsShown, IsTimed, IsReset, HasProbed, log_of}
use Rattle.live_board.specs.Acting.{AccessesOnly, AccessesOnlyAt}
use Rattle.live_board.specs.inside.Parts.{IsShadow, LeavesOthers, IsPart, IsTimedPart, IsViewed, IsResetPart, IsCleared}

-- a board and its pages, without the names of these
abbrev pub live : BoardModel → List (List Access) → LiveModel
live board pages = record { board = board; pages = pages; names = [] }

-- a call on one page keeps the shadow
pub page-shadows : (s now : State) (pages : List (List Access)) (o : ℕ) (log-now : List Access) → o < length s.own
    → Shadows s pages → length now.own ≡ length s.own → LeavesOthers s o now → IsShadow now o log-now
    → Shadows now (set pages o log-now)
page-shadows s now pages o log-now inside h count others shadow = record {
  count = length-set pages o log-now ∙ h.count ∙ sym count;
  few = omega (arith, length-set pages o log-now, h.few);
  words = λ j w low small. by j w (omega (arith, low, count)) small (cases_eq j o);
}
  where
    by : (j w : ℕ) → j < length s.own → w < 512 → (j ≡ o) ⊎ (j ≢ o)
        → known (get_or (set pages o log-now) j []) w ≡ word_of now j w
    by j w low small (inl e) =
        ap (λ n. known (get_or (set pages o log-now) n []) w) e
        ∙ ap (λ l. known l w) (get_or-set_same pages o log-now [] (omega (arith, h.count, inside)))
        ∙ shadow w small ∙ ap (λ n. word_of now n w) (sym e)
    by j w low small (inr ne) =
        ap (λ l. known l w) (get_or-set_other pages o j log-now [] ne) ∙ h.words j w low small
        ∙ sym (others j w small ne)

pub part-shadows : (s now : State) (pages : List (List Access)) (p : ℕ) (k : Kind) (event : Event)
    (log-now : List Access) (reply : Reply) (notices : List Notice) → overlay_of p k < length s.own → Shadows s pages
    → IsPart s p k (get_or pages (overlay_of p k) []) event now log-now reply notices
    → Shadows now (set pages (overlay_of p k) log-now)
part-shadows s now pages p k event log-now reply notices inside h part =
    page-shadows s now pages (overlay_of p k) log-now inside h part.count part.others part.shadow

pub timed-shadows : (s now : State) (pages : List (List Access)) (p : ℕ) (event : Event) (log-now : List Access)
    (reply : Reply) (owed : Bool) (notices : List Notice) → 2 * p < length s.own → Shadows s pages
    → IsTimedPart s p (get_or pages (2 * p) []) event now log-now reply owed notices
    → Shadows now (set pages (2 * p) log-now)
timed-shadows s now pages p event log-now reply owed notices inside h part =
    page-shadows s now pages (2 * p) log-now inside h part.count part.others part.shadow

pub timed-live : (old now : BoardModel) (pages : List (List Access)) (p : ℕ) (event : Event) (log-now : List Access)
    (reply : Reply) (owed : Bool) (notices : List Notice)
    → IsTimedPart old.state p (get_or pages (2 * p) []) event now.state log-now reply owed notices
    → IsTimed p (live old pages) event (live now (set pages (2 * p) log-now)) reply owed notices
timed-live old now pages p event log-now reply owed notices part = record {
  looks = part.looks;
  stores = part.stores;
  marks = part.marks;
  are = part.are;
  pages = ap (set pages (2 * p)) part.page;
  names = refl;
  run = part.run;
  owes = part.owes;
}

-- the same, in terms of the whole board
pub timed-at : (old now : BoardModel) (pages : List (List Access)) (other : LiveModel) (p i : ℕ)
    (log log-now : List Access) (event : Event) (reply : Reply) (owed : Bool) (notices : List Notice)
    → live old pages ≡ other → i ≡ 2 * p → log ≡ get_or pages (2 * p) []
    → IsTimedPart old.state p log event now.state log-now reply owed notices
    → IsTimed p other event (live now (set pages i log-now)) reply owed notices
timed-at old now pages other p i log log-now event reply owed notices is index page part =
    subst (λ m. IsTimed p m event (live now (set pages i log-now)) reply owed notices) is
    (subst (λ n. IsTimed p (live old pages) event (live now (set pages n log-now)) reply owed notices) (sym index)
    (timed-live old now pages p event log-now reply owed notices
    (subst (λ l. IsTimedPart old.state p l event now.state log-now reply owed notices) page part)))

pub part-live : (old now : BoardModel) (pages : List (List Access)) (p : ℕ) (k : Kind) (event : Event)
    (log-now : List Access) (reply : Reply) (notices : List Notice)
    → IsPart old.state p k (get_or pages (overlay_of p k) []) event now.state log-now reply notices
    → IsLive (live old pages) event (live now (set pages (overlay_of p k) log-now)) reply notices
part-live old now pages p k event log-now reply notices part = record {
  vp = p;
  kind = k;
  news = part.news;
  pages = ap (set pages (overlay_of p k)) part.page;
  names = refl;
  run = part.run;
  careful = part.careful;
  within = part.within;
  hidden = part.hidden;
}

-- an event without accesses
pub untouched-live : (old now : BoardModel) (pages : List (List Access)) (event : Event) (reply : Reply)
    (notices : List Notice) → (now.state, reply, notices) ≡ step old.state event
    → IsLive (live old pages) event (live now pages) reply notices
unfolding run_of
untouched-live old now pages event reply notices is = record {
  vp = 0;
  kind = kind.Sim;
  news = [];
  pages = sym (set-get_or pages 0 []);
  names = refl;
  run = ap (λ (o : Outcome). (o.0, o.1 ∷ [], o.2 ++ [])) (sym is)
      ∙ ap (λ (ns : List Notice). (now.state, reply ∷ [], ns)) (append-nil notices);
  careful = λ _. tt;
  within = tt;
  hidden = λ _. refl;
}

pub quiet-live : (old now : LiveModel) (event : Event) (reply : Reply) (notices : List Notice)
    → IsQuietly old event now reply notices → IsLive old event now reply notices
quiet-live old now event reply notices quiet =
    let h = untouched-live old.board now.board old.pages event reply notices quiet.performs.step in record {
      vp = h.vp;
      kind = h.kind;
      news = h.news;
      pages = quiet.pages ∙ h.pages;
      names = quiet.names;
      run = h.run;
      careful = h.careful;
      within = h.within;
      hidden = h.hidden;
    }

pub same-shadows : (s now : State) (pages : List (List Access)) → now.own ≡ s.own → Shadows s pages → Shadows now pages
same-shadows s now pages own h = record {
  count = h.count ∙ sym (ap length own);
  few = h.few;
  words = λ k w low small. h.words k w (omega (arith, low, ap length own)) small
      ∙ ap (λ l. word_of (record s { own = l }) k w) (sym own);
}

pub quietly-at : (old other now : LiveModel) (event : Event) (reply : Reply) (notices : List Notice) → old ≡ other
    → IsQuietly old event now reply notices → IsQuietly other event now reply notices
quietly-at old other now event reply notices is h = subst (λ m. IsQuietly m event now reply notices) is h

-- a post to a port that is not open
pub not-open : (s now : State) (number kind : ℕ) (payload : ArrayVec ℕ) (reply : Reply) (notices : List Notice)
    → port_at (ports_of s) number ≡ None → (now, reply, notices) ≡ step s (Post number kind payload) → now.own ≡ s.own
unfolding step
not-open s now number kind payload reply notices none is = ap (λ (o : Outcome). o.0.own) is ∙ rw none refl

-- a page of a list, whatever is taken where there is none
pub page-at : (pages : List (List Access)) (o : ℕ) (page : List Access) → o < length pages
    → page ≡ get_or pages o page → page ≡ get_or pages o []
page-at pages o page inside is = is ∙ get_or_default pages o page [] inside

pub part-at : (s : State) (p : ℕ) (k : Kind) (log other : List Access) (event : Event) (now : State)
    (log-now : List Access) (reply : Reply) (notices : List Notice) → log ≡ other
    → IsPart s p k log event now log-now reply notices
    → IsPart s p k other event now log-now reply notices
part-at s p k log other event now log-now reply notices is part =
    subst (λ l. IsPart s p k l event now log-now reply notices) is part

pub live-at : (old other now : LiveModel) (event : Event) (reply : Reply) (notices : List Notice) → old ≡ other
    → IsLive old event now reply notices → IsLive other event now reply notices
live-at old other now event reply notices is h = subst (λ m. IsLive m event now reply notices) is h

pub indexed-live : (old now : BoardModel) (pages : List (List Access)) (i o : ℕ) (log-now : List Access)
    (event : Event) (reply : Reply) (notices : List Notice) → i ≡ o
    → IsLive (live old pages) event (live now (set pages o log-now)) reply notices
    → IsLive (live old pages) event (live now (set pages i log-now)) reply notices
indexed-live old now pages i o log-now event reply notices is h =
    subst (λ n. IsLive (live old pages) event (live now (set pages n log-now)) reply notices) (sym is) h

-- a signal to a port that is not open
pub not-signalled : (s now : State) (number flag : ℕ) (reply : Reply) (notices : List Notice)
    → port_at (ports_of s) number ≡ None → (now, reply, notices) ≡ step s (Signal number flag) → now.own ≡ s.own
unfolding step
not-signalled s now number flag reply notices none is = ap (λ (o : Outcome). o.0.own) is ∙ rw none refl

-- a look at the slots of one message page
pub viewed-shadows : (s now : State) (pages : List (List Access)) (p : ℕ) (log-now : List Access)
    (notices : List Notice) → 2 * p < length s.own → Shadows s pages
    → IsViewed s p (get_or pages (2 * p) []) now log-now notices → Shadows now (set pages (2 * p) log-now)
viewed-shadows s now pages p log-now notices inside h v =
    page-shadows s now pages (2 * p) log-now inside h v.watched.count v.watched.others v.shadow

pub viewed-observed : (old now : BoardModel) (pages : List (List Access)) (p : ℕ) (log-now : List Access)
    (notices : List Notice) → IsViewed old.state p (get_or pages (2 * p) []) now.state log-now notices
    → IsObserved p (live old pages) (live now (set pages (2 * p) log-now)) notices
viewed-observed old now pages p log-now notices v = record {
  news = v.watched.news;
  pages = ap (set pages (2 * p)) v.watched.page;
  names = refl;
  shown = v.shown;
  hidden = v.hidden;
  run = v.watched.run;
}

pub viewed-at : (s : State) (p : ℕ) (log other : List Access) (now : State) (log-now : List Access)
    (notices : List Notice) → log ≡ other → IsViewed s p log now log-now notices
    → IsViewed s p other now log-now notices
viewed-at s p log other now log-now notices is v = subst (λ l. IsViewed s p l now log-now notices) is v

pub observed-at : (old other now : LiveModel) (p : ℕ) (notices : List Notice) → old ≡ other
    → IsObserved p old now notices → IsObserved p other now notices
observed-at old other now p notices is h = subst (λ m. IsObserved p m now notices) is h

pub indexed-observed : (old now : BoardModel) (pages : List (List Access)) (i o p : ℕ) (log-now : List Access)
    (notices : List Notice) → i ≡ o → IsObserved p (live old pages) (live now (set pages o log-now)) notices
    → IsObserved p (live old pages) (live now (set pages i log-now)) notices
indexed-observed old now pages i o p log-now notices is h =
    subst (λ n. IsObserved p (live old pages) (live now (set pages n log-now)) notices) (sym is) h

-- what an EOM probed, in terms of the whole board
pub probed-at : (old now : BoardModel) (pages : List (List Access)) (other : LiveModel) (p i : ℕ)
    (log log-now : List Access) → live old pages ≡ other → i ≡ 2 * p → 2 * p < length pages
    → log ≡ get_or pages (2 * p) []
    → (IsShown old.state p kind.Sim → HasProbed old.state p log log-now) → IsShown other.board.state p kind.Sim
    → HasProbed other.board.state p (log_of other p kind.Sim) (log_of (live now (set pages i log-now)) p kind.Sim)
probed-at old now pages other p i log log-now is index inside page h =
    subst (λ m. IsShown m.board.state p kind.Sim
    → HasProbed m.board.state p (log_of m p kind.Sim) (get_or (set pages i log-now) (2 * p) [])) is
    (λ shown. subst (λ l. HasProbed old.state p l (get_or (set pages i log-now) (2 * p) [])) page
    (subst (HasProbed old.state p log) (sym there) (h shown)))
  where
    there : get_or (set pages i log-now) (2 * p) [] ≡ log-now
    there = ap (λ n. get_or (set pages n log-now) (2 * p) []) index ∙ get_or-set_same pages (2 * p) log-now [] inside

-- a signal that was made where the guest sees the page
pub set-seen : (old now : BoardModel) (pages : List (List Access)) (other : LiveModel) (port : Port)
    (number flag place i : ℕ) (log log-now : List Access) (reply : Reply) → live old pages ≡ other
    → i ≡ 2 * port.vp + 1 → 2 * port.vp + 1 < length pages → log ≡ get_or pages (2 * port.vp + 1) []
    → port_at (ports_of old.state) number ≡ Some port → signalled_flag old.state flag port ≡ Some place
    → IsSet port.sint place log log-now reply
    → HasSetAt number flag other (live now (set pages i log-now)) reply
set-seen old now pages other port number flag place i log log-now reply is index inside page opened at set-is =
    subst (λ m. HasSetAt number flag m (live now (set pages i log-now)) reply) is by_any
  where
    same-Some : {A : Type 0} (x y : A) → Some x ≡ Some y → x ≡ y
    same-Some x y e = cc

    there : get_or (set pages i log-now) (2 * port.vp + 1) [] ≡ log-now
    there = ap (λ n. get_or (set pages n log-now) (2 * port.vp + 1) []) index
        ∙ get_or-set_same pages (2 * port.vp + 1) log-now [] inside

    by_any : HasSetAt number flag (live old pages) (live now (set pages i log-now)) reply
    by_any target place' opened' at' shown =
        let same : port ≡ target = same-Some port target (sym opened ∙ opened') in
        subst (λ (t : Port). IsSet t.sint place' (get_or pages (2 * t.vp + 1) [])
        (get_or (set pages i log-now) (2 * t.vp + 1) []) reply) same
        (subst (λ f. IsSet port.sint f (get_or pages (2 * port.vp + 1) [])
        (get_or (set pages i log-now) (2 * port.vp + 1) []) reply)
        (same-Some place place' (sym at ∙ ap (signalled_flag old.state flag) same ∙ at'))
        (subst (λ l. IsSet port.sint place l (get_or (set pages i log-now) (2 * port.vp + 1) []) reply) page
        (subst (λ l. IsSet port.sint place log l reply) (sym there) set-is)))

-- what is said of the page of a port's source, in terms of the whole board
pub port-at : (R : Port → List Access → List Access → Type 0) (old : BoardModel) (pages : List (List Access))
    (number i : ℕ) (port : Port) (log log-now : List Access) → port_at (ports_of old.state) number ≡ Some port
    → i ≡ 2 * port.vp → 2 * port.vp < length pages → log ≡ get_or pages (2 * port.vp) [] → R port log log-now
    → (target : Port) → port_at (ports_of old.state) number ≡ Some target
    → R target (get_or pages (2 * target.vp) []) (get_or (set pages i log-now) (2 * target.vp) [])
port-at R old pages number i port log log-now there-is index inside page h target at =
    subst (λ (t : Port). R t (get_or pages (2 * t.vp) []) (get_or (set pages i log-now) (2 * t.vp) [])) same
    (subst (λ l. R port l (get_or (set pages i log-now) (2 * port.vp) [])) page (subst (R port log) (sym there) h))
  where
    same : port ≡ target
    same = let e : Some port ≡ Some target = sym there-is ∙ at in cc

    there : get_or (set pages i log-now) (2 * port.vp) [] ≡ log-now
    there = ap (λ n. get_or (set pages n log-now) (2 * port.vp) []) index
        ∙ get_or-set_same pages (2 * port.vp) log-now [] inside

-- no other page than one of a processor
pub only-here : (old now : BoardModel) (pages : List (List Access)) (p i : ℕ) (k : Kind) (log-now : List Access)
    → i ≡ overlay_of p k → AccessesOnlyAt p k (live old pages) (live now (set pages i log-now))
only-here old now pages p i k log-now index j ne = get_or-set_other pages i j log-now [] (λ e. ne (e ∙ index))

-- no other page than that of a port's source
pub only-at : (old now : BoardModel) (pages : List (List Access)) (number i : ℕ) (k : Kind) (port : Port)
    (log-now : List Access) → port_at (ports_of old.state) number ≡ Some port → i ≡ overlay_of port.vp k
    → AccessesOnly number k (live old pages) (live now (set pages i log-now))
only-at old now pages number i k port log-now there-is index = (
  (λ target at. only-here old now pages target.vp i k log-now
      (index ∙ ap (λ (t : Port). overlay_of t.vp k) (same target at))),
  (λ none. absurd (let e : Some port ≡ None = sym there-is ∙ none in cc)),
)
  where
    same : (target : Port) → port_at (ports_of old.state) number ≡ Some target → port ≡ target
    same target at = let e : Some port ≡ Some target = sym there-is ∙ at in cc

pub only-none : (old now : BoardModel) (pages : List (List Access)) (number : ℕ) (k : Kind)
    → port_at (ports_of old.state) number ≡ None → AccessesOnly number k (live old pages) (live now pages)
only-none old now pages number k none = (
  (λ target at. absurd (let e : Some target ≡ None = sym at ∙ none in cc)),
  (λ _. refl),
)

-- a reset keeps the shadow
pub reset-shadows : (s now : State) (pages : List (List Access)) (p i j : ℕ) (page1 page2 log1 log2 : List Access)
    (event : Event) (reply : Reply) (notices : List Notice) → i ≡ 2 * p → j ≡ 2 * p + 1 → 2 * p + 1 < length s.own
    → Shadows s pages
    → IsResetPart s p page1 event now log1 reply notices → IsCleared 512 page2 log2
    → Shadows now (set (set pages i log1) j log2)
reset-shadows s now pages p i j page1 page2 log1 log2 event reply notices a b inside h part c =
    subst (λ n. Shadows now (set (set pages n log1) j log2)) (sym a)
    (subst (λ n. Shadows now (set (set pages (2 * p) log1) n log2)) (sym b) (record {
      count = length-set pages1 (2 * p + 1) log2 ∙ length-set pages (2 * p) log1 ∙ h.count ∙ sym part.count;
      few = omega (arith, length-set pages1 (2 * p + 1) log2, length-set pages (2 * p) log1, h.few);
      words = λ k w low small.
          by k w (omega (arith, low, part.count)) small (cases_eq k (2 * p)) (cases_eq k (2 * p + 1));
    }))
  where
    pages1 : List (List Access)
    pages1 = set pages (2 * p) log1

    size : 2 * p + 1 < length pages
    size = omega (arith, inside, h.count)

    by : (k w : ℕ) → k < length s.own → w < 512 → (k ≡ 2 * p) ⊎ (k ≢ 2 * p) → (k ≡ 2 * p + 1) ⊎ (k ≢ 2 * p + 1)
        → known (get_or (set (set pages (2 * p) log1) (2 * p + 1) log2) k []) w ≡ word_of now k w
    by k w low small which (inl e) =
        ap (λ n. known (get_or (set pages1 (2 * p + 1) log2) n []) w) e
        ∙ ap (λ l. known l w) (get_or-set_same pages1 (2 * p + 1) log2 []
        (omega (arith, size, length-set pages (2 * p) log1)) ∙ c.page)
        ∙ clears-known 512 c.news page2 c.clears w small ∙ sym (part.flags w small) ∙ ap (λ n. word_of now n w) (sym e)
    by k w low small (inl e) (inr other) =
        ap (λ l. known l w) (get_or-set_other pages1 (2 * p + 1) k log2 [] other)
        ∙ ap (λ n. known (get_or pages1 n []) w) e
        ∙ ap (λ l. known l w) (get_or-set_same pages (2 * p) log1 [] (omega (arith, size)))
        ∙ part.shadow w small ∙ ap (λ n. word_of now n w) (sym e)
    by k w low small (inr ne) (inr other) =
        ap (λ l. known l w) (get_or-set_other pages1 (2 * p + 1) k log2 [] other
        ∙ get_or-set_other pages (2 * p) k log1 [] ne) ∙ h.words k w low small ∙ sym (part.others k w small ne other)

pub reset-at : (old now : BoardModel) (pages : List (List Access)) (other : LiveModel) (p i j n : ℕ)
    (page1 page2 log1 log2 : List Access) (reply : Reply) (notices : List Notice) → live old pages ≡ other → i ≡ 2 * p
    → j ≡ 2 * p + 1 → n ≡ p
    → page1 ≡ get_or pages (2 * p) [] → page2 ≡ get_or pages (2 * p + 1) []
    → IsResetPart old.state p page1 (event.Reset n) now.state log1 reply notices → IsCleared 512 page2 log2
    → IsReset p other (live now (set (set pages i log1) j log2)) reply notices
reset-at old now pages other p i j n page1 page2 log1 log2 reply notices is a b c d e part-there clear-there =
    subst (λ m. IsReset p m (live now (set (set pages i log1) j log2)) reply notices) is (record {
      looks = part.looks;
      messages = part.messages;
      flags = clear.news;
      shown = part.shown;
      hidden = part.hidden;
      clears = (part.clears, clear.clears);
      pages = (λ k. set (set pages (a k) (part.page k)) (b k) (clear.page k));
      names = refl;
      run = part.run;
    })
  where
    part : IsResetPart old.state p (get_or pages (2 * p) []) (event.Reset p) now.state log1 reply notices
    part = subst (λ m. IsResetPart old.state p (get_or pages (2 * p) []) (event.Reset m) now.state log1 reply notices)
        c (subst (λ l. IsResetPart old.state p l (event.Reset n) now.state log1 reply notices) d part-there)

    clear : IsCleared 512 (get_or pages (2 * p + 1) []) log2
    clear = subst (λ l. IsCleared 512 l log2) e clear-there
