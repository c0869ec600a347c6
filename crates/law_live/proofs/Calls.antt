-- Events on a live page of one processor leave another alone.
use Rattle.std.proofs.Common.{◌≡◌, ◌≢◌, inl, inr, ℕ, ◌+◌, ◌*◌, ◌<◌, Bool, true, false, List, [], ◌∷◌, ◌++◌, length, get_or, set, refl, sym, ap, ◌∙◌, subst, arith, All, length-set}
use Rattle.std.proofs.lemmas.Bool.{cases_eq}
use Rattle.std.proofs.lemmas.List.{append_cancel_right, get_or-set_same, get_or-set_other}
use Rattle.std.proofs.lemmas.List.Elements.{All-append, All-cons, All-nil}
use Rattle.board_terms.specs.declared.notices.Notice.{Notice}
use Rattle.board_terms.specs.declared.pages.Kind.{Kind}
use Rattle.board_terms.specs.declared.pages.Kind.TheVariants.{Sim, Sief}
use Rattle.gpa_space.specs.Space.{overlay_of}
use Rattle.synic_board.specs.declared.event.Event.{Event}
use Rattle.synic_board.specs.declared.event.Event.TheVariants.{Write}
use Rattle.synic_board.specs.declared.event.Reply.{Reply}
use Rattle.synic_board.specs.Effects.{Outcome}
use Rattle.synic_board.specs.Run.{Run, run_of}
use Rattle.synic_board.specs.Sound.{IsSound, PayloadFits}
use Rattle.synic_board.specs.State.{State, processors}
use Rattle.synic_board.specs.Step.{step}
use Rattle.live_pages.specs.declared.access.Access.{Access}
use Rattle.live_board.specs.Acting.{AccessesOnlyAt}
use Rattle.live_board.specs.Live.{LiveModel, IsLive, IsQuietly, IsTimed, number_at, log_of, explained, explained_after}
use Rattle.live_board.specs.Timers.{is_timer_write}
use Rattle.live_board.proofs.Grown.{Grows, Only}
use Rattle.live_board.proofs.Guests.{Rest, guest-stores, late-stores, fits-all, kept-by, looks-of}
use Rattle.live_board.proofs.Joined.{rest-number, rest-shown}
use Rattle.live_board.proofs.TimedPart.{timer-grows, shown-same}
use Rattle.law_processors.specs.Isolation.{Keeps, Untouched, processor_of, touches}
use Rattle.law_processors.proofs.Isolated.{keeps-itself, keeps-then}
use Rattle.law_processors.proofs.Isolating.{leaves-alone, runs_alone}
use Rattle.law_live.specs.Alone.{IsLeftAlone}
use Rattle.law_live.proofs.Stores.{IsOfPage, untouched-append, none-touched, looked-elsewhere, marked-elsewhere, shows-none, page-within, not-same}

-- a run that does not touch the processor, and accesses none of its pages
pub alone-run : (q : ℕ) (old now : LiveModel) (es : List Event) (replies : List Reply) (notices : List Notice)
    → IsSound old.board.state → All PayloadFits es → Untouched old.board.state es q
    → run_of old.board.state es ≡ (now.board.state, replies, notices)
    → ((kind : Kind) → log_of now q kind ≡ log_of old q kind) → length now.pages ≡ length old.pages
    → IsLeftAlone q old now notices
alone-run q old now es replies notices sound fits apart is pages count =
    let h = runs_alone old.board.state es q fits sound apart in
    record {
      state = subst (λ (r : Run). Keeps q old.board.state r.0) is h.state;
      silent = subst (λ (r : Run). All (λ notice. processor_of notice ≢ q) r.2) is h.notices;
      pages = pages;
      count = count;
    }

pub alone-same : (q : ℕ) (old now : LiveModel) (notices : List Notice) → now ≡ old → notices ≡ []
    → IsLeftAlone q old now notices
alone-same q old now notices same none = record {
  state = subst (λ (m : LiveModel). Keeps q old.board.state m.board.state) (sym same)
      (keeps-itself q old.board.state);
  silent = subst (All (λ notice. processor_of notice ≢ q)) (sym none) (All-nil (λ notice. processor_of notice ≢ q));
  pages = λ kind. ap (λ (m : LiveModel). log_of m q kind) same;
  count = ap (λ (m : LiveModel). length m.pages) same;
}

pub alone-then : (q : ℕ) (old mid now : LiveModel) (first last : List Notice) → IsLeftAlone q old mid first
    → IsLeftAlone q mid now last → IsLeftAlone q old now (first ++ last)
alone-then q old mid now first last a b = record {
  state = keeps-then q old.board.state mid.board.state now.board.state a.state b.state;
  silent = All-append (λ notice. processor_of notice ≢ q) first last a.silent b.silent;
  pages = λ kind. b.pages kind ∙ a.pages kind;
  count = b.count ∙ a.count;
}

pub alone-quiet : (q : ℕ) (old now : LiveModel) (event : Event) (reply : Reply) (notices : List Notice)
    → IsSound old.board.state → touches old.board.state event q ≡ false → IsQuietly old event now reply notices
    → IsLeftAlone q old now notices
alone-quiet q old now event reply notices sound apart quiet =
    let h = leaves-alone old.board.state event q sound apart in
    record {
      state = subst (λ (o : Outcome). Keeps q old.board.state o.0) (sym quiet.performs.step) h.state;
      silent = subst (λ (o : Outcome). All (λ notice. processor_of notice ≢ q) o.2) (sym quiet.performs.step)
          h.notices;
      pages = λ kind. ap (λ (ps : List (List Access)). get_or ps (overlay_of q kind) []) quiet.pages;
      count = ap (λ (ps : List (List Access)). length ps) quiet.pages;
    }

-- overlays of two processors
pub other-overlay : (p q : ℕ) (a b : Kind) → p ≢ q → overlay_of q b ≢ overlay_of p a
other-overlay p q Sim Sim ne e = ne (omega (arith, e))
other-overlay p q Sim Sief ne e = ne (omega (arith, e))
other-overlay p q Sief Sim ne e = ne (omega (arith, e))
other-overlay p q Sief Sief ne e = ne (omega (arith, e))

pub overlay-low : (q n : ℕ) (kind : Kind) → 2 * q + 1 < n → overlay_of q kind < n
overlay-low q n Sim low = omega (arith, low)
overlay-low q n Sief low = omega (arith, low)

-- accesses to one page of another processor
pub set-beside : (p q : ℕ) (k kind : Kind) (old now : LiveModel) (log : List Access)
    → now.pages ≡ set old.pages (overlay_of p k) log → p ≢ q → log_of now q kind ≡ log_of old q kind
set-beside p q k kind old now log is ne =
    ap (λ (ps : List (List Access)). get_or ps (overlay_of q kind) []) is
    ∙ get_or-set_other old.pages (overlay_of p k) (overlay_of q kind) log [] (other-overlay p q k kind ne)

pub only-beside : (p q : ℕ) (k kind : Kind) (old now : LiveModel) → p ≢ q → AccessesOnlyAt p k old now
    → log_of now q kind ≡ log_of old q kind
only-beside p q k kind old now ne only = only (overlay_of q kind) (other-overlay p q k kind ne)

-- an event with accesses to one page, which is not one of the processor's
pub alone-live : (q : ℕ) (old now : LiveModel) (event : Event) (reply : Reply) (notices : List Notice)
    → IsSound old.board.state → PayloadFits event → 2 * q + 1 < length old.pages
    → IsLive old event now reply notices → ((kind : Kind) → log_of now q kind ≡ log_of old q kind)
    → ((t : State) → Rest old.board.state t → touches t event q ≡ false) → IsLeftAlone q old now notices
alone-live q old now event reply notices sound fits size live pages apart =
    alone-run q old now (es ++ event ∷ []) _ notices sound
    (All-append PayloadFits es (event ∷ [])
    (fits-all s live.vp live.kind es (guest-stores s live.vp live.kind live.news log))
    (All-cons PayloadFits event [] fits (All-nil PayloadFits)))
    (untouched-append es (event ∷ []) s q first.0 (apart (run_of s es).0 first.1, tt)) live.run pages
    (ap (λ (ps : List (List Access)). length ps) live.pages
    ∙ length-set old.pages (overlay_of live.vp live.kind) (live.news ++ log))
  where
    s : State
    s = old.board.state

    log : List Access
    log = log_of old live.vp live.kind

    es : List Event
    es = explained s live.vp live.kind live.news log

    own : live.vp ≡ q → live.news ≡ []
    own e =
        let low : overlay_of live.vp live.kind < length old.pages =
        overlay-low live.vp (length old.pages) live.kind (subst (λ n. 2 * n + 1 < length old.pages) (sym e) size) in
        let there : log_of now live.vp live.kind ≡ live.news ++ log =
        ap (λ (ps : List (List Access)). get_or ps (overlay_of live.vp live.kind) []) live.pages
        ∙ get_or-set_same old.pages (overlay_of live.vp live.kind) (live.news ++ log) [] low in
        append_cancel_right live.news [] log (sym there
        ∙ subst (λ n. log_of now n live.kind ≡ log_of old n live.kind) (sym e) (pages live.kind))

    first : Untouched s es q × Rest s (run_of s es).0
    first = elim (cases_eq live.vp q) as (λ _. Untouched s es q × Rest s (run_of s es).0) [
      | inl e ↦ none-touched s es q (shows-none s live.vp live.kind live.news log (own e))
      | inr ne ↦ looked-elsewhere s s live.vp q live.kind live.news log refl ne (λ _. live.within) live.hidden
    ]

-- a write of a timer of another processor
pub alone-timed : (p q number value : ℕ) (old now : LiveModel) (reply : Reply) (owed : Bool) (notices : List Notice)
    → IsSound old.board.state → p ≢ q → p < processors old.board.state
    → is_timer_write (Write p number value) ≡ true → IsTimed p old (Write p number value) now reply owed notices
    → IsLeftAlone q old now notices
alone-timed p q number value old now reply owed notices sound ne on timer t =
    alone-run q old now (before ++ event ∷ after) _ notices sound
    (All-append PayloadFits before (event ∷ after)
    (fits-all s p Sim before (guest-stores s p Sim t.looks (log_of old p Sim)))
    (All-cons PayloadFits event after tt (fits-all s p Sim after (late-stores s p t.marks rest))))
    (untouched-append before (event ∷ after) s q first.0 (not-same p q ne, last.0)) t.run
    (λ kind. set-beside p q Sim kind old now (t.marks ++ rest) t.pages ne)
    (ap (λ (ps : List (List Access)). length ps) t.pages ∙ length-set old.pages (2 * p) (t.marks ++ rest))
  where
    s : State
    s = old.board.state

    event : Event
    event = Write p number value

    rest : List Access
    rest = t.stores ++ (t.looks ++ log_of old p Sim)

    before : List Event
    before = explained s p Sim t.looks (log_of old p Sim)

    after : List Event
    after = explained_after s p t.marks rest

    first : Untouched s before q × Rest s (run_of s before).0
    first = looked-elsewhere s s p q Sim t.looks (log_of old p Sim) refl ne
        (λ shown. page-within t.looks (looks-of 16 t.looks (omega arith) (t.are.shown shown)))
        (λ no. shows-none s p Sim t.looks (log_of old p Sim) (t.are.hidden no).0)

    mid : State
    mid = (run_of s before).0

    mid-sound : IsSound mid
    mid-sound = (kept-by s mid before (run_of s before).1 (run_of s before).2
        (fits-all s p Sim before (guest-stores s p Sim t.looks (log_of old p Sim))) sound refl).0

    end : State
    end = (step mid event).0

    grows : Grows (processors mid) (Only p) mid end
    grows = timer-grows mid end p event (step mid event).1 (step mid event).2
        (subst (λ n. p < n) (sym (ap processors first.1)) on, refl, timer) refl mid-sound

    page : IsOfPage s q p t.looks t.marks
    page = record {
      shown = λ shown. looks-of 16 t.looks (omega arith) (t.are.shown shown);
      hidden = t.are.hidden;
      marked = t.are.marked;
      own = λ e. absurd (ne e);
    }

    last : Untouched end after q × Rest end (run_of end after).0
    last = marked-elsewhere s end q p t.looks t.marks rest
        ((λ k. number_at (record mid { regs = grows.regs k }) p Sim) ∙ rest-number s mid p Sim first.1)
        (λ shown. shown-same mid end p grows.regs grows.pages (rest-shown s mid p Sim first.1 shown)) page
