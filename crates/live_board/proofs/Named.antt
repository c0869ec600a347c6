-- A live board's pages: the accesses to each, and its name, which no call changes.
use Rattle.live_board.specs.Words.{word_of}
use Rattle.std.proofs.lemmas.Bool.{cases_eq}
use Rattle.board_terms.specs.declared.pages.Kind.{Kind}
use Rattle.gpa_space.specs.Space.{overlay_of}
use Rattle.std.specs.Prelude.{slice_get, Some}
use Rattle.std.proofs.lemmas.Option.{slice_get_within}
use Rattle.std.proofs.Common.{◌≡◌, ℕ, ◌<◌, Bool, List, length, get_or, set, refl, sym, ap, ◌∙◌, subst, arith, [], inl, inr, ◌+◌, ◌*◌, ◌∷◌, ◌++◌, ◌≤◌, length-append}
use Rattle.std.proofs.lemmas.List.{map-set, get_or-map, length-map, map-append, get_or_append_left}
use Rattle.std.proofs.Math.Seq.{map-set_same, get_or-append_seam}
use Rattle.atomic_table.specs.Seated.{TableId}
use Rattle.board_terms.specs.declared.notices.Notice.{Notice}
use Rattle.synic_board.specs.declared.event.Event.{Event}
use Rattle.synic_board.specs.declared.event.Reply.{Reply}
use Rattle.synic_board.specs.State.{State, BoardModel}
use Rattle.live_pages.specs.Page.{Page, GuestModel, guest_of}
use Rattle.live_pages.specs.Words.{known}
use Rattle.board_terms.specs.declared.pages.Kind.TheVariants.{Sim}
use Rattle.live_board.specs.Acting.{HasLookedAt, HasPlacedAt, AccessesOnly, AccessesOnlyAt}
use Rattle.live_board.specs.Signals.{HasSetAt}
use Rattle.live_board.specs.Live.{LiveModel, Shadows, log_of, IsShown, HasProbed, IsLive, IsQuietly, IsTimed, IsTicked, IsReset, IsObserved, guests_of}
use Rattle.live_board.specs.inside.Pages.{logs_of, names_of}
use Rattle.live_board.specs.Refreshing.{IsRefreshed}
use Rattle.live_board.specs.inside.Parts.{IsShadow, IsCopied, AreCopied}
use Rattle.live_board.proofs.Shadowed.{live}

pub logged : {p q : Page} → p ≡ q → p.log ≡ q.log
logged e = ap (λ (p : Page). p.log) e

-- the value of a live board
abbrev pub model : BoardModel → List Page → LiveModel
model board items = record { board = board; pages = logs_of items; names = names_of items }

-- without the names
abbrev pub bare : LiveModel → LiveModel
bare m = live m.board m.pages

-- a relation of two values that says nothing of names but that they stay
pub record Carries (R : LiveModel → LiveModel → Type 0) : Type 0 where
  pub named : (old now : LiveModel) → now.names ≡ old.names → R (bare old) (bare now) → R old now

pub length-logs : (items : List Page) → length (logs_of items) ≡ length items
length-logs items = length-map items (λ (p : Page). p.log)

pub log-at : (items : List Page) (o : ℕ) (page : Page) → o < length (logs_of items) → page ≡ get_or items o page
    → page.log ≡ get_or (logs_of items) o []
log-at items o page inside is =
    logged is ∙ sym (get_or-map (λ (p : Page). p.log) items o page [] (omega (
      arith,
      inside,
      length-map items
          (λ (p : Page). p.log),
    )))

pub shadow-at : (s : State) (items : List Page) (o : ℕ) (page : Page) → o < length s.own → Shadows s (logs_of items)
    → page ≡ get_or items o page → IsShadow s o page.log
shadow-at s items o page inside h is w small =
    ap (λ l. known l w) (log-at items o page (omega (arith, inside, h.count)) is) ∙ h.words o w inside small

pub shadows-set : (s : State) (items : List Page) (i : ℕ) (page : Page) → Shadows s (set (logs_of items) i page.log)
    → Shadows s (logs_of (set items i page))
shadows-set s items i page h = subst (Shadows s) (sym (map-set (λ (p : Page). p.log) items i page)) h

pub shadows-set-twice : (s : State) (items : List Page) (i j : ℕ) (page page2 : Page)
    → Shadows s (set (set (logs_of items) i page.log) j page2.log)
    → Shadows s (logs_of (set (set items i page) j page2))
shadows-set-twice s items i j page page2 h =
    shadows-set s (set items i page) j page2
    (subst (λ ps. Shadows s (set ps j page2.log)) (sym (map-set (λ (p : Page). p.log) items i page)) h)

-- the pages of a new live board
pub copied-more : (s : State) (k : ℕ) (pages now : List Page) (guests guests-now : List GuestModel)
    → AreCopied s k pages guests → IsCopied s k pages guests now guests-now → AreCopied s (k + 1) now guests-now
copied-more s k pages now guests guests-now are (page, is, guest, shadow) =
    subst (λ gs. AreCopied s (k + 1) now gs) (sym guest)
    (subst (λ ps. AreCopied s (k + 1) ps (guests ++ guest_of page.name [] ∷ [])) (sym is)
    (length-append pages (page ∷ []) ∙ ap (λ n. n + 1) are.0, by, ended))
  where
    size : length (logs_of pages) ≡ k
    size = length-logs pages ∙ are.0

    split : logs_of (pages ++ page ∷ []) ≡ logs_of pages ++ page.log ∷ []
    split = map-append (λ (p : Page). p.log) pages (page ∷ [])

    by : (j w : ℕ) → j < k + 1 → w < 512 → known (get_or (logs_of (pages ++ page ∷ [])) j []) w ≡ word_of s j w
    by j w low small = elim (cases_eq j k) [
      | inl e ↦
          ap (λ n. known (get_or (logs_of (pages ++ page ∷ [])) n []) w) (e ∙ sym size)
          ∙ ap (λ ps. known (get_or ps (length (logs_of pages)) []) w) split
          ∙ ap (λ l. known l w) (get_or-append_seam (logs_of pages) page.log [] [])
          ∙ shadow w small ∙ ap (λ n. word_of s n w) (sym e)
      | inr ne ↦
          ap (λ ps. known (get_or ps j []) w) split
          ∙ ap (λ l. known l w) (get_or_append_left (logs_of pages) (page.log ∷ []) [] j (omega (arith, low, ne, size)))
          ∙ are.1 j w (omega (arith, low, ne)) small
    ]

    ended : guests ++ guest_of page.name [] ∷ [] ≡ guests_of (names_of (pages ++ page ∷ []))
    ended = ap (λ gs. gs ++ guest_of page.name [] ∷ []) are.2
        ∙ sym (map-append (λ (name : TableId). guest_of name []) (names_of pages) (page.name ∷ []))
        ∙ ap guests_of (sym (map-append (λ (p : Page). p.name) pages (page ∷ [])))

pub copied-pair : (s : State) (n i j : ℕ) (pages mid now : List Page)
    (guests guests-mid guests-now : List GuestModel) → AreCopied s (2 * n) pages guests → i ≡ 2 * n
    → j ≡ 2 * n + 1 → IsCopied s i pages guests mid guests-mid → IsCopied s j mid guests-mid now guests-now
    → AreCopied s (2 * (n + 1)) now guests-now
copied-pair s n i j pages mid now guests guests-mid guests-now are a b one two =
    subst (λ k. AreCopied s k now guests-now) (let e : 2 * n + 1 + 1 ≡ 2 * (n + 1) = omega arith in e)
    (copied-more s (2 * n + 1) mid now guests-mid guests-now
    (copied-more s (2 * n) pages mid guests guests-mid are
    (subst (λ k. IsCopied s k pages guests mid guests-mid) a one))
    (subst (λ k. IsCopied s k mid guests-mid now guests-now) b two))

pub copied-shadows : (s : State) (k : ℕ) (pages : List Page) (guests : List GuestModel) → AreCopied s k pages guests
    → k ≡ length s.own → k ≤ 128 → Shadows s (logs_of pages)
copied-shadows s k pages guests are all few = record {
  count = length-logs pages ∙ are.0 ∙ all;
  few = omega (arith, length-logs pages, are.0, few);
  words = λ j w low small. are.1 j w (omega (arith, low, all)) small;
}

-- the log of the page of a guest
pub own-log : (board : BoardModel) (items : List Page) (other : LiveModel) (p : ℕ) (k : Kind) (i : ℕ) (page : Page)
    (name : TableId) → model board items ≡ other → slice_get other.names (overlay_of p k) ≡ Some name
    → i ≡ overlay_of p k → page ≡ get_or items i page → page.log ≡ log_of other p k
own-log board items other p k i page name is own at there =
    log-at items (overlay_of p k) page inside (there ∙ ap (λ n. get_or items n page) at)
    ∙ ap (λ (m : LiveModel). log_of m p k) is
  where
    inside : overlay_of p k < length (logs_of items)
    inside =
        let named : overlay_of p k < length (names_of items) =
        slice_get_within (names_of items) (overlay_of p k) name
        (ap (λ (m : LiveModel). slice_get m.names (overlay_of p k)) is ∙ own) in
        omega (arith, named, length-map items (λ (p : Page). p.name), length-logs items)

-- a call that leaves the pages
pub same-at : {R : LiveModel → LiveModel → Type 0} → Carries R → (old now : BoardModel) (items : List Page)
    (other : LiveModel) → model old items ≡ other → R (live old (logs_of items)) (live now (logs_of items))
    → R other (model now items)
same-at {R} c old now items other is h =
    subst (λ m. R m (model now items)) is (c.named (model old items) (model now items) refl h)

pub names-set : (items : List Page) (i : ℕ) (page new : Page) → page ≡ get_or items i page → new.name ≡ page.name
    → names_of (set items i new) ≡ names_of items
names-set items i page new there name =
    map-set_same (λ (p : Page). p.name) items i new page (name ∙ ap (λ (p : Page). p.name) there)

pub logs-set : (items : List Page) (i : ℕ) (new : Page) → logs_of (set items i new) ≡ set (logs_of items) i new.log
logs-set items i new = map-set (λ (p : Page). p.log) items i new

-- a call on one page
pub set-at : {R : LiveModel → LiveModel → Type 0} → Carries R → (old now : BoardModel) (items : List Page)
    (other : LiveModel) (i : ℕ) (page new : Page) → model old items ≡ other → page ≡ get_or items i page
    → new.name ≡ page.name → R (live old (logs_of items)) (live now (set (logs_of items) i new.log))
    → R other (model now (set items i new))
set-at {R} c old now items other i page new is there name h =
    subst (λ m. R m (model now (set items i new))) is
    (c.named (model old items) (model now (set items i new)) (names-set items i page new there name)
    (subst (λ ps. R (live old (logs_of items)) (live now ps)) (sym (logs-set items i new)) h))

-- a call on two pages
pub set-twice-at : {R : LiveModel → LiveModel → Type 0} → Carries R → (old now : BoardModel) (items : List Page)
    (other : LiveModel) (i j : ℕ) (page new page2 new2 : Page) → model old items ≡ other
    → page ≡ get_or items i page → new.name ≡ page.name → page2 ≡ get_or (set items i new) j page2
    → new2.name ≡ page2.name
    → R (live old (logs_of items)) (live now (set (set (logs_of items) i new.log) j new2.log))
    → R other (model now (set (set items i new) j new2))
set-twice-at {R} c old now items other i j page new page2 new2 is there name there2 name2 h =
    subst (λ m. R m (model now (set (set items i new) j new2))) is
    (c.named (model old items) (model now (set (set items i new) j new2))
    (names-set (set items i new) j page2 new2 there2 name2 ∙ names-set items i page new there name)
    (subst (λ ps. R (live old (logs_of items)) (live now ps))
    (sym (logs-set (set items i new) j new2 ∙ ap (λ ps. set ps j new2.log) (logs-set items i new))) h))

-- a call on any pages
pub all-at : {R : LiveModel → LiveModel → Type 0} → Carries R → (old now : BoardModel) (items new : List Page)
    (other : LiveModel) → model old items ≡ other → names_of new ≡ names_of items
    → R (live old (logs_of items)) (live now (logs_of new)) → R other (model now new)
all-at {R} c old now items new other is names h =
    subst (λ m. R m (model now new)) is (c.named (model old items) (model now new) names h)

pub live-named : (event : Event) (reply : Reply) (notices : List Notice)
    → Carries (λ old now. IsLive old event now reply notices)
live-named event reply notices = record {
  named = λ old now names h. record {
    vp = h.vp;
    kind = h.kind;
    news = h.news;
    pages = h.pages;
    names = names;
    run = h.run;
    careful = h.careful;
    within = h.within;
    hidden = h.hidden;
  };
}

pub quietly-named : (event : Event) (reply : Reply) (notices : List Notice)
    → Carries (λ old now. IsQuietly old event now reply notices)
quietly-named event reply notices = record {
  named = λ old now names h. record { pages = h.pages; names = names; performs = h.performs };
}

pub timed-named : (p : ℕ) (event : Event) (reply : Reply) (owed : Bool) (notices : List Notice)
    → Carries (λ old now. IsTimed p old event now reply owed notices)
timed-named p event reply owed notices = record {
  named = λ old now names h. record {
    looks = h.looks;
    stores = h.stores;
    marks = h.marks;
    are = h.are;
    pages = h.pages;
    names = names;
    run = h.run;
    owes = h.owes;
  };
}

pub ticked-named : (moment : ℕ) (reply : Reply) (owed : ℕ) (notices : List Notice)
    → Carries (λ old now. IsTicked old moment now reply owed notices)
ticked-named moment reply owed notices = record {
  named = λ old now names h. record {
    looks = h.looks;
    stores = h.stores;
    marks = h.marks;
    due = h.due;
    idle = h.idle;
    logs = h.logs;
    flags = h.flags;
    size = h.size;
    names = names;
    run = h.run;
    owes = h.owes;
    unowed = h.unowed;
    direct = h.direct;
  };
}

pub reset-named : (p : ℕ) (reply : Reply) (notices : List Notice)
    → Carries (λ old now. IsReset p old now reply notices)
reset-named p reply notices = record {
  named = λ old now names h. record {
    looks = h.looks;
    messages = h.messages;
    flags = h.flags;
    shown = h.shown;
    hidden = h.hidden;
    clears = h.clears;
    pages = h.pages;
    names = names;
    run = h.run;
  };
}

pub observed-named : (p : ℕ) (notices : List Notice) → Carries (λ old now. IsObserved p old now notices)
observed-named p notices = record {
  named = λ old now names h. record {
    news = h.news;
    pages = h.pages;
    names = names;
    shown = h.shown;
    hidden = h.hidden;
    run = h.run;
  };
}

pub refreshed-named : (p : ℕ) (notices : List Notice) → Carries (λ old now. IsRefreshed p old now notices)
refreshed-named p notices = record {
  named = λ old now names h. record {
    few = h.few;
    messages = h.messages;
    flags = h.flags;
    are_messages = h.are_messages;
    are_flags = h.are_flags;
    pages = h.pages;
    names = names;
    run = h.run;
  };
}

-- what is said of logs alone
pub probed-named : (p : ℕ) → Carries (λ old now. IsShown old.board.state p Sim
    → HasProbed old.board.state p (log_of old p Sim) (log_of now p Sim))
probed-named p = record { named = λ old now names h. h }

pub looked-named : (port : ℕ) → Carries (λ old now. HasLookedAt port old now)
looked-named port = record { named = λ old now names h. h }

pub only-named : (port : ℕ) (k : Kind) → Carries (λ old now. AccessesOnly port k old now)
only-named port k = record { named = λ old now names h. h }

pub only-at-named : (p : ℕ) (k : Kind) → Carries (λ old now. AccessesOnlyAt p k old now)
only-at-named p k = record { named = λ old now names h. h }

pub placed-named : (port : ℕ) → Carries (λ old now. HasPlacedAt port old now)
placed-named port = record { named = λ old now names h. h }

pub set-named : (port flag : ℕ) (reply : Reply) → Carries (λ old now. HasSetAt port flag old now reply)
set-named port flag reply = record { named = λ old now names h. h }
