-- All words of live pages that a guest sees.
use Rattle.std.proofs.Common.{◌≡◌, ◌≢◌, ◌⊎◌, inl, inr, ℕ, suc, ◌+◌, ◌*◌, ◌/◌, ◌%◌, ◌<◌, ◌≤◌, List, [], ◌++◌, length, get_or, set, refl, sym, ap, ◌∙◌, subst, arith, append_assoc, append-nil, length-append}
use Rattle.std.proofs.lemmas.Bool.{cases_eq}
use Rattle.board_terms.specs.declared.notices.Notice.{Notice}
use Rattle.board_terms.specs.declared.pages.Kind.{Kind}
use Rattle.board_terms.specs.declared.pages.Kind.TheVariants as kind
use Rattle.gpa_space.specs.Space.{overlay_of}
use Rattle.synic_board.specs.declared.event.Event.{Event}
use Rattle.synic_board.specs.declared.event.Reply.{Reply}
use Rattle.synic_board.specs.State.{State, BoardModel, processors}
use Rattle.synic_board.specs.Sound.{IsSound}
use Rattle.synic_board.specs.Run.{Run, run_of}
use Rattle.live_pages.specs.Words.{known}
use Rattle.live_pages.specs.declared.access.Access.{Access}
use Rattle.live_board.specs.Live.{LiveModel, Shadows, IsShown, explained, all_done}
use Rattle.live_board.specs.Refreshing.{AreLoads, IsRefreshed}
use Rattle.live_board.specs.Words.{word_of}
use Rattle.live_board.specs.inside.Parts.{IsShadow, IsPassed, IsLook, IsLoads, IsLoaded, found_stores}
use Rattle.live_board.proofs.Passed.{no-notices}
use Rattle.live_board.proofs.Watched.{look-shows, unwatched}
use Rattle.live_board.proofs.Joined.{joined, run-append, done-append, same-explained, rest-number, rest-shown, shown-before, watched-then}
use Rattle.live_board.proofs.Shadowed.{live, page-shadows}

pub loads-start : (s : State) (p : ℕ) (k : Kind) (log : List Access) (notices : List Notice)
    → IsShadow s (overlay_of p k) log → IsLoads s p k log s log notices notices 0
unfolding unwatched
loads-start s p k log notices shadow =
    record {
      emitted = [];
      notices = sym (append-nil notices);
      few = omega arith;
      watched = unwatched s p k log [] refl;
      shadow = shadow;
      loads = refl;
    }

-- a look at a word without a type emits nothing
silent : (s now : State) (p : ℕ) (k : Kind) (w found : ℕ) (log log-now : List Access) (before after : List Notice)
    → IsSound s → p < processors s → w < 512 → IsShown s p k → known log w ≡ word_of s (overlay_of p k) w
    → (one : IsLook s p k w log now log-now found before after) → w % 32 ≢ 0 → one.emitted ≡ []
silent s now p k w found log log-now before after h on low shown is one inner =
    no-notices s now p k w found one.emitted h on low inner shown passed
  where
    shows : explained s p k one.watched.news log ≡ found_stores s p k w found
    shows = ap (λ l. explained s p k l log) one.news ∙ look-shows s p k w found log is

    passed : IsPassed s p k w found now one.emitted
    passed = ap (run_of s) (sym shows) ∙ one.watched.run
        ∙ ap (λ (es : List Event). (now, all_done es, one.emitted)) shows

-- one word more
pub loads-more : (s mid now : State) (p : ℕ) (k : Kind) (log log-mid log-now : List Access) (found : ℕ)
    (before between after : List Notice) (n : ℕ) → IsSound mid → p < processors mid → n < 512 → IsShown mid p k
    → IsLoads s p k log mid log-mid before between n → IsLook mid p k n log-mid now log-now found between after
    → IsLoads s p k log now log-now before after (n + 1)
unfolding watched-then
loads-more s mid now p k log log-mid log-now found before between after n sound on low shown h one = record {
  emitted = h.emitted ++ one.emitted;
  notices = one.notices ∙ ap (λ ns. ns ++ one.emitted) h.notices ∙ append_assoc before h.emitted one.emitted;
  few = count (cases_eq (n % 32) 0);
  watched = watched-then s mid now p k log log-mid log-now h.emitted one.emitted h.watched one.watched;
  shadow = one.shadow h.shadow;
  loads = subst (λ m. AreLoads m (one.watched.news ++ h.watched.news)) (let e : suc n ≡ n + 1 = omega arith in e)
      (found, h.watched.news, ap (λ l. l ++ h.watched.news) one.news, h.loads);
}
  where
    count : (n % 32 ≡ 0) ⊎ (n % 32 ≢ 0) → length (h.emitted ++ one.emitted) ≤ (n + 1 + 31) / 32
    count (inl first) = omega (arith, h.few, one.few, first, length-append h.emitted one.emitted)
    count (inr inner) =
        let none : one.emitted ≡ [] =
        silent mid now p k n found log-mid log-now between after sound on low shown (h.shadow n low) one inner in
        omega (arith, h.few, ap length none, length-append h.emitted one.emitted)

-- a page that the guest sees, and one that it does not see
pub loaded-shown : (s now : State) (p : ℕ) (k : Kind) (log log-now : List Access) (before after : List Notice)
    → IsShown s p k → IsLoads s p k log now log-now before after 512 → IsLoaded s p k log now log-now before after
loaded-shown s now p k log log-now before after shown h = record {
  emitted = h.emitted;
  notices = h.notices;
  few = omega (arith, h.few);
  watched = h.watched;
  shadow = h.shadow;
  are = record { shown = λ _. h.loads; hidden = λ no. absurd (no shown) };
}

pub loaded-hidden : (s : State) (p : ℕ) (k : Kind) (log : List Access) (notices : List Notice) → (IsShown s p k → ⊥)
    → IsShadow s (overlay_of p k) log → IsLoaded s p k log s log notices notices
unfolding unwatched
loaded-hidden s p k log notices hidden shadow = record {
  emitted = [];
  notices = sym (append-nil notices);
  few = omega arith;
  watched = unwatched s p k log [] refl;
  shadow = shadow;
  are = record { shown = λ shown. absurd (hidden shown); hidden = λ _. refl };
}

-- both pages, in terms of the whole board
refreshed : (old mid now : BoardModel) (pages : List (List Access)) (p : ℕ) (log1 log2 : List Access)
    (between after : List Notice)
    → IsLoaded old.state p kind.Sim (get_or pages (2 * p) []) mid.state log1 [] between
    → IsLoaded mid.state p kind.Sief (get_or pages (2 * p + 1) []) now.state log2 between after
    → IsRefreshed p (live old pages) (live now (set (set pages (2 * p) log1) (2 * p + 1) log2)) after
refreshed old mid now pages p log1 log2 between after a b = record {
  few = omega (arith, a.few, b.few, ap length a.notices, ap length b.notices, length-append between b.emitted);
  messages = a.watched.news;
  flags = b.watched.news;
  are_messages = a.are;
  are_flags = record {
    shown = λ shown. b.are.shown (rest-shown s mid.state p kind.Sief a.watched.rest shown);
    hidden = λ hidden. b.are.hidden (λ shown. hidden (shown-before s mid.state p kind.Sief a.watched.rest shown));
  };
  pages = (λ i. set (set pages (2 * p) (a.watched.page i)) (2 * p + 1) (b.watched.page i));
  names = refl;
  run = run;
}
  where
    s : State
    s = old.state

    ea : List Event
    ea = explained s p kind.Sim a.watched.news (get_or pages (2 * p) [])

    eb : List Event
    eb = explained s p kind.Sief b.watched.news (get_or pages (2 * p + 1) [])

    same : explained mid.state p kind.Sief b.watched.news (get_or pages (2 * p + 1) []) ≡ eb
    same = same-explained s mid.state p kind.Sief b.watched.news (get_or pages (2 * p + 1) [])
        (rest-number s mid.state p kind.Sief a.watched.rest)

    second : run_of mid.state eb ≡ (now.state, all_done eb, b.emitted)
    second = ap (run_of mid.state) (sym same) ∙ b.watched.run
        ∙ ap (λ (es : List Event). (now.state, all_done es, b.emitted)) same

    run : run_of s (ea ++ eb) ≡ (now.state, all_done (ea ++ eb), after)
    run = run-append s ea eb ∙ ap (λ (r : Run). joined r (run_of r.0 eb)) a.watched.run
        ∙ ap (joined (mid.state, all_done ea, a.emitted)) second
        ∙ ap (λ (rs : List Reply). (now.state, rs, a.emitted ++ b.emitted)) (sym (done-append ea eb))
        ∙ ap (λ (ns : List Notice). (now.state, all_done (ea ++ eb), ns))
        (ap (λ ns. ns ++ b.emitted) (sym a.notices) ∙ sym b.notices)

pub loaded-at : (s : State) (p : ℕ) (k : Kind) (log other : List Access) (now : State) (log-now : List Access)
    (before after : List Notice) → log ≡ other → IsLoaded s p k log now log-now before after
    → IsLoaded s p k other now log-now before after
loaded-at s p k log other now log-now before after is h = subst (λ l. IsLoaded s p k l now log-now before after) is h

pub loaded-from : (s : State) (p : ℕ) (k : Kind) (log : List Access) (now : State) (log-now : List Access)
    (before other after : List Notice) → before ≡ other → IsLoaded s p k log now log-now before after
    → IsLoaded s p k log now log-now other after
loaded-from s p k log now log-now before other after is h = subst (λ ns. IsLoaded s p k log now log-now ns after) is h

pub refreshed-at : (old mid now : BoardModel) (pages : List (List Access)) (other : LiveModel) (p i j : ℕ)
    (page1 page2 log1 log2 : List Access) (first between after : List Notice) → live old pages ≡ other → i ≡ 2 * p
    → j ≡ 2 * p + 1
    → page1 ≡ get_or pages (2 * p) [] → page2 ≡ get_or pages (2 * p + 1) [] → first ≡ []
    → IsLoaded old.state p kind.Sim page1 mid.state log1 first between
    → IsLoaded mid.state p kind.Sief page2 now.state log2 between after
    → IsRefreshed p other (live now (set (set pages i log1) j log2)) after
refreshed-at old mid now pages other p i j page1 page2 log1 log2 first between after is a b c d none one two =
    subst (λ m. IsRefreshed p m (live now (set (set pages i log1) j log2)) after) is
    (subst (λ n. IsRefreshed p (live old pages) (live now (set (set pages n log1) j log2)) after) (sym a)
    (subst (λ n. IsRefreshed p (live old pages) (live now (set (set pages (2 * p) log1) n log2)) after) (sym b)
    (refreshed old mid now pages p log1 log2 between after
    (loaded-from old.state p kind.Sim (get_or pages (2 * p) []) mid.state log1 first [] between none
    (loaded-at old.state p kind.Sim page1 (get_or pages (2 * p) []) mid.state log1 first between c one))
    (loaded-at mid.state p kind.Sief page2 (get_or pages (2 * p + 1) []) now.state log2 between after d two))))

-- the shadows of both pages
pub refreshed-shadows : (s mid now : State) (pages : List (List Access)) (p i j : ℕ)
    (page1 page2 log1 log2 : List Access) (first between after : List Notice) → i ≡ 2 * p → j ≡ 2 * p + 1
    → 2 * p + 1 < length s.own → Shadows s pages
    → IsLoaded s p kind.Sim page1 mid log1 first between → IsLoaded mid p kind.Sief page2 now log2 between after
    → Shadows now (set (set pages i log1) j log2)
refreshed-shadows s mid now pages p i j page1 page2 log1 log2 first between after a b inside h one two =
    subst (λ n. Shadows now (set (set pages n log1) j log2)) (sym a)
    (subst (λ n. Shadows now (set (set pages (2 * p) log1) n log2)) (sym b)
    (page-shadows mid now (set pages (2 * p) log1) (2 * p + 1) log2 (omega (arith, inside, one.watched.count))
    (page-shadows s mid pages (2 * p) log1 (omega (arith, inside)) h one.watched.count one.watched.others one.shadow)
    two.watched.count two.watched.others two.shadow))
