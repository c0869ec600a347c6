-- Runs and accesses, one after another.
use Rattle.std.proofs.Common.{◌≡◌, ℕ, suc, ◌+◌, ◌*◌, List, [], ◌∷◌, ◌++◌, length, refl, sym, ap, ◌∙◌, subst, arith, append_assoc, append-nil, length-append}
use Rattle.std.specs.Prelude.{◌==◌, if◌then◌else◌}
use Rattle.std.specs.Int.{to_le_bytes, w64}
use Rattle.std.proofs.lemmas.List.{map-append}
use Rattle.board_terms.specs.declared.notices.Notice.{Notice}
use Rattle.board_terms.specs.declared.pages.Kind.{Kind}
use Rattle.board_terms.specs.declared.pages.Kind.TheVariants as kind
use Rattle.synic_board.specs.declared.event.Event.{Event}
use Rattle.synic_board.specs.declared.event.Event.TheVariants as event
use Rattle.synic_board.specs.declared.event.Reply.{Reply}
use Rattle.synic_board.specs.declared.event.Reply.TheVariants.{Done}
use Rattle.synic_board.specs.State.{State}
use Rattle.synic_board.specs.Step.{step}
use Rattle.synic_board.specs.Run.{Run, run_of, followed_by}
use Rattle.live_pages.specs.Words.{known}
use Rattle.live_pages.specs.declared.access.Access.{Access}
use Rattle.live_pages.specs.declared.access.Access.TheVariants.{Load, FetchOr, Store}
use Rattle.live_board.specs.Live.{number_at, IsShown, all_done, explained, shown_by, MayStore, AreCareful, AreLooks, FindInPage, AreStores}
use Rattle.live_board.specs.inside.Parts.{IsWatched, IsLook, IsLooks}

-- one run after another
abbrev pub joined : Run → Run → Run
joined a b = (b.0, a.1 ++ b.1, a.2 ++ b.2)

pub run-append : (s : State) (a b : List Event) → run_of s (a ++ b) ≡ joined (run_of s a) (run_of (run_of s a).0 b)
unfolding run_of
run-append s [] b = refl
run-append s (e ∷ a) b =
    let now : State = (step s e).0 in
    let rest : Run = run_of (run_of now a).0 b in
    ap (followed_by (step s e)) (run-append now a b)
    ∙ ap (λ (ns : List Notice). (rest.0, (step s e).1 ∷ ((run_of now a).1 ++ rest.1), ns))
    (sym (append_assoc (step s e).2 (run_of now a).2 rest.2))

pub done-append : (a b : List Event) → all_done (a ++ b) ≡ all_done a ++ all_done b
done-append a b = map-append (λ _. Done) a b

-- what accesses show depends only on the page number
same-shown : (s t : State) (p : ℕ) (k : Kind) (a : Access) (log : List Access) → number_at t p k ≡ number_at s p k
    → shown_by t p k a log ≡ shown_by s p k a log
same-shown s t p k (Load w found) log e =
    ap (λ n. if found == known log w then []
    else event.Store (n * 4096 + 8 * w) (record { items = to_le_bytes w64 found }) ∷ []) e
same-shown s t p k (FetchOr w mask found) log e =
    ap (λ n. if found == known log w then []
    else event.Store (n * 4096 + 8 * w) (record { items = to_le_bytes w64 found }) ∷ []) e
same-shown s t p k (Store w value) log e = refl

pub same-explained : (s t : State) (p : ℕ) (k : Kind) (news log : List Access) → number_at t p k ≡ number_at s p k
    → explained t p k news log ≡ explained s p k news log
same-explained s t p k [] log e = refl
same-explained s t p k (a ∷ news) log e =
    (λ i. same-explained s t p k news log e i ++ same-shown s t p k a (news ++ log) e i)

pub explained-append : (s : State) (p : ℕ) (k : Kind) (later news log : List Access)
    → explained s p k (later ++ news) log ≡ explained s p k news log ++ explained s p k later (news ++ log)
explained-append s p k [] news log = sym (append-nil (explained s p k news log))
explained-append s p k (a ∷ later) news log =
    let e : (later ++ news) ++ log ≡ later ++ (news ++ log) = append_assoc later news log in
    (λ i. explained-append s p k later news log i ++ shown_by s p k a (e i))
    ∙ append_assoc (explained s p k news log) (explained s p k later (news ++ log))
    (shown_by s p k a (later ++ (news ++ log)))

pub careful-append : (k : Kind) (later news log : List Access) → AreCareful k later (news ++ log)
    → AreCareful k news log → AreCareful k (later ++ news) log
careful-append k [] news log h g = g
careful-append k (Load w found ∷ later) news log h g = careful-append k later news log h g
careful-append k (FetchOr w mask found ∷ later) news log h g = careful-append k later news log h g
careful-append k (Store w value ∷ later) news log h g =
    (subst (λ l. MayStore k (known l) w) (sym (append_assoc later news log)) h.0, careful-append k later news log h.1 g)

-- a state in which only own pages and tickets of slots are others shows the same
pub rest-number : (s now : State) (p : ℕ) (k : Kind) → now ≡ record s { own = now.own; slots = now.slots }
    → number_at now p k ≡ number_at s p k
rest-number s now p k rest = ap (λ t. number_at t p k) rest ∙ same k
  where
    same : (k : Kind) → number_at (record s { own = now.own; slots = now.slots }) p k ≡ number_at s p k
    same kind.Sim = refl
    same kind.Sief = refl

pub rest-shown : (s now : State) (p : ℕ) (k : Kind) → now ≡ record s { own = now.own; slots = now.slots }
    → IsShown s p k → IsShown now p k
rest-shown s now p k rest shown = subst (λ t. IsShown t p k) (sym rest) (same k shown)
  where
    same : (k : Kind) → IsShown s p k → IsShown (record s { own = now.own; slots = now.slots }) p k
    same kind.Sim h = h
    same kind.Sief h = h

pub shown-before : (s now : State) (p : ℕ) (k : Kind) → now ≡ record s { own = now.own; slots = now.slots }
    → IsShown now p k → IsShown s p k
shown-before s now p k rest shown = same k (subst (λ t. IsShown t p k) rest shown)
  where
    same : (k : Kind) → IsShown (record s { own = now.own; slots = now.slots }) p k → IsShown s p k
    same kind.Sim h = h
    same kind.Sief h = h

pub within-append : (later news : List Access) → FindInPage later → FindInPage news → FindInPage (later ++ news)
within-append [] news h g = g
within-append (Load w found ∷ later) news h g = (h.0, within-append later news h.1 g)
within-append (FetchOr w mask found ∷ later) news h g = (h.0, within-append later news h.1 g)
within-append (Store w value ∷ later) news h g = within-append later news h g

pub stores-within : (news : List Access) → AreStores news → FindInPage news
stores-within [] are = tt
stores-within (Store w value ∷ news) are = stores-within news are
stores-within (Load w found ∷ news) are = absurd are
stores-within (FetchOr w mask found ∷ news) are = absurd are

-- looks after looks
unfoldable pub watched-then : (s mid now : State) (p : ℕ) (k : Kind) (log log-mid log-now : List Access)
    (first second : List Notice) → IsWatched s p k log mid log-mid first → IsWatched mid p k log-mid now log-now second
    → IsWatched s p k log now log-now (first ++ second)
watched-then s mid now p k log log-mid log-now first second a b = record {
  news = b.news ++ a.news;
  page = b.page ∙ ap (λ l. b.news ++ l) a.page ∙ sym (append_assoc b.news a.news log);
  run = run;
  careful = careful-append k b.news a.news log (subst (λ l. AreCareful k b.news l) a.page b.careful) a.careful;
  within = within-append b.news a.news b.within a.within;
  hidden = λ no. events ∙ (λ i. a.hidden no i ++ b.hidden (λ shown. no (shown-before s mid p k a.rest shown)) i);
  rest = b.rest ∙ ap (λ (t : State). record t { own = now.own; slots = now.slots }) a.rest;
  count = b.count ∙ a.count;
  others = λ j w low ne. b.others j w low ne ∙ a.others j w low ne;
  same = λ j ne. b.same j ne ∙ a.same j ne;
}
  where
    ea : List Event
    ea = explained s p k a.news log

    eb : List Event
    eb = explained mid p k b.news log-mid

    events : explained s p k (b.news ++ a.news) log ≡ ea ++ eb
    events = explained-append s p k b.news a.news log
        ∙ ap (λ es. ea ++ es) (ap (explained s p k b.news) (sym a.page)
        ∙ sym (same-explained s mid p k b.news log-mid (rest-number s mid p k a.rest)))

    run : run_of s (explained s p k (b.news ++ a.news) log)
        ≡ (now, all_done (explained s p k (b.news ++ a.news) log), first ++ second)
    run = ap (run_of s) events ∙ run-append s ea eb ∙ ap (λ (r : Run). joined r (run_of r.0 eb)) a.run
        ∙ ap (joined (mid, all_done ea, first)) b.run
        ∙ ap (λ (rs : List Reply). (now, rs, first ++ second)) (sym (done-append ea eb))
        ∙ ap (λ (es : List Event). (now, all_done es, first ++ second)) (sym events)

-- the same looks, with the same notices
unfoldable pub renoted : (s now : State) (p : ℕ) (log log-now : List Access) (ns other : List Notice) → ns ≡ other
    → IsWatched s p kind.Sim log now log-now ns → IsWatched s p kind.Sim log now log-now other
renoted s now p log log-now ns other is w =
    record {
      news = w.news;
      page = w.page;
      run = w.run ∙ ap (λ x. (now, all_done (explained s p kind.Sim w.news log), x)) is;
      careful = w.careful;
      within = w.within;
      hidden = w.hidden;
      rest = w.rest;
      count = w.count;
      others = w.others;
      same = w.same;
    }

-- one look more at a message page
pub look-more : (s mid now : State) (p : ℕ) (log log-mid log-now : List Access) (found : ℕ)
    (before after : List Notice) (n : ℕ) → IsLooks s p log mid log-mid before n
    → IsLook mid p kind.Sim (32 * n) log-mid now log-now found before after
    → IsLooks s p log now log-now after (n + 1)
unfolding renoted watched-then
look-more s mid now p log log-mid log-now found before after n h one = record {
  watched = renoted s now p log log-now (before ++ one.emitted) after (sym one.notices)
      (watched-then s mid now p kind.Sim log log-mid log-now before one.emitted h.watched one.watched);
  shadow = one.shadow h.shadow;
  few = omega (arith, h.few, one.few, ap length one.notices, length-append before one.emitted);
  looks = subst (λ m. AreLooks m (one.watched.news ++ h.watched.news)) (let e : suc n ≡ n + 1 = omega arith in e)
      (found, h.watched.news, ap (λ l. l ++ h.watched.news) one.news, h.looks);
}
