-- What a guest does to a live board.
use Rattle.std.proofs.Common.{◌≡◌, ◌≢◌, ◌⊎◌, inl, inr, ℕ, zero, suc, ◌+◌, ◌*◌, ◌<◌, ◌≤◌, Bool, true, false, List, [], ◌∷◌, ◌++◌, get_or, refl, sym, ap, ◌∙◌, subst, arith, All, append-nil}
use Rattle.std.specs.Prelude.{◌==◌, bit_or, if◌then◌else◌}
use Rattle.std.specs.Int.{to_le_bytes, w64}
use Rattle.std.proofs.lemmas.Bool.{cases_eq}
use Rattle.std.proofs.lemmas.List.Elements.{All-append, All-cons, All-nil, All-head, All-tail}
use Rattle.board_terms.specs.declared.notices.Notice.{Notice}
use Rattle.board_terms.specs.declared.pages.Kind.{Kind}
use Rattle.board_terms.specs.declared.pages.Kind.TheVariants.{Sim, Sief}
use Rattle.board_terms.specs.declared.pages.Kind.TheVariants as kind
use Rattle.board_terms.specs.declared.pages.Owner.{Owner}
use Rattle.board_terms.specs.declared.pages.Owner.TheVariants as owner
use Rattle.gpa_space.specs.Space.{overlay_of, owner_of}
use Rattle.synic_board.specs.declared.event.Event.{Event}
use Rattle.synic_board.specs.declared.event.Event.TheVariants as event
use Rattle.synic_board.specs.declared.event.Reply.{Reply}
use Rattle.synic_board.specs.State.{State, processors, space_of}
use Rattle.synic_board.specs.Effects.{Outcome}
use Rattle.synic_board.specs.Step.{step}
use Rattle.synic_board.specs.Run.{Run, run_of}
use Rattle.synic_board.specs.Locations.{Conserves}
use Rattle.synic_board.specs.Sound.{IsSound, PayloadFits}
use Rattle.synic_board.proofs.keeping.Wholes.{IsIntact, KeepsMessages, kept_from_sound, sound_from_kept, tickets-conserved, messages-kept, keeps-nothing, messages-after}
use Rattle.synic_board.proofs.keeping.Steps.{keeps-step}
use Rattle.live_pages.specs.Words.{known}
use Rattle.live_pages.specs.declared.access.Access.{Access}
use Rattle.live_pages.specs.declared.access.Access.TheVariants.{Load, FetchOr, Store}
use Rattle.live_board.specs.Live.{LiveModel, IsLive, IsObserved, number_at, IsShown, IsOwnStore, AreLooks, owner_at, store_of, shown_by, explained, log_of, IsTimed, IsTicked, IsReset, marked_by, explained_after, looked_from, marked_from}
use Rattle.live_board.specs.Refreshing.{AreLoads, IsRefreshed}
use Rattle.live_board.proofs.Joined.{run-append, same-explained, rest-number, rest-shown, shown-before}
use Rattle.live_board.proofs.Shown.{with_word, stored-word, still-in}

-- each event that explains an access is a store
one-store : (s : State) (p : ℕ) (k : Kind) (w found : ℕ) (b : Bool)
    → All (IsOwnStore s p k) (if b then [] else store_of s p k w found ∷ [])
one-store s p k w found true = All-nil (IsOwnStore s p k)
one-store s p k w found false =
    All-cons (IsOwnStore s p k) (store_of s p k w found) [] (w, found, refl) (All-nil (IsOwnStore s p k))

stores-by : (s : State) (p : ℕ) (k : Kind) (a : Access) (log : List Access)
    → All (IsOwnStore s p k) (shown_by s p k a log)
stores-by s p k (Load w found) log = one-store s p k w found (found == known log w)
stores-by s p k (FetchOr w mask found) log = one-store s p k w found (found == known log w)
stores-by s p k (Store w value) log = All-nil (IsOwnStore s p k)

pub guest-stores : (s : State) (p : ℕ) (k : Kind) (news log : List Access)
    → All (IsOwnStore s p k) (explained s p k news log)
guest-stores s p k [] log = All-nil (IsOwnStore s p k)
guest-stores s p k (a ∷ news) log =
    All-append (IsOwnStore s p k) (explained s p k news log) (shown_by s p k a (news ++ log))
    (guest-stores s p k news log) (stores-by s p k a (news ++ log))

marks-by : (s : State) (p : ℕ) (a : Access) (log : List Access) → All (IsOwnStore s p Sim) (marked_by s p a log)
marks-by s p (Load w found) log = All-nil (IsOwnStore s p Sim)
marks-by s p (FetchOr w mask found) log =
    one-store s p Sim w (bit_or found mask) (bit_or found mask == bit_or (known log w) mask)
marks-by s p (Store w value) log = All-nil (IsOwnStore s p Sim)

pub late-stores : (s : State) (p : ℕ) (marks log : List Access)
    → All (IsOwnStore s p Sim) (explained_after s p marks log)
late-stores s p [] log = All-nil (IsOwnStore s p Sim)
late-stores s p (a ∷ marks) log =
    All-append (IsOwnStore s p Sim) (explained_after s p marks log) (marked_by s p a (marks ++ log))
    (late-stores s p marks log) (marks-by s p a (marks ++ log))

-- a run from a sound state
keeps-run : (n : ℕ) (s : State) (es : List Event) → All PayloadFits es → IsIntact n s
    → KeepsMessages n s ((run_of s es).0, (run_of s es).2)
unfolding run_of
keeps-run n s [] fit h = messages-kept n s ((run_of s []).0, (run_of s []).2) (keeps-nothing n s h)
keeps-run n s (e ∷ es) fit h =
    let now : State = (step s e).0 in
    let first = keeps-step n s e (All-head PayloadFits e es fit) h in
    messages-after n s (now, (step s e).2) ((run_of now es).0, (run_of now es).2) first
    (keeps-run n now es (All-tail PayloadFits e es fit) first.kept)

pub kept-by : (s now : State) (es : List Event) (replies : List Reply) (notices : List Notice) → All PayloadFits es
    → IsSound s → run_of s es ≡ (now, replies, notices) → IsSound now × Conserves s now notices
kept-by s now es replies notices fit h is =
    let k = keeps-run (processors s) s es fit (kept_from_sound s h) in
    let sound = sound_from_kept (processors s) (run_of s es).0 k.kept
    (tickets-conserved s (run_of s es).0 (run_of s es).2 k.tickets_monotone k.conserves h.tickets) in (
      subst IsSound (ap (λ (r : Run). r.0) is) sound,
      subst (λ (r : Run). Conserves s r.0 r.2) is k.conserves,
    )

pub fits-all : (s : State) (p : ℕ) (k : Kind) (es : List Event) → All (IsOwnStore s p k) es → All PayloadFits es
fits-all s p k [] h = All-nil PayloadFits
fits-all s p k (e ∷ es) h =
    let one = All-head (IsOwnStore s p k) e es h in
    All-cons PayloadFits e es (subst PayloadFits (sym one.2) tt)
    (fits-all s p k es (All-tail (IsOwnStore s p k) e es h))

pub event-conserves : (old now : LiveModel) (event : Event) (reply : Reply) (notices : List Notice)
    → IsSound old.board.state → PayloadFits event → IsLive old event now reply notices
    → IsSound now.board.state × Conserves old.board.state now.board.state notices
event-conserves old now event reply notices h fits live =
    let s : State = old.board.state in
    let es : List Event = explained s live.vp live.kind live.news (log_of old live.vp live.kind) in
    let all = All-append PayloadFits es (event ∷ [])
    (fits-all s live.vp live.kind es (guest-stores s live.vp live.kind live.news (log_of old live.vp live.kind)))
    (All-cons PayloadFits event [] fits (All-nil PayloadFits)) in
    kept-by s now.board.state (es ++ event ∷ []) _ notices all h live.run

-- stores before an event, and after it
fits-around : (before after : List Event) (event : Event) → All PayloadFits before → PayloadFits event
    → All PayloadFits after → All PayloadFits (before ++ event ∷ after)
fits-around before after event a b c =
    All-append PayloadFits before (event ∷ after) a (All-cons PayloadFits event after b c)

fits-looks : (s : State) (p : ℕ) (looks log : List Access) → All PayloadFits (explained s p Sim looks log)
fits-looks s p looks log = fits-all s p Sim (explained s p Sim looks log) (guest-stores s p Sim looks log)

fits-marks : (s : State) (p : ℕ) (marks log : List Access) → All PayloadFits (explained_after s p marks log)
fits-marks s p marks log = fits-all s p Sim (explained_after s p marks log) (late-stores s p marks log)

pub timer-conserves : (p : ℕ) (old now : LiveModel) (event : Event) (reply : Reply) (owed : Bool)
    (notices : List Notice) → IsSound old.board.state → PayloadFits event → IsTimed p old event now reply owed notices
    → IsSound now.board.state × Conserves old.board.state now.board.state notices
timer-conserves p old now event reply owed notices h fits timed =
    let s : State = old.board.state in
    kept-by s now.board.state _ _ notices
    (fits-around _ _ event (fits-looks s p timed.looks (log_of old p Sim)) fits
    (fits-marks s p timed.marks (timed.stores ++ (timed.looks ++ log_of old p Sim)))) h timed.run

pub fits-looked : (m k : ℕ) (s : State) (pages : List (List Access)) (looks : ℕ → List Access)
    → All PayloadFits (looked_from s pages looks k m)
fits-looked zero k s pages looks = All-nil PayloadFits
fits-looked (suc m) k s pages looks =
    All-append PayloadFits _ (looked_from s pages looks (suc k) m)
    (fits-looks s k (looks k) (get_or pages (2 * k) [])) (fits-looked m (suc k) s pages looks)

pub fits-marked : (m k : ℕ) (s : State) (pages : List (List Access)) (looks stores marks : ℕ → List Access)
    → All PayloadFits (marked_from s pages looks stores marks k m)
fits-marked zero k s pages looks stores marks = All-nil PayloadFits
fits-marked (suc m) k s pages looks stores marks =
    All-append PayloadFits (marked_from s pages looks stores marks (suc k) m) _
    (fits-marked m (suc k) s pages looks stores marks)
    (fits-marks s k (marks k) (stores k ++ (looks k ++ get_or pages (2 * k) [])))

pub tick-conserves : (old now : LiveModel) (moment : ℕ) (reply : Reply) (owed : ℕ) (notices : List Notice)
    → IsSound old.board.state → IsTicked old moment now reply owed notices
    → IsSound now.board.state × Conserves old.board.state now.board.state notices
tick-conserves old now moment reply owed notices h t =
    let s : State = old.board.state in
    kept-by s now.board.state _ _ notices
    (fits-around _ _ (event.Tick moment) (fits-looked (processors s) 0 s old.pages t.looks) tt
    (fits-marked (processors s) 0 s old.pages t.looks t.stores t.marks)) h t.run

pub reset-conserves : (p : ℕ) (old now : LiveModel) (reply : Reply) (notices : List Notice) → IsSound old.board.state
    → IsReset p old now reply notices → IsSound now.board.state × Conserves old.board.state now.board.state notices
reset-conserves p old now reply notices h r =
    kept-by old.board.state now.board.state _ _ notices
    (fits-around _ [] (event.Reset p) (fits-looks old.board.state p r.looks (log_of old p Sim)) tt
    (All-nil PayloadFits)) h r.run

pub look-conserves : (p : ℕ) (old now : LiveModel) (notices : List Notice) → IsSound old.board.state
    → IsObserved p old now notices → IsSound now.board.state × Conserves old.board.state now.board.state notices
look-conserves p old now notices h seen =
    let s : State = old.board.state in
    let es : List Event = explained s p Sim seen.news (log_of old p Sim) in
    kept-by s now.board.state es _ notices
    (fits-all s p Sim es (guest-stores s p Sim seen.news (log_of old p Sim))) h seen.run

pub refresh-conserves : (p : ℕ) (old now : LiveModel) (notices : List Notice) → IsSound old.board.state
    → IsRefreshed p old now notices → IsSound now.board.state × Conserves old.board.state now.board.state notices
refresh-conserves p old now notices h t =
    let s : State = old.board.state in
    let ea : List Event = explained s p Sim t.messages (log_of old p Sim) in
    let eb : List Event = explained s p Sief t.flags (log_of old p Sief) in
    let all = All-append PayloadFits ea eb (fits-all s p Sim ea (guest-stores s p Sim t.messages (log_of old p Sim)))
    (fits-all s p Sief eb (guest-stores s p Sief t.flags (log_of old p Sief))) in
    kept-by s now.board.state (ea ++ eb) _ notices all h t.run

-- only own pages and tickets of slots change
abbrev pub Rest : State → State → Type 0
Rest s now = now ≡ record s { own = now.own; slots = now.slots }

pub rest-after : (s mid now : State) → Rest s mid → Rest mid now → Rest s now
rest-after s mid now h g = g ∙ ap (λ (t : State). record t { own = now.own; slots = now.slots }) h

pub rest-store : (s : State) (p : ℕ) (k : Kind) (w found : ℕ) → IsShown s p k → w < 512
    → Rest s (step s (store_of s p k w found)).0
rest-store s p k w found shown low =
    let t : State = with_word s (overlay_of p k) w found in
    let is : (step s (store_of s p k w found)).0 ≡ record t { slots = (step s (store_of s p k w found)).0.slots } =
    ap (λ (o : Outcome). o.0) (stored-word s p k w found shown low) ∙ still-in t (owner_at p k)
    ∙ ap (λ (o : Outcome). record t { slots = o.0.slots }) (sym (stored-word s p k w found shown low)) in
    is ∙ ap (λ (l : List (List ℕ)). record s { own = l; slots = (step s (store_of s p k w found)).0.slots })
    (sym (ap (λ (x : State). x.own) is))

pub same-store : (s mid : State) (p : ℕ) (k : Kind) (w found : ℕ) → Rest s mid
    → store_of mid p k w found ≡ store_of s p k w found
same-store s mid p k w found h =
    ap (λ n. event.Store (n * 4096 + 8 * w) (record { items = to_le_bytes w64 found })) (rest-number s mid p k h)

-- loads alone, of words of a page
abbrev pub AreOfPage : List Access → Type 0
AreOfPage [] = Unit {0}
AreOfPage (Load w found ∷ news) = (w < 512) × AreOfPage news
AreOfPage (FetchOr w mask found ∷ news) = ⊥
AreOfPage (Store w value ∷ news) = ⊥

pub looks-of : (n : ℕ) (news : List Access) → n ≤ 16 → AreLooks n news → AreOfPage news
looks-of zero news bound is = subst AreOfPage (sym is) tt
looks-of (suc n) news bound (found, rest, is, more) =
    subst AreOfPage (sym is) (omega arith, looks-of n rest (omega arith) more)

loads-of : (n : ℕ) (news : List Access) → n ≤ 512 → AreLoads n news → AreOfPage news
loads-of zero news bound is = subst AreOfPage (sym is) tt
loads-of (suc n) news bound (found, rest, is, more) =
    subst AreOfPage (sym is) (omega arith, loads-of n rest (omega arith) more)

pub page-run : (s : State) (p : ℕ) (k : Kind) (news log : List Access) → IsShown s p k → AreOfPage news
    → Rest s (run_of s (explained s p k news log)).0
unfolding run_of
page-run s p k [] log shown of = refl
page-run s p k (FetchOr w mask found ∷ rest) log shown of = absurd of
page-run s p k (Store w value ∷ rest) log shown of = absurd of
page-run s p k (Load w found ∷ rest) log shown of =
    last (page-run s p k rest log shown of.1) (found == known (rest ++ log) w)
  where
    es : List Event
    es = explained s p k rest log

    mid : State
    mid = (run_of s es).0

    last : Rest s mid → (b : Bool) → Rest s (run_of s (es ++ (if b then [] else store_of s p k w found ∷ []))).0
    last before true = subst (λ l. Rest s (run_of s l).0) (sym (append-nil es)) before
    last before false =
        let one = rest-after s mid (step mid (store_of mid p k w found)).0 before
        (rest-store mid p k w found (rest-shown s mid p k before shown) of.0) in
        subst (λ (r : Run). Rest s r.0) (sym (run-append s es (store_of s p k w found ∷ [])))
        (subst (λ e. Rest s (step mid e).0) (same-store s mid p k w found before) one)

no-loads : (s : State) (p : ℕ) (k : Kind) (news log : List Access) → news ≡ []
    → Rest s (run_of s (explained s p k news log)).0
unfolding run_of
no-loads s p k news log is = subst (λ l. Rest s (run_of s (explained s p k l log)).0) (sym is) refl

-- whether an owner is that of an own page
pub is-owner : (o : Owner) (p : ℕ) (k : Kind) → (o ≡ owner_at p k) ⊎ (o ≡ owner_at p k → ⊥)
is-owner owner.Guest p kind.Sim = inr (λ e. cc)
is-owner owner.Guest p kind.Sief = inr (λ e. cc)
is-owner owner.Nothing p kind.Sim = inr (λ e. cc)
is-owner owner.Nothing p kind.Sief = inr (λ e. cc)
is-owner (owner.Sim q) p kind.Sief = inr (λ e. cc)
is-owner (owner.Sief q) p kind.Sim = inr (λ e. cc)
is-owner (owner.Sim q) p kind.Sim = by (cases_eq q p)
  where
    by : (q ≡ p) ⊎ (q ≢ p) → (owner.Sim q ≡ owner.Sim p) ⊎ (owner.Sim q ≡ owner.Sim p → ⊥)
    by (inl e) = inl (ap (λ n. owner.Sim n) e)
    by (inr ne) = inr (λ e. ne (cc))
is-owner (owner.Sief q) p kind.Sief = by (cases_eq q p)
  where
    by : (q ≡ p) ⊎ (q ≢ p) → (owner.Sief q ≡ owner.Sief p) ⊎ (owner.Sief q ≡ owner.Sief p → ⊥)
    by (inl e) = inl (ap (λ n. owner.Sief n) e)
    by (inr ne) = inr (λ e. ne (cc))

-- loads of a page that the guest sees, and none of one that it does not see
pub page-changes : (s : State) (p : ℕ) (k : Kind) (news log : List Access) → (IsShown s p k → AreOfPage news)
    → ((IsShown s p k → ⊥) → news ≡ []) → Rest s (run_of s (explained s p k news log)).0
page-changes s p k news log of none = by (is-owner (owner_of (space_of s) (number_at s p k)) p k)
  where
    by : (IsShown s p k) ⊎ (IsShown s p k → ⊥) → Rest s (run_of s (explained s p k news log)).0
    by (inl shown) = page-run s p k news log shown (of shown)
    by (inr hidden) = no-loads s p k news log (none hidden)

pub look-changes : (p : ℕ) (old now : LiveModel) (notices : List Notice) → IsObserved p old now notices
    → now.board.state ≡ record old.board.state { own = now.board.state.own; slots = now.board.state.slots }
look-changes p old now notices seen =
    let s : State = old.board.state in
    subst (Rest s) (ap (λ (r : Run). r.0) seen.run)
    (page-changes s p Sim seen.news (log_of old p Sim)
    (λ shown. looks-of 16 seen.news (omega arith) (seen.shown shown)) seen.hidden)

pub refresh-changes : (p : ℕ) (old now : LiveModel) (notices : List Notice) → IsRefreshed p old now notices
    → now.board.state ≡ record old.board.state { own = now.board.state.own; slots = now.board.state.slots }
refresh-changes p old now notices t =
    subst (Rest s) (ap (λ (r : Run). r.0) (sym (run-append s ea eb) ∙ t.run))
    (rest-after s mid (run_of mid eb).0 first second)
  where
    s : State
    s = old.board.state

    ea : List Event
    ea = explained s p Sim t.messages (log_of old p Sim)

    eb : List Event
    eb = explained s p Sief t.flags (log_of old p Sief)

    mid : State
    mid = (run_of s ea).0

    first : Rest s mid
    first = page-changes s p Sim t.messages (log_of old p Sim)
        (λ shown. loads-of 512 t.messages (omega arith) (t.are_messages.shown shown)) t.are_messages.hidden

    there : Rest mid (run_of mid (explained mid p Sief t.flags (log_of old p Sief))).0
    there = page-changes mid p Sief t.flags (log_of old p Sief)
        (λ shown. loads-of 512 t.flags (omega arith) (t.are_flags.shown (shown-before s mid p Sief first shown)))
        (λ hidden. t.are_flags.hidden (λ shown. hidden (rest-shown s mid p Sief first shown)))

    second : Rest mid (run_of mid eb).0
    second = subst (λ es. Rest mid (run_of mid es).0)
        (same-explained s mid p Sief t.flags (log_of old p Sief) (rest-number s mid p Sief first)) there
