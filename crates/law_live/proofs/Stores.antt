-- A guest's stores of words in a page of one processor do not touch another.
use Rattle.std.proofs.Common.{◌≡◌, ◌≢◌, ◌⊎◌, inl, inr, ℕ, zero, suc, ◌+◌, ◌*◌, ◌/◌, ◌<◌, Bool, true, false, List, [], ◌∷◌, ◌++◌, get_or, refl, sym, ap, ◌∙◌, subst, arith, All}
use Rattle.std.specs.Prelude.{◌==◌, bit_or, if◌then◌else◌}
use Rattle.std.specs.Int.{to_le_bytes, w64}
use Rattle.std.proofs.lemmas.Bool.{cases_eq}
use Rattle.std.proofs.lemmas.Bool.Decides.{nat_tests}
use Rattle.std.proofs.lemmas.List.Elements.{All-append, All-cons, All-nil, All-head, All-tail}
use Rattle.board_terms.specs.declared.pages.Kind.{Kind}
use Rattle.board_terms.specs.declared.pages.Kind.TheVariants.{Sim, Sief}
use Rattle.gpa_space.specs.Space.{owner_of}
use Rattle.synic_board.specs.declared.event.Event.{Event}
use Rattle.synic_board.specs.declared.event.Event.TheVariants.{Store}
use Rattle.synic_board.specs.State.{State, space_of}
use Rattle.synic_board.specs.Run.{Run, run_of}
use Rattle.synic_board.specs.Step.{step}
use Rattle.live_pages.specs.Words.{known}
use Rattle.live_pages.specs.declared.access.Access.{Access}
use Rattle.live_pages.specs.declared.access.Access.TheVariants as access
use Rattle.live_board.specs.Live.{IsShown, FindInPage, AreMarks, explained, explained_after, looked_from, marked_from, number_at, owner_at, store_of, shown_by, marked_by}
use Rattle.live_board.proofs.Guests.{Rest, AreOfPage, rest-after, rest-store, is-owner}
use Rattle.live_board.proofs.Joined.{run-append, rest-number, rest-shown}
use Rattle.law_processors.specs.Isolation.{Untouched, is_overlay_of, touches}

-- a store of a word of an own page
abbrev pub IsStoreIn : State → ℕ → Kind → Event → Type 0
IsStoreIn s p k event = (w : ℕ) × (w < 512) × (value : ℕ) × (event ≡ store_of s p k w value)

one-in : (s : State) (p : ℕ) (k : Kind) (w value : ℕ) (b : Bool) → w < 512
    → All (IsStoreIn s p k) (if b then [] else store_of s p k w value ∷ [])
one-in s p k w value true small = All-nil (IsStoreIn s p k)
one-in s p k w value false small =
    All-cons (IsStoreIn s p k) (store_of s p k w value) [] (w, small, value, refl) (All-nil (IsStoreIn s p k))

-- what accesses of words of a page show
pub explained-in : (s : State) (p : ℕ) (k : Kind) (news log : List Access) → FindInPage news
    → All (IsStoreIn s p k) (explained s p k news log)
explained-in s p k [] log within = All-nil (IsStoreIn s p k)
explained-in s p k (access.Load w found ∷ news) log within =
    All-append (IsStoreIn s p k) (explained s p k news log) (shown_by s p k (access.Load w found) (news ++ log))
    (explained-in s p k news log within.1) (one-in s p k w found (found == known (news ++ log) w) within.0)
explained-in s p k (access.FetchOr w mask found ∷ news) log within =
    All-append (IsStoreIn s p k) (explained s p k news log)
    (shown_by s p k (access.FetchOr w mask found) (news ++ log)) (explained-in s p k news log within.1)
    (one-in s p k w found (found == known (news ++ log) w) within.0)
explained-in s p k (access.Store w value ∷ news) log within =
    All-append (IsStoreIn s p k) (explained s p k news log) [] (explained-in s p k news log within)
    (All-nil (IsStoreIn s p k))

-- and what marks after an event show
pub marked-in : (s : State) (p : ℕ) (marks log : List Access) → AreMarks marks
    → All (IsStoreIn s p Sim) (explained_after s p marks log)
marked-in s p [] log are = All-nil (IsStoreIn s p Sim)
marked-in s p (access.Load w found ∷ marks) log are = absurd are
marked-in s p (access.Store w value ∷ marks) log are = absurd are
marked-in s p (access.FetchOr w mask found ∷ marks) log (i, low, at, is, more) =
    All-append (IsStoreIn s p Sim) (explained_after s p marks log)
    (marked_by s p (access.FetchOr w mask found) (marks ++ log)) (marked-in s p marks log more)
    (one-in s p Sim w (bit_or found mask) (bit_or found mask == bit_or (known (marks ++ log) w) mask)
    (omega (arith, low, at)))

pub not-same : (p q : ℕ) → p ≢ q → (p == q) ≡ false
not-same p q ne = grind (arith, nat_tests)

-- such a store touches no other processor
elsewhere : (s t : State) (p q : ℕ) (k : Kind) (w value : ℕ) → number_at t p k ≡ number_at s p k → IsShown t p k
    → p ≢ q → w < 512 → touches t (store_of s p k w value) q ≡ false
elsewhere s t p q k w value number shown ne small =
    ap (λ n. is_overlay_of q (owner_of (space_of t) n)) (place (number_at s p k) ∙ sym number)
    ∙ ap (is_overlay_of q) shown ∙ other k
  where
    place : (n : ℕ) → (n * 4096 + 8 * w) / 4096 ≡ n
    place n = omega (arith, small)

    other : (k : Kind) → is_overlay_of q (owner_at p k) ≡ false
    other Sim = not-same p q ne
    other Sief = not-same p q ne

pub stores-elsewhere : (es : List Event) (s t : State) (p q : ℕ) (k : Kind) → number_at t p k ≡ number_at s p k
    → IsShown t p k → p ≢ q → All (IsStoreIn s p k) es → Untouched t es q × Rest t (run_of t es).0
unfolding run_of
stores-elsewhere [] s t p q k number shown ne all = (tt, refl)
stores-elsewhere (e ∷ es) s t p q k number shown ne all =
    one (All-head (IsStoreIn s p k) e es all)
    (λ now number-now shown-now.
    stores-elsewhere es s now p q k number-now shown-now ne (All-tail (IsStoreIn s p k) e es all))
  where
    one : IsStoreIn s p k e
        → ((now : State) → number_at now p k ≡ number_at s p k → IsShown now p k
        → Untouched now es q × Rest now (run_of now es).0)
        → Untouched t (e ∷ es) q × Rest t (run_of t (e ∷ es)).0
    one (w, small, value, is) more =
        let same : e ≡ store_of t p k w value =
        is ∙ ap (λ n. Store (n * 4096 + 8 * w) (record { items = to_le_bytes w64 value })) (sym number) in
        let first : Rest t (step t e).0 =
        subst (λ x. Rest t (step t x).0) (sym same) (rest-store t p k w value shown small) in
        let rest = more (step t e).0 (rest-number t (step t e).0 p k first ∙ number)
        (rest-shown t (step t e).0 p k first shown) in (
          (
            subst (λ x. touches t x q ≡ false) (sym is) (elsewhere s t p q k w value number shown ne small),
            rest.0,
          ),
          rest-after t (step t e).0 (run_of (step t e).0 es).0 first rest.1,
        )

pub untouched-append : (a b : List Event) (s : State) (q : ℕ) → Untouched s a q → Untouched (run_of s a).0 b q
    → Untouched s (a ++ b) q
unfolding run_of
untouched-append [] b s q h g = g
untouched-append (e ∷ a) b s q h g = (h.0, untouched-append a b (step s e).0 q h.1 g)

-- no stores
pub none-touched : (t : State) (es : List Event) (q : ℕ) → es ≡ [] → Untouched t es q × Rest t (run_of t es).0
unfolding run_of
none-touched t es q is = subst (λ l. Untouched t l q × Rest t (run_of t l).0) (sym is) (tt, refl)

-- what accesses to a page of another processor show, if it is seen
pub looked-elsewhere : (s t : State) (p q : ℕ) (k : Kind) (news log : List Access) → Rest s t → p ≢ q
    → (IsShown s p k → FindInPage news) → ((IsShown s p k → ⊥) → explained s p k news log ≡ [])
    → Untouched t (explained s p k news log) q × Rest t (run_of t (explained s p k news log)).0
looked-elsewhere s t p q k news log rest ne within hidden =
    by (is-owner (owner_of (space_of s) (number_at s p k)) p k)
  where
    by : (IsShown s p k) ⊎ (IsShown s p k → ⊥)
        → Untouched t (explained s p k news log) q × Rest t (run_of t (explained s p k news log)).0
    by (inl shown) =
        stores-elsewhere (explained s p k news log) s t p q k (rest-number s t p k rest) (rest-shown s t p k rest shown)
        ne (explained-in s p k news log (within shown))
    by (inr unseen) = none-touched t (explained s p k news log) q (hidden unseen)

pub page-within : (news : List Access) → AreOfPage news → FindInPage news
page-within [] of = tt
page-within (access.Load w found ∷ news) of = (of.0, page-within news of.1)
page-within (access.FetchOr w mask found ∷ news) of = absurd of
page-within (access.Store w value ∷ news) of = absurd of

-- what looks and marks at the page of some processor are
pub record IsOfPage (s : State) (q r : ℕ) (looks marks : List Access) : Type 0 where
  pub shown : IsShown s r Sim → AreOfPage looks
  pub hidden : (IsShown s r Sim → ⊥) → (looks ≡ []) × (marks ≡ [])
  pub marked : AreMarks marks
  pub own : r ≡ q → (looks ≡ []) × (marks ≡ [])

pub shows-none : (s : State) (p : ℕ) (k : Kind) (news log : List Access) → news ≡ [] → explained s p k news log ≡ []
shows-none s p k news log is = ap (λ l. explained s p k l log) is

-- looks at the pages of some processors, of which those of q are none
pub all-looked : (m k q : ℕ) (s t : State) (pages : List (List Access)) (looks marks : ℕ → List Access) → Rest s t
    → ((r : ℕ) → r < k + m → IsOfPage s q r (looks r) (marks r))
    → Untouched t (looked_from s pages looks k m) q × Rest t (run_of t (looked_from s pages looks k m)).0
unfolding run_of
all-looked zero k q s t pages looks marks rest of = (tt, refl)
all-looked (suc m) k q s t pages looks marks rest of =
    let first = one (cases_eq k q) in
    let more = all-looked m (suc k) q s (run_of t es).0 pages looks marks
    (rest-after s t (run_of t es).0 rest first.1) (λ r low. of r (omega (arith, low))) in (
      untouched-append es (looked_from s pages looks (suc k) m) t q first.0 more.0,
      subst (λ (r : Run). Rest t r.0) (sym (run-append t es (looked_from s pages looks (suc k) m)))
          (rest-after t (run_of t es).0 (run_of (run_of t es).0 (looked_from s pages looks (suc k) m)).0 first.1
          more.1),
    )
  where
    es : List Event
    es = explained s k Sim (looks k) (get_or pages (2 * k) [])

    page : IsOfPage s q k (looks k) (marks k)
    page = of k (omega arith)

    one : (k ≡ q) ⊎ (k ≢ q) → Untouched t es q × Rest t (run_of t es).0
    one (inl e) = none-touched t es q (shows-none s k Sim (looks k) (get_or pages (2 * k) []) (page.own e).0)
    one (inr ne) =
        looked-elsewhere s t k q Sim (looks k) (get_or pages (2 * k) []) rest ne
        (λ shown. page-within (looks k) (page.shown shown))
        (λ no. shows-none s k Sim (looks k) (get_or pages (2 * k) []) (page.hidden no).0)

-- marks of the slots of the page of some processor after an event, which leaves what the guest sees of it
pub marked-elsewhere : (s t : State) (q r : ℕ) (looks marks log : List Access) → number_at t r Sim ≡ number_at s r Sim
    → (IsShown s r Sim → IsShown t r Sim) → IsOfPage s q r looks marks
    → Untouched t (explained_after s r marks log) q × Rest t (run_of t (explained_after s r marks log)).0
marked-elsewhere s t q r looks marks log number still page =
    by (cases_eq r q) (is-owner (owner_of (space_of s) (number_at s r Sim)) r Sim)
  where
    none : marks ≡ [] → Untouched t (explained_after s r marks log) q
        × Rest t (run_of t (explained_after s r marks log)).0
    none is = none-touched t (explained_after s r marks log) q (ap (λ l. explained_after s r l log) is)

    by : (r ≡ q) ⊎ (r ≢ q) → (IsShown s r Sim) ⊎ (IsShown s r Sim → ⊥)
        → Untouched t (explained_after s r marks log) q × Rest t (run_of t (explained_after s r marks log)).0
    by (inl e) which = none (page.own e).1
    by (inr ne) (inr unseen) = none (page.hidden unseen).1
    by (inr ne) (inl shown) =
        stores-elsewhere (explained_after s r marks log) s t r q Sim number (still shown) ne
        (marked-in s r marks log page.marked)

pub all-marked : (m k q : ℕ) (s t : State) (pages : List (List Access)) (looks stores marks : ℕ → List Access)
    → ((r : ℕ) → number_at t r Sim ≡ number_at s r Sim) → ((r : ℕ) → IsShown s r Sim → IsShown t r Sim)
    → ((r : ℕ) → r < k + m → IsOfPage s q r (looks r) (marks r))
    → Untouched t (marked_from s pages looks stores marks k m) q
    × Rest t (run_of t (marked_from s pages looks stores marks k m)).0
unfolding run_of
all-marked zero k q s t pages looks stores marks number still of = (tt, refl)
all-marked (suc m) k q s t pages looks stores marks number still of =
    let first = all-marked m (suc k) q s t pages looks stores marks number still (λ r low. of r (omega (arith, low))) in
    let mid : State = (run_of t es).0 in
    let last = marked-elsewhere s mid q k (looks k) (marks k) log (rest-number t mid k Sim first.1 ∙ number k)
    (λ shown. rest-shown t mid k Sim first.1 (still k shown)) (of k (omega arith)) in (
      untouched-append es (explained_after s k (marks k) log) t q first.0 last.0,
      subst (λ (r : Run). Rest t r.0) (sym (run-append t es (explained_after s k (marks k) log)))
          (rest-after t mid (run_of mid (explained_after s k (marks k) log)).0 first.1 last.1),
    )
  where
    es : List Event
    es = marked_from s pages looks stores marks (suc k) m

    log : List Access
    log = stores k ++ (looks k ++ get_or pages (2 * k) [])
