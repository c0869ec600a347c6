-- A guest that finds a message reads all of it.
use Rattle.std.proofs.Common.{◌≡◌, ◌≢◌, ◌⊎◌, inl, inr, ℕ, zero, suc, ◌+◌, ◌*◌, ◌<◌, ◌≤◌, true, List, [], ◌∷◌, ◌++◌, refl, sym, ap, ◌∙◌, subst, arith, append_assoc}
use Rattle.std.specs.Prelude.{◌==◌, bit_or, if◌then◌else◌}
use Rattle.std.proofs.lemmas.Bool.{cases_eq}
use Rattle.std.proofs.lemmas.List.{append_cancel_right}
use Rattle.live_pages.specs.Words.{type_of, header}
use Rattle.live_pages.specs.Traces.{memory, accesses, hosts_turns, IsHistory, IsGuestLoad}
use Rattle.live_pages.specs.declared.access.Access.{Access}
use Rattle.live_pages.specs.declared.access.Access.TheVariants.{Load, FetchOr, Store}
use Rattle.live_pages.specs.declared.access.Turn.{Turn}
use Rattle.live_pages.specs.declared.access.Turn.TheVariants.{ByHost}
use Rattle.live_pages.proofs.Tracing.{accesses-hosts, same}
use Rattle.live_board.specs.Live.{AreReads, ArePuts, IsStored, IsStoredAnew, HasPlaced}
use Rattle.live_board.specs.Waking.{IsUntouched}
use Rattle.live_board.proofs.Part.{type-marked}
use Rattle.live_board.proofs.InMemory.{placed-in-memory}
use Rattle.law_pages.proofs.Wholes.{here, learns, sees_load}

-- looks at a header and marks of it leave its type
reads-keep : (i : ℕ) (reads : List Access) (turns : List Turn) → AreReads i reads
    → IsHistory (hosts_turns reads ++ turns)
    → type_of (memory (hosts_turns reads ++ turns) (header i)) ≡ type_of (memory turns (header i))
reads-keep i [] turns are h = refl
reads-keep i (Load w found ∷ reads) turns are h = reads-keep i reads turns are.1 h.1
reads-keep i (FetchOr w mask found ∷ reads) turns are h =
    ap (λ x. type_of (if header i == x then bit_or found mask else memory (hosts_turns reads ++ turns) (header i)))
    are.0
    ∙ ap type_of (here (header i) (bit_or found mask) (memory (hosts_turns reads ++ turns) (header i)))
    ∙ ap (λ m. type_of (bit_or found m)) are.1 ∙ type-marked found
    ∙ ap type_of (h.0 ∙ ap (memory (hosts_turns reads ++ turns)) are.0) ∙ reads-keep i reads turns are.2 h.1
reads-keep i (Store w value ∷ reads) turns are h = absurd are

-- the guest has not stored a word since the host stored its slot
untouched-puts : (i : ℕ) (image : ℕ → ℕ) (n : ℕ) (news : List Access) (turns : List Turn) → ArePuts i image n news
    → (k : ℕ) → 1 ≤ k → k ≤ n → IsUntouched (32 * i + k) (hosts_turns news ++ turns)
untouched-puts i image zero news turns h k some low = absurd (omega (arith, some, low))
untouched-puts i image (suc n) news turns h k some low =
    by (λ ne. untouched-puts i image n h.0 turns h.2 k some (omega (arith, low, ne))) h.1 (cases_eq k (suc n))
  where
    w : ℕ
    w = 32 * i + suc n

    by : (k ≢ suc n → IsUntouched (32 * i + k) (hosts_turns h.0 ++ turns))
        → (news ≡ Store w (image (suc n)) ∷ h.0) ⊎ ((found : ℕ) × (news ≡ Store w (image (suc n)) ∷ Store w found ∷
        h.0))
        → (k ≡ suc n) ⊎ (k ≢ suc n) → IsUntouched (32 * i + k) (hosts_turns news ++ turns)
    by below (inl is) which =
        subst (λ l. IsUntouched (32 * i + k) (hosts_turns l ++ turns)) (sym is)
        (elim which as (λ _. ((32 * i + k == w) ≡ true) ⊎ IsUntouched (32 * i + k) (hosts_turns h.0 ++ turns)) [
          | inl e ↦ inl (same (32 * i + k) w (omega (arith, e)))
          | inr ne ↦ inr (below ne)
        ])
    by below (inr (found, is)) which =
        subst (λ l. IsUntouched (32 * i + k) (hosts_turns l ++ turns)) (sym is)
        (elim which as (λ _. ((32 * i + k == w) ≡ true)
        ⊎ (((32 * i + k == w) ≡ true) ⊎ IsUntouched (32 * i + k) (hosts_turns h.0 ++ turns))) [
          | inl e ↦ inl (same (32 * i + k) w (omega (arith, e)))
          | inr ne ↦ inr (inr (below ne))
        ])

untouched-slot : (i : ℕ) (image : ℕ → ℕ) (stores : List Access) (turns : List Turn) → IsStored i image stores
    → (k : ℕ) → k < 32 → IsUntouched (32 * i + k) (hosts_turns stores ++ turns)
untouched-slot i image stores turns h k low =
    subst (λ l. IsUntouched (32 * i + k) (hosts_turns l ++ turns)) (sym h.1)
    (elim (cases_eq k 0) as (λ _. ((32 * i + k == 32 * i) ≡ true)
    ⊎ IsUntouched (32 * i + k) (hosts_turns h.0 ++ turns)) [
      | inl e ↦ inl (same (32 * i + k) (32 * i) (omega (arith, e)))
      | inr ne ↦ inr (untouched-puts i image 31 h.0 turns h.2 k (omega (arith, ne)) (omega (arith, low)))
    ])

hosts-append : (later news : List Access) → hosts_turns (later ++ news) ≡ hosts_turns later ++ hosts_turns news
hosts-append [] news = refl
hosts-append (a ∷ later) news = ap (λ l. ByHost a ∷ l) (hosts-append later news)

-- the words of memory after a call that placed a message in a slot that was empty, if the header has a type
pub whole-in-memory : (i : ℕ) (image : ℕ → ℕ) (news log now : List Access) (seen : List Turn) → accesses seen ≡ log
    → now ≡ news ++ log → HasPlaced i image log now → IsHistory (hosts_turns news ++ seen)
    → type_of (memory seen (header i)) ≡ 0 → type_of (memory (hosts_turns news ++ seen) (header i)) ≢ 0
    → (k : ℕ) → k < 32 → memory (hosts_turns news ++ seen) (32 * i + k) ≡ image k
whole-in-memory i image news log now seen all is placed h empty full k low = by placed.2
  where
    reads : List Access
    reads = placed.0

    cut : (l : List Access) → now ≡ l ++ log → news ≡ l
    cut l e = append_cancel_right news l log (sym is ∙ e)

    by : (now ≡ reads ++ log)
        ⊎ ((stores : List Access) × IsStoredAnew i image (reads ++ log) stores × (now ≡ stores ++ (reads ++ log)))
        → memory (hosts_turns news ++ seen) (32 * i + k) ≡ image k
    by (inl none) =
        let same-news = cut reads none in
        let kept = subst (λ l. IsHistory (hosts_turns l ++ seen)) same-news h in
        absurd (full (ap (λ l. type_of (memory (hosts_turns l ++ seen) (header i))) same-news
        ∙ reads-keep i reads seen placed.1 kept ∙ empty))
    by (inr (stores, anew, more)) =
        let same-news = cut (stores ++ reads) (more ∙ sym (append_assoc stores reads log)) in
        let turns : hosts_turns news ++ seen ≡ hosts_turns stores ++ (hosts_turns reads ++ seen) =
        ap (λ l. hosts_turns l ++ seen) same-news ∙ ap (λ l. l ++ seen) (hosts-append stores reads)
        ∙ append_assoc (hosts_turns stores) (hosts_turns reads) seen in
        placed-in-memory (hosts_turns news ++ seen) stores (reads ++ log) i image k h anew.0
        (accesses-hosts news seen ∙ ap (λ l. news ++ l) all ∙ sym is ∙ more) low
        (subst (IsUntouched (32 * i + k)) (sym turns)
        (untouched-slot i image stores (hosts_turns reads ++ seen) anew.0 k low))

-- three loads of the guest around such a call: of the header before and after it, and of a word
pub read-whole : (i : ℕ) (image : ℕ → ℕ) (slot k before head found : ℕ) (log now : List Access)
    (seen seen1 seen2 seen3 : List Turn) → slot ≡ header i → k < 32 → HasPlaced i image log now
    → IsGuestLoad slot before log seen seen1 → IsGuestLoad slot head now seen1 seen2
    → IsGuestLoad (slot + k) found now seen2 seen3 → type_of before ≡ 0 → type_of head ≢ 0 → found ≡ image k
read-whole i image slot k before head found log now seen seen1 seen2 seen3 at low placed one two three empty full =
    let all = sees_load slot before log seen seen1 one in
    let more = two.0.host ∙ ap (λ l. two.0.since ++ l) all in
    let r = learns slot head two.0.since log now seen1 seen2 all more two in
    let last = learns (slot + k) found [] now now seen2 seen3 (sees_load slot head now seen1 seen2 two) refl three in
    last.1 ∙ ap (λ l. memory l (slot + k)) two.1
    ∙ ap (λ n. memory (hosts_turns two.0.since ++ seen1) (n + k)) at
    ∙ whole-in-memory i image two.0.since log now seen1 all more placed r.0
    (ap (λ n. type_of (memory seen1 n)) (sym at) ∙ ap type_of (sym one.2) ∙ empty)
    (λ e. full (ap type_of r.1 ∙ ap (λ n. type_of (memory (hosts_turns two.0.since ++ seen1) n)) at ∙ e)) k low
