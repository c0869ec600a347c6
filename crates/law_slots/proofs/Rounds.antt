-- Moves of a guest that uses its messages are counted until a call stores the header.
use Rattle.std.proofs.Common.{◌≡◌, ◌⊎◌, inl, inr, ℕ, ◌+◌, ◌≤◌, Bool, true, false, List, [], ◌∷◌, refl, sym, ap, ◌∙◌, arith}
use Rattle.std.specs.Prelude.{◌==◌, not, ◌&&◌, ◌||◌, bit_or, if◌then◌else◌}
use Rattle.std.specs.Int.Bits.{or_zero_r}
use Rattle.std.proofs.lemmas.Nat.{or_mod}
use Rattle.std.proofs.lemmas.Bool.Decides.{nat_tests}
use Rattle.live_pages.specs.Words.{type_of, is_pending}
use Rattle.live_pages.specs.Traces.{memory, Finds, is_of, is_accessed}
use Rattle.live_pages.specs.declared.access.Turn.{Turn}
use Rattle.live_pages.specs.declared.access.Turn.TheVariants.{ByHost}
use Rattle.live_pages.specs.declared.access.Access.{Access}
use Rattle.live_pages.specs.declared.access.Access.TheVariants.{Load, FetchOr, Store}
use Rattle.live_pages.specs.Headers.{is_occupied}
use Rattle.law_slots.specs.Slots.{GuestAt, guest_is, looking, resting, taken, cleared, ending}
use Rattle.law_slots.specs.Pages.{PageState, Move, Run, Call, Act, touches, takes, clears, drains, fences, sees, writes, alone, calls, is_store_of, MayMove, moved, AreMoves, moved_by, access_of, news_of, entered, IsLeftMarked, MayAct, acted, AreActs, acted_by, opened}
use Rattle.law_slots.specs.Rounds.{leaves_type, is_mild, are_mild, round, rounds, IsPatient, ArePatient, rounds_of, AFewRoundsPlace, AnEomFills}
use Rattle.law_slots.proofs.Ranks as r
use Rattle.law_slots.proofs.Ranks.{rank}
use Rattle.law_slots.proofs.Views.{fits}
use Rattle.law_slots.proofs.Effects.{effect}
use Rattle.law_slots.proofs.Memory.{in-memory, as-known, is-fit, Kept, fit-move, fit-entered, kept-act, kept-acts, emptied, beside, accessed-in-both, regroup, or-one}

abbrev rank-of : ℕ → PageState → ℕ
rank-of x s = rank (is_occupied (in-memory x s)) s.buffered looking s.guest false

most : (o b : Bool) (g : GuestAt) → rank o b looking g false ≤ 9
most o b g = grind arith

by-clear : (o e b : Bool) (g : GuestAt) → fits o e b g ≡ true → guest_is g taken ≡ true
    → 1 + rank o true looking cleared false ≤ rank o b looking g false
by-clear o e b g f m = grind arith

by-drain : (o e b : Bool) (g : GuestAt) → fits o e b g ≡ true → b ≡ true
    → 1 + rank false false looking g false ≤ rank o b looking g false
by-drain o e b g f m = grind arith

by-end : (o b : Bool) (g : GuestAt) → guest_is g ending ≡ true → o ≡ true
    → 1 + rank o b looking resting false ≤ rank o b looking g false
by-end o b g m f = grind arith

zero-mask : (m : ℕ) → (m == 0) ≡ true → m ≡ 0
zero-mask m e = grind (arith, nat_tests)

-- a mild access leaves the type in memory
mild-access : (x : ℕ) (turns : List Turn) (a : Access) → leaves_type x a ≡ true → Finds (memory turns) a
    → is_occupied (memory (ByHost a ∷ turns) x) ≡ is_occupied (memory turns x)
mild-access x turns (Load w found) mild is = refl
mild-access x turns (FetchOr w mask found) mild is = by (x == w) refl
  where
    equal : (a b : ℕ) → (a == b) ≡ true → a ≡ b
    equal a b e = grind (arith, nat_tests)

    masked : (a b : Bool) → (not a || b) ≡ true → a ≡ true → b ≡ true
    masked a b m e = grind arith

    by : (b : Bool) → (x == w) ≡ b
        → is_occupied (memory (ByHost (FetchOr w mask found) ∷ turns) x) ≡ is_occupied (memory turns x)
    by true e =
        ap (λ (b : Bool). is_occupied (if b then bit_or found mask else memory turns x)) e
        ∙ ap (λ t. not (t == 0)) (or_mod found mask 32
        ∙ ap (λ m. bit_or (type_of found) m) (zero-mask (type_of mask) (masked (x == w) (type_of mask == 0) mild e))
        ∙ or_zero_r (type_of found))
        ∙ ap is_occupied (is ∙ ap (memory turns) (sym (equal x w e)))
    by false e = ap (λ (b : Bool). is_occupied (if b then bit_or found mask else memory turns x)) e
mild-access x turns (Store w value) mild is =
    ap (λ (b : Bool). is_occupied (if b then value else memory turns x)) (off (x == w) mild)
  where
    off : (b : Bool) → not b ≡ true → b ≡ false
    off b e = grind arith

move-counts : (x : ℕ) (s : PageState) (m : Move) → MayMove x s m → is-fit x s ≡ true → is_mild x m ≡ true
    → round m + rank-of x (moved x s m) ≤ rank-of x s
move-counts x s (touches a) m f mild =
    let same = ap (λ o. rank o s.buffered looking s.guest false) (mild-access x s.turns a mild m.0) in
    omega arith
move-counts x s takes m f mild =
    r.by-take (is_occupied (in-memory x s)) s.buffered looking s.guest false m
move-counts x s clears m f mild =
    by-clear (is_occupied (in-memory x s)) (is_occupied (as-known x s)) s.buffered s.guest f m
move-counts x s drains m f mild =
    let less = by-drain (is_occupied (in-memory x s)) (is_occupied (as-known x s)) s.buffered s.guest f m in
    let same = ap (λ o. rank o false looking s.guest false) (emptied x s) in
    omega arith
move-counts x s fences m f mild =
    r.by-fence (is_occupied (in-memory x s)) s.buffered looking s.guest false m
move-counts x s sees m f mild =
    r.by-sight (is_occupied (in-memory x s)) (is_pending (in-memory x s)) s.buffered looking s.guest false m
move-counts x s (writes w value) m f mild =
    let same = ap (λ h. rank (is_occupied h) s.buffered looking s.guest false) (beside x w value s.turns m) in
    omega arith

both : (a b : Bool) → (a && b) ≡ true → (a ≡ true) × (b ≡ true)
both a b e = (grind arith, grind arith)

moves-count : (ms : List Move) (x : ℕ) (s : PageState) → AreMoves x s ms → is-fit x s ≡ true → are_mild x ms ≡ true
    → rounds ms + rank-of x (moved_by x s ms) ≤ rank-of x s
moves-count [] x s m f mild = omega arith
moves-count (y ∷ ms) x s m f mild =
    let parts = both (is_mild x y) (are_mild x ms) mild in
    let one = move-counts x s y m.0 f parts.0 in
    let more = moves-count ms x (moved x s y) m.1 (fit-move x s y m.0 f) parts.1 in
    omega arith

-- an empty slot stays empty, and so the host finds it, if it stores nothing there
known-empty : (o p e k o2 p2 e2 k2 of st : Bool) (t : Bool)
    → ((o2 ≡ o) × (p2 ≡ p) × (e2 ≡ e) × (k2 ≡ k) × (of ≡ false))
    ⊎ ((e2 ≡ o2) × (k2 ≡ p2) × (((o ≡ true → o2 ≡ true) × (p ≡ true → p2 ≡ true)) ⊎ ((st ≡ true) × (e ≡ false))))
    → o2 ≡ false → (t ≡ true → e ≡ false) → (t || of) ≡ true → e2 ≡ false
known-empty o p e k o2 p2 e2 k2 of st true (inl (x, y, z, u, v)) none h s = let w = h refl in z ∙ w
known-empty o p e k o2 p2 e2 k2 of st false (inl (x, y, z, u, v)) none h s = absurd (cc)
known-empty o p e k o2 p2 e2 k2 of st t (inr (x, y, z)) none h s = x ∙ none

empty-move : (x : ℕ) (s : PageState) (m : Move) → MayMove x s m → is_mild x m ≡ true
    → is_occupied (in-memory x s) ≡ false → is_occupied (in-memory x (moved x s m)) ≡ false
empty-move x s (touches a) m mild none = mild-access x s.turns a mild m.0 ∙ none
empty-move x s takes m mild none = none
empty-move x s clears m mild none = none
empty-move x s drains m mild none = emptied x s
empty-move x s fences m mild none = none
empty-move x s sees m mild none = none
empty-move x s (writes w value) m mild none = ap is_occupied (beside x w value s.turns m) ∙ none

or-off : (b : Bool) → (b || false) ≡ b
or-off b = grind arith

found-empty : (x : ℕ) (s : PageState) (m : Move) (t : Bool) → MayMove x s m → is_mild x m ≡ true
    → is_occupied (in-memory x s) ≡ false → (t ≡ true → is_occupied (as-known x s) ≡ false)
    → (t || is_accessed x (access_of m)) ≡ true → is_occupied (as-known x (moved x s m)) ≡ false
found-empty x s (touches a) t m mild none h e =
    known-empty (is_occupied (in-memory x s)) (is_pending (in-memory x s)) (is_occupied (as-known x s))
    (is_pending (as-known x s)) (is_occupied (in-memory x (moved x s (touches a))))
    (is_pending (in-memory x (moved x s (touches a)))) (is_occupied (as-known x (moved x s (touches a))))
    (is_pending (as-known x (moved x s (touches a)))) (is_of x a) (is_store_of x a) t (effect x s.turns a m.0 m.1)
    (empty-move x s (touches a) m mild none) h (sym (ap (λ b. t || b) (or-off (is_of x a))) ∙ e)
found-empty x s takes t m mild none h e = h (or-one t e)
found-empty x s clears t m mild none h e = h (or-one t e)
found-empty x s drains t m mild none h e = h (or-one t e)
found-empty x s fences t m mild none h e = h (or-one t e)
found-empty x s sees t m mild none h e = h (or-one t e)
found-empty x s (writes w value) t m mild none h e = h (or-one t e)

stays-empty : (ms : List Move) (x : ℕ) (s : PageState) (t : Bool) → AreMoves x s ms → are_mild x ms ≡ true
    → is_occupied (in-memory x s) ≡ false → (t ≡ true → is_occupied (as-known x s) ≡ false)
    → (t || is_accessed x (news_of ms)) ≡ true → is_occupied (as-known x (moved_by x s ms)) ≡ false
stays-empty [] x s t m mild none h e = h (or-one t e)
stays-empty (y ∷ ms) x s t m mild none h e =
    let parts = both (is_mild x y) (are_mild x ms) mild in
    stays-empty ms x (moved x s y) (t || is_accessed x (access_of y)) m.1 parts.1
    (empty-move x s y m.0 parts.0 none) (λ u. found-empty x s y t m.0 parts.0 none h u)
    (sym (regroup t (is_accessed x (access_of y)) (is_accessed x (news_of ms)))
    ∙ ap (λ b. t || b) (sym (accessed-in-both x (news_of ms) (access_of y))) ∙ e)

same-page : (s : PageState) (b : Bool) (x : ℕ) → in-memory x (entered s b) ≡ in-memory x s
same-page s true x = refl
same-page s false x = refl

-- a call that leaves the slot marked and stores nothing there found it occupied
was-full : (x : ℕ) (s : PageState) (ms : List Move) → AreMoves x s ms → are_mild x ms ≡ true
    → IsLeftMarked x ms (moved_by x s ms) → is_occupied (in-memory x s) ≡ true
was-full x s ms m mild (accessed, full, pending) = by (is_occupied (in-memory x s)) refl
  where
    by : (b : Bool) → is_occupied (in-memory x s) ≡ b → is_occupied (in-memory x s) ≡ true
    by true e = e
    by false e =
        let none = stays-empty ms x s false m mild e (λ u. absurd (cc)) accessed in absurd (cc)

call-counts : (x : ℕ) (run : Run) (c : Call) → MayAct x run (calls c) → is-fit x run.page ≡ true
    → IsPatient x run (calls c)
    → ((if c.ends then 1 else 0) + rounds c.moves) + rank-of x (moved_by x (entered run.page c.ends) c.moves)
    ≤ rank-of x run.page
call-counts x run c m f patient =
    by c.ends m.0 m.1 (fit-entered x run.page c.ends m.0 f) (λ e. patient.1 (ended c.ends c.pays e))
  where
    ended : (a b : Bool) → a ≡ true → (a || b) ≡ true
    ended a b e = grind arith

    by : (b : Bool) → (b ≡ true → guest_is run.page.guest ending ≡ true) → AreMoves x (entered run.page b) c.moves
        → is-fit x (entered run.page b) ≡ true
        → (b ≡ true → IsLeftMarked x c.moves (moved_by x (entered run.page b) c.moves))
        → ((if b then 1 else 0) + rounds c.moves) + rank-of x (moved_by x (entered run.page b) c.moves)
        ≤ rank-of x run.page
    by true ends ms fit left =
        let more = moves-count c.moves x (entered run.page true) ms fit patient.0 in
        let full = was-full x (entered run.page true) c.moves ms patient.0 (left refl) in
        let one = by-end (is_occupied (in-memory x run.page)) run.page.buffered run.page.guest (ends refl) full in
        omega arith
    by false ends ms fit left = let more = moves-count c.moves x run.page ms fit patient.0 in omega arith

acts-count : (acts : List Act) (x : ℕ) (run : Run) → AreActs x run acts → Kept x run → ArePatient x run acts
    → rounds_of acts ≤ rank-of x run.page
acts-count [] x run m k p = omega arith
acts-count (alone (touches a) ∷ acts) x run m k p = absurd m.0
acts-count (alone takes ∷ acts) x run m k p =
    let one = move-counts x run.page takes m.0 k.fit refl in
    let more = acts-count acts x (acted x run (alone takes)) m.1 (kept-act x run (alone takes) m.0 k) p.1 in
    omega arith
acts-count (alone clears ∷ acts) x run m k p =
    let one = move-counts x run.page clears m.0 k.fit refl in
    let more = acts-count acts x (acted x run (alone clears)) m.1 (kept-act x run (alone clears) m.0 k) p.1 in
    omega arith
acts-count (alone drains ∷ acts) x run m k p =
    let one = move-counts x run.page drains m.0 k.fit refl in
    let more = acts-count acts x (acted x run (alone drains)) m.1 (kept-act x run (alone drains) m.0 k) p.1 in
    omega arith
acts-count (alone fences ∷ acts) x run m k p =
    let one = move-counts x run.page fences m.0 k.fit refl in
    let more = acts-count acts x (acted x run (alone fences)) m.1 (kept-act x run (alone fences) m.0 k) p.1 in
    omega arith
acts-count (alone sees ∷ acts) x run m k p =
    let one = move-counts x run.page sees m.0 k.fit refl in
    let more = acts-count acts x (acted x run (alone sees)) m.1 (kept-act x run (alone sees) m.0 k) p.1 in
    omega arith
acts-count (alone (writes w value) ∷ acts) x run m k p =
    let one = move-counts x run.page (writes w value) m.0 k.fit refl in
    let more = acts-count acts x (acted x run (alone (writes w value))) m.1
    (kept-act x run (alone (writes w value)) m.0 k) p.1 in
    omega arith
acts-count (calls c ∷ acts) x run m k p =
    let one = call-counts x run c m.0 k.fit p.0 in
    let more = acts-count acts x (acted x run (calls c)) m.1 (kept-act x run (calls c) m.0 k) p.1 in
    omega arith

first : (x : ℕ) → Kept x opened
first x = record { fit = refl; wants = λ w. absurd (cc) }

pub a_few_rounds_place : AFewRoundsPlace
a_few_rounds_place x earlier later m more patient =
    let run = acted_by x opened earlier in
    let some = acts-count later x run more (kept-acts earlier x opened m (first x)) patient in
    let all = most (is_occupied (in-memory x run.page)) run.page.buffered run.page.guest in
    omega arith

pub an_eom_fills : AnEomFills
an_eom_fills x earlier c m more empty left = by (are_mild x c.moves) refl
  where
    run : Run
    run = acted_by x opened earlier

    by : (b : Bool) → are_mild x c.moves ≡ b → are_mild x c.moves ≡ false
    by false e = e
    by true e =
        let full = was-full x (entered run.page c.ends) c.moves more.0.1 e left in
        let none = ap is_occupied (same-page run.page c.ends x) ∙ empty in
        absurd (cc)
