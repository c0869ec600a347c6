-- Steps of a guest that uses its messages are counted against the places in the queue.
use Rattle.std.proofs.Common.{◌≡◌, ◌⊎◌, inl, inr, ℕ, zero, suc, ◌+◌, ◌*◌, ◌<◌, ◌≤◌, length, true, false, List, [], ◌∷◌, ◌++◌, Option, Some, None, refl, sym, ap, ◌∙◌, arith, slice_index_or}
use Rattle.std.specs.Prelude.{not, ◌||◌, if◌then◌else◌, ◌==◌}
use Rattle.std.specs.Option.{IfSome, MatchOption}
use Rattle.std.proofs.lemmas.Option.{IfSome_then, none-some}
use Rattle.std.proofs.Math.Bool.{or-true}
use Rattle.std.proofs.lemmas.Bool.Decides.{nat_tests}
use Rattle.live_pages.specs.Words.{is_pending}
use Rattle.live_pages.specs.Headers.{is_occupied}
use Rattle.law_slots.specs.Slots.{Slot, Step, idle, careful, after_mark, owed_after_mark, is_any, rest, with_first, without, may, after, are_steps, led_to, start, is_round, rounds, one_more, after_kth, ahead_after, ahead, AMessageIsFollowed, EachMessageLeaves, EachMessageIsPlaced, is_calm, are_calm, is_in, posts, ticks, looks, marks, copies, fills, withdraws, observes, resets, takes, clears, drains, fences, sees, ends, asks, pays}
use Rattle.law_slots.proofs.Headers.{mark-occupied, clear-occupied, both}
use Rattle.law_slots.proofs.Ranks as r
use Rattle.law_slots.proofs.Ranks.{rank}
use Rattle.law_slots.proofs.Runs.{is-kept, preserved, kept-in-a-run}

abbrev pub rank-of : Slot → ℕ
rank-of s = rank (is_occupied s.header) s.buffered s.host s.guest s.owed

abbrev pub weight : Step → ℕ
weight x = if is_round x then 1 else 0

-- queues
some-of : (q : List ℕ) (n : ℕ) → n < length q → is_any q ≡ true
some-of [] n l = absurd (omega arith)
some-of (t ∷ ts) n l = refl

longer : (q : List ℕ) (t : ℕ) (ts : List ℕ) (n : ℕ) → n < length q → n < length (q ++ t ∷ ts)
longer [] t ts n l = absurd (omega arith)
longer (x ∷ q) t ts zero l = omega arith
longer (x ∷ q) t ts (suc n) l = let more = longer q t ts n (omega arith) in omega arith

rest-longer : (q : List ℕ) (n : ℕ) → suc n < length q → n < length (rest q)
rest-longer [] n l = absurd (omega arith)
rest-longer (x ∷ q) n l = omega arith

more-then : (o : Option ℕ) (l : ℕ) (n : ℕ) → IfSome o (λ k. (k ≤ n) × (k < l))
    → IfSome (one_more o) (λ k. (k ≤ suc n) × (k < suc l))
more-then None l n p = tt
more-then (Some k) l n p = (omega arith, omega arith)

left : (k n : ℕ) (q : List ℕ) → n < length q → IfSome (after_kth k n) (λ j. (j ≤ n) × (j < length (without k q)))
left k n [] l = absurd (omega arith)
left zero zero (t ∷ ts) l = tt
left zero (suc n) (t ∷ ts) l = (omega arith, omega arith)
left (suc k) zero (t ∷ ts) l = (omega arith, omega arith)
left (suc k) (suc n) (t ∷ ts) l =
    more-then (after_kth k n) (length (without k ts)) n (left k n ts (omega arith))

-- what a step counts, and where a message that stays queued is then
abbrev Counts : Slot → Step → ℕ → ℕ → Type 0
Counts s x n k =
    (k < length (after careful s x).queue) × (weight x + (rank-of (after careful s x) + 10 * k) ≤ rank-of s + 10 * n)

counted : (s : Slot) (x : Step) (n : ℕ) → is-kept s ≡ true → may careful s x ≡ true → n < length s.queue
    → IfSome (ahead_after x n) (Counts s x n)
counted s (posts t) n e m l =
    let b = r.by-call (is_occupied s.header) s.buffered s.host s.guest s.owed m in
    (longer s.queue t [] n l, omega arith)
counted s (ticks t ts) n e m l =
    let b = r.by-tick (is_occupied s.header) s.buffered s.host s.guest s.owed m in
    (longer s.queue t ts n l, omega arith)
counted s looks n e m l =
    let b = r.by-look (is_occupied s.header) (is_pending s.header) s.buffered s.host s.guest s.owed m in
    (l, omega arith)
counted s marks n e m l =
    let b = r.by-mark (is_occupied s.header) s.buffered s.host s.guest s.owed m in
    let same = ap (λ o. rank o s.buffered (after_mark careful s.host (is_occupied s.header)) s.guest
    (owed_after_mark careful s.host (is_occupied s.header) s.owed)) (mark-occupied s.header) in
    (l, omega arith)
counted s copies n e m l =
    let b = r.by-copy (is_occupied s.header) s.buffered s.host s.guest s.owed m in
    (l, omega arith)
counted s (fills w) zero e m l = tt
counted s (fills w) (suc n) e m l =
    let b = r.most (is_occupied w) s.buffered idle s.guest s.owed in
    (rest-longer s.queue n l, omega arith)
counted s (withdraws k) n e m l =
    IfSome_then (after_kth k n) (left k n s.queue l) (λ j p. (p.1, let le = p.0 in omega arith))
counted s observes n e m l = (l, omega arith)
counted s resets n e m l = tt
counted s takes n e m l =
    let b = r.by-take (is_occupied s.header) s.buffered s.host s.guest s.owed m in
    (l, omega arith)
counted s clears n e m l =
    let b = r.by-clear (is_occupied s.header) (is_pending s.header) s.buffered (is_any s.queue) s.host s.guest s.owed
    e m in
    (l, omega arith)
counted s drains n e m l =
    let b = r.by-drain (is_occupied s.header) (is_pending s.header) s.buffered (is_any s.queue) s.host s.guest s.owed
    e m in
    let same = ap (λ o. rank o false s.host s.guest s.owed) (clear-occupied s.header) in
    (l, omega arith)
counted s fences n e m l =
    let b = r.by-fence (is_occupied s.header) s.buffered s.host s.guest s.owed m in
    (l, omega arith)
counted s sees n e m l =
    let b = r.by-sight (is_occupied s.header) (is_pending s.header) s.buffered s.host s.guest s.owed m in
    (l, omega arith)
counted s ends n e m l =
    let b = r.by-end (is_occupied s.header) s.buffered (is_any s.queue) s.host s.guest s.owed m
    (some-of s.queue n l) in
    (l, omega arith)
counted s asks n e m l =
    let b = r.by-eom (is_occupied s.header) s.buffered (is_any s.queue) s.host s.guest s.owed m
    (some-of s.queue n l) in
    (l, omega arith)
counted s pays n e m l =
    let b = r.by-payment (is_occupied s.header) s.buffered (is_any s.queue) s.host s.guest s.owed m
    (some-of s.queue n l) in
    (l, omega arith)

-- while a message stays queued, the steps are at most these
abbrev limit : ℕ → Option ℕ → ℕ
limit rank None = 0
limit rank (Some n) = rank + 10 * n

combine : (o : Option ℕ) (xs : List Step) (rank w big : ℕ) → IfSome o (λ k. w + (rank + 10 * k) ≤ big)
    → IfSome (ahead xs o) (λ _. rounds xs ≤ limit rank o) → IfSome (ahead xs o) (λ _. w + rounds xs ≤ big)
combine None xs rank w big p q = tt
combine (Some k) xs rank w big p q = IfSome_then (ahead xs (Some k)) q (λ j le. omega arith)

bounded : (xs : List Step) (s : Slot) (o : Option ℕ) → IfSome o (λ n. n < length s.queue) → is-kept s ≡ true
    → are_steps careful s xs ≡ true → IfSome (ahead xs o) (λ _. rounds xs ≤ limit (rank-of s) o)
bounded xs s None l e m = tt
bounded [] s (Some n) l e m = omega arith
bounded (x ∷ xs) s (Some n) l e m =
    let parts = both (may careful s x) (are_steps careful (after careful s x) xs) m in
    let one = counted s x n e parts.0 l in
    combine (ahead_after x n) xs (rank-of (after careful s x)) (weight x) (rank-of s + 10 * n)
    (IfSome_then (ahead_after x n) one (λ k p. p.1))
    (bounded xs (after careful s x) (ahead_after x n) (IfSome_then (ahead_after x n) one (λ k p. p.0))
    (preserved s x e parts.0) parts.1)

none-left : (o : Option ℕ) (a b : ℕ) → IfSome o (λ _. a ≤ b) → b < a → o ≡ None
none-left None a b p l = refl
none-left (Some n) a b p l = absurd (omega arith)

pub each_message_leaves : EachMessageLeaves
each_message_leaves earlier later n m l more many =
    let s = led_to careful start earlier in
    let most = r.most (is_occupied s.header) s.buffered s.host s.guest s.owed in
    none-left (ahead later (Some n)) (rounds later) (rank-of s + 10 * n)
    (bounded later s (Some n) l (kept-in-a-run earlier m) more) (omega arith)

-- places
in-longer : (q : List ℕ) (ts : List ℕ) (n : ℕ) → n < length q → slice_index_or (q ++ ts) n 0 ≡ slice_index_or q n 0
in-longer [] ts n l = absurd (omega arith)
in-longer (x ∷ q) ts zero l = refl
in-longer (x ∷ q) ts (suc n) l = in-longer q ts n (omega arith)

first-at : (q placed : List ℕ) → 0 < length q → with_first q placed ≡ slice_index_or q 0 0 ∷ placed
first-at [] placed l = absurd (omega arith)
first-at (x ∷ q) placed l = refl

in-rest : (q : List ℕ) (n : ℕ) → suc n < length q → slice_index_or (rest q) n 0 ≡ slice_index_or q (suc n) 0
in-rest [] n l = absurd (omega arith)
in-rest (x ∷ q) n l = refl

abbrev Stays : ℕ → List ℕ → ℕ → Type 0
Stays k q n = MatchOption (after_kth k n) (k ≡ n) (λ j. slice_index_or (without k q) j 0 ≡ slice_index_or q n 0)

stays-more : (o : Option ℕ) (k n t v : ℕ) (ts : List ℕ)
    → MatchOption o (k ≡ n) (λ j. slice_index_or ts j 0 ≡ v)
    → MatchOption (one_more o) (suc k ≡ suc n) (λ j. slice_index_or (t ∷ ts) j 0 ≡ v)
stays-more None k n t v ts p = ap suc p
stays-more (Some j) k n t v ts p = p

stays : (k n : ℕ) (q : List ℕ) → n < length q → Stays k q n
stays k n [] l = absurd (omega arith)
stays zero zero (t ∷ ts) l = refl
stays zero (suc n) (t ∷ ts) l = refl
stays (suc k) zero (t ∷ ts) l = refl
stays (suc k) (suc n) (t ∷ ts) l =
    stays-more (after_kth k n) k n t (slice_index_or ts n 0) (without k ts) (stays k n ts (omega arith))

withdrawn : (o : Option ℕ) (k n v : ℕ) (now placed : List ℕ) → MatchOption o (k ≡ n) (λ j. slice_index_or now j 0 ≡ v)
    → MatchOption o ((placed ≡ v ∷ placed) ⊎ (withdraws k ≡ withdraws n) ⊎ (withdraws k ≡ resets))
    (λ j. slice_index_or now j 0 ≡ v)
withdrawn None k n v now placed p = inr (inl (ap withdraws p))
withdrawn (Some j) k n v now placed p = p

pub a_message_is_followed : AMessageIsFollowed
a_message_is_followed c s n (posts t) m l = in-longer s.queue (t ∷ []) n l
a_message_is_followed c s n (ticks t ts) m l = in-longer s.queue (t ∷ ts) n l
a_message_is_followed c s n looks m l = refl
a_message_is_followed c s n marks m l = refl
a_message_is_followed c s n copies m l = refl
a_message_is_followed c s zero (fills w) m l = inl (first-at s.queue s.placed l)
a_message_is_followed c s (suc n) (fills w) m l = in-rest s.queue n l
a_message_is_followed c s n (withdraws k) m l =
    withdrawn (after_kth k n) k n (slice_index_or s.queue n 0) (without k s.queue) s.placed (stays k n s.queue l)
a_message_is_followed c s n observes m l = refl
a_message_is_followed c s n resets m l = inr (inr refl)
a_message_is_followed c s n takes m l = refl
a_message_is_followed c s n clears m l = refl
a_message_is_followed c s n drains m l = refl
a_message_is_followed c s n fences m l = refl
a_message_is_followed c s n sees m l = refl
a_message_is_followed c s n ends m l = refl
a_message_is_followed c s n asks m l = refl
a_message_is_followed c s n pays m l = refl

-- a message that leaves the queue of a calm run is placed
self-in : (t : ℕ) (us : List ℕ) → is_in t (t ∷ us) ≡ true
self-in t us = ap (λ b. b || is_in t us) (same t)
  where
    same : (t : ℕ) → (t == t) ≡ true
    same t = grind (arith, nat_tests)

in-more : (t : ℕ) (q us : List ℕ) → is_in t us ≡ true → is_in t (with_first q us) ≡ true
in-more t [] us e = e
in-more t (u ∷ q) us e = ap (λ b. (t == u) || b) e ∙ or-true (t == u)

step-keeps : (t : ℕ) (s : Slot) (x : Step) → is_in t s.placed ≡ true → is_in t (after careful s x).placed ≡ true
step-keeps t s (posts u) e = e
step-keeps t s (ticks u us) e = e
step-keeps t s looks e = e
step-keeps t s marks e = e
step-keeps t s copies e = e
step-keeps t s (fills w) e = in-more t s.queue s.placed e
step-keeps t s (withdraws n) e = e
step-keeps t s observes e = e
step-keeps t s resets e = e
step-keeps t s takes e = e
step-keeps t s clears e = e
step-keeps t s drains e = e
step-keeps t s fences e = e
step-keeps t s sees e = e
step-keeps t s ends e = e
step-keeps t s asks e = e
step-keeps t s pays e = e

stays-in : (xs : List Step) (t : ℕ) (s : Slot) → is_in t s.placed ≡ true
    → is_in t (led_to careful s xs).placed ≡ true
stays-in [] t s e = e
stays-in (x ∷ xs) t s e = stays-in xs t (after careful s x) (step-keeps t s x e)

abbrev IsHere : ℕ → Slot → Option ℕ → Type 0
IsHere t s o =
    MatchOption o (is_in t s.placed ≡ true) (λ n. (n < length s.queue) × (slice_index_or s.queue n 0 ≡ t))

not-withdrawn : (x y : Step) → is_calm x ≡ true → x ≡ y → is_calm y ≡ false → ⊥
not-withdrawn x y calm e not = let same = ap is_calm e in cc

left-calmly : (s now : Slot) (x : Step) (n t : ℕ) → is_calm x ≡ true → slice_index_or s.queue n 0 ≡ t
    → (now.placed ≡ slice_index_or s.queue n 0 ∷ s.placed) ⊎ (x ≡ withdraws n) ⊎ (x ≡ resets)
    → is_in t now.placed ≡ true
left-calmly s now x n t calm is (inl e) =
    ap (is_in t) (e ∙ ap (λ u. u ∷ s.placed) is) ∙ self-in t s.placed
left-calmly s now x n t calm is (inr (inl e)) = absurd (not-withdrawn x (withdraws n) calm e refl)
left-calmly s now x n t calm is (inr (inr e)) = absurd (not-withdrawn x resets calm e refl)

here-after : (o : Option ℕ) (s now : Slot) (x : Step) (n t rank : ℕ) → is_calm x ≡ true
    → slice_index_or s.queue n 0 ≡ t
    → MatchOption o
    ((now.placed ≡ slice_index_or s.queue n 0 ∷ s.placed) ⊎ (x ≡ withdraws n) ⊎ (x ≡ resets))
    (λ k. slice_index_or now.queue k 0 ≡ slice_index_or s.queue n 0)
    → IfSome o (λ k. k < length now.queue) → IsHere t now o
here-after None s now x n t rank calm is f l = left-calmly s now x n t calm is f
here-after (Some k) s now x n t rank calm is f l = (l, f ∙ is)

placed-by : (xs : List Step) (s : Slot) (o : Option ℕ) (t : ℕ) → IsHere t s o → is-kept s ≡ true
    → are_steps careful s xs ≡ true → are_calm xs ≡ true → ahead xs o ≡ None
    → is_in t (led_to careful s xs).placed ≡ true
placed-by xs s None t h e m calm gone = stays-in xs t s h
placed-by [] s (Some n) t h e m calm gone = absurd (none-some n (sym gone))
placed-by (x ∷ xs) s (Some n) t h e m calm gone =
    let parts = both (may careful s x) (are_steps careful (after careful s x) xs) m in
    let both_calm = both (is_calm x) (are_calm xs) calm in
    placed-by xs (after careful s x) (ahead_after x n) t
    (here-after (ahead_after x n) s (after careful s x) x n t 0 both_calm.0 h.1
    (a_message_is_followed careful s n x parts.0 h.0)
    (IfSome_then (ahead_after x n) (counted s x n e parts.0 h.0) (λ k p. p.0)))
    (preserved s x e parts.0) parts.1 both_calm.1 gone

pub each_message_is_placed : EachMessageIsPlaced
each_message_is_placed earlier later n m l more calm many =
    placed-by later (led_to careful start earlier) (Some n)
    (slice_index_or (led_to careful start earlier).queue n 0) (l, refl) (kept-in-a-run earlier m) more calm
    (each_message_leaves earlier later n m l more many)
