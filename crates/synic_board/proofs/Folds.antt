-- Effects in sequence: what is done for the sources below a number.
use Rattle.std.proofs.Common.{◌≡◌, ℕ, ◌+◌, ◌-◌, ◌<◌, ◌≤◌, ◌&&◌, Bool, true, false, arith, add-zero, add-suc, List, [], ◌∷◌, ◌++◌, length, refl, ap, sym, ◌∙◌, append_assoc, append-nil, add-one, suc, zero, subst}
use Rattle.board_terms.specs.declared.notices.Notice.{Notice}
use Rattle.synic_board.specs.State.{State}
use Rattle.synic_board.specs.Effects.{Effect, nothing, after}
use Rattle.synic_board.specs.inside.Effected.{preceded}
use Rattle.std.specs.Prelude.{if◌then◌else◌}
use Rattle.message_queues.specs.Queues.{queue_of}
use Rattle.synic_board.specs.Delivery.{delivers, tried, tried_below}
use Rattle.synic_board.specs.Stores.{consumed, consumed_below}
use Rattle.synic_board.specs.Timers.{is_ready, attempted, attempted_until}

-- a fold over the numbers below n: nothing, then one step after those below
pub record IsFold (below : State → ℕ → Effect) (one : State → ℕ → Effect) : Type 0 where
  pub none : (s : State) → below s zero ≡ nothing s
  pub more : (s : State) (i : ℕ) → below s (suc i) ≡ after (below s i) (one (below s i).0 i)

pub fold_none : {below one : State → ℕ → Effect} (f : IsFold below one) (s : State) (before : List Notice)
    → (s, before) ≡ preceded before (below s 0)
fold_none f s before = ap (λ ns. (s, ns)) (sym (append-nil before)) ∙ ap (preceded before) (sym (f.none s))

-- one effect, and then another
pub chained : (now next : State) (before emitted more : List Notice) (e : Effect) (f : State → Effect)
    → (now, emitted) ≡ preceded before e →
    (next, more) ≡ preceded emitted (f now) → (next, more) ≡ preceded before (after e (f e.0))
chained now next before emitted more e f first second =
    let a : now ≡ e.0 = ap (λ (x : Effect). x.0) first in
    let b : emitted ≡ before ++ e.1 = ap (λ (x : Effect). x.1) first in
    second ∙ (λ j. preceded (b j) (f (a j))) ∙ ap (λ ns. ((f e.0).0, ns)) (append_assoc before e.1 (f e.0).1)

pub fold_more : {below one : State → ℕ → Effect} (f : IsFold below one) (s now next : State) (i v : ℕ)
    (before emitted more : List Notice) →
    (now, emitted) ≡ preceded before (below s i) → v ≡ i → (next, more) ≡ preceded emitted (one now v) →
    (next, more) ≡ preceded before (below s (i + 1))
fold_more {below} {one} f s now next i v before emitted more so_far same step =
    chained now next before emitted more (below s i) (λ t. one t i) so_far
    (step ∙ ap (λ n. preceded emitted (one now n)) same) ∙ ap (preceded before) (sym (f.more s i))
    ∙ ap (λ k. preceded before (below s k)) (sym (add-one i))

-- steps that do nothing
pub fold_skip : {below one : State → ℕ → Effect} (f : IsFold below one) (s : State) (i k : ℕ)
    → ((j : ℕ) → j < k → one (below s i).0 (i + j) ≡ nothing (below s i).0) → below s (i + k) ≡ below s i
fold_skip {below} f s i zero clear = ap (below s) (add-zero i)
fold_skip {below} {one} f s i (suc k) clear =
    let e : Effect = below s (i + k) in
    let so_far : e ≡ below s i = fold_skip f s i k (λ j h. clear j (omega arith)) in
    ap (below s) (add-suc i k)
    ∙ f.more s (i + k)
    ∙ ap (after e) (ap (λ (x : Effect). one x.0 (i + k)) so_far ∙ clear k (omega arith)
    ∙ ap (λ (x : Effect). nothing x.0) (sym so_far))
    ∙ ap (λ ns. (e.0, ns)) (append-nil e.1)
    ∙ so_far

tries : (p : ℕ) → IsFold (λ s n. tried_below s p n) (λ s i. tried s p i)
unfolding tried_below
tries p = record { none = λ s. refl; more = λ s i. refl }

pub consumes : (p : ℕ) → IsFold (λ s n. consumed_below s p n) (λ s i. consumed s p i)
unfolding consumed_below
consumes p = record { none = λ s. refl; more = λ s i. refl }

pub tried_none : (s : State) (p : ℕ) (before : List Notice) → (s, before) ≡ preceded before (tried_below s p 0)
tried_none s p before = fold_none (tries p) s before

tried_more : (s now next : State) (p i v : ℕ) (before emitted more : List Notice)
    → (now, emitted) ≡ preceded before (tried_below s p i) → v ≡ i → (next, more) ≡ preceded emitted (tried now p v) →
    (next, more) ≡ preceded before (tried_below s p (i + 1))
tried_more s now next p i v before emitted more so_far same step =
    fold_more (tries p) s now next i v before emitted more so_far same step

-- a source without queued messages
untried : (s : State) (p i : ℕ) → length (queue_of s.queues p i) ≡ 0 → tried s p i ≡ nothing s
unfolding tried
untried s p i none = rw (none, both (delivers s p)) refl
  where
    both : (b : Bool) → (b && false) ≡ false
    both true = refl
    both false = refl

-- no source from one number to another has a queued message
abbrev pub NoneFrom : State → ℕ → ℕ → ℕ → Type 0
NoneFrom s p from to = (i : ℕ) → from ≤ i → i < to → length (queue_of s.queues p i) ≡ 0

tried_skip : (s now : State) (p from to : ℕ) (before emitted : List Notice) → from ≤ to → NoneFrom now p from to →
    (now, emitted) ≡ preceded before (tried_below s p from) → (now, emitted) ≡ preceded before (tried_below s p to)
tried_skip s now p from to before emitted le none so_far =
    let at : from + (to - from) ≡ to = omega arith in
    let same : now ≡ (tried_below s p from).0 = ap (λ (x : Effect). x.0) so_far in
    so_far
    ∙ ap (preceded before) (sym
    (fold_skip (tries p) s from (to - from)
    (λ j h. subst (λ t. tried t p (from + j) ≡ nothing t) same
    (untried now p (from + j) (none (from + j) (omega arith) (omega arith))))) ∙ ap
    (tried_below s p) at)

pub tried_next : (s now next : State) (p from i v : ℕ) (before emitted more : List Notice) → from ≤ i
    → NoneFrom now p from i →
    (now, emitted) ≡ preceded before (tried_below s p from) → v ≡ i → (next, more) ≡ preceded emitted (tried now p v) →
    (next, more) ≡ preceded before (tried_below s p (i + 1))
tried_next s now next p from i v before emitted more le none so_far same step =
    tried_more s now next p i v before emitted more (tried_skip s now p from i before emitted le none so_far) same step

pub tried_whole : (s now : State) (p from : ℕ) (before emitted : List Notice) → from ≤ 16 → NoneFrom now p from 16 →
    (now, emitted) ≡ preceded before (tried_below s p from) → (now, emitted) ≡ preceded before (tried_below s p 16)
tried_whole s now p from before emitted le none so_far = tried_skip s now p from 16 before emitted le none so_far

-- timers one after another
pub until-none : (n : ℕ) (s : State) → attempted_until n s [] ≡ nothing s
unfolding attempted_until
until-none zero s = refl
until-none (suc n) s = refl

-- what is still to come after the first of two effects
pub to-come : (next : State) (emitted more : List Notice) (e : Effect) (f : State → Effect)
    → (next, more) ≡ preceded emitted e → preceded emitted (after e (f e.0)) ≡ preceded more (f next)
to-come next emitted more e f h =
    ap (λ ns. ((f e.0).0, ns)) (sym (append_assoc emitted e.1 (f e.0).1))
    ∙ ap (λ (x : Effect). preceded x.1 (f x.0)) (sym h)

-- what is still to come after an attempt
pub until-next : (n : ℕ) (s next : State) (t : ℕ × ℕ) (ts : List (ℕ × ℕ)) (emitted more : List Notice)
    → (next, more) ≡ preceded emitted (attempted s t) →
    preceded emitted (attempted_until (suc n) s (t ∷ ts))
    ≡ preceded more (attempted_until (if is_ready s t then n else suc n) next ts)
unfolding attempted_until
until-next n s next t ts emitted more h =
    to-come next emitted more (attempted s t) (λ x. attempted_until (if is_ready s t then n else suc n) x ts) h
