-- The deadlines of the timers by number: timers of suspended processors have none.
use Rattle.std.proofs.Common.{◌≡◌, ◌≢◌, ℕ, zero, suc, ◌+◌, ◌*◌, ◌/◌, ◌%◌, ◌<◌, ◌≤◌, Bool, true, false, not, ◌&&◌, nat_le, List, [], ◌∷◌, length, set, get_or, replicate, inl, inr, refl, sym, ap, ◌∙◌, arith}
use Rattle.std.specs.Prelude.{Option, None, Some, IsSome, if◌then◌else◌}
use Rattle.std.proofs.lemmas.Bool.{cases_eq, cases_lt}
use Rattle.std.proofs.lemmas.List.{get_or-set_same, get_or-set_other, get_or_past, length-set, length-replicate, same_lists, get_or_default}
use Rattle.std.proofs.lemmas.List.FromFn.{length-map-range_with_len, get_or-map-range_with_len}
use Rattle.board_terms.specs.Dues.{Dues, number_of, timer_of}
use Rattle.deadline_tree.specs.Deadlines.{no_dues, without_processor}
use Rattle.stimer_bank.specs.declared.timer.Timer.{Timer}
use Rattle.stimer_bank.specs.Bank.{Bank, idle_timer, opened, timer_in, with_timer, is_suspended, with_suspension, reset, active_due, dues, is_due_in}
use Rattle.stimer_bank.specs.Timer.{is_due}
use Rattle.std.specs.Option.{option_map_or}

-- the four elements of a processor are set
abbrev pub four : {X : Type 0} → List X → ℕ → (ℕ → X) → List X
four xs p f = set (set (set (set xs (4 * p + 0) (f 0)) (4 * p + 1) (f 1)) (4 * p + 2) (f 2)) (4 * p + 3) (f 3)

module _ {X : Type 0} (xs : List X) (p : ℕ) (f : ℕ → X) where
  abbrev one : List X
  one = set xs (4 * p + 0) (f 0)

  abbrev two : List X
  two = set one (4 * p + 1) (f 1)

  abbrev three : List X
  three = set two (4 * p + 2) (f 2)

  length-one : length one ≡ length xs
  length-one = length-set xs (4 * p + 0) (f 0)

  length-two : length two ≡ length xs
  length-two = length-set one (4 * p + 1) (f 1) ∙ length-one

  length-three : length three ≡ length xs
  length-three = length-set two (4 * p + 2) (f 2) ∙ length-two

  pub length-four : length (four xs p f) ≡ length xs
  length-four = length-set three (4 * p + 3) (f 3) ∙ length-three

  pub four-here : (k : ℕ) (d : X) → k / 4 ≡ p → k < length xs → get_or (four xs p f) k d ≡ f (k % 4)
  four-here k d e l = elim (cases_eq k (4 * p + 3)) as (λ _. get_or (four xs p f) k d ≡ f (k % 4)) [
    | inl h ↦ let r : 3 ≡ k % 4 =
        omega arith in
        ap (λ i. get_or (four xs p f) i d) h ∙ get_or-set_same three (4 * p + 3) (f 3) d (omega (arith, length-three))
        ∙ ap f r
    | inr h ↦ get_or-set_other three (4 * p + 3) k (f 3) d h
        ∙ elim (cases_eq k (4 * p + 2)) as (λ _. get_or three k d ≡ f (k % 4)) [
          | inl i ↦ let r : 2 ≡ k % 4 =
              omega arith in
              ap (λ j. get_or three j d) i
              ∙ get_or-set_same two (4 * p + 2) (f 2) d (omega (arith, length-two)) ∙ ap f r
          | inr i ↦ get_or-set_other two (4 * p + 2) k (f 2) d i
              ∙ elim (cases_eq k (4 * p + 1)) as (λ _. get_or two k d ≡ f (k % 4)) [
                | inl j ↦ let r : 1 ≡ k % 4 =
                    omega arith in
                    ap (λ n. get_or two n d) j
                    ∙ get_or-set_same one (4 * p + 1) (f 1) d (omega (arith, length-one)) ∙ ap f r
                | inr j ↦
                    let z : k ≡ 4 * p + 0 = omega arith in
                    let r : 0 ≡ k % 4 = omega arith in
                    get_or-set_other one (4 * p + 1) k (f 1) d j ∙ ap (λ n. get_or one n d) z
                    ∙ get_or-set_same xs (4 * p + 0) (f 0) d (omega arith) ∙ ap f r
              ]
        ]
  ]

  pub four-other : (k : ℕ) (d : X) → k / 4 ≢ p → get_or (four xs p f) k d ≡ get_or xs k d
  four-other k d n =
      let far : (i : ℕ) → i < 4 → k ≢ 4 * p + i = λ i h e. n (omega arith) in
      get_or-set_other three (4 * p + 3) k (f 3) d (far 3 (omega arith))
      ∙ get_or-set_other two (4 * p + 2) k (f 2) d (far 2 (omega arith))
      ∙ get_or-set_other one (4 * p + 1) k (f 1) d (far 1 (omega arith))
      ∙ get_or-set_other xs (4 * p + 0) k (f 0) d (far 0 (omega arith))

-- an element that is set to the default reads as the default, also past the end
set-default : {X : Type 0} (xs : List X) (i : ℕ) (d : X) → get_or (set xs i d) i d ≡ d
set-default [] i d = refl
set-default (x ∷ xs) zero d = refl
set-default (x ∷ xs) (suc i) d = set-default xs i d

pub length-dues : (b : Bank) → length (dues b) ≡ length b.timers
unfolding dues
length-dues b = length-map-range_with_len (active_due b) 0 (length b.timers)

-- the deadline of the timer with a number
pub due_at : (b : Bank) (k : ℕ) → k < length b.timers → get_or (dues b) k None ≡ active_due b k
unfolding dues
due_at b k h = get_or-map-range_with_len (active_due b) 0 (length b.timers) k k None h (omega arith)

pub dues-past : (b : Bank) (k : ℕ) → length b.timers ≤ k → get_or (dues b) k None ≡ None
dues-past b k h = get_or_past (dues b) k None (omega (arith, length-dues b))

-- two banks that agree on a number
pub dues-alike : (a b : Bank) (k : ℕ) → length a.timers ≡ length b.timers → active_due a k ≡ active_due b k
    → get_or (dues a) k None ≡ get_or (dues b) k None
dues-alike a b k s e = elim (cases_lt k (length b.timers)) as (λ _. get_or (dues a) k None ≡ get_or (dues b) k None) [
  | inl h ↦ due_at a k (omega (arith, s)) ∙ e ∙ sym (due_at b k h)
  | inr h ↦ dues-past a k (omega (arith, s)) ∙ sym (dues-past b k h)
]

-- these deadlines are those of a bank
pub dues-are : (m : Dues) (b : Bank) → length m ≡ length b.timers
    → ((k : ℕ) → k < length b.timers → get_or m k None ≡ active_due b k) → dues b ≡ m
dues-are m b l h = same_lists (dues b) m (length-dues b ∙ sym l) (λ k d low.
    let less : k < length b.timers = omega (arith, length-dues b) in
    get_or_default (dues b) k d None low ∙ due_at b k less ∙ sym (h k less) ∙ get_or_default m k None d (omega arith))

abbrev pub shown : Bool → Option ℕ → Option ℕ
shown mark due = if mark then None else due

abbrev pub due_by_number : Bank → ℕ → Option ℕ
due_by_number b k = (get_or b.timers k idle_timer).due

module _ (b : Bank) (p : ℕ) where
  pub mark-other : (k : ℕ) (mark : Bool) → k / 4 ≢ p → active_due (with_suspension b p mark) k ≡ active_due b k
  mark-other k mark n = ap (λ o. shown o (due_by_number b k)) (get_or-set_other b.suspended p (k / 4) mark false n)

  pub dues-mark-other : (k : ℕ) (mark : Bool) → k / 4 ≢ p
      → get_or (dues (with_suspension b p mark)) k None ≡ get_or (dues b) k None
  dues-mark-other k mark n = dues-alike (with_suspension b p mark) b k refl (mark-other k mark n)

  -- a processor that is suspended
  pub dues-suspended : p < length b.suspended → dues (with_suspension b p true) ≡ without_processor (dues b) p
  dues-suspended l =
      dues-are (without_processor (dues b) p) (with_suspension b p true)
      (length-four (dues b) p (λ _. None) ∙ length-dues b) (λ k low.
      elim (cases_eq (k / 4) p) as
      (λ _. get_or (without_processor (dues b) p) k None ≡ active_due (with_suspension b p true) k) [
        | inl e ↦
            let mark : get_or (set b.suspended p true) (k / 4) false ≡ true =
            ap (λ i. get_or (set b.suspended p true) i false) e ∙ get_or-set_same b.suspended p true false l in
            four-here (dues b) p (λ _. None) k None e (omega (arith, length-dues b))
            ∙ sym (ap (λ o. shown o (due_by_number b k)) mark)
        | inr n ↦ four-other (dues b) p (λ _. None) k None n ∙ due_at b k low ∙ sym (mark-other k true n)
      ])

  -- a processor that is resumed
  pub dues-resumed : dues (with_suspension b p false) ≡ four (dues b) p (λ i. due_by_number b (4 * p + i))
  dues-resumed =
      let f =
      λ (i : ℕ). due_by_number b (4 * p + i) in
      dues-are (four (dues b) p f) (with_suspension b p false) (length-four (dues b) p f ∙ length-dues b) (λ k low.
      elim (cases_eq (k / 4) p) as (λ _. get_or (four (dues b) p f) k None ≡ active_due (with_suspension b p false) k) [
        | inl e ↦
            let mark : get_or (set b.suspended p false) (k / 4) false ≡ false =
            ap (λ i. get_or (set b.suspended p false) i false) e ∙ set-default b.suspended p false in
            let same : 4 * p + k % 4 ≡ k = omega arith in
            four-here (dues b) p f k None e (omega (arith, length-dues b)) ∙ ap (due_by_number b) same
            ∙ sym (ap (λ o. shown o (due_by_number b k)) mark)
        | inr n ↦ four-other (dues b) p f k None n ∙ due_at b k low ∙ sym (mark-other k false n)
      ])

module _ (b : Bank) (t : ℕ × ℕ) (x : Timer) where
  as-many : length (with_timer b t x).timers ≡ length b.timers
  as-many = length-set b.timers (number_of t) x

  pub timer-other : (k : ℕ) → k ≢ number_of t → active_due (with_timer b t x) k ≡ active_due b k
  timer-other k n =
      ap (λ (y : Timer). shown (is_suspended b (k / 4)) y.due)
      (get_or-set_other b.timers (number_of t) k x idle_timer n)

  pub dues-timer-other : (k : ℕ) → k ≢ number_of t → get_or (dues (with_timer b t x)) k None ≡ get_or (dues b) k None
  dues-timer-other k n = dues-alike (with_timer b t x) b k as-many (timer-other k n)

  -- a timer of a suspended processor is written
  pub dues-timer-suspended : t.1 < 4 → is_suspended b t.0 ≡ true → dues (with_timer b t x) ≡ dues b
  dues-timer-suspended four e = dues-are (dues b) (with_timer b t x) (length-dues b ∙ sym as-many) (λ k there.
      let low : k < length b.timers =
      omega (arith, as-many) in
      elim (cases_eq k (number_of t)) as (λ _. get_or (dues b) k None ≡ active_due (with_timer b t x) k) [
        | inl i ↦
            let p : k / 4 ≡ t.0 = omega arith in
            let mark : is_suspended b (k / 4) ≡ true = ap (is_suspended b) p ∙ e in
            due_at b k low ∙ ap (λ o. shown o (due_by_number b k)) mark
            ∙ sym (ap (λ o. shown o (due_by_number (with_timer b t x) k)) mark)
        | inr n ↦ due_at b k low ∙ sym (timer-other k n)
      ])

  -- one of a processor that is not suspended
  pub dues-timer : t.1 < 4 → number_of t < length b.timers → is_suspended b t.0 ≡ false
      → dues (with_timer b t x) ≡ set (dues b) (number_of t) x.due
  dues-timer four l e =
      dues-are (set (dues b) (number_of t) x.due) (with_timer b t x)
      (length-set (dues b) (number_of t) x.due ∙ length-dues b ∙ sym as-many) (λ k there.
      let low : k < length b.timers =
      omega (arith, as-many) in
      elim (cases_eq k (number_of t)) as
      (λ _. get_or (set (dues b) (number_of t) x.due) k None ≡ active_due (with_timer b t x) k) [
        | inl i ↦
            let p : k / 4 ≡ t.0 = omega arith in
            let mark : is_suspended b (k / 4) ≡ false = ap (is_suspended b) p ∙ e in
            let read : get_or (set b.timers (number_of t) x) k idle_timer ≡ x =
            ap (λ j. get_or (set b.timers (number_of t) x) j idle_timer) i
            ∙ get_or-set_same b.timers (number_of t) x idle_timer l in
            ap (λ j. get_or (set (dues b) (number_of t) x.due) j None) i
            ∙ get_or-set_same (dues b) (number_of t) x.due None (omega (arith, length-dues b))
            ∙ sym ((λ j. shown (mark j) (read j).due))
        | inr n ↦ get_or-set_other (dues b) (number_of t) k x.due None n ∙ due_at b k low ∙ sym (timer-other k n)
      ])

all-default : {X : Type 0} (n k : ℕ) (d : X) → get_or (replicate n d) k d ≡ d
all-default zero k d = refl
all-default (suc n) zero d = refl
all-default (suc n) (suc k) d = all-default n k d

opened-shown : (n k : ℕ) → active_due (opened n) k ≡ None
opened-shown n k = (λ i. shown (all-default n (k / 4) false i) (all-default (4 * n) k idle_timer i).due)

-- initially no timer has a deadline
pub dues-none : (n : ℕ) → dues (opened n) ≡ no_dues n
dues-none n =
    dues-are (no_dues n) (opened n) (length-replicate (4 * n) None ∙ sym (length-replicate (4 * n) idle_timer))
    (λ k _. all-default (4 * n) k None ∙ sym (opened-shown n k))

pub dues-opened : (n k : ℕ) → get_or (dues (opened n)) k None ≡ None
dues-opened n k = ap (λ m. get_or m k None) (dues-none n) ∙ all-default (4 * n) k None

-- the tree is updated for a timer that is written
module _ (b : Bank) (t : ℕ × ℕ) (x : Timer) (i : ℕ) (at : i ≡ number_of t) (index : t.1 < 4) (h : Dues)
    (was : h ≡ dues b) where
  pub follows : (h' : Dues) → number_of t < length b.timers → is_suspended b t.0 ≡ false
      → h' ≡ set h (number_of t) x.due → h' ≡ dues (record b { timers = set b.timers i x })
  follows h' l e is =
      is ∙ ap (λ m. set m (number_of t) x.due) was ∙ sym (dues-timer b t x index l e)
      ∙ ap (λ j. dues (record b { timers = set b.timers j x })) (sym at)

  pub stays : is_suspended b t.0 ≡ true → h ≡ dues (record b { timers = set b.timers i x })
  stays e = was ∙ sym (dues-timer-suspended b t x index e)
      ∙ ap (λ j. dues (record b { timers = set b.timers j x })) (sym at)

-- the tree gets the deadlines of a resumed processor, one by one
pub restored : (b : Bank) (p : ℕ) (h : Dues) → h ≡ dues b
    → (h0 : Dues) → h0 ≡ set h (4 * p + 0) (due_by_number b (4 * p + 0))
    → (h1 : Dues) → h1 ≡ set h0 (4 * p + 1) (due_by_number b (4 * p + 1))
    → (h2 : Dues) → h2 ≡ set h1 (4 * p + 2) (due_by_number b (4 * p + 2))
    → (h3 : Dues) → h3 ≡ set h2 (4 * p + 3) (due_by_number b (4 * p + 3))
    → h3 ≡ dues (with_suspension b p false)
restored b p h was h0 e0 h1 e1 h2 e2 h3 e3 =
    let d = λ (i : ℕ). due_by_number b (4 * p + i) in
    e3 ∙ ap (λ m. set m (4 * p + 3) (d 3))
    (e2 ∙ ap (λ m. set m (4 * p + 2) (d 2))
    (e1 ∙ ap (λ m. set m (4 * p + 1) (d 1)) (e0 ∙ ap (λ m. set m (4 * p + 0) (d 0)) was))) ∙ sym (dues-resumed b p)

-- a processor that is reset
module _ (b : Bank) (p : ℕ) where
  pub reset-here : (t : ℕ × ℕ) → number_of t / 4 ≡ p → timer_in (reset b p) t ≡ idle_timer
  reset-here t e = elim (cases_lt (number_of t) (length b.timers)) as (λ _. timer_in (reset b p) t ≡ idle_timer) [
    | inl l ↦ four-here b.timers p (λ _. idle_timer) (number_of t) idle_timer e l
    | inr l ↦ get_or_past (four b.timers p (λ _. idle_timer)) (number_of t) idle_timer
        (omega (arith, length-four b.timers p (λ _. idle_timer)))
  ]

  pub reset-other : (t : ℕ × ℕ) → number_of t / 4 ≢ p → timer_in (reset b p) t ≡ timer_in b t
  reset-other t n = four-other b.timers p (λ _. idle_timer) (number_of t) idle_timer n

  pub dues-reset-other : (k : ℕ) → k / 4 ≢ p → get_or (dues (reset b p)) k None ≡ get_or (dues b) k None
  dues-reset-other k n =
      dues-alike (reset b p) b k (length-four b.timers p (λ _. idle_timer))
      ((λ i. shown (get_or-set_other b.suspended p (k / 4) false false n i)
      (four-other b.timers p (λ _. idle_timer) k idle_timer n i).due))

  pub dues-reset-here : (k : ℕ) → k / 4 ≡ p → get_or (dues (reset b p)) k None ≡ None
  dues-reset-here k e =
      let mark : is_suspended (reset b p) (k / 4) ≡ false =
      ap (is_suspended (reset b p)) e ∙ set-default b.suspended p false in
      let same : number_of (timer_of k) ≡ k = omega arith in
      let idle : get_or (four b.timers p (λ _. idle_timer)) k idle_timer ≡ idle_timer =
      ap (λ j. get_or (four b.timers p (λ _. idle_timer)) j idle_timer) (sym same)
      ∙ reset-here (timer_of k) (ap (λ j. j / 4) same ∙ e) in
      elim (cases_lt k (length (reset b p).timers)) as (λ _. get_or (dues (reset b p)) k None ≡ None) [
        | inl h ↦ due_at (reset b p) k h ∙ (λ i. shown (mark i) (idle i).due)
        | inr h ↦ dues-past (reset b p) k h
      ]

due-shown_by : (moment : ℕ) (mark : Bool) (due : Option ℕ)
    → option_map_or (λ d. nat_le d moment) (shown mark due) false
    ≡ (not mark && option_map_or (λ d. nat_le d moment) due false)
due-shown_by moment true due = refl
due-shown_by moment false due = refl

is-awake : (mark due : Bool) → (not mark && due) ≡ true → mark ≡ false
is-awake true due e = sym e
is-awake false due e = refl

and-false : (b : Bool) → (b && false) ≡ false
and-false true = refl
and-false false = refl

module _ (b : Bank) (t : ℕ × ℕ) (moment : ℕ) where
  abbrev reached : Option ℕ → Bool
  reached o = option_map_or (λ d. nat_le d moment) o false

  -- a timer that the bank does not have is not due
  past-idle : length b.timers ≤ number_of t → is_due (timer_in b t) moment ≡ false
  past-idle h = ap (λ (x : Timer). is_due x moment) (get_or_past b.timers (number_of t) idle_timer h)

  past-due : length b.timers ≤ number_of t → is_due_in b t moment ≡ false
  past-due h = ap reached (dues-past b (number_of t) h)

  -- a timer is due iff its processor is not suspended and its deadline has been reached
  pub due-by_dues : t.1 < 4 → is_due_in b t moment ≡ (not (is_suspended b t.0) && is_due (timer_in b t) moment)
  due-by_dues index =
      let of-processor : number_of t / 4 ≡ t.0 = omega arith in
      elim (cases_lt (number_of t) (length b.timers)) as
      (λ _. is_due_in b t moment ≡ (not (is_suspended b t.0) && is_due (timer_in b t) moment)) [
        | inl h ↦ ap reached (due_at b (number_of t) h
            ∙ ap (λ q. shown (is_suspended b q) (timer_in b t).due) of-processor)
            ∙ due-shown_by moment (is_suspended b t.0) (timer_in b t).due
        | inr h ↦ past-due h ∙ sym
            (ap (λ d. not (is_suspended b t.0) && d) (past-idle h) ∙ and-false (not (is_suspended b t.0)))
      ]

  -- the bank has a timer that is due
  pub due-there : is_due_in b t moment ≡ true → number_of t < length b.timers
  due-there e = elim (cases_lt (number_of t) (length b.timers)) as (λ _. number_of t < length b.timers) [
    | inl h ↦ h
    | inr h ↦ let no : true ≡ false = sym e ∙ past-due h in absurd (cc)
  ]

-- the processor of a timer that is due is not suspended
pub due-awake : (b : Bank) (t : ℕ × ℕ) (moment : ℕ) → t.1 < 4 → is_due_in b t moment ≡ true → is_suspended b t.0 ≡ false
due-awake b t moment index e =
    is-awake (is_suspended b t.0) (is_due (timer_in b t) moment) (sym (due-by_dues b t moment index) ∙ e)

-- a due timer has a deadline that has been reached
pub due-reached : (b : Bank) (t : ℕ × ℕ) (moment : ℕ) → is_due_in b t moment ≡ true
    → is_due (timer_in b t) moment ≡ true
due-reached b t moment e =
    by (is_suspended b (number_of t / 4))
    (sym (ap (λ o. option_map_or (λ d. nat_le d moment) o false) (due_at b (number_of t) (due-there b t moment e))) ∙ e)
  where
    by : (mark : Bool) → option_map_or (λ d. nat_le d moment) (shown mark (timer_in b t).due) false ≡ true
        → is_due (timer_in b t) moment ≡ true
    by true e = absurd (cc)
    by false e = e

is-some : (due : Option ℕ) (moment : ℕ) → option_map_or (λ d. nat_le d moment) due false ≡ true → IsSome due
is-some None moment e = absurd (cc)
is-some (Some d) moment e = refl

pub due-is_some : (b : Bank) (t : ℕ × ℕ) (moment : ℕ) → is_due_in b t moment ≡ true → IsSome (timer_in b t).due
due-is_some b t moment e = is-some (timer_in b t).due moment (due-reached b t moment e)

-- the bank has a timer with a deadline
pub some-there : (b : Bank) (t : ℕ × ℕ) → IsSome (timer_in b t).due → number_of t < length b.timers
some-there b t e = elim (cases_lt (number_of t) (length b.timers)) as (λ _. number_of t < length b.timers) [
  | inl h ↦ h
  | inr h ↦ let none : (timer_in b t).due ≡ None =
      ap (λ (x : Timer). x.due) (get_or_past b.timers (number_of t) idle_timer h) in absurd (cc)
]
