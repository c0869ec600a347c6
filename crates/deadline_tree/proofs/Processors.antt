-- The timers of a processor, and the node above their leaves.
use Rattle.std.proofs.Common.{◌≡◌, ◌≢◌, ℕ, ◌+◌, ◌*◌, ◌/◌, ◌<◌, ◌≤◌, Bool, true, false, ◌||◌, nat_le, min, inl, inr, refl, sym, ap, ◌∙◌, arith}
use Rattle.std.specs.Option.{option_map_or}
use Rattle.std.proofs.lemmas.Bool.{cases_eq, cases_lt}
use Rattle.std.proofs.lemmas.Bool.Decides.{nat_tests}
use Rattle.board_terms.specs.Dues.{number_of}
use Rattle.deadline_tree.specs.Deadlines.{is_due_by, has_due}
use Rattle.deadline_tree.specs.inside.Table.{Tree, count, node, word_of, late_due, due_from, dues, late_word, IsWord, IsSound}
use Rattle.deadline_tree.proofs.Edits.{dues_at, dues_past}
use Rattle.deadline_tree.proofs.Whole.{due-early, due-never}

one-of : (a b c d : Bool) → (a ≡ false → b ≡ false → c ≡ false → d ≡ true) → (a || b || c || d) ≡ true
one-of true b c d h = refl
one-of false true c d h = refl
one-of false false true d h = refl
one-of false false false d h = h refl refl refl

none-of : (a b c d : Bool) → a ≡ false → b ≡ false → c ≡ false → d ≡ false → (a || b || c || d) ≡ false
none-of a b c d e f g h = rw (e, f, g, h) refl

-- whether a word is that of a timer that is due
abbrev is_due_word : ℕ → ℕ → ℕ → Bool
is_due_word moment word far = option_map_or (λ d. nat_le d moment) (due_from word far) false

module _ (moment word far n x : ℕ) (is : IsWord word far n) (least : x ≤ word) where
  early : word < late_word → is_due_word moment word far ≡ nat_le (word / 256) moment
  early low = ap (λ o. option_map_or (λ d. nat_le d moment) o false) (due-early word far low)

  -- a later word, once the least one is not due
  not-due : x < late_word → moment < x / 256 → is_due_word moment word far ≡ false
  not-due low past = elim (cases_lt word late_word) as (λ _. is_due_word moment word far ≡ false) [
    | inl less ↦
        let more : moment < word / 256 = omega arith in
        let never : nat_le (word / 256) moment ≡ false = grind (arith, nat_tests) in
        early less ∙ never
    | inr high ↦ elim (cases_eq word late_word) as (λ _. is_due_word moment word far ≡ false) [
      | inl e ↦
          let due = is.is_late e in
          let never : nat_le far moment ≡ false = grind (arith, nat_tests, due) in
          ap (λ w. is_due_word moment w far) e ∙ never
      | inr e ↦ ap (λ o. option_map_or (λ d. nat_le d moment) o false) (due-never word far (omega arith))
    ]
  ]

  -- the least word, if it is due
  hit : x < late_word → x / 256 ≤ moment → is_due_word moment word far ≡ false → word ≢ x
  hit low le missed e =
      let due : nat_le (word / 256) moment ≡ true = grind (arith, nat_tests) in
      let wrong : false ≡ true = sym missed ∙ early (omega arith) ∙ due in absurd (cc)

  no-deadline : late_word < x → is_due_word moment word far ≡ false
  no-deadline never = ap (λ o. option_map_or (λ d. nat_le d moment) o false) (due-never word far (omega arith))

-- the timers past the last
pub past-processors : (t : Tree) (moment p : ℕ) → count t ≤ 4 * p → has_due (dues t) moment p ≡ false
past-processors t moment p h = none-of _ _ _ _ (past 0) (past 1) (past 2) (past 3)
  where
    past : (i : ℕ) → is_due_by (dues t) moment (number_of (p, i)) ≡ false
    past i = ap (λ o. option_map_or (λ d. nat_le d moment) o false) (dues_past t (number_of (p, i)) (omega arith))

module _ (t : Tree) (sound : IsSound t) (moment p : ℕ) (inside : 4 * p < count t) where
  abbrev top : ℕ
  top = node t (count t / 4 + p)

  abbrev word : ℕ → ℕ
  word i = word_of t (number_of (p, i))

  abbrev far : ℕ → ℕ
  far i = late_due t (number_of (p, i))

  -- the least of the four words
  top-least : top ≡ min (min (word 0) (word 1)) (min (word 2) (word 3))
  top-least =
      let fours = sound.tree.fours in
      let some = sound.tree.some in
      let j : ℕ = count t / 4 + p in
      let above = sound.ordered.mins j (omega arith) (omega arith) in
      let left = sound.ordered.mins (2 * j) (omega arith) (omega arith) in
      let right = sound.ordered.mins (2 * j + 1) (omega arith) (omega arith) in
      let a : 2 * (2 * j) ≡ count t + (4 * p + 0) = omega arith in
      let b : 2 * (2 * j) + 1 ≡ count t + (4 * p + 1) = omega arith in
      let c : 2 * (2 * j + 1) ≡ count t + (4 * p + 2) = omega arith in
      let d : 2 * (2 * j + 1) + 1 ≡ count t + (4 * p + 3) = omega arith in
      above ∙ (λ i. min (left i) (right i))
      ∙ (λ i. min (min (node t (a i)) (node t (b i))) (min (node t (c i)) (node t (d i))))

  low : (i : ℕ) → i < 4 → number_of (p, i) < count t
  low i h = let fours = sound.tree.fours in omega arith

  by-word : (i : ℕ) → i < 4 → is_due_by (dues t) moment (number_of (p, i)) ≡ is_due_word moment (word i) (far i)
  by-word i h = ap (λ o. option_map_or (λ d. nat_le d moment) o false) (dues_at t (number_of (p, i)) (low i h))

  is-word : (i : ℕ) → i < 4 → IsWord (word i) (far i) (number_of (p, i))
  is-word i h = sound.tree.leaves (number_of (p, i)) (low i h)

  not-less : (i : ℕ) → i < 4 → top ≤ word i
  not-less i h =
      let e = top-least in
      elim (cases_eq i 0) as (λ _. top ≤ word i) [
        | inl a ↦ let s = ap word a in omega (arith, e, s)
        | inr a ↦ elim (cases_eq i 1) as (λ _. top ≤ word i) [
          | inl b ↦ let s = ap word b in omega (arith, e, s)
          | inr b ↦ elim (cases_eq i 2) as (λ _. top ≤ word i) [
            | inl c ↦ let s = ap word c in omega (arith, e, s)
            | inr c ↦ let d : i ≡ 3 = omega arith in let s = ap word d in omega (arith, e, s)
          ]
        ]
      ]

  pub none-due : top < late_word → moment < top / 256 → has_due (dues t) moment p ≡ false
  none-due soon past =
      none-of _ _ _ _ (none 0 (omega arith)) (none 1 (omega arith)) (none 2 (omega arith)) (none 3 (omega arith))
    where
      none : (i : ℕ) → i < 4 → is_due_by (dues t) moment (number_of (p, i)) ≡ false
      none i h = by-word i h ∙ not-due moment (word i) (far i) (number_of (p, i)) top (is-word i h)
          (not-less i h) soon past

  pub one-due : top < late_word → top / 256 ≤ moment → has_due (dues t) moment p ≡ true
  one-due soon le = one-of _ _ _ _ (λ a b c.
      let e = top-least in
      let x = apart 0 (omega arith) a in
      let y = apart 1 (omega arith) b in
      let z = apart 2 (omega arith) c in
      let last : word 3 ≡ top = omega (arith, e, x, y, z) in
      let reached : nat_le (word 3 / 256) moment ≡ true = grind (arith, nat_tests) in
      by-word 3 (omega arith) ∙ due-word (word 3) (far 3) (omega arith) ∙ reached)
    where
      due-word : (w f : ℕ) → w < late_word → is_due_word moment w f ≡ nat_le (w / 256) moment
      due-word w f l = ap (λ o. option_map_or (λ d. nat_le d moment) o false) (due-early w f l)

      apart : (i : ℕ) → i < 4 → is_due_by (dues t) moment (number_of (p, i)) ≡ false → word i ≢ top
      apart i h missed =
          hit moment (word i) (far i) (number_of (p, i)) top (is-word i h) (not-less i h) soon le
          (sym (by-word i h) ∙ missed)

  pub none-set : late_word < top → has_due (dues t) moment p ≡ false
  none-set never =
      none-of _ _ _ _ (none 0 (omega arith)) (none 1 (omega arith)) (none 2 (omega arith)) (none 3 (omega arith))
    where
      none : (i : ℕ) → i < 4 → is_due_by (dues t) moment (number_of (p, i)) ≡ false
      none i h = by-word i h ∙ no-deadline moment (word i) (far i) (number_of (p, i)) top (is-word i h)
          (not-less i h) never
