-- The tree as a map from timers to deadlines.
use Rattle.std.proofs.Common.{◌≡◌, ℕ, ◌+◌, ◌*◌, ◌/◌, ◌%◌, ◌<◌, ◌≤◌, ◌==◌, true, false, nat_lt, List, inl, inr, length, set, get_or, replicate, refl, sym, ap, ◌∙◌, arith}
use Rattle.std.specs.Prelude.{None, Some, if◌then◌else◌}
use Rattle.std.specs.Option.{option_map}
use Rattle.std.proofs.lemmas.Bool.{cases_lt, cases_eq}
use Rattle.std.proofs.lemmas.Bool.Decides.{nat_tests}
use Rattle.std.proofs.lemmas.Option.{none-some, same_Some}
use Rattle.std.proofs.lemmas.List.{set-get_or, get_or-replicate, length-replicate, get_or-map, length-map}
use Rattle.board_terms.specs.Dues.{Dues, number_of, least, timer_of, if_later, later_than}
use Rattle.deadline_tree.specs.Deadlines.{no_dues}
use Rattle.deadline_tree.specs.inside.Table.{Tree, count, node, word_of, late_due, due_from, due_at, dues, late, late_word, never, IsSound}
use Rattle.deadline_tree.proofs.Edits.{length-dues, dues_at, dues_past, dues-are}
use Rattle.deadline_tree.proofs.Nodes.{root-first, a-leaf}
use Rattle.deadline_tree.proofs.Leasts.{least_is, least_none, finds-least, least-index}

-- the deadline of a word
pub due-early : (word far : ℕ) → word < late_word → due_from word far ≡ Some (word / 256)
due-early word far h =
    let e : nat_lt word late_word ≡ true =
    grind (arith, nat_tests) in
    ap (λ b. if b then Some (word / 256) else if word == late_word then Some far else None) e

pub due-late : (far : ℕ) → due_from late_word far ≡ Some far
due-late far = refl

pub due-never : (word far : ℕ) → late_word < word → due_from word far ≡ None
due-never word far h =
    let e : nat_lt word late_word ≡ false = grind (arith, nat_tests) in
    let f : (word == late_word) ≡ false = grind (arith, nat_tests) in
    (λ i. if e i then Some (word / 256) else if f i then Some far else None)

pub due-some : (due far n : ℕ) → due < late → n < 256 → due_from (256 * due + n) far ≡ Some due
due-some due far n h low =
    let e : (256 * due + n) / 256 ≡ due = omega arith in
    due-early (256 * due + n) far (omega arith) ∙ ap Some e

-- a timer without a deadline is cleared
pub cleared-same : (t : Tree) (n : ℕ) → n < count t → nat_lt (word_of t n) never ≡ false → set (dues t) n None ≡ dues t
cleared-same t n low is =
    let past : never ≤ word_of t n = grind (arith, nat_tests) in
    let none : get_or (dues t) n None ≡ None =
    dues_at t n low ∙ due-never (word_of t n) (late_due t n) (omega (arith, past)) in
    ap (set (dues t) n) (sym none) ∙ set-get_or (dues t) n None

-- the word at the root is that of the earliest timer
module _ (t : Tree) (sound : IsSound t) where
  root-low : (n : ℕ) → n < count t → node t 1 ≤ word_of t n
  root-low n low =
      root-first t sound.ordered (count t + n) (count t + n) (omega arith) (omega (arith, sound.tree.some))
      (omega arith)

  module _ (less : node t 1 < late_word) where
    pub leaf : (n : ℕ) × ((n < count t) × (node t 1 ≡ word_of t n))
    leaf = a-leaf t sound.ordered (2 * count t) 1 (omega arith) (omega arith) (omega (arith, sound.tree.some))

    abbrev first : ℕ
    first = leaf.0

    low-word : word_of t first < late_word
    low-word = let own = leaf.1.1 in omega (arith, own, less)

    pub root-number : node t 1 % 256 ≡ first
    root-number = ap (λ w. w % 256) leaf.1.1 ∙ (sound.tree.leaves first leaf.1.0).number low-word

    -- another timer with a deadline
    before : (k e : ℕ) → k < count t → due_at t k ≡ Some e → (node t 1 / 256 ≤ e) × (e ≡ node t 1 / 256 → first ≤ k)
    before k e low is =
        let order : node t 1 ≤ word_of t k = root-low k low in
        let word = sound.tree.leaves k low in
        elim (cases_lt (word_of t k) late_word) as (λ _. (node t 1 / 256 ≤ e) × (e ≡ node t 1 / 256 → first ≤ k)) [
          | inl early ↦
              let due : word_of t k / 256 ≡ e =
              same_Some _ _ (sym (due-early (word_of t k) (late_due t k) early) ∙ is) in
              let number : word_of t k % 256 ≡ k = word.number early in
              (omega (arith, order, due), λ x. omega (arith, order, due, number, root-number, x))
          | inr more ↦
              elim (cases_eq (word_of t k) late_word) as
              (λ _. (node t 1 / 256 ≤ e) × (e ≡ node t 1 / 256 → first ≤ k)) [
                | inl last ↦
                    let due : late_due t k ≡ e = same_Some _ _ (sym (ap (λ w. due_from w (late_due t k)) last) ∙ is) in
                    let far : late ≤ late_due t k = word.is_late last in
                    (omega (arith, due, far, less), λ x. absurd (omega (arith, due, far, less, x)))
                | inr none ↦
                    absurd (none-some e (sym (due-never (word_of t k) (late_due t k) (omega (arith, more, none))) ∙ is))
              ]
        ]

    pub root-least : least (dues t) ≡ Some (node t 1 / 256, timer_of (node t 1 % 256))
    root-least =
        least_is (dues t) (node t 1 / 256) first record {
          low = let low = leaf.1.0 in omega (arith, low, length-dues t);
          due = dues_at t first leaf.1.0 ∙ due-early (word_of t first) (late_due t first) low-word
              ∙ ap (λ w. Some (w / 256)) (sym leaf.1.1);
          first = λ k e h. elim (cases_lt k (count t)) as
              (λ _. (node t 1 / 256 ≤ e) × (e ≡ node t 1 / 256 → first ≤ k)) [
                | inl low ↦ before k e low (sym (dues_at t k low) ∙ h)
                | inr high ↦ absurd (none-some e (sym (dues_past t k high) ∙ h))
              ];
        } ∙ sym (ap (λ k. Some (node t 1 / 256, timer_of k)) root-number)

  -- no timer has a deadline
  pub root-none : late_word < node t 1 → least (dues t) ≡ None
  root-none more = least_none (dues t) (λ k. elim (cases_lt k (count t)) as (λ _. get_or (dues t) k None ≡ None) [
    | inl low ↦ let order =
        root-low k low in dues_at t k low ∙ due-never (word_of t k) (late_due t k) (omega (arith, order, more))
    | inr high ↦ dues_past t k high
  ])

  -- all deadlines are late
  module _ (far : late_word ≤ node t 1) where
    late-each : (k : ℕ) → k < count t → if_later 0 (due_at t k) ≡ due_at t k
    late-each k low =
        let order : node t 1 ≤ word_of t k = root-low k low in
        elim (cases_eq (word_of t k) late_word) as (λ _. if_later 0 (due_at t k) ≡ due_at t k) [
          | inl last ↦
              let due = (sound.tree.leaves k low).is_late last in
              let pos : nat_lt 0 (late_due t k) ≡ true = grind (arith, nat_tests, due) in
              let is : due_at t k ≡ Some (late_due t k) = ap (λ w. due_from w (late_due t k)) last in
              ap (if_later 0) is ∙ ap (λ b. if b then Some (late_due t k) else None) pos ∙ sym is
          | inr other ↦
              let is : due_at t k ≡ None = due-never (word_of t k) (late_due t k) (omega (arith, order, far, other)) in
              ap (if_later 0) is ∙ sym is
        ]

    pub all-later : later_than 0 (dues t) ≡ dues t
    all-later = sym (dues-are t (later_than 0 (dues t)) (length-map (dues t) (if_later 0) ∙ length-dues t) (λ k low.
        get_or-map (if_later 0) (dues t) k None None (omega (arith, low, length-dues t))
        ∙ ap (if_later 0) (dues_at t k low) ∙ late-each k low))

-- a table without deadlines
module _ (t : Tree) (k : ℕ) (some : 1 ≤ k) (bound : k ≤ 64) (nodes : t.nodes ≡ replicate (2 * (4 * k)) never)
    (lates : t.lates ≡ replicate (4 * k) 0) where
  many : count t ≡ 4 * k
  many = ap length lates ∙ length-replicate (4 * k) 0

  each : (j : ℕ) → j < 2 * (4 * k) → node t j ≡ never
  each j h = ap (λ (ns : List ℕ). get_or ns j 0) nodes ∙ get_or-replicate (2 * (4 * k)) j never 0 h

  leaf-never : (n : ℕ) → n < count t → word_of t n ≡ never
  leaf-never n h = each (count t + n) (omega (arith, many))

  pub fresh-dues : dues t ≡ no_dues k
  fresh-dues = dues-are t (no_dues k) (length-replicate (4 * k) None ∙ sym many) (λ n h.
      get_or-replicate (4 * k) n None None (omega (arith, many))
      ∙ sym (ap (λ w. due_from w (late_due t n)) (leaf-never n h)))

  pub fresh-sound : IsSound t
  fresh-sound = record {
    tree = record {
      nodes = ap length nodes ∙ length-replicate (2 * (4 * k)) never ∙ sym (ap (λ c. 2 * c) many);
      some = omega (arith, many);
      bound = omega (arith, many);
      fours = omega (arith, many);
      leaves = λ n h. let is = leaf-never n h in
          record { number = λ l. absurd (omega (arith, is, l)); is_late = λ l. absurd (omega (arith, is, l)) };
    };
    ordered = record {
      mins = λ j a b. let here = each j (omega (arith, many)) in let left = each (2 * j) (omega (arith, many)) in
          let right = each (2 * j + 1) (omega (arith, many)) in
          omega (arith, here, left, right);
    };
  }

-- the earliest timer by its number
timer-back : (t : ℕ × ℕ) → t.1 < 4 → timer_of (number_of t) ≡ t
timer-back t h = λ i. (processor i, index i)
  where
    processor : (4 * t.0 + t.1) / 4 ≡ t.0
    processor = omega arith

    index : (4 * t.0 + t.1) % 4 ≡ t.1
    index = omega arith

pub by-number : (m : Dues) (d n : ℕ) (t : ℕ × ℕ) → n ≡ number_of t → least m ≡ Some (d, t)
    → least m ≡ option_map (λ e. (e, timer_of n)) (get_or m n None)
by-number m d n t at is =
    let back : timer_of n ≡ t = ap timer_of at ∙ timer-back t (least-index m d t is) in
    let found = ((finds-least m).some d n).1 (is ∙ ap (λ u. Some (d, u)) (sym back)) in
    is ∙ ap (λ u. Some (d, u)) (sym back) ∙ sym (ap (option_map (λ e. (e, timer_of n))) found.due)
