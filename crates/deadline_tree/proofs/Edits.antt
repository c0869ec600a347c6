-- The table after a timer's deadline is written.
use Rattle.std.proofs.Common.{◌≡◌, ◌≢◌, ℕ, ◌+◌, ◌*◌, ◌/◌, ◌%◌, ◌<◌, ◌≤◌, min, List, inl, inr, length, set, get_or, sym, ap, ◌∙◌, arith}
use Rattle.std.specs.Prelude.{Option, None}
use Rattle.std.proofs.lemmas.Bool.{cases_eq}
use Rattle.std.proofs.lemmas.List.{get_or-set_same, get_or-set_other, same_lists, length-set, get_or_default, get_or_past}
use Rattle.std.proofs.lemmas.List.FromFn.{length-map-range_with_len, get_or-map-range_with_len}
use Rattle.deadline_tree.specs.inside.Table.{Tree, count, node, word_of, late, late_due, due_from, due_at, dues, IsWord, IsTree, IsOrdered, IsSound}
use Rattle.deadline_tree.specs.inside.Climbs.{IsClimbing}

pub length-dues : (t : Tree) → length (dues t) ≡ count t
unfolding dues
length-dues t = length-map-range_with_len (due_at t) 0 (count t)

-- the deadline of a timer
pub dues_at : (t : Tree) (n : ℕ) → n < count t → get_or (dues t) n None ≡ due_at t n
unfolding dues
dues_at t n h = get_or-map-range_with_len (due_at t) 0 (count t) n n None h (omega arith)

pub dues_past : (t : Tree) (n : ℕ) → count t ≤ n → get_or (dues t) n None ≡ None
dues_past t n h = get_or_past (dues t) n None (omega (arith, length-dues t))

-- deadlines that are those of the timers
pub dues-are : (t : Tree) (m : List (Option ℕ)) → length m ≡ count t
    → ((k : ℕ) → k < count t → get_or m k None ≡ due_at t k) → dues t ≡ m
dues-are t m l h = same_lists (dues t) m (length-dues t ∙ sym l) (λ k d low.
    let less : k < count t = omega (arith, length-dues t) in
    get_or_default (dues t) k d None low ∙ dues_at t k less ∙ sym (h k less) ∙ get_or_default m k None d (omega arith))

-- the deadlines do not depend on the nodes above the leaves
pub dues-alike : (t now : Tree) → now.lates ≡ t.lates → ((n : ℕ) → n < count t → word_of now n ≡ word_of t n)
    → dues now ≡ dues t
dues-alike t now lates words = dues-are now (dues t) (length-dues t ∙ sym (ap length lates)) (λ k h.
    let low : k < count t = omega (arith, ap length lates) in
    dues_at t k low ∙ sym (λ i. due_from (words k low i) (get_or (lates i) k 0)))

-- timer n is written
module _ (t now : Tree) (n word : ℕ) (tree : IsTree t) (low : n < count t)
    (nodes : now.nodes ≡ set t.nodes (count t + n) word) (lates : now.lates ≡ t.lates) where
  as-many : count now ≡ count t
  as-many = ap length lates

  other : (j : ℕ) → j ≢ count t + n → node now j ≡ node t j
  other j apart = ap (λ (ns : List ℕ). get_or ns j 0) nodes ∙ get_or-set_other t.nodes (count t + n) j word 0 apart

  pub node-written : node now (count t + n) ≡ word
  node-written =
      ap (λ (ns : List ℕ). get_or ns (count t + n) 0) nodes
      ∙ get_or-set_same t.nodes (count t + n) word 0 (omega (arith, tree.nodes))

  word-here : word_of now n ≡ word
  word-here = ap (λ c. node now (c + n)) as-many ∙ node-written

  word-other : (m : ℕ) → m ≢ n → word_of now m ≡ word_of t m
  word-other m apart = ap (λ c. node now (c + m)) as-many ∙ other (count t + m) (λ e. apart (omega arith))

  far : (m : ℕ) → late_due now m ≡ late_due t m
  far m = ap (λ (ls : List ℕ). get_or ls m 0) lates

  abbrev written : Option ℕ
  written = due_from word (late_due t n)

  pub dues-written : dues now ≡ set (dues t) n written
  dues-written =
      dues-are now (set (dues t) n written) (length-set (dues t) n written ∙ length-dues t ∙ sym as-many) (λ k h.
      elim (cases_eq k n) as (λ _. get_or (set (dues t) n written) k None ≡ due_at now k) [
        | inl e ↦ ap (λ i. get_or (set (dues t) n written) i None) e
            ∙ get_or-set_same (dues t) n written None (omega (arith, length-dues t))
            ∙ sym (ap (due_at now) e ∙ (λ i. due_from (word-here i) (far n i)))
        | inr e ↦ get_or-set_other (dues t) n k written None e ∙ dues_at t k (omega (arith, as-many))
            ∙ sym (λ i. due_from (word-other k e i) (far k i))
      ])

  -- the nodes above the timer are out of date
  pub written-climbing : IsOrdered t → IsWord word (late_due t n) n → IsClimbing now (count t + n)
  written-climbing o is = record {
    tree = record {
      nodes = ap length nodes ∙ length-set t.nodes (count t + n) word ∙ tree.nodes ∙ sym (ap (λ c. 2 * c) as-many);
      some = omega (arith, as-many, tree.some);
      bound = omega (arith, as-many, tree.bound);
      fours = ap (λ c. c % 4) as-many ∙ tree.fours;
      leaves = λ m h. elim (cases_eq m n) as (λ _. IsWord (word_of now m) (late_due now m) m) [
        | inl e ↦ rw (e, word-here, far n) is
        | inr e ↦ rw (word-other m e, far m) (tree.leaves m (omega (arith, as-many)))
      ];
    };
    mins = λ j a b above.
        let parent : j ≢ (count t + n) / 2 = λ e. above 0 e in
        other j (λ e. absurd (omega (arith, as-many))) ∙ o.mins j a (omega (arith, as-many))
        ∙ sym (λ i. min (other (2 * j) (λ e. parent (omega arith)) i)
        (other (2 * j + 1) (λ e. parent (omega arith)) i));
  }

-- another late deadline is stored for timer n
module _ (t now : Tree) (n due : ℕ) (sound : IsSound t) (low : n < count t) (nodes : now.nodes ≡ t.nodes)
    (lates : now.lates ≡ set t.lates n due) where
  same-count : count now ≡ count t
  same-count = ap length lates ∙ length-set t.lates n due

  node-same : (j : ℕ) → node now j ≡ node t j
  node-same j = ap (λ (ns : List ℕ). get_or ns j 0) nodes

  word-same : (m : ℕ) → word_of now m ≡ word_of t m
  word-same m = ap (λ c. node now (c + m)) same-count ∙ node-same (count t + m)

  pub late-here : late_due now n ≡ due
  late-here = ap (λ (ls : List ℕ). get_or ls n 0) lates ∙ get_or-set_same t.lates n due 0 low

  late-other : (m : ℕ) → m ≢ n → late_due now m ≡ late_due t m
  late-other m apart = ap (λ (ls : List ℕ). get_or ls m 0) lates ∙ get_or-set_other t.lates n m due 0 apart

  pub stored-sound : late ≤ due → IsSound now
  stored-sound is = record {
    tree = record {
      nodes = ap length nodes ∙ sound.tree.nodes ∙ sym (ap (λ c. 2 * c) same-count);
      some = omega (arith, same-count, sound.tree.some);
      bound = omega (arith, same-count, sound.tree.bound);
      fours = ap (λ c. c % 4) same-count ∙ sound.tree.fours;
      leaves = λ m h. elim (cases_eq m n) as (λ _. IsWord (word_of now m) (late_due now m) m) [
        | inl e ↦ record {
          number = λ l. ap (λ w. w % 256) (word-same m)
              ∙ (sound.tree.leaves m (omega (arith, same-count))).number (omega (arith, l, word-same m));
          is_late = λ _. let here = ap (late_due now) e ∙ late-here in omega (arith, here, is);
        }
        | inr e ↦ rw (word-same m, late-other m e) (sound.tree.leaves m (omega (arith, same-count)))
      ];
    };
    ordered = record {
      mins = λ j a b. node-same j ∙ sound.ordered.mins j a (omega (arith, same-count))
          ∙ sym (λ i. min (node-same (2 * j) i) (node-same (2 * j + 1) i));
    };
  }

  -- once its word is written
  pub stored-set : (o : Option ℕ) → set (dues now) n o ≡ set (dues t) n o
  stored-set o = same_lists (set (dues now) n o) (set (dues t) n o)
      (length-set (dues now) n o ∙ length-dues now ∙ same-count ∙ sym (length-set (dues t) n o ∙ length-dues t))
      (λ k d h.
      let inside : k < count now = omega (arith, length-set (dues now) n o, length-dues now) in
      let below : k < length (set (dues t) n o) = omega (arith, length-set (dues t) n o, length-dues t, same-count) in
      get_or_default (set (dues now) n o) k d None h ∙ each k inside ∙ get_or_default (set (dues t) n o) k None d below)
    where
      each : (k : ℕ) → k < count now → get_or (set (dues now) n o) k None ≡ get_or (set (dues t) n o) k None
      each k h = elim (cases_eq k n) as (λ _. get_or (set (dues now) n o) k None ≡ get_or (set (dues t) n o) k None) [
        | inl e ↦ ap (λ i. get_or (set (dues now) n o) i None) e
            ∙ get_or-set_same (dues now) n o None (omega (arith, length-dues now, same-count))
            ∙ sym (ap (λ i. get_or (set (dues t) n o) i None) e
            ∙ get_or-set_same (dues t) n o None (omega (arith, length-dues t)))
        | inr e ↦ get_or-set_other (dues now) n k o None e ∙ dues_at now k h
            ∙ (λ i. due_from (word-same k i) (late-other k e i))
            ∙ sym (get_or-set_other (dues t) n k o None e ∙ dues_at t k (omega (arith, same-count)))
      ]
