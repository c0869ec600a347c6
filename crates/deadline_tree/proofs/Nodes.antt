-- The tree when a node is brought up to date.
use Rattle.std.proofs.Common.{◌≡◌, ◌≢◌, ℕ, zero, suc, ◌+◌, ◌-◌, ◌*◌, ◌/◌, ◌%◌, ◌^◌, ◌<◌, ◌≤◌, nat_lt, List, length, set, get_or, min, inl, inr, sym, ap, ◌∙◌, arith, bit_xor}
use Rattle.std.specs.Prelude.{if◌then◌else◌}
use Rattle.std.specs.Int.{bit_at}
use Rattle.std.proofs.lemmas.Bool.{cases_eq, cases_lt}
use Rattle.std.proofs.lemmas.Bool.Decides.{nat_tests}
use Rattle.std.proofs.lemmas.List.{get_or-set_same, get_or-set_other, length-set}
use Rattle.std.proofs.lemmas.Nat.{shr-shr}
use Rattle.std.proofs.lemmas.Nat.Bits.{bit_at_lowest, bit_at-suc, bit_at-zero, bit_at-lt, bit_at_xor, same_from_bits}
use Rattle.deadline_tree.specs.inside.Table.{Tree, count, node, dues, IsOrdered}
use Rattle.deadline_tree.specs.inside.Climbs.{IsClimbing}
use Rattle.deadline_tree.proofs.Edits.{dues-alike}

-- one more halving
halved : (x k : ℕ) → x / 2 / 2 ^ k ≡ x / 2 ^ suc k
halved x k = let e : 1 + k ≡ suc k = omega arith in shr-shr x 1 k ∙ ap (λ i. x / 2 ^ i) e

-- the other child of the same node
pub sibling : (x : ℕ) → bit_xor x 1 ≡ 2 * (x / 2) + (1 - x % 2)
sibling x = same_from_bits (bit_xor x 1) (2 * (x / 2) + (1 - x % 2)) bits
  where
    bits : (i : ℕ) → bit_at (bit_xor x 1) i ≡ bit_at (2 * (x / 2) + (1 - x % 2)) i
    bits zero = let a = bit_at_lowest x in let b = bit_at_lowest (2 * (x / 2) + (1 - x % 2)) in
        let c = bit_at_lowest 1 in omega (arith, bit_at_xor x 1 0, a, b, c)
    bits (suc i) =
        let half : (2 * (x / 2) + (1 - x % 2)) / 2 ≡ x / 2 = omega arith in
        let one : bit_at 1 (suc i) ≡ 0 = bit_at-suc 1 i ∙ bit_at-zero i in
        let left = bit_at-suc x i in
        let right : bit_at (2 * (x / 2) + (1 - x % 2)) (suc i) ≡ bit_at (x / 2) i =
        bit_at-suc (2 * (x / 2) + (1 - x % 2)) i ∙ ap (λ k. bit_at k i) half in
        omega (arith, bit_at_xor x 1 (suc i), one, left, right, bit_at-lt (x / 2) i)

-- a node is brought up to date
module _ (t now : Tree) (x v : ℕ) (h : IsClimbing t x) (pos : 1 < x) (inside : x < 2 * count t)
    (nodes : now.nodes ≡ set t.nodes (x / 2) v) (lates : now.lates ≡ t.lates)
    (is : v ≡ min (node t (2 * (x / 2))) (node t (2 * (x / 2) + 1))) where
  as-many : count now ≡ count t
  as-many = ap length lates

  pub node-here : node now (x / 2) ≡ v
  node-here = ap (λ (ns : List ℕ). get_or ns (x / 2) 0) nodes
      ∙ get_or-set_same t.nodes (x / 2) v 0 (omega (arith, h.tree.nodes))

  other : (j : ℕ) → j ≢ x / 2 → node now j ≡ node t j
  other j n = ap (λ (ns : List ℕ). get_or ns j 0) nodes ∙ get_or-set_other t.nodes (x / 2) j v 0 n

  leaf : (n : ℕ) → n < count t → node now (count now + n) ≡ node t (count t + n)
  leaf n l = ap (λ c. node now (c + n)) as-many ∙ other (count t + n) (λ e. absurd (omega arith))

  pub dues-stay : dues now ≡ dues t
  dues-stay = dues-alike t now lates leaf

  pub climbs : IsClimbing now (x / 2)
  climbs = record {
    tree = record {
      nodes = ap length nodes ∙ length-set t.nodes (x / 2) v ∙ h.tree.nodes ∙ sym (ap (λ c. 2 * c) as-many);
      some = omega (arith, as-many, h.tree.some);
      bound = omega (arith, as-many, h.tree.bound);
      fours = ap (λ c. c % 4) as-many ∙ h.tree.fours;
      leaves = λ n l. rw (leaf n (omega (arith, as-many)), lates) (h.tree.leaves n (omega (arith, as-many)));
    };
    mins = λ j a b above.
        elim (cases_eq j (x / 2)) as (λ _. node now j ≡ min (node now (2 * j)) (node now (2 * j + 1))) [
          | inl e ↦
              let left : node now (2 * j) ≡ node t (2 * (x / 2)) =
              other (2 * j) (λ f. absurd (omega arith)) ∙ ap (λ k. node t (2 * k)) e in
              let right : node now (2 * j + 1) ≡ node t (2 * (x / 2) + 1) =
              other (2 * j + 1) (λ f. absurd (omega arith)) ∙ ap (λ k. node t (2 * k + 1)) e in
              ap (node now) e ∙ node-here ∙ is ∙ sym (λ i. min (left i) (right i))
          | inr e ↦
              let parent : j ≢ x / 2 / 2 = λ f. above 0 f in
              let left : node now (2 * j) ≡ node t (2 * j) = other (2 * j) (λ f. absurd (omega arith)) in
              let right : node now (2 * j + 1) ≡ node t (2 * j + 1) = other (2 * j + 1) (λ f. absurd (omega arith)) in
              other j e ∙ h.mins j a (omega (arith, as-many)) (apart j e above) ∙ sym (λ i. min (left i) (right i))
        ];
  }
    where
      apart : (j : ℕ) → j ≢ x / 2 → ((k : ℕ) → j ≢ x / 2 / 2 ^ suc k) → (k : ℕ) → j ≢ x / 2 ^ suc k
      apart j e above zero = e
      apart j e above (suc k) = λ f. above k (f ∙ sym (halved x (suc k)))

-- the lesser of a node and the other child of its parent
pub lesser-is : (nodes : List ℕ) (x first rest : ℕ) → first ≡ get_or nodes x 0 → rest ≡ get_or nodes (bit_xor x 1) 0
    → (v : ℕ) → v ≡ (if nat_lt rest first then rest else first) →
    v ≡ min (get_or nodes (2 * (x / 2)) 0) (get_or nodes (2 * (x / 2) + 1) 0)
lesser-is nodes x first rest here there v is =
    let lesser : v ≡ min first rest = is ∙ smaller first rest in
    let beside : rest ≡ get_or nodes (2 * (x / 2) + (1 - x % 2)) 0 = there ∙ ap (λ k. get_or nodes k 0) (sibling x) in
    elim (cases_eq (x % 2) 0) as (λ _. v ≡ min (get_or nodes (2 * (x / 2)) 0) (get_or nodes (2 * (x / 2) + 1) 0)) [
      | inl e ↦
          let a : x ≡ 2 * (x / 2) = omega arith in
          let b : 2 * (x / 2) + (1 - x % 2) ≡ 2 * (x / 2) + 1 = omega arith in
          let left : first ≡ get_or nodes (2 * (x / 2)) 0 = here ∙ ap (λ k. get_or nodes k 0) a in
          let right : rest ≡ get_or nodes (2 * (x / 2) + 1) 0 = beside ∙ ap (λ k. get_or nodes k 0) b in
          lesser ∙ (λ i. min (left i) (right i))
      | inr e ↦
          let a : x ≡ 2 * (x / 2) + 1 = omega arith in
          let b : 2 * (x / 2) + (1 - x % 2) ≡ 2 * (x / 2) = omega arith in
          let right : first ≡ get_or nodes (2 * (x / 2) + 1) 0 = here ∙ ap (λ k. get_or nodes k 0) a in
          let left : rest ≡ get_or nodes (2 * (x / 2)) 0 = beside ∙ ap (λ k. get_or nodes k 0) b in
          omega (arith, lesser, left, right)
    ]
  where
    smaller : (a b : ℕ) → (if nat_lt b a then b else a) ≡ min a b
    smaller a b = grind (arith, nat_tests)

-- at the root all nodes are up to date
pub climbed : (t : Tree) (x : ℕ) → x ≡ 1 → IsClimbing t x → IsOrdered t
climbed t x e h = record { mins = λ j a b. h.mins j a b (λ k f. absurd (omega (arith, f, none k))) }
  where
    nothing : (k : ℕ) → 0 / 2 ^ k ≡ 0
    nothing zero = omega arith
    nothing (suc k) = sym (halved 0 k) ∙ nothing k

    lone : (k : ℕ) → 1 / 2 ^ suc k ≡ 0
    lone zero = omega arith
    lone (suc k) = sym (halved 1 (suc k)) ∙ nothing (suc k)

    none : (k : ℕ) → x / 2 ^ suc k ≡ 0
    none k = ap (λ y. y / 2 ^ suc k) e ∙ lone k

module _ (t : Tree) (o : IsOrdered t) where
  edge : (j : ℕ) → 1 < j → j < 2 * count t → node t (j / 2) ≤ node t j
  edge j a b =
      let m = o.mins (j / 2) (omega arith) (omega arith) in
      elim (cases_eq (j % 2) 0) as (λ _. node t (j / 2) ≤ node t j) [
        | inl e ↦ let same : 2 * (j / 2) ≡ j = omega arith in let left = ap (node t) same in omega (arith, m, left)
        | inr e ↦ let same : 2 * (j / 2) + 1 ≡ j =
            omega arith in let right = ap (node t) same in omega (arith, m, right)
      ]

  -- no word is less than the one at the root
  pub root-first : (fuel j : ℕ) → j ≤ fuel → 0 < j → j < 2 * count t → node t 1 ≤ node t j
  root-first zero j f a b = absurd (omega arith)
  root-first (suc fuel) j f a b = elim (cases_eq j 1) as (λ _. node t 1 ≤ node t j) [
    | inl e ↦ let same = ap (node t) e in omega (arith, same)
    | inr e ↦ let up =
        root-first fuel (j / 2) (omega arith) (omega arith) (omega arith) in omega (arith, up, edge j (omega arith) b)
  ]

  -- each word is that of a leaf
  pub a-leaf : (fuel j : ℕ) → 2 * count t ≤ j + fuel → 0 < j → j < 2 * count t → (n : ℕ)
      × ((n < count t) × (node t j ≡ node t (count t + n)))
  a-leaf zero j f a b = absurd (omega arith)
  a-leaf (suc fuel) j f a b =
      elim (cases_lt j (count t)) as (λ _. (n : ℕ) × ((n < count t) × (node t j ≡ node t (count t + n)))) [
        | inl inner ↦
            let m = o.mins j a inner in
            elim (cases_lt (node t (2 * j)) (node t (2 * j + 1))) as
            (λ _. (n : ℕ) × ((n < count t) × (node t j ≡ node t (count t + n)))) [
              | inl less ↦
                  let r = a-leaf fuel (2 * j) (omega arith) (omega arith) (omega arith) in
                  let e : node t j ≡ node t (2 * j) = omega (arith, m, less) in (r.0, (r.1.0, e ∙ r.1.1))
              | inr more ↦
                  let r = a-leaf fuel (2 * j + 1) (omega arith) (omega arith) (omega arith) in
                  let e : node t j ≡ node t (2 * j + 1) = omega (arith, m, more) in (r.0, (r.1.0, e ∙ r.1.1))
            ]
        | inr outer ↦ let e : j ≡ count t + (j - count t) = omega arith in (j - count t, (omega arith, ap (node t) e))
      ]
