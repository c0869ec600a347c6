use Rattle.std.proofs.Common.{◌≡◌, ◌+◌, ◌*◌, ◌/◌, ◌<◌, ℕ, List, length, min, get_or, set, refl, sym, ap, subst, ◌∙◌, arith}
use Rattle.std.proofs.lemmas.List.{with_items_is, get_or-set_same}
use Rattle.std.specs.Vec.{with_items}
use Rattle.deadline_tree.specs.declared.table.Table.{Table}
use Rattle.deadline_tree.specs.inside.Table.{Tree, tree_in, count, node, dues, IsSound}
use Rattle.deadline_tree.specs.inside.Climbs.{IsClimbing}
use Rattle.deadline_tree.proofs.Levels.{IsHalved, not-halved, halved-again, within-levels}
use Rattle.deadline_tree.proofs.Nodes.{climbs, dues-stay, climbed}
use Rattle.deadline_tree.proofs.table.Table.climb.Invariants.{with_nodes}
use Rattle.deadline_tree.proofs.table.Table.climb.Goals as goal

-- a comparison at node x
record Compared (t : Tree) (nodes : List ℕ) (x : ℕ) : Type 0 where
  pub climbing : IsClimbing (record { nodes = nodes; lates = t.lates }) (x / 2)
  pub dues : dues (record { nodes = nodes; lates = t.lates }) ≡ dues t

compared : (t : Tree) (nodes : List ℕ) (x v : ℕ) → IsClimbing t x → 1 < x → x < 2 * count t →
    v ≡ min (get_or t.nodes (2 * (x / 2)) 0) (get_or t.nodes (2 * (x / 2) + 1) 0) → nodes ≡ set t.nodes (x / 2) v
    → Compared t nodes x
compared t nodes x v h pos inside is written = record {
  climbing = climbs t (record { nodes = nodes; lates = t.lates }) x v h pos inside written refl is;
  dues = dues-stay t (record { nodes = nodes; lates = t.lates }) x v h pos inside written refl is;
}

-- the least word is returned
returned : (t : Tree) (nodes : List ℕ) (x v : ℕ) → IsClimbing t x → 1 < x → x < 2 * count t
    → nodes ≡ set t.nodes (x / 2) v → v ≡ get_or nodes (x / 2) 0
returned t nodes x v h pos inside written =
    sym (ap (λ (ns : List ℕ). get_or ns (x / 2) 0) written
    ∙ get_or-set_same t.nodes (x / 2) v 0 (omega (arith, h.tree.nodes)))

-- what the slice is written back to
back : (t : Table) (nodes : List ℕ) (x : ℕ) → IsClimbing (with_nodes t nodes) x
    → length t.nodes.items ≡ 2 * count (tree_in t)
    → tree_in (record { nodes = with_items t.nodes nodes; lates = t.lates }) ≡ with_nodes t nodes
back t nodes x h many =
    ap (λ (ns : List ℕ). record { nodes = ns; lates = t.lates.items })
    (with_items_is t.nodes nodes (omega (arith, h.tree.nodes, many, t.nodes.ok.0)))

pub loop-node-init : goal.loop-node-init
loop-node-init c =
    let same = c.as_mut_slice-nodes.ensures.value in
    let is = ap (λ (ns : List ℕ). with_nodes c.args.self.now ns) (sym same) in
    record {
      climbing = subst (λ t. IsClimbing t c.args.leaf) is c.requires.climbing;
      first = c.requires.word ∙ ap (λ t. node t c.args.leaf) is;
      low = omega (arith, c.requires.climbing.tree.some);
      high = omega arith;
      dues = sym (ap dues is);
      halved = not-halved c.args.leaf c.args.comparer.now.total.number;
    }

pub loop-node-preserved : goal.loop-node-preserved
loop-node-preserved c =
    let x : ℕ = c.loop-node.node in
    let quarter : x / 2 / 2 ≡ x / 4 = omega arith in
    let t = c.args.self.now in
    let before : ℕ = c.args.comparer.now.total.number in
    let h = c.loop-node.invariant in
    let inside : x < 2 * count (tree_in t) = omega (arith, h.high, c.requires.bound) in
    let one = compared (with_nodes t c.loop-node.nodes) c.compare-first.new.nodes x c.compare-first.result h.climbing
    (omega arith) inside c.compare-first.ensures.lesser c.compare-first.ensures.written in
    let two = compared (with_nodes t c.compare-first.new.nodes) c.compare-first-in-loop-node.new.nodes
    (x / 2) c.compare-first-in-loop-node.result one.climbing (omega arith) (omega (arith, inside))
    c.compare-first-in-loop-node.ensures.lesser c.compare-first-in-loop-node.ensures.written in
    let once = halved-again c.args.leaf x before c.loop-node.comparer.total.number
    c.compare-first.new.comparer.total.number h.halved c.compare-first.ensures.total in
    let twice = halved-again c.args.leaf
    (x / 2) before c.compare-first.new.comparer.total.number
    c.compare-first-in-loop-node.new.comparer.total.number once
    c.compare-first-in-loop-node.ensures.total in
    record {
      climbing = subst (IsClimbing (with_nodes t c.compare-first-in-loop-node.new.nodes)) quarter two.climbing;
      first = returned (with_nodes t c.compare-first.new.nodes) c.compare-first-in-loop-node.new.nodes
          (x / 2) c.compare-first-in-loop-node.result one.climbing (omega arith) (omega (arith, inside))
          c.compare-first-in-loop-node.ensures.written
          ∙ ap (λ k. get_or c.compare-first-in-loop-node.new.nodes k 0) quarter;
      low = omega arith;
      high = omega (arith, h.high);
      dues = two.dues ∙ one.dues ∙ h.dues;
      halved = subst (λ y. IsHalved c.args.leaf y before c.compare-first-in-loop-node.new.comparer.total.number)
          quarter twice;
    }

pub returns-then-node-gt1-clause-sound : goal.returns-then-node-gt1-clause-sound
returns-then-node-gt1-clause-sound c =
    let x : ℕ = c.loop-node.node in
    let t = c.args.self.now in
    let h = c.loop-node.invariant in
    let one = compared (with_nodes t c.loop-node.nodes) c.compare.new.nodes x c.compare.result h.climbing
    (omega arith) (omega (arith, h.high, c.requires.bound)) c.compare.ensures.lesser c.compare.ensures.written in
    subst IsSound (sym (back t c.compare.new.nodes (x / 2) one.climbing c.requires.climbing.tree.nodes))
    (record { tree = one.climbing.tree; ordered = climbed _ (x / 2) (omega arith) one.climbing })

pub returns-then-node-gt1-clause-dues : goal.returns-then-node-gt1-clause-dues
returns-then-node-gt1-clause-dues c =
    let x : ℕ = c.loop-node.node in
    let t = c.args.self.now in
    let h = c.loop-node.invariant in
    let one = compared (with_nodes t c.loop-node.nodes) c.compare.new.nodes x c.compare.result h.climbing
    (omega arith) (omega (arith, h.high, c.requires.bound)) c.compare.ensures.lesser c.compare.ensures.written in
    ap dues (back t c.compare.new.nodes (x / 2) one.climbing c.requires.climbing.tree.nodes) ∙ one.dues ∙ h.dues

pub returns-then-node-gt1-clause-compared : goal.returns-then-node-gt1-clause-compared
returns-then-node-gt1-clause-compared c =
    let before : ℕ = c.args.comparer.now.total.number in
    within-levels (count (tree_in c.args.self.now)) c.args.leaf
    (c.loop-node.node / 2) before c.compare.new.comparer.total.number c.requires.bound (omega arith)
    (halved-again c.args.leaf c.loop-node.node before c.loop-node.comparer.total.number
    c.compare.new.comparer.total.number c.loop-node.invariant.halved c.compare.ensures.total)

pub returns-else-node-gt1-clause-sound : goal.returns-else-node-gt1-clause-sound
returns-else-node-gt1-clause-sound c =
    let t = c.args.self.now in
    let h = c.loop-node.invariant.climbing in
    subst IsSound (sym (back t c.loop-node.nodes c.loop-node.node h c.requires.climbing.tree.nodes))
    (record { tree = h.tree; ordered = climbed _ c.loop-node.node (omega (arith, c.loop-node.invariant.low)) h })

pub returns-else-node-gt1-clause-dues : goal.returns-else-node-gt1-clause-dues
returns-else-node-gt1-clause-dues c =
    ap dues
    (back c.args.self.now c.loop-node.nodes c.loop-node.node c.loop-node.invariant.climbing
    c.requires.climbing.tree.nodes) ∙ c.loop-node.invariant.dues

pub returns-else-node-gt1-clause-compared : goal.returns-else-node-gt1-clause-compared
returns-else-node-gt1-clause-compared c =
    within-levels (count (tree_in c.args.self.now)) c.args.leaf c.loop-node.node c.args.comparer.now.total.number
    c.loop-node.comparer.total.number c.requires.bound
    c.loop-node.invariant.low c.loop-node.invariant.halved
