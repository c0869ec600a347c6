use Rattle.std.proofs.Common.{◌≡◌, ℕ, ◌+◌, ◌*◌, ◌/◌, ◌<◌, ◌≤◌, true, false, nat_le, nat_lt, get_or, inl, inr, sym, ap, ◌∙◌, arith}
use Rattle.std.proofs.lemmas.Bool.{cases_lt}
use Rattle.std.proofs.lemmas.Bool.Decides.{nat_tests}
use Rattle.std.proofs.lemmas.Grind.{get_or_default_zero}
use Rattle.deadline_tree.specs.Deadlines.{has_due}
use Rattle.deadline_tree.specs.inside.Table.{Tree, tree_in, count, node, dues, late_word, never, IsSound}
use Rattle.deadline_tree.proofs.Processors.{none-due, one-due, none-set}
use Rattle.deadline_tree.proofs.table.Table.has_due.Goals as goal

-- an early word
early : (t : Tree) (sound : IsSound t) (moment p word : ℕ) → 4 * p < count t → word ≡ node t (count t / 4 + p)
    → word < late_word → nat_le (word / 256) moment ≡ has_due (dues t) moment p
early t sound moment p word inside is low =
    let top = node t (count t / 4 + p) in
    elim (cases_lt moment (word / 256)) as (λ _. nat_le (word / 256) moment ≡ has_due (dues t) moment p) [
      | inl less ↦
          let fails : nat_le (word / 256) moment ≡ false = grind (arith, nat_tests) in
          let past : moment < top / 256 = omega arith in
          fails ∙ sym (none-due t sound moment p inside (omega arith) past)
      | inr more ↦
          let holds : nat_le (word / 256) moment ≡ true = grind (arith, nat_tests) in
          let reached : top / 256 ≤ moment = omega arith in
          holds ∙ sym (one-due t sound moment p inside (omega arith) reached)
    ]

-- the word of a processor's node
read : (t : Tree) (sound : IsSound t) (p many word : ℕ) → 4 * p < count t → many ≡ count t
    → word ≡ get_or t.nodes (many / 4 + p) word → word ≡ node t (count t / 4 + p)
read t sound p many word inside e is =
    is ∙ get_or_default_zero t.nodes (many / 4 + p) word (omega (arith, sound.tree.nodes))
    ∙ ap (λ k. node t (k / 4 + p)) e

pub returns-then-word-lt-LATE_WORD : goal.returns-then-word-lt-LATE_WORD
returns-then-word-lt-LATE_WORD c =
    let t = tree_in c.args.self.now in
    let p = c.args.processor in
    let is = read t c.requires.sound p c.count.result c.index-word.result.now c.requires.processor c.count.ensures
    c.index-word.ensures in
    early t c.requires.sound c.args.moment p c.index-word.result.now c.requires.processor is c.if-word-lt-LATE_WORD.true

pub returns-else-word-lt-NEVER : goal.returns-else-word-lt-NEVER
returns-else-word-lt-NEVER c =
    let t = tree_in c.args.self.now in
    let p = c.args.processor in
    let is = read t c.requires.sound p c.count.result c.index-word.result.now c.requires.processor c.count.ensures
    c.index-word.ensures in
    let past = c.if-word-lt-NEVER.false in
    let fails : nat_lt c.index-word.result.now never ≡ false = grind (arith, nat_tests) in
    fails ∙ sym (none-set t c.requires.sound c.args.moment p c.requires.processor (omega (arith, is, past)))
