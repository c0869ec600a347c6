use Rattle.std.proofs.Common.{ℕ, ◌+◌, ◌*◌, ◌≤◌, List, ◌++◌, map, length, ap, sym, ◌∙◌, subst, arith}
use Rattle.atomic_table.specs.Table.{Me}
use Rattle.posted_words.specs.declared.rule.View.{View}
use Rattle.posted_words.specs.Settled.{Settled}
use Rattle.posted_words.specs.Words.{actions_of}
use Rattle.posted_words.proofs.Closing.{stands_for_all, gathered}
use Rattle.posted_words.proofs.words.PostedWords.gather.Goals as goal

pub returns-in-Ok-clause-settled : goal.returns-in-Ok-clause-settled
returns-in-Ok-clause-settled c =
    let i = c.self.invariant in
    let own = ap (λ (m : Me (Unit {0}) View). m.0) c.into_seat-seat.ensures.alone in
    let first = ap (λ (m : Me (Unit {0}) View). m.0) c.join_all.ensures.joined
    ∙ stands_for_all _ _ _ _ _ own c.in-Some.ensures.items c.pop.new.self.ok.0 in
    let last = ap (λ (m : Me (Unit {0}) View). m.0) c.join_all-2.ensures.joined in
    let enough : c.self.inside.sweepers + c.self.inside.lines
    ≤ length c.args.sweepers.items + length c.args.lines.items =
    omega (arith, c.args.sweepers.ok.0, c.args.lines.ok.0) in
    let all = gathered _ _ _ _ _ _ _ _ _ _ _ i.0 c.close_with-closed.ensures.values.2 first last c.args.lines.ok.0
    enough in
    subst (λ (z : ℕ × List ℕ). Settled z.0 (map actions_of (c.args.sweepers.items ++ c.args.lines.items)) z.1)
    (λ j. (4 * (c.self.view_is j).processors, sym c.in-Ok.ensures j)) all
