use Rattle.std.proofs.Common.{◌≤◌, ◌∙◌, ap, sym, arith, length}
use Rattle.std.specs.FinSet as set
use Rattle.std.specs.Ordering.{nat_cmp}
use Rattle.std.proofs.Math.ListN.{get_or-eq_default}
use Rattle.std.proofs.lemmas.Bool.Decides.{nat_tests}
use Rattle.synic_board.specs.Summaries.{StoredSummary}
use Rattle.synic_board.proofs.summary.Summary.is_auto.Goals as goal

pub returns-in-None : goal.returns-in-None
returns-in-None c =
    let same = ap (λ (k : StoredSummary). length k.values.autos) c.self.view_is in
    let lent = ap length c.deref.ensures.value in
    let none = c.in-None.ensures.lookup.0 in
    let long : length c.deref.result.now ≤ c.number.result = grind (arith, nat_tests) in
    let above : length c.args.self.now.values.autos ≤ c.args.vp = omega (arith, c.number.ensures.value) in
    sym (ap (λ s. set.contains s c.args.vector) (get_or-eq_default c.args.self.now.values.autos set.empty above)
    ∙ set.contains-empty nat_cmp c.args.vector)
