use Rattle.std.proofs.Common.{rules, ◌≡◌, ◌+◌, suc, ap, subst, ◌∙◌, arith, length, length-append}
use Rattle.live_board.specs.Refreshing.{IsRefreshed, AreRefreshed}
use Rattle.live_board.proofs.live.LiveBoard.refresh_each.Goals as goal

pub loop-number-preserved : goal.loop-number-preserved
loop-number-preserved c =
    let i = c.loop-number.invariant in
    let same : c.in-Some.vp ≡ c.loop-number.number = search rules in
    let one = c.refresh_next.ensures.refreshed in
    let step = subst (λ n. IsRefreshed n c.loop-number.self c.refresh_next.new.self one.0) same one.1 in
    let next : suc c.loop-number.number ≡ c.loop-number.number + 1 = omega arith in (
      subst (λ n. AreRefreshed n c.args.self.now c.refresh_next.new.self c.refresh_next.new.notices) next
          (c.loop-number.self, c.loop-number.notices, one.0, i.0, step, one.2),
      omega (arith, length-append c.loop-number.notices one.0, i.1, ap length one.2, one.3),
      c.refresh_next.ensures.processors ∙ i.2,
      c.refresh_next.ensures.empty,
    )
