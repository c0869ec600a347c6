use Rattle.std.proofs.Common.{rules, ◌≡◌, ◌+◌, ◌*◌, ◌∷◌, get_or, arith, ap, ◌∙◌, subst, refl}
use Rattle.live_pages.specs.Words.{IsPut}
use Rattle.live_pages.specs.declared.access.Access.TheVariants.{Store}
use Rattle.live_board.specs.inside.Parts.{IsFilling}
use Rattle.live_board.proofs.Filled.{filling-start, filling-put, filled-store, filled-none}
use Rattle.live_board.proofs.Named.{logged}
use Rattle.live_board.proofs.filling.fill.Goals as goal

pub loop-k-init : goal.loop-k-init
loop-k-init c = (filling-start _ _ _ _ c.requires.header, refl)

pub loop-k-preserved : goal.loop-k-preserved
loop-k-preserved c =
    let slot : c.from-slot.result ≡ c.args.sint = search rules in (
      filling-put _ _ _ _ _ _ _ c.loop-k.auto.k c.loop-k-test.true c.loop-k.invariant.0
          (subst (λ n. IsPut (32 * n + c.loop-k.k) (get_or c.args.after.now c.loop-k.k 0) c.loop-k.page.log
          c.put.new.self.log)
          slot c.put.ensures.accesses),
      c.put.ensures.name ∙ c.loop-k.invariant.1,
    )

pub returns-then-after-header-clause-filled : goal.returns-then-after-header-clause-filled
returns-then-after-header-clause-filled c =
    let same : get_or c.args.after.now 0 0 ≡ c.args.header = search rules in
    filled-none _ _ _ _ c.requires.header same (c.requires.payload same)

pub returns-clause-filled : goal.returns-clause-filled
returns-clause-filled c =
    let slot : c.from-slot.result ≡ c.args.sint = search rules in
    let end : c.loop-k.k ≡ 32 = omega (arith, c.loop-k.auto.k-end (omega arith), c.loop-k-test.false) in
    let whole = subst
    (λ k. IsFilling c.args.sint c.args.header c.args.after.now k c.args.page.now.log c.loop-k.page.log)
    end c.loop-k.invariant.0 in
    filled-store _ _ _ _ _ _ c.requires.header c.if-after-header.false whole
    ((logged c.store.ensures) ∙ ap (λ n. Store (32 * n) (get_or c.args.after.now 0 0) ∷ c.loop-k.page.log) slot)
