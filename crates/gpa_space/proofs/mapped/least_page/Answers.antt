use Rattle.std.proofs.Common.{◌+◌, ap, sym, ◌∙◌, subst}
use Rattle.gpa_space.specs.inside.OverlaysAt.{lesser_page, IsLeastPage}
use Rattle.gpa_space.proofs.Next.{one-more}
use Rattle.gpa_space.proofs.mapped.least_page.Goals as goal

pub loop-register-preserved : goal.loop-register-preserved
loop-register-preserved c =
    let least = c.lesser_page-least.ensures
    ∙ ap (λ w. lesser_page c.args.from c.args.count w c.loop-register.least) c.new.ensures in
    subst (IsLeastPage c.args.registers.now c.args.from c.args.count (c.loop-register.register-index + 1)) (sym least)
    (one-more c.args.registers.now c.args.from c.args.count c.loop-register.register-index c.loop-register.least
    c.loop-register.invariant)
