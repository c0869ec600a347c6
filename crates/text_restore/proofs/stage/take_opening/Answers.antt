use Rattle.std.proofs.Common.{refl, sym, ap, subst}
use Rattle.text_restore.specs.Restoring.{Body, Opens, Follows}
use Rattle.text_restore.proofs.Openings.{within-limits}
use Rattle.text_restore.proofs.stage.take_opening.Goals as goal

pub returns-in-Ok : goal.returns-in-Ok
returns-in-Ok c =
    let opens : Opens c.args.line.now (Body c.in-Ok.draft 0 0) = record {
      count = c.in-Some.processors;
      pages = c.in-Some.pages;
      ticket = c.in-Some.ticket;
      item = c.in-Some.ensures.some;
      sizes = within-limits c.in-Some.processors c.in-Some.pages (λ no. let never = c.in-Ok.ensures.size.1 no in cc);
      stage = ap (λ s. Body s 0 0) c.in-Ok.ensures.opened;
    } in
    (subst (λ stage. Follows stage c.args.line.now (Body c.in-Ok.draft 0 0)) (sym c.requires) opens, refl)
