use Rattle.std.proofs.Common.{◌∙◌, ℕ, ap}
use Rattle.std.specs.Prelude.{Option}
use Rattle.text_lines.specs.Sizes.{opened_by}
use Rattle.text_crew.proofs.Judged.{opened-with}
use Rattle.text_crew.proofs.outcome.open_for.Goals as goal

pub returns-in-Ok-clause-opened : goal.returns-in-Ok-clause-opened
returns-in-Ok-clause-opened c =
    let setup = c.args.setup.now in
    c.in-Ok.ensures.opened
    ∙ ap (λ (pages : Option ℕ). opened_by setup.processors pages setup.first_ticket) c.line_pages-pages.ensures
    ∙ opened-with setup.processors setup.pages setup.first_ticket
