use Rattle.std.proofs.Common.{Some, None, ap, sym, ◌∙◌}
use Rattle.text_script.specs.inside.Judging.{after_maybe, answer_maybe}
use Rattle.text_script.proofs.ScriptLemmas.{opened-good}
use Rattle.text_script.proofs.respond.open_sized.Goals as goal

pub returns-in-Ok : goal.returns-in-Ok
returns-in-Ok c =
    let good = opened-good c.args.fields.now c.in-Some.processors c.in-Some.pages c.in-Some.ticket c.in-Some.ensures
    (λ never. let e = c.in-Ok.ensures.size.1 never in cc) in
    ((good.0, ap Some c.in-Ok.ensures.opened ∙ sym (ap (after_maybe None) good.1)), sym (ap (answer_maybe None) good.1))
