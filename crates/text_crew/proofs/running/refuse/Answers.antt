use Rattle.std.proofs.Common.{rules, ◌≡◌, ◌++◌, refl, ◌∙◌}
use Rattle.text_crew.specs.declared.running.CrewRun.TheVariants.{Script}
use Rattle.text_crew.proofs.running.refuse.Goals as goal

pub returns-then-not-close : goal.returns-then-not-close
returns-then-not-close g c =
    let s = c.close.ensures in
    let whole : s.0 ++ s.1 ≡ c.put_fault.new.out.items = search rules in
    record {
      sent = s.0;
      is = record { end = Script c.args.line c.args.fault; unsent = s.1; text = (refl, refl, whole ∙ search rules) };
      appended = s.2;
    }
