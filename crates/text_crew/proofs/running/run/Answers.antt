use Rattle.std.proofs.Common.{rules, ◌≡◌, ◌++◌, sym, subst}
use Rattle.text_crew.specs.Crew.{finished}
use Rattle.text_crew.specs.inside.View.{crew_of, state_in}
use Rattle.text_crew.specs.inside.Reporting.{Report}
use Rattle.text_crew.specs.declared.running.CrewRun.TheVariants.{Done, Unsettled}
use Rattle.text_crew.proofs.running.run.Goals as goal

pub returns-then-not-close : goal.returns-then-not-close
returns-then-not-close g c =
    let s = c.close-in-Unsettled.ensures in
    record { sent = s.0; is = record { end = Unsettled; unsent = s.1; text = sym s.3 }; appended = s.2 }

pub returns-then-not-close-2 : goal.returns-then-not-close-2
returns-then-not-close-2 g c =
    let s = c.close-in-Done.ensures in
    let ready : Report (state_in c.args.board) (finished (crew_of c.args.script)) Done c.prepare.new.out.items =
    search rules in
    let whole : c.prepare.new.out.items ≡ s.0 ++ s.1 = search rules in
    record {
      sent = s.0;
      is = record {
        end = Done;
        unsent = s.1;
        text = subst (Report (state_in c.args.board) (finished (crew_of c.args.script)) Done) whole ready;
      };
      appended = s.2;
    }
