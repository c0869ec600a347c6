use Rattle.std.proofs.Common.{ℕ, List}
use Rattle.text_driver.proofs.Silent.{silent}
use Rattle.text_script.specs.Output.{Machine}
use Rattle.text_script.specs.inside.Judging.{machine_of, Advances, IsFaulty}
use Rattle.text_script.specs.declared.judge.SaveJudge.{SaveJudge}
use Rattle.text_script.proofs.judge.SaveJudgeJudge.take.Goals as goal

abbrev seen : SaveJudge → Machine
seen judge = machine_of judge.script.board

pub returns-clause-taken : goal.returns-clause-taken
returns-clause-taken g c =
    silent seen (λ (old : Machine) (line answer : List ℕ) (new : Machine). Advances old line new) IsFaulty
    c.advance.result _ _ c.args.line.now (g.S.Sink.text c.args._out.now) c.advance.ensures
