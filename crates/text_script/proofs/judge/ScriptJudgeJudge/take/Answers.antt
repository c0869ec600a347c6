use Rattle.std.proofs.lemmas.Result.{IfOk-weaker}
use Rattle.text_driver.proofs.Silent.{answers-seen}
use Rattle.text_script.specs.Output.{Machine}
use Rattle.text_script.specs.inside.Judging.{machine_of, IsAnswered, IsFaulty}
use Rattle.text_script.specs.declared.judge.ScriptJudge.{ScriptJudge}
use Rattle.text_script.proofs.judge.ScriptJudgeJudge.take.Goals as goal

abbrev seen : ScriptJudge → Machine
seen judge = machine_of judge.board

pub returns-clause-taken : goal.returns-clause-taken
returns-clause-taken g c =
    IfOk-weaker c.respond.result _ _
    (λ taken h. answers-seen seen IsAnswered IsFaulty taken _ _ c.args.line.now _ _ h) c.respond.ensures
