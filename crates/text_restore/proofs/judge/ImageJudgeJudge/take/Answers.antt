use Rattle.text_driver.proofs.Silent.{silent}
use Rattle.text_restore.specs.Restoring.{Stage}
use Rattle.text_restore.specs.Taking.{stage_of, IsGood, IsWrong}
use Rattle.text_restore.specs.declared.judge.ImageJudge.{ImageJudge}
use Rattle.text_restore.proofs.judge.ImageJudgeJudge.take.Goals as goal

abbrev seen : ImageJudge → Stage
seen judge = stage_of judge.stage

pub returns-clause-taken : goal.returns-clause-taken
returns-clause-taken g c =
    silent seen IsGood IsWrong c.take_line.result _ _ c.args.line.now (g.S.Sink.text c.args._out.now)
    c.take_line.ensures
