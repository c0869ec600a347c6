use Rattle.text_driver.proofs.Silent.{silent}
use Rattle.text_trace.specs.inside.Stages.{Stage, stage_of, IsGood, IsWrong}
use Rattle.text_trace.specs.declared.judge.TraceJudge.{TraceJudge}
use Rattle.text_trace.proofs.judge.TraceJudgeJudge.take.Goals as goal

abbrev seen : TraceJudge → Stage
seen judge = stage_of judge.stage

pub returns-clause-taken : goal.returns-clause-taken
returns-clause-taken g c =
    silent seen IsGood IsWrong c.take_line.result _ _ c.args.line.now (g.S.Sink.text c.args._out.now)
    c.take_line.ensures
