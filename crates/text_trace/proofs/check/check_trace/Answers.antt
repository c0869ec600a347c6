use Rattle.std.proofs.Common.{refl}
use Rattle.text_trace.specs.inside.Stages.{Stage, stage_of}
use Rattle.text_trace.specs.declared.judge.TraceJudge.{TraceJudge}
use Rattle.text_trace.proofs.Limits.{concluded-within, concluded-near}
use Rattle.text_trace.proofs.Judged.{checks-concluded}
use Rattle.text_trace.proofs.check.check_trace.Goals as goal

abbrev seen : TraceJudge → Stage
seen judge = stage_of judge.stage

pub returns-clause-verdict : goal.returns-clause-verdict
returns-clause-verdict g c =
    checks-concluded seen _ _ refl c.drive-end.result c.entries_of.result c.conclude.result _ _ _ _ _
    c.entries_of.ensures c.drive-end.ensures.lines c.conclude.ensures

pub returns-clause-limit : goal.returns-clause-limit
returns-clause-limit g c =
    concluded-within c.drive-end.result c.entries_of.result c.conclude.result _ _ _ _ c.conclude.ensures
    c.drive-end.ensures.limit

pub returns-clause-near : goal.returns-clause-near
returns-clause-near g c =
    concluded-near c.drive-end.result c.entries_of.result c.conclude.result _ _ _ _ c.conclude.ensures
    c.drive-end.ensures.near
