use Rattle.std.proofs.Common.{refl}
use Rattle.text_restore.specs.Restoring.{Stage}
use Rattle.text_restore.specs.Taking.{stage_of}
use Rattle.text_restore.specs.declared.judge.ImageJudge.{ImageJudge}
use Rattle.text_restore.proofs.Driven.{restored}
use Rattle.text_restore.proofs.Limits.{concluded-within, concluded-near}
use Rattle.text_restore.proofs.restoring.restore.Goals as goal

abbrev seen : ImageJudge → Stage
seen judge = stage_of judge.stage

pub returns-clause-text : goal.returns-clause-text
returns-clause-text g c =
    restored seen _ _ refl c.drive-end.result c.conclude.result _ _ _ _ c.conclude.ensures c.drive-end.ensures.lines

pub returns-clause-limit : goal.returns-clause-limit
returns-clause-limit g c =
    concluded-within c.drive-end.result _ c.conclude.result _ _ c.conclude.ensures c.drive-end.ensures.limit

pub returns-clause-near : goal.returns-clause-near
returns-clause-near g c =
    concluded-near c.drive-end.result _ c.conclude.result _ _ c.conclude.ensures c.drive-end.ensures.near
