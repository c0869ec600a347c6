use Rattle.std.proofs.Common.{refl}
use Rattle.text_script.specs.Output.{Machine}
use Rattle.text_script.specs.inside.Judging.{machine_of}
use Rattle.text_script.specs.declared.judge.SaveJudge.{SaveJudge}
use Rattle.text_script.proofs.SaveLemmas.{saves-concluded, saved-within, saved-near}
use Rattle.text_script.proofs.stream.save_script.Goals as goal

abbrev seen : SaveJudge → Machine
seen judge = machine_of judge.script.board

pub returns-clause-text : goal.returns-clause-text
returns-clause-text g c =
    saves-concluded seen _ _ refl _ _ _ _ _ _ c.drive-end.result c.conclude_save.result c.drive-end.ensures.lines
    c.conclude_save.ensures

pub returns-clause-limit : goal.returns-clause-limit
returns-clause-limit g c =
    saved-within c.drive-end.result _ c.conclude_save.result _ _ _ _ c.conclude_save.ensures c.drive-end.ensures.limit

pub returns-clause-near : goal.returns-clause-near
returns-clause-near g c =
    saved-near c.drive-end.result _ c.conclude_save.result _ _ _ _ c.conclude_save.ensures c.drive-end.ensures.near
