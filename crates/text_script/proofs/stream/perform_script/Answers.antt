use Rattle.std.proofs.Common.{◌≡◌, Bool, Option, None, Some, is_some, refl, subst, ◌∙◌}
use Rattle.synic_board.specs.State.{BoardModel}
use Rattle.text_script.specs.Output.{Machine}
use Rattle.text_script.specs.inside.Judging.{machine_of, conclusion, Concludes}
use Rattle.text_script.specs.declared.judge.ScriptJudge.{ScriptJudge}
use Rattle.text_script.proofs.Limits.{concluded-within, concluded-near}
use Rattle.text_script.proofs.Judged.{replays-concluded, replays-nothing}
use Rattle.text_script.proofs.stream.perform_script.Goals as goal

abbrev seen : ScriptJudge → Machine
seen judge = machine_of judge.board

is-open : (board : Option BoardModel) → is_some board ≡ is_some (machine_of board)
is-open None = refl
is-open (Some held) = refl

pub returns-in_default-clause-text : goal.returns-in_default-clause-text
returns-in_default-clause-text g c = replays-nothing _ _ _

pub returns-clause-text : goal.returns-clause-text
returns-clause-text g c =
    let same = c.is_some.ensures ∙ is-open c.drive-end.new.judge.board in
    let concludes =
    subst (λ (opened : Bool). Concludes (conclusion c.drive-end.result opened) c.conclude.result
    (g.W.Write.contents c.drive-end.new.writer)
    (g.W.Write.contents c.conclude.new.writer)) same c.conclude.ensures in
    replays-concluded seen _ _ _ refl c.drive-end.result c.conclude.result _ _ _ _ _ c.drive-end.ensures.lines concludes

pub returns-clause-limit : goal.returns-clause-limit
returns-clause-limit g c =
    concluded-within c.drive-end.result c.is_some.result c.conclude.result _ _ _ _ c.conclude.ensures
    c.drive-end.ensures.limit

pub returns-clause-near : goal.returns-clause-near
returns-clause-near g c =
    concluded-near c.drive-end.result c.is_some.result c.conclude.result _ _ _ _ c.conclude.ensures
    c.drive-end.ensures.near
