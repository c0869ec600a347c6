use Rattle.std.proofs.Common.{sym}
use Rattle.std.proofs.lemmas.Result.{IfOk-weaker}
use Rattle.text_script.proofs.ScriptLemmas.{puts-line, first-line}
use Rattle.text_script.proofs.respond.respond.Goals as goal

pub returns-in-Some : goal.returns-in-Some
returns-in-Some g c =
    rw c.in-Some.is (IfOk-weaker c.take_line.result _ _
    (λ taken h. puts-line taken c.args.line.now _ _ _ _ c.requires (sym c.if-skips.ensures) h) c.take_line.ensures)

pub returns-in-None : goal.returns-in-None
returns-in-None g c =
    rw c.in-None.is (first-line c.open.result c.args.line.now _ _ c.requires (sym c.if-skips.ensures) c.open.ensures)
