use Rattle.std.proofs.Common.{sym}
use Rattle.text_script.proofs.ScriptLemmas.{passes-line, passes-answered}
use Rattle.text_script.proofs.respond.advance.Goals as goal

pub returns-in-Some : goal.returns-in-Some
returns-in-Some c =
    rw c.in-Some.is (passes-line c.pass_line.result c.args.line.now _ _ c.requires.short
    (sym c.if-skips.ensures) c.pass_line.ensures)

pub returns-in-None : goal.returns-in-None
returns-in-None c =
    rw c.in-None.is (passes-line c.open.result c.args.line.now _ _ c.requires.short (sym c.if-skips.ensures)
    (passes-answered c.open.result _ _ _ _ c.open.ensures))
