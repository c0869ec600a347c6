use Rattle.text_lines.proofs.print.summary.put_auto.Goals as goal

pub returns-in-Some : goal.returns-in-Some
returns-in-Some g c = rw (← c.in-Some.ensures.value) c.put_auto_line.ensures
