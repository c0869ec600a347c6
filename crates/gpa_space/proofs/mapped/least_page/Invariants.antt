use Rattle.gpa_space.specs.inside.OverlaysAt.{IsLeastPage}
use Rattle.gpa_space.proofs.mapped.least_page.Given as goal

abbrev pub invariant-loop-register : goal.invariant-loop-register
invariant-loop-register l = IsLeastPage l.registers l.from l.count l.register-index l.least
