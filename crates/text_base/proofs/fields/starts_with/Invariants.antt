use Rattle.std.proofs.Common.{◌≡◌, ◌≤◌, take}
use Rattle.text_base.proofs.fields.starts_with.Given as goal

abbrev pub invariant-loop-i : goal.invariant-loop-i
invariant-loop-i g l = (l.begin ≤ g.row.N) × (take l.i l.text ≡ take l.i l.word)
