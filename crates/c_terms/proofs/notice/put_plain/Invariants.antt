use Rattle.std.proofs.Common.{take, map}
use Rattle.c_terms.specs.Notices.{notice_to_c}
use Rattle.c_terms.specs.Rooms.{Fronts}
use Rattle.c_terms.proofs.notice.put_plain.Given as goal

abbrev pub invariant-loop-at : goal.invariant-loop-at
invariant-loop-at l = Fronts (take l.at (map notice_to_c l.notices)) l.fn.room l.room
