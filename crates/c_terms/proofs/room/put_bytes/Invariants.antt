use Rattle.std.proofs.Common.{take}
use Rattle.c_terms.specs.Rooms.{Fronts}
use Rattle.c_terms.proofs.room.put_bytes.Given as goal

abbrev pub invariant-loop-at : goal.invariant-loop-at
invariant-loop-at l = Fronts (take l.at l.bytes) l.fn.room l.room
