use Rattle.std.specs.Prelude.{◌≡◌, []}
use Rattle.std.specs.FinSet as set
use Rattle.synic_board.specs.State.{apic_of}
use Rattle.c_handles.specs.Kinds.{state_in, notices_in, eoms_in, pages_in}
use Rattle.c_handles.proofs.Taken.{Forwarding}
use Rattle.c_handles.proofs.any_board.AnyBoard.forward.Given as goal

abbrev pub invariant-loop-vp : goal.invariant-loop-vp
invariant-loop-vp l =
    Forwarding (state_in l.fn.self) l.vp (state_in l.self) l.forwarded × (notices_in l.self ≡ [])
    × (pages_in l.self ≡ pages_in l.fn.self) × (eoms_in l.self ≡ 0)

abbrev pub decreases-loop-vp : goal.decreases-loop-vp
decreases-loop-vp l = set.len (apic_of (state_in l.self) l.vp).requested
