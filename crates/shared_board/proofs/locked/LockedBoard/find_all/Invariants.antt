use Rattle.std.proofs.Common.{◌≡◌, All, take}
use Rattle.shared_board.specs.Calling.{calls_by}
use Rattle.shared_board.proofs.locked.LockedBoard.find_all.Given as goal

abbrev pub invariant-loop-index : goal.invariant-loop-index
invariant-loop-index g l =
    (l.self ≡ l.fn.self) × (l.actors ≡ l.fn.actors)
    × All (λ a. calls_by a.number g.S.Sharing.start l.fn.self.history ≡ a.calls) (take l.index l.fn.actors)
