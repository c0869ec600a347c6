use Rattle.std.proofs.Common.{Ok}
use Rattle.std.specs.List.{AllZip}
use Rattle.board_threads.proofs.threads.join_all.Given as goal

abbrev pub invariant-loop-handle : goal.invariant-loop-handle
invariant-loop-handle g l = AllZip (λ h t. g.P.Promise.kept_by h.promise (Ok t)) l.yielded l.all.items
