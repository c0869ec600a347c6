use Rattle.std.proofs.Common.{take}
use Rattle.c_terms.specs.Batches.{view_of, batch}
use Rattle.c_terms.proofs.Batching.{IsDone}
use Rattle.c_terms.proofs.batches.perform_batch.Given as goal

abbrev pub invariant-loop-done : goal.invariant-loop-done
invariant-loop-done l =
    IsDone (batch (view_of l.fn.board) (take l.done l.events))
    (view_of l.board) l.done l.emitted l.fn.replies l.replies l.fn.notices l.notices
