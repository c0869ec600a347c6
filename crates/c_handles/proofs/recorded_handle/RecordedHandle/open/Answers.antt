use Rattle.std.proofs.Common.{sym, ap, subst, ◌∙◌}
use Rattle.std.specs.Prelude.{Option, Some}
use Rattle.c_handles.specs.declared.any_board.AnyBoard.{AnyBoard}
use Rattle.c_handles.specs.Histories.{HistoryModel, end_of}
use Rattle.c_handles.specs.inside.Leading.{LeadsTo}
use Rattle.c_handles.proofs.recorded_handle.RecordedHandle.open.Goals as goal

pub invariant_of-result : goal.invariant_of-result
invariant_of-result c =
    let is = c.in_ok-board.ensures.board ∙ sym (ap end_of c.in-Ok-Ok.ensures'.ok ∙ c.new-history.ensures.leads) in
    record {
      leads = subst (λ (h : Option HistoryModel). LeadsTo h c.holding.result.board) (sym c.holding-2.ensures)
          (subst (λ (b : Option AnyBoard). LeadsTo (Some c.in-Ok-Ok.history.value) b) (sym c.holding.ensures)
          (subst (λ (b : AnyBoard). LeadsTo (Some c.in-Ok-Ok.history.value) (Some b)) (sym c.in-Ok-Ok.ensures.ok) is));
    }
