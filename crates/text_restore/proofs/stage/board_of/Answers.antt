use Rattle.std.proofs.Common.{ap, sym, ◌∙◌}
use Rattle.text_restore.specs.Restoring.{Body}
use Rattle.text_restore.specs.Taking.{stage_of}
use Rattle.text_restore.proofs.stage.board_of.Goals as goal

pub returns-in-Body : goal.returns-in-Body
returns-in-Body c = (
  c.in-Body.lapics,
  ap stage_of c.in-Body.is
      ∙ (λ i. Body (sym c.finish.ensures i) (c.if-last-eq-END.true i) c.in-Body.lapics),
)
