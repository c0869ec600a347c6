use Rattle.std.proofs.Common.{sym, subst, ◌∙◌}
use Rattle.std.specs.Prelude.{Option}
use Rattle.synic_board.specs.State.{BoardModel}
use Rattle.text_restore.specs.Taking.{stage_of as image_stage_of, IsBoardOf}
use Rattle.text_restore.proofs.Completing.{has-board}
use Rattle.text_trace.specs.declared.stage.Stage.{Stage as Held}
use Rattle.text_trace.specs.inside.Stages.{stage_of, HasImage}
use Rattle.text_trace.proofs.stage.start.Goals as goal

pub unreachable-requires-in_default-board_of : goal.unreachable-requires-in_default-board_of
unreachable-requires-in_default-board_of c =
    let whole = subst (λ (s : Held). HasImage (stage_of s))
    (sym c.replace.ensures.value ∙ c.in-Image.is) c.requires.whole in
    has-board (image_stage_of c.in-Image.image) whole
    (subst (λ (o : Option BoardModel). IsBoardOf o (image_stage_of c.in-Image.image)) c.in_default-board_of.is
    c.board_of.ensures)
