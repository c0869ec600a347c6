use Rattle.std.proofs.Common.{◌≡◌, Bool, false, Some, sym, subst, ◌∙◌}
use Rattle.text_image.specs.declared.piece.Piece.{Piece}
use Rattle.text_restore.specs.Restoring.{Continues}
use Rattle.text_restore.specs.inside.Stages.{Takes}
use Rattle.text_restore.proofs.stage.take_body.Goals as goal

pub returns-in-Ok-false : goal.returns-in-Ok-false
returns-in-Ok-false c = λ new h.
    let both : Some h.0 ≡ Some c.in-Some.piece = sym h.1 ∙ sym c.piece_of.ensures ∙ c.in-Some.is in
    let same : h.0 ≡ c.in-Some.piece = cc in
    let refused : Takes false c.args.draft.now c.args.last.now c.args.lapics.now c.in-Some.piece
    c.take_piece.new.draft c.take_piece.new.last c.take_piece.new.lapics =
    subst (λ (b : Bool). Takes b c.args.draft.now c.args.last.now c.args.lapics.now c.in-Some.piece
    c.take_piece.new.draft c.take_piece.new.last c.take_piece.new.lapics)
    c.in-Ok-false.field-0-test c.in-Ok-false.ensures in
    refused new (subst (λ (x : Piece). Continues c.args.draft.now c.args.last.now c.args.lapics.now x new) same h.2)
