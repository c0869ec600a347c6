use Rattle.std.proofs.Common.{◌∙◌, sym, ap, Some, None}
use Rattle.std.specs.Option.{option_map}
use Rattle.synic_board.specs.State.{State}
use Rattle.text_trace.specs.inside.Stages.{Running, begun}
use Rattle.text_trace.proofs.Written.{board-opened, same-word}
use Rattle.text_trace.proofs.stage.open.Goals as goal

pub returns-in-Ok : goal.returns-in-Ok
returns-in-Ok c =
    let f = c.args.format in
    let read = board-opened f c.args.line.now c.in-Some.word.now c.next.new.self c.in-Some-opening_of.processors
    c.in-Some-opening_of.pages c.in-Some-opening_of.ticket
    (sym c.new-fields.ensures ∙ c.in-Some.ensures)
    (same-word _ _ c.if-ne.ensures ∙ c.as_slice.ensures) c.in-Some-opening_of.ensures
    (sym c.may_open.ensures ∙ c.if-not-may_open.false) (λ never. let e = c.in-Ok.ensures.size.1 never in cc) in
    ap (option_map (begun f)) read ∙ ap (λ (s : State). Some (Running f s 0 None)) (sym c.in-Ok.ensures.opened)
