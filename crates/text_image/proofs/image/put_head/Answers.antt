use Rattle.std.proofs.Common.{[], ◌∷◌, ◌++◌, length, Some, codes, rules}
use Rattle.std.proofs.lemmas.Result.{on_ok_weaker}
use Rattle.text_base.specs.Fields.{line_of}
use Rattle.text_lines.specs.Items.{Opening, item_fields}
use Rattle.text_lines.specs.Printing.{text_of}
use Rattle.synic_board.specs.State.{processors}
use Rattle.text_image.specs.Image.{moment_lines}
use Rattle.text_image.proofs.Rows.{in_turn}
use Rattle.text_image.proofs.image.put_head.Goals as goal

pub returns : goal.returns
returns g c =
    let s = c.args.board.now.state in
    let title = c.in_ok-put.ensures.appended in
    let opening = c.in_ok-put_opening.ensures in
    on_ok_weaker c.put_moment.result
    (λ h. in_turn (codes "image 1" ++ 10 ∷ [])
    (line_of (item_fields (Opening (processors s) (Some (length s.pages)) s.next_ticket)))
    (text_of (moment_lines s.moment))
    (g.S.Sink.text c.args.out.now) (g.S.Sink.text c.put.new.self) (g.S.Sink.text c.put_opening.new.out)
    (g.S.Sink.text c.put_moment.new.out) title (search rules) h)
    (search rules)
