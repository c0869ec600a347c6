use Rattle.std.proofs.Common.{refl}
use Rattle.text_image.specs.Image.{guest_lines}
use Rattle.text_image.proofs.Each.{each-none, each-step}
use Rattle.text_image.proofs.pages.put_guest_pages.Goals as goal

pub loop-number-init : goal.loop-number-init
loop-number-init g c = each-none (guest_lines c.args.board.now.state) (g.S.Sink.text c.args.out.now)

pub loop-number-preserved : goal.loop-number-preserved
loop-number-preserved g c =
    each-step (guest_lines c.args.board.now.state) c.loop-number.number c.loop-number.number
    (g.S.Sink.text c.args.out.now) (g.S.Sink.text c.loop-number.out)
    (g.S.Sink.text c.put_guest_page.new.out) c.loop-number.invariant refl c.in_ok-put_guest_page.ensures
