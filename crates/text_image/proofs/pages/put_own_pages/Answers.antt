use Rattle.text_image.specs.Image.{own_lines}
use Rattle.text_image.proofs.Each.{each-none, each-step}
use Rattle.text_image.proofs.pages.put_own_pages.Goals as goal

pub loop-number-init : goal.loop-number-init
loop-number-init g c = each-none (own_lines c.args.board.now.state) (g.S.Sink.text c.args.out.now)

pub loop-number-preserved : goal.loop-number-preserved
loop-number-preserved g c =
    each-step (own_lines c.args.board.now.state) c.loop-number.number c.vp_of-vp.result (g.S.Sink.text c.args.out.now)
    (g.S.Sink.text c.loop-number.out)
    (g.S.Sink.text c.put_own_pages_of.new.out) c.loop-number.invariant c.vp_of-vp.ensures
    c.in_ok-put_own_pages_of.ensures
