use Rattle.std.proofs.Common.{refl}
use Rattle.text_image.specs.Image.{port_lines}
use Rattle.text_image.proofs.Each.{each-none, each-step}
use Rattle.text_image.proofs.image.put_ports.Goals as goal

pub loop-number-init : goal.loop-number-init
loop-number-init g c = each-none (port_lines c.args.board.now.state) (g.S.Sink.text c.args.out.now)

pub loop-number-preserved : goal.loop-number-preserved
loop-number-preserved g c =
    each-step (port_lines c.args.board.now.state) c.loop-number.number c.loop-number.number
    (g.S.Sink.text c.args.out.now) (g.S.Sink.text c.loop-number.out)
    (g.S.Sink.text c.put_port.new.out) c.loop-number.invariant refl c.in_ok-put_port.ensures
