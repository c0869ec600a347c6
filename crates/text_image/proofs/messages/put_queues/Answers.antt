use Rattle.text_image.specs.Image.{queues_lines}
use Rattle.text_image.proofs.Each.{each-none, each-step}
use Rattle.text_image.proofs.messages.put_queues.Goals as goal

pub loop-number-init : goal.loop-number-init
loop-number-init g c = each-none (queues_lines c.args.board.now.state) (g.S.Sink.text c.args.out.now)

pub loop-number-preserved : goal.loop-number-preserved
loop-number-preserved g c =
    each-step (queues_lines c.args.board.now.state) c.loop-number.number c.vp_of-vp.result
    (g.S.Sink.text c.args.out.now) (g.S.Sink.text c.loop-number.out)
    (g.S.Sink.text c.put_queues_of.new.out) c.loop-number.invariant c.vp_of-vp.ensures c.in_ok-put_queues_of.ensures
