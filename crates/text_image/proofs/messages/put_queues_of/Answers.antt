use Rattle.text_image.specs.Image.{queue_lines}
use Rattle.text_image.proofs.Each.{each-none, each-step}
use Rattle.text_image.proofs.messages.put_queues_of.Goals as goal

pub loop-number-init : goal.loop-number-init
loop-number-init g c = each-none (queue_lines c.args.board.now.state c.args.vp) (g.S.Sink.text c.args.out.now)

pub loop-number-preserved : goal.loop-number-preserved
loop-number-preserved g c =
    each-step (queue_lines c.args.board.now.state c.args.vp) c.loop-number.number c.sint_of-sint.result
    (g.S.Sink.text c.args.out.now)
    (g.S.Sink.text c.loop-number.out)
    (g.S.Sink.text c.put_queue.new.out) c.loop-number.invariant c.sint_of-sint.ensures c.in_ok-put_queue.ensures
