use Rattle.std.proofs.Common.{refl}
use Rattle.text_image.specs.Image.{timer_lines}
use Rattle.text_image.proofs.Each.{each-none, each-step}
use Rattle.text_image.proofs.timers.put_timers_of.Goals as goal

pub loop-index-init : goal.loop-index-init
loop-index-init g c = each-none (timer_lines c.args.board.now.state c.args.vp) (g.S.Sink.text c.args.out.now)

pub loop-index-preserved : goal.loop-index-preserved
loop-index-preserved g c =
    each-step (timer_lines c.args.board.now.state c.args.vp) c.loop-index.index c.loop-index.index
    (g.S.Sink.text c.args.out.now) (g.S.Sink.text c.loop-index.out)
    (g.S.Sink.text c.put_timer.new.out) c.loop-index.invariant refl c.in_ok-put_timer.ensures
