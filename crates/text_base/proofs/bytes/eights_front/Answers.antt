use Rattle.text_base.proofs.LaneLemmas.{grow-eight}
use Rattle.text_base.proofs.bytes.eights_front.Goals as goal

pub loop-rest-preserved : goal.loop-rest-preserved
loop-rest-preserved g c =
    grow-eight c.args.text.now c.loop-rest.out.items c.loop-rest.rest.now _ _ c.loop-rest.invariant.0
    c.loop-rest.invariant.1 c.in-Some.ensures.0 c.in-Some.ensures.2 c.in-Ok.ensures.ok
