use Rattle.std.proofs.Common.{refl}
use Rattle.text_image.specs.Image.{block_lines}
use Rattle.text_image.proofs.Each.{each-none, each-step}
use Rattle.text_image.proofs.pages.put_page.Goals as goal

pub loop-block-init : goal.loop-block-init
loop-block-init g c = each-none (block_lines c.args.name.now c.args.page.now) (g.S.Sink.text c.args.out.now)

pub loop-block-preserved : goal.loop-block-preserved
loop-block-preserved g c =
    each-step (block_lines c.args.name.now c.args.page.now) c.loop-block.block c.loop-block.block
    (g.S.Sink.text c.args.out.now) (g.S.Sink.text c.loop-block.out)
    (g.S.Sink.text c.put_block.new.out) c.loop-block.invariant refl c.in_ok-put_block.ensures
