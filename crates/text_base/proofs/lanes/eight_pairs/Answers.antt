use Rattle.std.proofs.Common.{take, w8}
use Rattle.std.proofs.lemmas.Simd.{length-chunk, chunk-fits}
use Rattle.text_base.proofs.LaneLemmas.{pairs-are}
use Rattle.text_base.proofs.lanes.eight_pairs.Goals as goal

pub returns : goal.returns
returns c = pairs-are (take 8 c.args.bytes.now) (length-chunk 0 8 c.args.bytes.now c.requires)
    (chunk-fits w8 0 8 c.args.bytes.now c.type_inv.bytes)
