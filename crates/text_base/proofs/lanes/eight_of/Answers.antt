use Rattle.std.proofs.Common.{w8}
use Rattle.std.proofs.lemmas.Simd.{chunk-fits, below_from_Fits}
use Rattle.text_base.proofs.lanes.eight_of.Goals as goal

pub spelled_by-requires : goal.spelled_by-requires
spelled_by-requires c = below_from_Fits w8 _ (chunk-fits w8 0 16 c.args.text.now c.type_inv.text)
