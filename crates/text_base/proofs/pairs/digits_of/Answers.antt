use Rattle.std.proofs.Common.{refl}
use Rattle.text_base.specs.declared.pairs.TheConstants.{BYTES}
use Rattle.text_base.proofs.DigitPairs.{pair-at}
use Rattle.text_base.proofs.pairs.digits_of.Goals as goal

pub returns : goal.returns
returns c = pair-at BYTES.now 16 256 refl c.args.byte c.ranges.byte.fits
