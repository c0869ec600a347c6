use Rattle.text_base.proofs.NumberLemmas.{zero-front}
use Rattle.text_base.proofs.numbers.short_number.Goals as goal

pub returns : goal.returns
returns c = (
  c.in-len1-up.len_at_least,
  zero-front c.args.base c.args.text.now c.requires.low c.requires.high c.in-len1-up.len_at_least c.if-first-ne48.false,
)
