use Rattle.std.proofs.Common.{◌≡◌, length, sym, arith}
use Rattle.std.proofs.lemmas.Bool.Decides.{nat_tests}
use Rattle.text_image.proofs.BlockLemmas.{block-none, block-short, block-taken}
use Rattle.text_image.proofs.reading.pages.block_of.Goals as goal

pub returns-in_err-bytes : goal.returns-in_err-bytes
returns-in_err-bytes c = rw c.from_residual.ensures (block-none c.args.fields.now c.in_err-bytes.ensures)

pub returns-then-not-is_full : goal.returns-then-not-is_full
returns-then-not-is_full c =
    let taken = c.in_ok-bytes.ensures in
    block-short c.args.fields.now c.bytes.new.self c.bytes.new.out.items taken.0 taken.1
    (sym c.if-not-is_full.ensures.value)

pub returns : goal.returns
returns c =
    let taken = c.in_ok-bytes.ensures in
    let full = c.if-not-is_full.ensures.value in
    let size : length c.bytes.new.out.items ≡ 256 = grind (arith, nat_tests) in
    block-taken c.args.fields.now c.bytes.new.self c.bytes.new.out.items taken.0 taken.1 size
