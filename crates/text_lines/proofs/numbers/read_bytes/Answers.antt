use Rattle.std.proofs.Common.{length, ap, ◌∙◌, ◌==◌, ℕ, List, arith}
use Rattle.text_lines.proofs.ByteFields.{no-bytes, takes-bytes, decoded, not-decoded}
use Rattle.text_lines.proofs.numbers.read_bytes.Goals as goal

pub returns-then-is_some : goal.returns-then-is_some
returns-then-is_some g c =
    let items = c.as_slice.ensures.value in
    takes-bytes g.row.N c.args.fields.now c.bytes.new.self c.bytes.new.out c.is_empty.result
    (c.is_empty.ensures ∙ ap (λ (bytes : List ℕ). length bytes == 0) items)
    (decoded c.bytes.result _ _ c.if-is_some.ensures c.bytes.ensures)
    (omega (arith, c.as_slice.ensures.fits, ap length items))

pub returns-else-is_some : goal.returns-else-is_some
returns-else-is_some g c =
    rw c.if-is_some.false (no-bytes g.row.N c.args.fields.now c.in_default.ensures.none
    (not-decoded c.bytes.result _ _ c.if-is_some.ensures c.bytes.ensures))
