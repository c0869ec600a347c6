use Rattle.std.proofs.Common.{arith, ◌∙◌}
use Rattle.text_base.proofs.FieldLemmas.{no-byte_field}
use Rattle.text_base.proofs.fields.Fields.byte.Goals as goal

pub returns-then-rest-lt2 : goal.returns-then-rest-lt2
returns-then-rest-lt2 c field fields is =
    let whole = rw c.in_ok-rest.was at c.self.view_is in
    no-byte_field c.in_ok-rest.rest.now field fields (whole ∙ is)
    (λ b small long begins ends. omega (arith, long, c.if-rest-lt2.true))

pub returns-in_err-byte : goal.returns-in_err-byte
returns-in_err-byte c = rw c.from_residual-in_err-byte.ensures (λ field fields is.
    let whole = rw c.in_ok-rest.was at c.self.view_is in
    no-byte_field c.in_ok-rest.rest.now field fields (whole ∙ is)
    (λ b small long begins ends. c.in_err-byte.ensures.none b small begins))

pub returns-in_err-self-inside : goal.returns-in_err-self-inside
returns-in_err-self-inside c = rw c.from_residual-in_err-self-inside.ensures (λ field fields is.
    let whole = rw c.in_ok-rest.was at c.self.view_is in
    let other = c.in_err-self-inside.ensures.none in
    no-byte_field c.in_ok-rest.rest.now field fields (whole ∙ is) (λ b small long begins ends. other.1 (ends other.0)))
