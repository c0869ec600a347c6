use Rattle.std.proofs.Common.{◌≡◌, length, None, Some, ◌∙◌, sym}
use Rattle.text_base.specs.Numbers.{spelled}
use Rattle.text_base.proofs.FieldLemmas.{bytes-front, bytes-no_space}
use Rattle.text_base.proofs.fields.Fields.bytes.Goals as goal

pub returns-in_err-count : goal.returns-in_err-count
returns-in_err-count g c = rw c.from_residual-in_err-count.ensures (λ bytes rest all fits is.
    let whole = rw c.in_ok-rest.was at c.self.view_is in
    let found : None ≡ Some (length (spelled bytes)) =
    c.in_err-count.ensures.field bytes (length (spelled bytes)) fits
    (bytes-front c.in_ok-rest.rest.now bytes rest all (whole ∙ is)) in
    cc)

pub past-requires-clause-field : goal.past-requires-clause-field
past-requires-clause-field g c =
    bytes-no_space c.in_ok-rest.rest.now c.bytes_front.new.out.items c.in_ok-count.count c.in_ok-count.ensures.front

pub returns-in_err-self-inside : goal.returns-in_err-self-inside
returns-in_err-self-inside g c = rw c.from_residual-in_err-self-inside.ensures (λ bytes rest all fits is.
    let whole = rw c.in_ok-rest.was at c.self.view_is in
    let field = bytes-front c.in_ok-rest.rest.now bytes rest all (whole ∙ is) in
    let found : Some c.in_ok-count.count ≡ Some (length (spelled bytes)) =
    c.in_ok-count.ensures.field bytes (length (spelled bytes)) fits field in
    let same : c.in_ok-count.count ≡ length (spelled bytes) = cc in
    let other = c.in_err-self-inside.ensures.none in
    other.1 (rw (sym same) at field.1 other.0))
