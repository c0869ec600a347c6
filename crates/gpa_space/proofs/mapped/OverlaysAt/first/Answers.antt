use Rattle.std.proofs.Common.{sym, ap, ◌∙◌, subst, arith, Some}
use Rattle.std.specs.Int.{bit_at, trailing_zeros, w16}
use Rattle.std.proofs.lemmas.List.{get_or_default}
use Rattle.std.proofs.lemmas.Nat.Bits.{bit_at-zero, bit_at-trailing_zeros}
use Rattle.gpa_space.specs.inside.OverlaysAt.{IsLowest}
use Rattle.gpa_space.proofs.mapped.OverlaysAt.first.Goals as goal

pub returns-then-word-eq0 : goal.returns-then-word-eq0
returns-then-word-eq0 c i =
    let word = c.index-word.ensures
    ∙ get_or_default c.args.self.now.words.items c.args.page c.index-word.result.now 0 c.requires in
    ap (λ w. bit_at w i) (sym word ∙ c.if-word-eq0.true) ∙ bit_at-zero i

pub returns : goal.returns
returns c =
    let word = c.index-word.ensures
    ∙ get_or_default c.args.self.now.words.items c.args.page c.index-word.result.now 0 c.requires in
    subst (λ w. IsLowest w (Some (trailing_zeros w16 c.index-word.result.now))) word
    (bit_at-trailing_zeros w16 c.index-word.result.now (omega (arith, c.if-word-eq0.false))
    (omega (arith, c.index-word.type_inv)))
