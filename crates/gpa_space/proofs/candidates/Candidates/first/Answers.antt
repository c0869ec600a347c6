use Rattle.std.proofs.Common.{get_or, sym, ap, ◌∙◌, subst, arith}
use Rattle.std.specs.Int.{trailing_zeros, w128}
use Rattle.std.proofs.lemmas.List.{get_or_default}
use Rattle.std.proofs.lemmas.Nat.Bits.{bit_at-trailing_zeros, bit_at_clear_same, bit_at_clear_other}
use Rattle.gpa_space.specs.Space.{page_of}
use Rattle.gpa_space.proofs.Searched.{IsSearched, has-register, begins, found, passes, fewer, nothing}
use Rattle.gpa_space.proofs.candidates.Candidates.first.Goals as goal

pub loop-left-init : goal.loop-left-init
loop-left-init c =
    let words = c.args.self.now.words.items in
    let word = c.index-left.ensures
    ∙ get_or_default words c.word_of.result c.index-left.result.now 0
    (omega (arith, c.word_of.ensures, c.requires.words)) in
    subst (IsSearched c.args.registers.now c.args.page)
    (ap (λ at. get_or words at 0) (sym c.word_of.ensures) ∙ sym word)
    (begins c.args.registers.now words c.args.page c.requires.words c.requires.marked)

pub bounds-registers-overlay : goal.bounds-registers-overlay
bounds-registers-overlay c =
    let left = c.loop-left.left in
    let low = bit_at-trailing_zeros w128 left (omega (arith, c.loop-left-test.true))
    (omega (arith, c.loop-left.auto.left-fits)) in
    has-register c.args.registers.now (trailing_zeros w128 left)
    (c.loop-left.invariant.enabled (trailing_zeros w128 left) low.0 low.1)

pub returns-then-page-clause-value : goal.returns-then-page-clause-value
returns-then-page-clause-value c =
    let left = c.loop-left.left in
    let low = bit_at-trailing_zeros w128 left (omega (arith, c.loop-left-test.true))
    (omega (arith, c.loop-left.auto.left-fits)) in
    let here = ap page_of (sym c.new.ensures) ∙ sym c.page.ensures ∙ c.if-page.true in
    found c.args.registers.now c.args.page left (trailing_zeros w128 left) c.loop-left.invariant low.0 low.1 low.2 here

pub loop-left-smaller : goal.loop-left-smaller
loop-left-smaller c =
    let left = c.loop-left.left in
    let k = trailing_zeros w128 left in
    let low = bit_at-trailing_zeros w128 left (omega (arith, c.loop-left-test.true))
    (omega (arith, c.loop-left.auto.left-fits)) in
    fewer left _ k low.1 (bit_at_clear_same w128 left k low.0)

pub loop-left-preserved : goal.loop-left-preserved
loop-left-preserved c =
    let left = c.loop-left.left in
    let k = trailing_zeros w128 left in
    let low = bit_at-trailing_zeros w128 left (omega (arith, c.loop-left-test.true))
    (omega (arith, c.loop-left.auto.left-fits)) in
    let away = ap page_of (sym c.new.ensures) ∙ sym c.page.ensures in
    passes c.args.registers.now c.args.page left _ k c.loop-left.invariant (λ same. c.if-page.false (sym away ∙ same))
    (bit_at_clear_same w128 left k low.0)
    (λ i bound other. bit_at_clear_other w128 left k low.0 i bound other)

pub returns-clause-value : goal.returns-clause-value
returns-clause-value c =
    nothing c.args.registers.now c.args.page c.requires.bound
    (subst (IsSearched c.args.registers.now c.args.page) c.loop-left-test.false c.loop-left.invariant)
