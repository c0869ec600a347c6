use Rattle.std.proofs.Common.{◌≡◌, ◌-◌, ◌+◌, ◌/◌, ◌<◌, ◌^◌, ℕ, drop, false, sym, ap, ◌∙◌, arith}
use Rattle.std.proofs.Math.ListN.{length-set, drop_of_length-le}
use Rattle.std.proofs.Math.Nat.{pow-zero}
use Rattle.std.specs.Fmt.{digits_onto}
use Rattle.text_base.proofs.DigitLemmas.{onto-all, onto-last, onto-step, hex-less}
use Rattle.text_base.proofs.NumberLemmas.{drop-set-cons}
use Rattle.text_base.proofs.numbers.write_hex.Goals as goal

pub loop-i-init : goal.loop-i-init
loop-i-init c = (
  omega arith,
  c.told-out,
  omega (arith, c.ranges.n.fits),
  (λ h. absurd (omega arith)),
  ap (digits_onto 64 16 false c.args.n) (drop_of_length-le c.args.out.now {i = 16} (omega (arith, c.told-out)))
      ∙ onto-all 16 c.args.n,
)

pub loop-i-preserved : goal.loop-i-preserved
loop-i-preserved c =
    let l = c.loop-i in
    let written =
    ap (digits_onto (48 + (l.i - 1)) 16 false (l.rest / 16))
    (drop-set-cons l.out l.i _ _ c.loop-i-test.true (omega arith) c.glyph_of.ensures) in
    let room : 48 + l.i - 1 ≡ 48 + (l.i - 1) = omega arith in
    let step = onto-step 16 (48 + l.i) l.rest (drop l.i l.out) (omega arith) c.if-rest-eq0.false in (
      omega arith,
      omega (arith, length-set {A = ℕ}),
      hex-less l.i l.rest c.loop-i-test.true l.invariant.2,
      (λ h. omega (arith, c.if-rest-eq0.false)),
      written ∙ sym (rw room at step) ∙ l.invariant.4,
    )

pub returns-after-loop-i-clause-value : goal.returns-after-loop-i-clause-value
returns-after-loop-i-clause-value c = absurd
    (let some = c.loop-i.invariant.3 (omega arith) in
    let bound : c.loop-i.rest < 16 ^ 0 =
    rw (let none : c.loop-i.i ≡ 0 = omega arith in none) at c.loop-i.invariant.2 in omega (arith, pow-zero 16))

pub returns-then-rest-eq0-clause-value : goal.returns-then-rest-eq0-clause-value
returns-then-rest-eq0-clause-value c =
    let l = c.loop-i in
    drop-set-cons l.out l.i _ _ c.loop-i-test.true (omega arith) c.glyph_of.ensures
    ∙ sym (onto-last 16 (48 + l.i) l.rest (drop l.i l.out) (omega arith) c.if-rest-eq0.true) ∙ l.invariant.4
