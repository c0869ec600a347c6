use Rattle.std.proofs.Common.{◌≡◌, ◌<◌, ◌/◌, ◌%◌, ◌∷◌, ◌+◌, ◌-◌, ℕ, length, Some, sym, ap, ◌∙◌, arith, length-append}
use Rattle.std.proofs.lemmas.Bool.Decides.{Decides-eqb}
use Rattle.text_base.proofs.ByteLemmas.{Next, next-byte, digit-no_space, ended, grow}
use Rattle.text_base.proofs.bytes.bytes_front.Goals.{in_default, in-len2-up+in_default-digit_of}
use Rattle.text_base.proofs.bytes.bytes_front.Goals as goal

pub returns-in_default-digit_of-2-clause-field : goal.returns-in_default-digit_of-2-clause-field
returns-in_default-digit_of-2-clause-field g c bytes count fits field =
    let digit = digit-no_space _ c.in-Some.high c.in-Some.ensures.1 in
    let n = next-byte c.args.text.now c.loop-rest.out.items c.loop-rest.rest.now bytes count c.loop-rest.invariant.0
    c.loop-rest.invariant.1 field
    (omega (arith, c.in-len2-up.len_at_least)) digit in
    let small : n.b < 256 = n.small in
    absurd (c.in_default-digit_of-2.ensures (n.b % 16) (omega arith) n.low)

pub returns-then-is_full-clause-field : goal.returns-then-is_full-clause-field
returns-then-is_full-clause-field g c bytes count fits field =
    let digit = digit-no_space _ c.in-Some.high c.in-Some.ensures.1 in
    let n = next-byte c.args.text.now c.loop-rest.out.items c.loop-rest.rest.now bytes count c.loop-rest.invariant.0
    c.loop-rest.invariant.1 field
    (omega (arith, c.in-len2-up.len_at_least)) digit in
    let long : length bytes ≡ length c.loop-rest.out.items + length (n.b ∷ n.more) =
    ap length n.whole ∙ length-append c.loop-rest.out.items (n.b ∷ n.more) in
    let full = (Decides-eqb _ _).0 (sym c.if-is_full.ensures.value) in
    absurd (omega (arith, full, long, fits))

pub loop-rest-preserved : goal.loop-rest-preserved
loop-rest-preserved g c =
    grow c.args.text.now c.loop-rest.out.items c.loop-rest.rest.now c.push.new.self.items c.in-Some.high
    c.in-Some-digit_of.low c.loop-rest.invariant.0
    c.loop-rest.invariant.1 c.in-len2-up.len_at_least c.in-Some.ensures.0 c.in-Some-digit_of.ensures.0
    c.in-Some.ensures.1 c.in-Some-digit_of.ensures.1 c.push.ensures.items

pub returns-clause-field : goal.returns-clause-field
returns-clause-field g c bytes count fits field =
    let text = c.args.text.now in
    let rest = c.loop-rest.rest.now in
    let end = ended text c.loop-rest.out.items rest bytes count c.loop-rest.invariant.0 c.loop-rest.invariant.1 field
    no-byte in
    let at : length text - length rest ≡ count = omega (arith, end) in
    ap (λ (n : ℕ). Some n) at
  where
    no-byte : Next c.loop-rest.out.items c.loop-rest.rest.now bytes → ⊥
    no-byte n = elim c.if-rest-lt2.branch [
      | in_default w ↦ omega (arith, n.two, w.in_default.len_below)
      | in-len2-up+in_default-digit_of w ↦
          (let small : n.b < 256 = n.small in w.in_default-digit_of.ensures (n.b / 16) (omega arith) n.high)
    ]
