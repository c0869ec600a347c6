use Rattle.std.proofs.Common.{◌≡◌, ◌≢◌, ◌+◌, ◌<◌, ℕ, List, Option, Some, None, length, take, get_or, MatchOption, arith, eq-eqb, eqb-true, Bool, true, false, nat_le, leb-true, refl}
use Rattle.std.proofs.lemmas.List.{take_all}
use Rattle.std.proofs.lemmas.Bool.{leb-false}
use Rattle.memchr.specs.Find.{IsFirstByte, is_byte}
use Rattle.text_base.specs.Lines.{IsOneLine}
use Rattle.text_base.proofs.SourceLemmas.{one-search}
use Rattle.text_base.proofs.source.feed.Goals as goal

found : (text : List ℕ) (r : Option ℕ) → IsFirstByte (is_byte 10) text r
    → MatchOption r (IsOneLine text) (λ k. (k < length text) × IsOneLine (take k text) × (get_or text k 0 ≡ 10))
found text None h =
    rw (take_all (length text) text (omega arith)) at
    (one-search text (length text) (λ j less within e. h j (omega arith) less (eq-eqb (get_or text j 0) 10 e)))
found text (Some k) h = (
  h.0.high,
  one-search text k (λ j less within e. h.0.before j (omega arith) less (eq-eqb (get_or text j 0) 10 e)),
  eqb-true (get_or text k 0) 10 h.1,
)

pub returns-then-text-lt32 : goal.returns-then-text-lt32
returns-then-text-lt32 c = found c.args.text.now c.memchr.result c.memchr.ensures

pub returns-then-near-lt16 : goal.returns-then-near-lt16
returns-then-near-lt16 c =
    let h = c.before_feed-near.ensures in (
      omega (arith, c.if-near-lt16.true, c.if-text-lt32.false),
      one-search c.args.text.now c.before_feed-near.result
          (λ j less within. h.before j (omega arith) (omega (arith, less))),
      rw (let same : 0 + c.before_feed-near.result ≡ c.before_feed-near.result = omega arith in same) at
          (h.feed c.if-near-lt16.true),
    )

pub returns-then-next-lt16 : goal.returns-then-next-lt16
returns-then-next-lt16 c =
    let h = c.before_feed-near.ensures in
    let k = c.before_feed-next.ensures in (
      omega (arith, c.if-next-lt16.true, c.if-text-lt32.false),
      one-search c.args.text.now (16 + c.before_feed-next.result) (λ j less within. by j less (nat_le 16 j) refl),
      k.feed c.if-next-lt16.true,
    )
  where
    by : (j : ℕ) → j < 16 + c.before_feed-next.result → (b : Bool) → nat_le 16 j ≡ b → get_or c.args.text.now j 0 ≢ 10
    by j less true e = c.before_feed-next.ensures.before j (leb-true 16 j e) less
    by j less false e =
        c.before_feed-near.ensures.before j (omega arith) (omega (arith, leb-false 16 j e, c.if-near-lt16.false))

pub returns : goal.returns
returns c = found c.args.text.now c.memchr-2.result c.memchr-2.ensures
