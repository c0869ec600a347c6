use Rattle.std.proofs.Common.{◌+◌, ◌/◌, ◌%◌, ◌∷◌, [], ℕ, false, refl, ap, ◌∙◌, arith}
use Rattle.std.specs.Fmt.{digit_glyph}
use Rattle.text_base.specs.declared.pairs.TheConstants.{DECIMALS}
use Rattle.text_base.proofs.DigitLemmas.{decimal-glyph}
use Rattle.text_base.proofs.DigitPairs.{pair-at}
use Rattle.text_base.proofs.pairs.decimal_pair.Goals as goal

pub returns : goal.returns
returns c =
    pair-at DECIMALS.now 10 100 refl c.args.n c.requires
    ∙ ap (λ (tens : ℕ). tens ∷ digit_glyph false (c.args.n % 10) ∷ [])
    (decimal-glyph (c.args.n / 10) (omega (arith, c.requires)))
    ∙ ap (λ (ones : ℕ). (48 + c.args.n / 10) ∷ ones ∷ []) (decimal-glyph (c.args.n % 10) (omega arith))
