-- Pairs of digits, from tables.
use Rattle.std.proofs.Common.{◌≡◌, ℕ, ◌+◌, ◌*◌, ◌/◌, ◌%◌, ◌<◌, ◌&&◌, Bool, true, false, nat_eq, List, ◌∷◌, [], get_or, ap, ◌∙◌}
use Rattle.std.specs.Fmt.{digit_glyph}
use Rattle.std.proofs.lemmas.Bool.{agree_below, agree_below_at}
use Rattle.std.proofs.lemmas.Bool.Decides.{Decides-and, Decides-eqb}

module _ (table : List ℕ) (base : ℕ) where
  -- the two digits of a number in this base are in a table
  abbrev pub has_pair : ℕ → Bool
  has_pair n =
      nat_eq (get_or table (2 * n) 0) (digit_glyph false (n / base))
      && nat_eq (get_or table (2 * n + 1) 0) (digit_glyph false (n % base))

  pub pair-at : (m : ℕ) → agree_below has_pair (λ _. true) m ≡ true → (n : ℕ) → n < m →
      get_or table (2 * n) 0 ∷ get_or table (2 * n + 1) 0 ∷ []
      ≡ digit_glyph false (n / base) ∷ digit_glyph false (n % base) ∷ []
  pair-at m e n below =
      let both = (Decides-and _ _ (Decides-eqb _ _) (Decides-eqb _ _)).0
      (agree_below_at has_pair (λ _. true) m n e below) in
      ap (λ (high : ℕ). high ∷ get_or table (2 * n + 1) 0 ∷ []) both.0
      ∙ ap (λ (low : ℕ). digit_glyph false (n / base) ∷ low ∷ []) both.1
