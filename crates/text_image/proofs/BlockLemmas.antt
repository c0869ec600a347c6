-- A field of 256 bytes.
use Rattle.std.proofs.Common.{◌≡◌, ℕ, ◌≤◌, List, [], ◌∷◌, length, Option, Some, None, refl, ap, ◌∙◌, cond, arith, Bool, true, false}
use Rattle.std.specs.Prelude.{◌==◌}
use Rattle.std.specs.Option.{option_and_then}
use Rattle.std.proofs.lemmas.Bool.Decides.{nat_tests}
use Rattle.text_base.specs.Numbers.{spelled, AreBytes}
use Rattle.text_lines.specs.Reading.{Fields, first_read, spelled_at}
use Rattle.text_lines.proofs.ByteFields.{spelled_at-only, spelled_at-spelled}
use Rattle.text_image.specs.Parsing.{whole_block, block_at}

pub record SpellsBlock (text bytes : List ℕ) : Type 0 where
  pub same : text ≡ spelled bytes
  pub all : AreBytes bytes
  pub size : length bytes ≡ 256

pub block-only : (text bytes : List ℕ) → block_at text ≡ Some bytes → SpellsBlock text bytes
block-only text bytes e = go (spelled_at text) refl e
  where
    whole : (some : List ℕ) → spelled_at text ≡ Some some → (t : Bool) → (length some == 256) ≡ t
        → cond t (Some some) None ≡ Some bytes → SpellsBlock text bytes
    whole some is true size e =
        let same : some ≡ bytes =
        cc in let h =
        spelled_at-only text some is in
        rw (← same) (record { same = h.same; all = h.all; size = grind (arith, nat_tests) })
    whole some is false size e = cc

    go : (r : Option (List ℕ)) → spelled_at text ≡ r → option_and_then whole_block r ≡ Some bytes
        → SpellsBlock text bytes
    go None is e = cc
    go (Some some) is e = whole some is (length some == 256) refl e

pub block-spelled : (bytes : List ℕ) → AreBytes bytes → length bytes ≡ 256 → block_at (spelled bytes) ≡ Some bytes
block-spelled bytes all size =
    ap (option_and_then whole_block) (spelled_at-spelled bytes all) ∙ ap (λ n. cond (n == 256) (Some bytes) None) size

-- What is parsed from the first field, as the calls say it.
pub block-none : (old : Fields)
    → ((bytes : List ℕ) (rest : Fields) → AreBytes bytes → length bytes ≤ 256 → old ≡ spelled bytes ∷ rest → ⊥)
    → first_read block_at old ≡ None
block-none [] never = refl
block-none (field ∷ rest) never = rw (go (block_at field) refl) refl
  where
    go : (r : Option (List ℕ)) → block_at field ≡ r → r ≡ None
    go None is = refl
    go (Some bytes) is =
        let h = block-only field bytes is in
        absurd (never bytes rest h.all (omega (arith, h.size)) (ap (λ (f : List ℕ). f ∷ rest) h.same))

pub block-short : (old new : Fields) (bytes : List ℕ) → old ≡ spelled bytes ∷ new → AreBytes bytes
    → (length bytes == 256) ≡ false → first_read block_at old ≡ None
block-short old new bytes at all short = rw (at, spelled_at-spelled bytes all, short) refl

pub block-taken : (old new : Fields) (bytes : List ℕ) → old ≡ spelled bytes ∷ new → AreBytes bytes
    → length bytes ≡ 256 → first_read block_at old ≡ Some (bytes, new)
block-taken old new bytes at all size = rw (at, block-spelled bytes all size) refl
