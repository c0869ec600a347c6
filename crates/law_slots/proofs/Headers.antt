-- How the steps change the type and MessagePending of a header.
use Rattle.std.proofs.Common.{◌≡◌, ℕ, ◌-◌, ◌%◌, ◌/◌, ◌^◌, Bool, true, false, ap, ◌∙◌, arith}
use Rattle.std.specs.Prelude.{not, ◌&&◌, ◌==◌, bit_or, if◌then◌else◌}
use mir.Syntax.{w64}
use Rattle.std.specs.Int.Bits.{or_zero_r}
use Rattle.std.proofs.lemmas.Nat.{or_mod}
use Rattle.std.proofs.lemmas.Nat.Bits.{bit_at_set_same}
use Rattle.live_pages.specs.Words.{type_of, is_pending, pending_mask}
use Rattle.live_pages.specs.Headers.{is_occupied}

pub mark-occupied : (h : ℕ) → is_occupied (bit_or h pending_mask) ≡ is_occupied h
mark-occupied h = ap (λ t. not (t == 0)) (or_mod h pending_mask 32 ∙ or_zero_r (h % 2 ^ 32))

pub mark-pending : (h : ℕ) → is_pending (bit_or h pending_mask) ≡ true
mark-pending h = ap (λ b. b == 1) (bit_at_set_same w64 h 40 (omega arith))

pub clear-occupied : (h : ℕ) → is_occupied (h - type_of h) ≡ false
clear-occupied h =
    let zero_type : (h - h % 2 ^ 32) % 2 ^ 32 ≡ 0 = omega arith in
    ap (λ t. not (t == 0)) zero_type

pub clear-pending : (h : ℕ) → is_pending (h - type_of h) ≡ is_pending h
clear-pending h =
    let same : (h - h % 2 ^ 32) / 2 ^ 40 ≡ h / 2 ^ 40 = omega arith in
    ap (λ q. q % 2 == 1) same

pub flag-is : (more p : Bool) → (if more then p else not p) ≡ true → p ≡ more
flag-is more p e = grind arith

pub both : (a b : Bool) → (a && b) ≡ true → (a ≡ true) × (b ≡ true)
both a b e = (grind arith, grind arith)
