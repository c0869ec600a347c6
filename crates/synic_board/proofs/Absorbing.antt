-- Posted vectors: a clear bit changes nothing, and the lowest set bit is the next vector.
use Rattle.std.proofs.Common.{◌≡◌, ℕ, ◌+◌, ◌*◌, ◌-◌, ◌/◌, ◌^◌, ◌<◌, ◌≤◌, List, refl, ap, sym, ◌∙◌, arith}
use Rattle.std.specs.Prelude.{◌==◌, ◌&&◌, nat_le, if◌then◌else◌}
use Rattle.std.specs.Int.{bit_at}
use Rattle.std.proofs.lemmas.Nat.Bits.{bit_at-zero}
use Rattle.board_terms.specs.declared.notices.Notice.{Notice}
use Rattle.synic_board.specs.State.{State}
use Rattle.synic_board.specs.Effects.{nothing}
use Rattle.synic_board.specs.inside.Effected.{preceded}
use Rattle.synic_board.specs.Interrupts.{requested}
use Rattle.synic_board.specs.Absorbing.{absorbed_bit, absorbed_below}
use Rattle.synic_board.proofs.Words.{IsNext, bit_at-left}
use Rattle.synic_board.proofs.Folds.{IsFold, fold_none, fold_more, fold_skip}

absorbs : (p part bits : ℕ) → IsFold (λ s n. absorbed_below s p part bits n) (λ s i. absorbed_bit s p part bits i)
unfolding absorbed_below
absorbs p part bits = record { none = λ s. refl; more = λ s i. refl }

-- clear bits change nothing
clear-bit : (s : State) (p part bits i : ℕ) → bit_at bits i ≡ 0 → absorbed_bit s p part bits i ≡ nothing s
clear-bit s p part bits i clear =
    ap (λ k. if (k == 1 && nat_le 16 (64 * part + i)) then requested s p (64 * part + i) else nothing s) clear

set-bit : (s : State) (p part bits i : ℕ) → bit_at bits i ≡ 1
    → absorbed_bit s p part bits i ≡ (if nat_le 16 (64 * part + i) then requested s p (64 * part + i) else nothing s)
set-bit s p part bits i set =
    ap (λ k. if (k == 1 && nat_le 16 (64 * part + i)) then requested s p (64 * part + i) else nothing s) set

skipped : (s : State) (p part bits i k : ℕ) → ((j : ℕ) → j < k → bit_at bits (i + j) ≡ 0)
    → absorbed_below s p part bits (i + k) ≡ absorbed_below s p part bits i
skipped s p part bits i k clear =
    fold_skip (absorbs p part bits) s i k
    (λ j h. clear-bit (absorbed_below s p part bits i).0 p part bits (i + j) (clear j h))

pub absorbed_none : (s : State) (p part bits : ℕ) (before : List Notice)
    → (s, before) ≡ preceded before (absorbed_below s p part bits 0)
absorbed_none s p part bits before = fold_none (absorbs p part bits) s before

pub absorbed_more : (s now next : State) (p part bits behind bit skip number : ℕ) (before emitted more : List Notice)
    → IsNext 64 bits behind skip → bit ≡ behind + skip → number ≡ 64 * part + bit →
    (now, emitted) ≡ preceded before (absorbed_below s p part bits behind)
    → (next, more) ≡ preceded emitted (if nat_le 16 number then requested now p number else nothing now) →
    (next, more) ≡ preceded before (absorbed_below s p part bits (bit + 1))
absorbed_more s now next p part bits behind bit skip number before emitted more is at named so_far step =
    let set : bit_at bits bit ≡ 1 = ap (bit_at bits) at ∙ is.set in
    fold_more (absorbs p part bits) s now next bit bit before emitted more
    (so_far ∙ ap (preceded before)
    (sym (skipped s p part bits behind skip is.clear) ∙ ap (absorbed_below s p part bits) (sym at)))
    refl
    (step ∙ ap (preceded emitted)
    (ap (λ k. if nat_le 16 k then requested now p k else nothing now) named
    ∙ sym (set-bit now p part bits bit set)))

pub absorbed_whole : (s now : State) (p part bits behind : ℕ) (before emitted : List Notice) → behind ≤ 64
    → 0 ≡ bits / 2 ^ behind →
    (now, emitted) ≡ preceded before (absorbed_below s p part bits behind) →
    (now, emitted) ≡ preceded before (absorbed_below s p part bits 64)
absorbed_whole s now p part bits behind before emitted bound none so_far =
    let clear : (j : ℕ) → bit_at bits (behind + j) ≡ 0 =
    λ j. sym (bit_at-left bits behind j) ∙ ap (λ n. bit_at n j) (sym none) ∙ bit_at-zero j in
    let all : behind + (64 - behind) ≡ 64 = omega arith in
    so_far ∙ ap (preceded before)
    (sym (skipped s p part bits behind (64 - behind) (λ j _. clear j)) ∙ ap (absorbed_below s p part bits) all)
