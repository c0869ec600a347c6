-- Masks: a clear bit changes nothing, and the lowest set bit is the next processor.
use Rattle.std.proofs.Common.{◌≡◌, ℕ, ◌+◌, ◌-◌, ◌/◌, ◌^◌, ◌<◌, ◌≤◌, List, refl, ap, sym, ◌∙◌, arith}
use Rattle.std.specs.Prelude.{◌==◌, if◌then◌else◌}
use Rattle.std.specs.Int.{bit_at}
use Rattle.std.proofs.lemmas.Nat.Bits.{bit_at-zero}
use Rattle.board_terms.specs.declared.notices.Notice.{Notice}
use Rattle.synic_board.specs.State.{State}
use Rattle.synic_board.specs.Effects.{nothing}
use Rattle.synic_board.specs.inside.Effected.{preceded}
use Rattle.synic_board.specs.Interrupts.{requested}
use Rattle.synic_board.specs.Sending.{sent_to, sent_below}
use Rattle.synic_board.proofs.Words.{IsNext, bit_at-left}
use Rattle.synic_board.proofs.Folds.{IsFold, fold_none, fold_more, fold_skip}

sends : (v mask : ℕ) → IsFold (λ s n. sent_below s v mask n) (λ s p. sent_to s v mask p)
unfolding sent_below
sends v mask = record { none = λ s. refl; more = λ s p. refl }

-- clear bits change nothing
clear-bit : (s : State) (v mask p : ℕ) → bit_at mask p ≡ 0 → sent_to s v mask p ≡ nothing s
clear-bit s v mask p clear = ap (λ k. if k == 1 then requested s p v else nothing s) clear

set-bit : (s : State) (v mask p : ℕ) → bit_at mask p ≡ 1 → sent_to s v mask p ≡ requested s p v
set-bit s v mask p set = ap (λ k. if k == 1 then requested s p v else nothing s) set

skipped : (s : State) (v mask p k : ℕ) → ((j : ℕ) → j < k → bit_at mask (p + j) ≡ 0)
    → sent_below s v mask (p + k) ≡ sent_below s v mask p
skipped s v mask p k clear =
    fold_skip (sends v mask) s p k (λ j h. clear-bit (sent_below s v mask p).0 v mask (p + j) (clear j h))

pub sent_none : (s : State) (v mask : ℕ) (before : List Notice) → (s, before) ≡ preceded before (sent_below s v mask 0)
sent_none s v mask before = fold_none (sends v mask) s before

pub sent_more : (s now next : State) (v mask many behind skip number : ℕ) (before emitted more : List Notice)
    → IsNext many mask behind skip → number ≡ behind + skip →
    (now, emitted) ≡ preceded before (sent_below s v mask behind)
    → (next, more) ≡ preceded emitted (requested now number v) →
    (next, more) ≡ preceded before (sent_below s v mask (number + 1))
sent_more s now next v mask many behind skip number before emitted more is at so_far step =
    let set : bit_at mask number ≡ 1 = ap (bit_at mask) at ∙ is.set in
    fold_more (sends v mask) s now next number number before emitted more
    (so_far ∙ ap (preceded before) (sym (skipped s v mask behind skip is.clear) ∙ ap (sent_below s v mask) (sym at)))
    refl
    (step ∙ ap (preceded emitted) (sym (set-bit now v mask number set)))

pub sent_whole : (s now : State) (v mask behind : ℕ) (before emitted : List Notice) → behind ≤ 64
    → 0 ≡ mask / 2 ^ behind →
    (now, emitted) ≡ preceded before (sent_below s v mask behind) →
    (now, emitted) ≡ preceded before (sent_below s v mask 64)
sent_whole s now v mask behind before emitted bound none so_far =
    let clear : (j : ℕ) → bit_at mask (behind + j) ≡ 0 =
    λ j. sym (bit_at-left mask behind j) ∙ ap (λ n. bit_at n j) (sym none) ∙ bit_at-zero j in
    let all : behind + (64 - behind) ≡ 64 = omega arith in
    so_far ∙ ap (preceded before)
    (sym (skipped s v mask behind (64 - behind) (λ j _. clear j)) ∙ ap (sent_below s v mask) all)
