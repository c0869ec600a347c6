-- The words of the sources with queued messages.
use Rattle.std.proofs.Common.{◌≡◌, ℕ, ◌+◌, ◌-◌, ◌/◌, ◌^◌, ◌<◌, ◌≤◌, true, false, List, [], Option, None, Some, IsSome, IfSome, ◌↔◌, ⊎_elim, length, get_or, set, ap, sym, ◌∙◌, subst, refl, arith}
use Rattle.std.specs.Int.{bit_at}
use Rattle.std.proofs.lemmas.Bool.{cases_lt}
use Rattle.std.proofs.lemmas.Bool.Decides.{nat_tests}
use Rattle.std.proofs.lemmas.List.{get_or-map}
use Rattle.std.proofs.lemmas.Nat.Bits.{bit_at-zero}
use Rattle.board_terms.specs.declared.messages.Message.{Message}
use Rattle.board_terms.specs.Sources.{source_number}
use Rattle.synic_board.specs.Summaries.{Values}
use Rattle.synic_board.specs.inside.View.{state_of, MachineInvariant}
use Rattle.synic_board.specs.declared.machine.Machine.TheInside.{Inside}
use Rattle.synic_board.specs.inside.Waiting.{count_at, AreWaiting, IsFirstWaiting}
use Rattle.synic_board.proofs.Folds.{NoneFrom}
use Rattle.synic_board.proofs.Words.{IsNext, bit_at-left}

none-at : (queued words : List ℕ) (p i : ℕ) → AreWaiting queued words → p < 64 → i < 16
    → bit_at (get_or words p 0) i ≡ 0 → count_at queued p i ≡ 0
none-at queued words p i are on low clear = let tells = are p i on low in grind (arith, nat_tests)

some-at : (queued words : List ℕ) (p i : ℕ) → AreWaiting queued words → p < 64 → i < 16
    → bit_at (get_or words p 0) i ≡ 1 → 0 < count_at queued p i
some-at queued words p i are on low set = let tells = are p i on low in grind (arith, nat_tests)

pub none-waits : (queued words : List ℕ) (p from : ℕ) → AreWaiting queued words → p < 64
    → 0 ≡ get_or words p 0 / 2 ^ from → (i : ℕ) → from ≤ i → i < 16 → count_at queued p i ≡ 0
none-waits queued words p from are on none i above low =
    let at : from + (i - from) ≡ i = omega arith in
    none-at queued words p i are on low
    (ap (bit_at (get_or words p 0)) (sym at) ∙ sym (bit_at-left (get_or words p 0) from (i - from))
    ∙ ap (λ n. bit_at n (i - from)) (sym none) ∙ bit_at-zero (i - from))

before-waits : (queued words : List ℕ) (p from skip : ℕ) → AreWaiting queued words → p < 64
    → IsNext 32 (get_or words p 0) from skip → (i : ℕ) → from ≤ i → i < 16 →
    i < from + skip → count_at queued p i ≡ 0
before-waits queued words p from skip are on next i above low below =
    let at : from + (i - from) ≡ i = omega arith in
    none-at queued words p i are on low (ap (bit_at (get_or words p 0)) (sym at) ∙ next.clear (i - from) (omega arith))

-- the source of the lowest remaining bit, if there is one
pub first-waits : (queued words : List ℕ) (p from skip : ℕ) (s : Option ℕ) → AreWaiting queued words → p < 64
    → IsNext 32 (get_or words p 0) from skip →
    (IsSome s ↔ (from + skip < 16)) → IfSome s (λ v. v ≡ from + skip) → IsFirstWaiting queued p from s
first-waits queued words p from skip None are on next valid value =
    λ i above low. ⊎_elim (λ small. let e : false ≡ true = valid.1 small in absurd (cc))
    (λ great. before-waits queued words p from skip are on next i above low (omega arith)) (cases_lt (from + skip) 16)
first-waits queued words p from skip (Some v) are on next valid value =
    let low = valid.0 refl in
    subst (λ n. IsFirstWaiting queued p from (Some n)) (sym value) (
      omega arith,
      low,
      some-at queued words p (from + skip) are on low next.set,
      λ i above below. before-waits queued words p from skip are on next i above (omega arith) below,
    )

-- if the summary counts nothing, nothing is queued
pub none-queued : (b : Inside) (p from to : ℕ) → MachineInvariant b → p < length b.lapics.items → to ≤ 16 →
    ((i : ℕ) → from ≤ i → i < to → count_at b.summary.values.queued p i ≡ 0) → NoneFrom (state_of b) p from to
none-queued b p from to h on low none i above below =
    sym (get_or-map (λ (q : List Message). length q) b.queues (source_number p i) [] 0 (omega (arith, h.queues)))
    ∙ ap (λ (v : Values). count_at v.queued p i) (sym h.summary) ∙ none i above below
