use Rattle.std.proofs.Common.{rules, ◌≡◌, ◌*◌, ℕ, zero, suc, get_or, replicate, refl, ap, sym, ◌∙◌, subst}
use Rattle.std.specs.Prelude.{◌==◌, nat_lt}
use Rattle.std.specs.Int.{bit_at}
use Rattle.std.specs.FinSet as set
use Rattle.std.proofs.lemmas.Nat.Bits.{bit_at-zero}
use Rattle.board_terms.specs.Sources.{source_number}
use Rattle.synic_board.specs.inside.Waiting.{AreWaiting}
use Rattle.synic_board.proofs.Repeated.{repeated}
use Rattle.synic_board.proofs.summary.Summary.open.Goals as goal

all-same : {X : Type 0} (n k : ℕ) (x : X) → get_or (replicate n x) k x ≡ x
all-same zero k x = refl
all-same (suc n) zero x = refl
all-same (suc n) (suc k) x = all-same n k x

-- no source has a queued message, and no bit is set
waiting-opened : (n : ℕ) → AreWaiting (replicate n 0) (replicate 64 0)
waiting-opened n p i low under =
    ap (λ w. bit_at w i == 1) (all-same {X = ℕ} 64 p 0) ∙ ap (λ b. b == 1) (bit_at-zero i)
    ∙ ap (nat_lt 0) (sym (all-same {X = ℕ} n (source_number p i) 0))

pub invariant_of-result : goal.invariant_of-result
invariant_of-result c =
    let same : c.in_ok-queued.queued.items ≡ replicate (16 * c.args.processors) 0 = search rules in
    subst (λ q. AreWaiting q c.nothing_waits-waiting.result) (sym same)
    (subst (AreWaiting (replicate (16 * c.args.processors) 0)) (sym c.nothing_waits-waiting.ensures)
    (waiting-opened (16 * c.args.processors)))

pub returns-clause-autos : goal.returns-clause-autos
returns-clause-autos c =
    let made =
    c.in_ok-autos.ensures {u = tt} in repeated _ set.empty (λ p x q s. search) _ _ c.args.processors made.made made.each
