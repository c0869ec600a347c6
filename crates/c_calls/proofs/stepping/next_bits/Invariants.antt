use Rattle.std.specs.Prelude.{◌≡◌, ◌==◌, ◌<◌, ◌≤◌, ℕ}
use Rattle.std.specs.Int.{bit_at}
use Rattle.c_calls.specs.Stepping.{has_next}
use Rattle.c_calls.proofs.stepping.next_bits.Given as goal

abbrev pub invariant-loop-number : goal.invariant-loop-number
invariant-loop-number l =
    record {
      before : (p : ℕ) → p < l.number → (bit_at l.bits p == 1) ≡ has_next l.board.state p;
      clear : (i : ℕ) → l.number ≤ i → i < 64 → bit_at l.bits i ≡ 0;
    }
