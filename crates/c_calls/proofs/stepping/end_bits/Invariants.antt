use Rattle.std.specs.Prelude.{◌≡◌, ◌==◌, ◌&&◌, ◌<◌, not, ℕ}
use Rattle.std.specs.Int.{bit_at}
use Rattle.c_calls.specs.Inspected.{no_eoi_required_at}
use Rattle.c_calls.proofs.stepping.end_bits.Given as goal

abbrev pub invariant-loop-vp : goal.invariant-loop-vp
invariant-loop-vp l =
    record {
      board : l.handle.board ≡ l.fn.handle.board;
      before : (p : ℕ) → p < l.vp
          → (bit_at l.bits p == 1) ≡ ((bit_at l.assisted p == 1) && not (no_eoi_required_at l.fn.handle.board p));
    }
