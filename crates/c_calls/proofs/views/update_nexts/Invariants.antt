use Rattle.std.specs.Prelude.{◌≡◌, ◌≢◌, ◌↔◌, ◌<◌, ◌≤◌, ℕ, length}
use Rattle.std.specs.Int.{bit_at}
use Rattle.c_calls.specs.Looks.{next_vector_of}
use Rattle.c_calls.specs.Views.{vector_in}
use Rattle.c_calls.proofs.views.update_nexts.Given as goal

abbrev pub invariant-loop-vp : goal.invariant-loop-vp
invariant-loop-vp l =
    record {
      board : l.handle.board ≡ l.fn.handle.board;
      as_many : length l.nexts ≡ length l.fn.nexts;
      before : (p : ℕ) → p < l.vp → vector_in l.nexts p ≡ next_vector_of l.fn.handle.board p;
      later : (p : ℕ) → l.vp ≤ p → vector_in l.nexts p ≡ vector_in l.fn.nexts p;
      changed : (p : ℕ) → p < l.vp
          → bit_at l.changed p ≡ 1 ↔ (vector_in l.fn.nexts p ≢ next_vector_of l.fn.handle.board p);
      clear : (i : ℕ) → l.vp ≤ i → i < 64 → bit_at l.changed i ≡ 0;
    }
