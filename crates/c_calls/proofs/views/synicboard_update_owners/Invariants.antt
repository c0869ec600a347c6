use Rattle.std.specs.Prelude.{◌≡◌, ◌≢◌, ◌↔◌, ◌<◌, ◌≤◌, ℕ}
use Rattle.std.specs.Int.{bit_at}
use Rattle.c_calls.specs.Looks.{owner_at}
use Rattle.c_calls.specs.Views.{owner_in}
use Rattle.c_calls.proofs.views.synicboard_update_owners.Given as goal

abbrev pub invariant-loop-page : goal.invariant-loop-page
invariant-loop-page l =
    record {
      board : l.handle.board ≡ l.fn.handle.board;
      before : (p : ℕ) → p < l.page → owner_in l.owners.page p ≡ owner_at l.fn.handle.board p;
      later : (p : ℕ) → l.page ≤ p → owner_in l.owners.page p ≡ owner_in l.fn.owners.page p;
      changed : (p : ℕ) → p < l.page
          → bit_at l.changed p ≡ 1 ↔ (owner_in l.fn.owners.page p ≢ owner_at l.fn.handle.board p);
      clear : (i : ℕ) → l.page ≤ i → i < 64 → bit_at l.changed i ≡ 0;
    }
