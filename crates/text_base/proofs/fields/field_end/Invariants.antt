use Rattle.std.proofs.Common.{◌≡◌, ℕ, take, nat_eq, false}
use Rattle.std.specs.List.{All}
use Rattle.text_base.proofs.fields.field_end.Given as goal

abbrev pub invariant-loop-i : goal.invariant-loop-i
invariant-loop-i l = All (λ (x : ℕ). nat_eq x 32 ≡ false) (take l.i l.text)
