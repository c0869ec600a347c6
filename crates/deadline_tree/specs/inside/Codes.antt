-- How contracts encode the abstract state of a tree that they compare whole.
use Rattle.std.specs.Prelude.{ℕ, List, Option, refl}
use Rattle.std.specs.Coded.{Coded, code_by, coded×, coded_ℕ, coded_list, coded_option}
use Rattle.deadline_tree.specs.Deadlines.{TreeModel}

abbrev pub tree_code : Coded TreeModel
tree_code = code_by (List (Option ℕ) × ℕ) (coded× (coded_list (coded_option coded_ℕ)) coded_ℕ)
    (λ h. (h.dues, h.compared)) (λ p. record { dues = p.0; compared = p.1 }) (λ _. refl)
