-- How contracts encode values that they compare whole: as tuples of their parts.
use Rattle.std.specs.Prelude.{ℕ, List, refl}
use Rattle.std.specs.Coded.{Coded, code_by, coded×, coded_ℕ, coded_list}
use Rattle.gpa_space.specs.Space.{Space}

abbrev pub space_code : Coded Space
space_code =
    code_by (List (List ℕ) × (List ℕ × List (List ℕ)))
    (coded× (coded_list (coded_list coded_ℕ)) (coded× (coded_list coded_ℕ) (coded_list (coded_list coded_ℕ))))
    (λ s. (s.pages, (s.registers, s.own)))
    (λ p. record { pages = p.0; registers = p.1.0; own = p.1.1 }) (λ _. refl)
