-- How contracts encode values that they compare whole: as tuples of their parts.
use Rattle.std.specs.Prelude.{ℕ, List, refl}
use Rattle.std.specs.Coded.{Coded, code_by, coded×, coded_ℕ, coded_list}
use Rattle.synic_regs.specs.Regs.{Regs}

abbrev pub regs_code : Coded Regs
regs_code =
    code_by (ℕ × (ℕ × (ℕ × List ℕ))) (coded× coded_ℕ (coded× coded_ℕ (coded× coded_ℕ (coded_list coded_ℕ))))
    (λ r. (r.control, (r.sief, (r.sim, r.sints))))
    (λ p. record { control = p.0; sief = p.1.0; sim = p.1.1.0; sints = p.1.1.1 }) (λ _. refl)
