-- How contracts encode values that they compare whole: as tuples of their parts.
use Rattle.std.specs.Prelude.{ℕ, Bool, refl}
use Rattle.std.specs.FinSet as set
use Rattle.std.specs.Coded.{Coded, code_by, coded×, coded_ℕ, coded_bool}
use Rattle.lapic_core.specs.Vectors.{Vectors}
use Rattle.lapic_core.specs.Apic.{Apic}

abbrev pub apic_code : Coded Apic
apic_code =
    code_by (Vectors × (Vectors × (ℕ × Bool)))
    (coded× (set.code coded_ℕ) (coded× (set.code coded_ℕ) (coded× coded_ℕ coded_bool)))
    (λ a. (a.requested, (a.in_service, (a.task_priority, a.suspended))))
    (λ p. record { requested = p.0; in_service = p.1.0; task_priority = p.1.1.0; suspended = p.1.1.1 }) (λ _. refl)
