-- The ranges that the types of a local APIC ensure.
use Rattle.std.specs.Prelude.{◌≡◌, ◌<◌, ℕ, true}
use Rattle.std.specs.FinSet as set
use Rattle.board_terms.specs.Ranges.{IsVector}
use Rattle.lapic_core.specs.Vectors.{Vectors}
use Rattle.lapic_core.specs.Apic.{Apic}

-- each member is a vector
abbrev pub AreVectors : Vectors → Type 0
AreVectors vectors = (v : ℕ) → set.contains vectors v ≡ true → IsVector v

abbrev pub IsApic : Apic → Type 0
IsApic a = AreVectors a.requested × AreVectors a.in_service × (a.task_priority < 256)
