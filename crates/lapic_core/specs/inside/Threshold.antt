-- The threshold: what a vector has to exceed to be the next one.
use Rattle.std.specs.Prelude.{ℕ, ◌+◌, ◌*◌, nat_lt, Option, Bool, false, if◌then◌else◌}
use Rattle.std.specs.FinSet as set
use Rattle.std.specs.Option.{option_map_or}
use Rattle.lapic_core.specs.Vectors.{Vectors}
use Rattle.lapic_core.specs.Apic.{Apic, priority}

-- the greatest number of a class
abbrev pub last_of : ℕ → ℕ
last_of c = 16 * c + 15

-- the greatest number that the processor priority blocks
abbrev pub threshold : Apic → ℕ
threshold a = last_of (priority a)

-- what a vector has to exceed to become the next one: the next vector, or the threshold if there is none
abbrev pub to_exceed : ℕ → Option ℕ → ℕ
to_exceed n o = option_map_or (λ v. v) o n

-- the vectors above a number
abbrev pub above : Vectors → ℕ → Vectors
above s n = set.retain s (λ v. nat_lt n v)

-- the task priority; for a suspended processor 255, which blocks every vector
abbrev pub floor : Bool → ℕ → ℕ
floor suspended task_priority = if suspended then 255 else task_priority

-- a processor with these vectors in service, this task priority, and these requests
abbrev pub serving : Vectors → ℕ → Vectors → Apic
serving in_service task_priority requested =
    record { requested = requested; in_service = in_service; task_priority = task_priority; suspended = false }
