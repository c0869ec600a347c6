-- The interrupt priorities of a local APIC (SDM volume 3, "Interrupt, Task, and Processor Priority").
use Rattle.std.specs.Prelude.{ℕ, ◌/◌, ◌&&◌, nat_lt, max, Option, None, is_some, is_none, Bool, false, if◌then◌else◌}
use Rattle.std.specs.Option.{option_map_or}
use Rattle.std.specs.FinSet as set
use Rattle.lapic_core.specs.Vectors.{Vectors, greatest}

-- the requests (IRR), the vectors in service (ISR), the task priority (TPR), and whether the processor is suspended
pub record Apic : Type 0 where
  pub requested : Vectors
  pub in_service : Vectors
  pub task_priority : ℕ
  pub suspended : Bool

abbrev pub empty_apic : Apic
empty_apic = record { requested = set.empty; in_service = set.empty; task_priority = 0; suspended = false }

-- the class of a vector or of TPR
abbrev pub class : ℕ → ℕ
class v = v / 16

-- the class of the greatest vector in service, 0 if none
abbrev pub in_service_class : Apic → ℕ
in_service_class a = option_map_or class (greatest a.in_service) 0

-- the processor priority
abbrev pub priority : Apic → ℕ
priority a = max (class a.task_priority) (in_service_class a)

-- the requested vectors that the priority does not block
abbrev pub deliverable : Apic → Vectors
deliverable a = set.retain a.requested (λ v. nat_lt (priority a) (class v))

-- the vector that would be next: the greatest of these
abbrev pub awaited : Apic → Option ℕ
awaited a = greatest (deliverable a)

-- the next vector, none while the processor is suspended
abbrev pub next : Apic → Option ℕ
next a = if a.suspended then None else awaited a

-- a vector joins the requests
abbrev pub request : Apic → ℕ → Apic
request a v = record a { requested = set.insert a.requested v }

abbrev pub with_task_priority : Apic → ℕ → Apic
with_task_priority a value = record a { task_priority = value }

-- the processor is suspended or resumed
abbrev pub with_suspension : Apic → Bool → Apic
with_suspension a mark = record a { suspended = mark }

-- the vector leaves the requests, and enters service unless it is auto-EOI
abbrev pub take_vector : Bool → ℕ → Apic → Apic
take_vector auto v a =
    record a {
      requested = set.remove a.requested v;
      in_service = if auto then a.in_service else set.insert a.in_service v;
    }

-- the next vector is taken
abbrev pub after_take : Bool → Apic → Apic
after_take auto a = option_map_or (λ v. take_vector auto v a) (next a) a

-- the vector leaves service
abbrev pub end_vector : ℕ → Apic → Apic
end_vector v a = record a { in_service = set.remove a.in_service v }

-- EOI: the greatest vector in service ends
abbrev pub after_end : Apic → Apic
after_end a = option_map_or (λ v. end_vector v a) (greatest a.in_service) a

-- no EOI is required (TLFS, "EOI Assist"): a vector is in service, and no vector is requested
abbrev pub is_no_end_required : Apic → Bool
is_no_end_required a = is_some (greatest a.in_service) && is_none (greatest a.requested)
