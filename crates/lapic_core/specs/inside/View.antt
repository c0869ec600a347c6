-- The abstract view of the fields, and their invariant.
use Rattle.std.specs.Prelude.{◌≡◌, true, None}
use Rattle.lapic_core.specs.Vectors.{greatest}
use Rattle.lapic_core.specs.Apic.{Apic, awaited}
use Rattle.lapic_core.specs.inside.Threshold.{threshold, floor, serving}
use Rattle.lapic_core.specs.declared.lapic.Lapic.TheInside.{Inside}

abbrev pub apic_of : Inside → Apic
apic_of a = record {
  requested = a.requested;
  in_service = a.in_service;
  task_priority = a.task_priority;
  suspended = a.suspended;
}

-- the processor with its floor as task priority: 255 if it is suspended
abbrev pub held_of : Inside → Apic
held_of a = serving a.in_service a.floor a.requested

-- the invariant of the four cached fields
pub record LapicInvariant (a : Inside) : Type 0 where
  pub floor_is : a.floor ≡ floor a.suspended a.task_priority
  -- the greatest vector in service
  pub highest_is : a.highest ≡ greatest a.in_service
  -- the greatest number that is blocked
  pub threshold_is : a.threshold ≡ threshold (held_of a)
  -- the greatest request that is not blocked
  pub next_is : a.next ≡ awaited (held_of a)
  -- there is none while the processor is suspended
  pub suspended : a.suspended ≡ true → a.next ≡ None
