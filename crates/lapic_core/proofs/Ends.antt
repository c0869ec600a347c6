-- The end of a vector may wait while none is requested.
use Rattle.std.proofs.Common.{◌≡◌, ◌↔◌, ℕ, Bool, true, false, ◌&&◌, Option, None, Some, refl, sym, ap, ◌∙◌}
use Rattle.std.specs.Prelude.{is_some, is_none, if◌then◌else◌}
use Rattle.std.specs.Option.{option_map_or}
use Rattle.lapic_core.specs.Vectors.{greatest}
use Rattle.lapic_core.specs.Apic.{Apic, awaited, next, request, with_task_priority, with_suspension, end_vector, after_end, is_no_end_required}
use Rattle.lapic_core.specs.inside.Threshold.{threshold}
use Rattle.lapic_core.proofs.Priority.{awaited-is_above, above_none}

held : (b : Bool) (o : Option ℕ) → o ≡ None → (if b then None else o) ≡ None
held true o e = refl
held false o e = e

next-none : (a : Apic) → greatest a.requested ≡ None → next a ≡ None
next-none a none =
    held a.suspended (awaited a)
    (awaited-is_above a ∙ sym (above_none a.requested (threshold a) (greatest a.requested) refl none))

same-requests : (a : Apic) → (after_end a).requested ≡ a.requested
same-requests a =
    elim (greatest a.in_service) as
    (λ o. (option_map_or (λ v. end_vector v a) o a).requested ≡ a.requested) [ None ↦ refl | Some v ↦ refl ]

second : (a b : Bool) → (a && b) ≡ true → b ≡ true
second true b e = e
second false b e = absurd (cc)

is-none : (o : Option ℕ) → is_none o ≡ true → o ≡ None
is-none None e = refl
is-none (Some v) e = absurd (cc)

pub quiet : (a : Apic) → is_no_end_required a ≡ true → (next a ≡ None) × (next (after_end a) ≡ None)
quiet a h =
    let none : greatest a.requested ≡ None =
    is-none (greatest a.requested) (second (is_some (greatest a.in_service)) _ h) in
    (next-none a none, next-none (after_end a) (ap greatest (same-requests a) ∙ none))

pub waits-request : (a : Apic) (v : ℕ) → after_end (request a v) ≡ request (after_end a) v
waits-request a v =
    elim (greatest a.in_service) as
    (λ o. option_map_or (λ w. end_vector w (request a v)) o (request a v)
    ≡ request (option_map_or (λ w. end_vector w a) o a) v) [ None ↦ refl | Some w ↦ refl ]

pub waits-priority : (a : Apic) (value : ℕ)
    → after_end (with_task_priority a value) ≡ with_task_priority (after_end a) value
waits-priority a value =
    elim (greatest a.in_service) as
    (λ o. option_map_or (λ w. end_vector w (with_task_priority a value)) o (with_task_priority a value)
    ≡ with_task_priority (option_map_or (λ w. end_vector w a) o a) value) [ None ↦ refl | Some w ↦ refl ]

pub waits-suspension : (a : Apic) (mark : Bool)
    → after_end (with_suspension a mark) ≡ with_suspension (after_end a) mark
waits-suspension a mark =
    elim (greatest a.in_service) as
    (λ o. option_map_or (λ w. end_vector w (with_suspension a mark)) o (with_suspension a mark)
    ≡ with_suspension (option_map_or (λ w. end_vector w a) o a) mark) [ None ↦ refl | Some w ↦ refl ]

pub none-tested : (b : Bool) (o : Option ℕ) → b ≡ true ↔ (None ≡ o) → b ≡ is_none o
none-tested true None h = refl
none-tested false None h = h.1 refl
none-tested true (Some v) h = absurd (let e : None ≡ Some v = h.0 refl in cc)
none-tested false (Some v) h = refl
