-- What a local APIC forwards, vector after vector.
use Rattle.std.proofs.Common.{◌≡◌, ℕ, ◌<◌, ◌≤◌, zero, suc, Bool, true, false, ◌&&◌, ◌||◌, nat_lt, Option, None, Some, refl, sym, ap, subst, ◌∙◌, arith}
use Rattle.std.specs.Prelude.{not, if◌then◌else◌}
use Rattle.std.specs.Option.{option_map_or}
use Rattle.std.specs.Ordering.{nat_cmp, eq_by_cmp}
use Rattle.std.specs.Cmp.{nat_cmp_total}
use Rattle.std.specs.FinSet as set
use Rattle.std.proofs.lemmas.Bool.Decides.{nat_tests}
use Rattle.std.proofs.Math.Nat.{le-max_right}
use Rattle.lapic_core.specs.Vectors.{Vectors, greatest}
use Rattle.lapic_core.specs.Apic.{Apic, class, in_service_class, priority, deliverable, awaited, next, take_vector, end_vector, after_end}
use Rattle.lapic_core.proofs.Members.{Tells, greatest_tells}
use Rattle.lapic_core.proofs.Priority.{highest_taken}
use Rattle.c_handles.specs.Forwarding.{to_forward, without}
use Rattle.c_handles.specs.inside.ForwardingOne.{without_one}

same : (s t : Vectors) → ((v : ℕ) → set.contains s v ≡ set.contains t v) → s ≡ t
same = set.same_set nat_cmp_total set.nat_cmp-IsAntisymmetric

holds-deliverable : (a : Apic) (v : ℕ)
    → set.contains (deliverable a) v ≡ (set.contains a.requested v && nat_lt (priority a) (class v))
holds-deliverable a v =
    set.contains-retain a.requested (λ w. nat_lt (priority a) (class w)) v
    (λ x e. let is : x ≡ v = grind (arith, nat_tests) in ap (λ w. nat_lt (priority a) (class w)) is)

-- the awaited vector is requested, and its class is above the priority
is-deliverable : (a : Apic) (v : ℕ) → awaited a ≡ Some v → set.contains (deliverable a) v ≡ true
is-deliverable a v e =
    let t : Tells (deliverable a) (Some v) =
    subst (Tells (deliverable a)) e (greatest_tells (deliverable a)) in t.member

is-requested : (a : Apic) (v : ℕ) → awaited a ≡ Some v → set.contains a.requested v ≡ true
is-requested a v e = let f = holds-deliverable a v in let g = is-deliverable a v e in grind (arith, nat_tests)

is-above : (a : Apic) (v : ℕ) → awaited a ≡ Some v → priority a < class v
is-above a v e = let f = holds-deliverable a v in let g = is-deliverable a v e in grind (arith, nat_tests)

-- so it is not in service
none-as-high : (s : Vectors) (v : ℕ) (o : Option ℕ) → Tells s o → option_map_or class o 0 < class v
    → set.contains s v ≡ false
none-as-high s v None t h = t v
none-as-high s v (Some g) t h =
    elim (set.contains s v) as (λ b. set.contains s v ≡ b → b ≡ false) [
      | true ↦ λ e. let f : v ≤ g = t.above v e in absurd (omega arith)
      | false ↦ λ e. refl
    ] refl

pub not-serving : (a : Apic) (v : ℕ) → awaited a ≡ Some v → set.contains a.in_service v ≡ false
not-serving a v e =
    let h = is-above a v e in
    let r = le-max_right (class a.task_priority) (in_service_class a) in
    none-as-high a.in_service v (greatest a.in_service) (greatest_tells a.in_service) (omega arith)

pub serving : (a : Apic) (v : ℕ) → set.contains (take_vector false v a).in_service v ≡ true
serving a v = let e = set.contains-insert nat_cmp_total a.in_service v v in grind (arith, nat_tests)

removed : (s : Vectors) (v : ℕ) → set.contains s v ≡ false → set.remove (set.insert s v) v ≡ s
removed s v e = same (set.remove (set.insert s v) v) s (λ w.
    let f = set.contains-remove nat_cmp_total (set.insert s v) v w in
    let g = set.contains-insert nat_cmp_total s v w in
    elim (eq_by_cmp nat_cmp w v) as
    (λ b. eq_by_cmp nat_cmp w v ≡ b → set.contains (set.remove (set.insert s v) v) w ≡ set.contains s w) [
      | true ↦ λ h. let is : w ≡ v =
          grind (arith, nat_tests) in let k : set.contains s w ≡ false =
          ap (set.contains s) is ∙ e in grind (arith, nat_tests)
      | false ↦ λ h. grind (arith, nat_tests)
    ] refl)

-- an EOI after its `take` ends it
pub taken-ended : (a : Apic) (v : ℕ) → awaited a ≡ Some v → after_end (take_vector false v a) ≡ without_one a v
taken-ended a v e =
    let t : Apic = take_vector false v a in
    ap (λ o. option_map_or (λ w. end_vector w t) o t) (sym (highest_taken a v (sym e)))
    ∙ ap (λ s. record {
      requested = set.remove a.requested v;
      in_service = s;
      task_priority = a.task_priority;
      suspended = a.suspended;
    }) (removed a.in_service v (not-serving a v e))

-- a suspended processor has no next vector
pub next-awaited : (a : Apic) (v : ℕ) → next a ≡ Some v → awaited a ≡ Some v
next-awaited a v e = by a.suspended e
  where
    by : (b : Bool) → (if b then None else awaited a) ≡ Some v → awaited a ≡ Some v
    by true h = absurd (cc)
    by false h = h

not-suspended : (a : Apic) (v : ℕ) → next a ≡ Some v → a.suspended ≡ false
not-suspended a v e = by a.suspended e
  where
    by : (b : Bool) → (if b then None else awaited a) ≡ Some v → b ≡ false
    by true h = absurd (cc)
    by false h = refl

-- one vector more has left
pub one-more : (a : Apic) (vs : Vectors) (v : ℕ) → without_one (without a vs) v ≡ without a (set.insert vs v)
one-more a vs v =
    ap (λ s. record {
      requested = s;
      in_service = a.in_service;
      task_priority = a.task_priority;
      suspended = a.suspended;
    })
    (same (set.remove (set.difference a.requested vs) v) (set.difference a.requested (set.insert vs v)) (λ w.
    let f = set.contains-remove nat_cmp_total (set.difference a.requested vs) v w in
    let g = set.contains-difference nat_cmp_total a.requested vs w in
    let h = set.contains-difference nat_cmp_total a.requested (set.insert vs v) w in
    let k = set.contains-insert nat_cmp_total vs v w in
    f ∙ ap (λ b. not (eq_by_cmp nat_cmp w v) && b) g
    ∙ by (eq_by_cmp nat_cmp w v) (set.contains a.requested w) (set.contains vs w)
    ∙ ap (λ b. set.contains a.requested w && not b) (sym k) ∙ sym h))
  where
    by : (x y z : Bool) → (not x && (y && not z)) ≡ (y && not (x || z))
    by true true true = refl
    by true true false = refl
    by true false z = refl
    by false y z = refl

-- those that have left are among those to forward
pub AreAmong : Vectors → Apic → Type 0
AreAmong vs a = (v : ℕ) → set.contains vs v ≡ true → set.contains (to_forward a) v ≡ true

still-deliverable : (a : Apic) (vs : Vectors) (v : ℕ)
    → set.contains (deliverable (without a vs)) v ≡ (set.contains (deliverable a) v && not (set.contains vs v))
still-deliverable a vs v =
    holds-deliverable (without a vs) v
    ∙ ap (λ b. b && nat_lt (priority a) (class v)) (set.contains-difference nat_cmp_total a.requested vs v)
    ∙ by (set.contains a.requested v) (set.contains vs v) (nat_lt (priority a) (class v))
    ∙ ap (λ b. b && not (set.contains vs v)) (sym (holds-deliverable a v))
  where
    by : (x y z : Bool) → ((x && not y) && z) ≡ ((x && z) && not y)
    by true true true = refl
    by true true false = refl
    by true false true = refl
    by true false false = refl
    by false y z = refl

pub among-insert : (a : Apic) (vs : Vectors) (v : ℕ) → AreAmong vs a → next (without a vs) ≡ Some v
    → AreAmong (set.insert vs v) a
unfolding AreAmong
among-insert a vs v among e w h =
    elim (eq_by_cmp nat_cmp w v) as (λ b. eq_by_cmp nat_cmp w v ≡ b → set.contains (to_forward a) w ≡ true) [
      | true ↦ λ k. let is : w ≡ v = grind (arith, nat_tests) in ap (set.contains (to_forward a)) is ∙ of-next
      | false ↦ λ k. let g = set.contains-insert nat_cmp_total vs v w in among w (grind (arith, nat_tests))
    ] refl
  where
    of-next : set.contains (to_forward a) v ≡ true
    of-next =
        let f = still-deliverable a vs v in
        let g = is-deliverable (without a vs) v (next-awaited (without a vs) v e) in
        let d : set.contains (deliverable a) v ≡ true = grind (arith, nat_tests) in
        ap (λ b. set.contains (if b then set.empty else deliverable a) v) (not-suspended (without a vs) v e) ∙ d

-- when there is no next vector, all have left
pub all-left : (a : Apic) (vs : Vectors) → AreAmong vs a → next (without a vs) ≡ None → vs ≡ to_forward a
unfolding AreAmong
all-left a vs among e = by a.suspended among e
  where
    by : (b : Bool) → ((v : ℕ) → set.contains vs v ≡ true
        → set.contains (if b then set.empty else deliverable a) v ≡ true)
        → (if b then None else awaited (without a vs)) ≡ None → vs ≡ (if b then set.empty else deliverable a)
    by true m h =
        same vs set.empty (λ v. let f = m v in let g = set.contains-empty nat_cmp v in grind (arith, nat_tests))
    by false m h =
        let t : Tells (deliverable (without a vs)) None =
        subst (Tells (deliverable (without a vs))) h (greatest_tells (deliverable (without a vs))) in
        same vs (deliverable a) (λ v. let f = still-deliverable a vs v in let g = t v in let k = m v in
        grind (arith, nat_tests))

-- the auto-EOI ones among them
pub auto-insert : (vs autos : Vectors) (v : ℕ)
    → (if set.contains autos v then set.insert (set.intersection vs autos) v else set.intersection vs autos)
    ≡ set.intersection (set.insert vs v) autos
auto-insert vs autos v = by (set.contains autos v) refl
  where
    and-true : (x y : Bool) → y ≡ true → (x && y) ≡ x
    and-true true y e = e
    and-true false y e = refl

    by : (b : Bool) → set.contains autos v ≡ b
        → (if b then set.insert (set.intersection vs autos) v else set.intersection vs autos)
        ≡ set.intersection (set.insert vs v) autos
    by true e = same (set.insert (set.intersection vs autos) v) (set.intersection (set.insert vs v) autos) (λ w.
        let f = set.contains-insert nat_cmp_total (set.intersection vs autos) v w in
        let g = set.contains-intersection nat_cmp_total vs autos w in
        let h = set.contains-intersection nat_cmp_total (set.insert vs v) autos w in
        let k = set.contains-insert nat_cmp_total vs v w in
        elim (eq_by_cmp nat_cmp w v) as
        (λ c. eq_by_cmp nat_cmp w v ≡ c
        → set.contains (set.insert (set.intersection vs autos) v) w
        ≡ set.contains (set.intersection (set.insert vs v) autos) w) [
          | true ↦ λ m. let is : w ≡ v =
              grind (arith, nat_tests) in let au : set.contains autos w ≡ true =
              ap (set.contains autos) is ∙ e in grind (arith, nat_tests)
          | false ↦ λ m. grind (arith, nat_tests)
        ] refl)
    by false e = same (set.intersection vs autos) (set.intersection (set.insert vs v) autos) (λ w.
        let g = set.contains-intersection nat_cmp_total vs autos w in
        let h = set.contains-intersection nat_cmp_total (set.insert vs v) autos w in
        let k = set.contains-insert nat_cmp_total vs v w in
        elim (eq_by_cmp nat_cmp w v) as
        (λ c. eq_by_cmp nat_cmp w v ≡ c
        → set.contains (set.intersection vs autos) w ≡ set.contains (set.intersection (set.insert vs v) autos) w) [
          | true ↦ λ m. let is : w ≡ v =
              grind (arith, nat_tests) in let au : set.contains autos w ≡ false =
              ap (set.contains autos) is ∙ e in grind (arith, nat_tests)
          | false ↦ λ m. grind (arith, nat_tests)
        ] refl)

-- fewer vectors are requested
pub fewer : (a : Apic) (v : ℕ) → awaited a ≡ Some v → set.len (without_one a v).requested < set.len a.requested
fewer a v e =
    let f =
    set.len-remove nat_cmp_total a.requested v in let g =
    is-requested a v e in let h = some-member a.requested v g in grind (arith, nat_tests)
  where
    some-member : (s : Vectors) (v : ℕ) → set.contains s v ≡ true → 0 < set.len s
    some-member s v g = elim (set.len s) as (λ n. set.len s ≡ n → 0 < n) [
      | zero ↦ λ z. let empty : s ≡ set.empty =
          set.empty_of_len s z in let no =
          ap (λ t. set.contains t v) empty ∙ set.contains-empty nat_cmp v in absurd (cc)
      | suc n ↦ λ z. omega arith
    ] refl

-- at first none have left
pub none-left : (a : Apic) → without a set.empty ≡ a
none-left a =
    ap (λ s. record {
      requested = s;
      in_service = a.in_service;
      task_priority = a.task_priority;
      suspended = a.suspended;
    })
    (same (set.difference a.requested set.empty) a.requested
    (λ v. let f = set.contains-difference nat_cmp_total a.requested set.empty v in
    let g = set.contains-empty nat_cmp v in grind (arith, nat_tests)))

pub among-none : (a : Apic) → AreAmong set.empty a
unfolding AreAmong
among-none a v h = let g = set.contains-empty nat_cmp v in absurd (cc)

pub auto-none : (autos : Vectors) → set.intersection set.empty autos ≡ set.empty
auto-none autos =
    same (set.intersection set.empty autos) set.empty
    (λ v. let f = set.contains-intersection nat_cmp_total set.empty autos v in let g = set.contains-empty nat_cmp v in
    grind (arith, nat_tests))
