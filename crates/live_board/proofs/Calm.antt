-- A quiet event changes no own page.
use Rattle.std.proofs.Common.{◌≡◌, ◌≢◌, ◌⊎◌, inl, inr, ℕ, zero, suc, ◌+◌, ◌*◌, ◌/◌, ◌%◌, ◌^◌, ◌<◌, ◌==◌, Bool, true, false, ◌&&◌, not, List, [], length, set, refl, sym, ap, ◌∙◌, arith, nat_lt, nat_le}
use Rattle.std.specs.Prelude.{Option, None, Some, is_none, Ok, Err, Result, ◌||◌, if◌then◌else◌}
use Rattle.std.specs.Int.{bit_at}
use Rattle.std.specs.Option.{option_map_or}
use Rattle.std.proofs.lemmas.Bool.{and_right}
use Rattle.std.proofs.lemmas.Bool.Decides.{nat_tests}
use Rattle.board_terms.specs.declared.refusal.Refusal.{Refusal}
use Rattle.board_terms.specs.declared.refusal.Refusal.TheVariants.{NoSuchProcessor, BadLength, OutsideSpace, CrossesPage, Elsewhere}
use Rattle.board_terms.specs.declared.pages.Owner.TheVariants.{Guest, Nothing}
use Rattle.board_terms.specs.declared.notices.Notice.{Notice}
use Rattle.event_ports.specs.declared.ports.Port.{Port}
use Rattle.event_ports.specs.Ports.{open_refusal, target_of}
use Rattle.gpa_space.specs.Space.{Space, page_count, visible, visible_page, refusal_of, overlay_owner, is_covered, is_elsewhere}
use Rattle.gpa_space.specs.Page.{overwritten}
use Rattle.lapic_core.specs.Apic.{next}
use Rattle.synic_regs.specs.declared.register.Register.{Register}
use Rattle.synic_regs.specs.declared.register.Register.TheVariants.{ReferenceCounter, Eoi, Tpr, Control, Version, Sief, Sim, Eom, Source, TimerConfig, TimerCount}
use Rattle.synic_regs.specs.Registers.{register_of}
use Rattle.synic_regs.specs.Regs.{is_refused}
use Rattle.synic_board.specs.declared.event.Event.{Event}
use Rattle.synic_board.specs.declared.event.Event.TheVariants.{OpenPort, ClosePort, Write, Read, Post, Signal, Assert, Absorb, Store, Load, Tick, Take, Suspend, Resume, Reset, Send}
use Rattle.synic_board.specs.declared.event.Reply.{Reply}
use Rattle.synic_board.specs.declared.event.Reply.TheVariants.{Done, GeneralProtection}
use Rattle.synic_board.specs.State.{State, processors, apic_of, ports_of, with_apic, space_of, with_space}
use Rattle.synic_board.specs.Effects.{Effect, Outcome, at_processor, answered, unchanged, refused}
use Rattle.synic_board.specs.Interrupts.{taken_at}
use Rattle.synic_board.specs.Absorbing.{is_posted, absorbed_below}
use Rattle.synic_board.specs.Sending.{sent_below}
use Rattle.synic_board.specs.Posts.{with_port, closed_at}
use Rattle.synic_board.specs.Registers.{stored, written_register, written}
use Rattle.synic_board.specs.Suspending.{is_suspended}
use Rattle.synic_board.specs.Resetting.{reset}
use Rattle.synic_board.specs.Stores.{stored_bytes, consumed_in}
use Rattle.synic_board.specs.Step.{step}
use Rattle.synic_board.proofs.keeping.Requests.{either}
use Rattle.synic_regs.proofs.Numbers.{have_their_numbers}
use Rattle.live_board.specs.Acting.{IsRegisterWrite}
use Rattle.live_board.specs.Live.{LiveModel, IsQuietly}
use Rattle.live_board.specs.Timers.{is_timer_register, is_timer_write, timer_of}
use Rattle.live_board.specs.inside.Kinds.{IsWriteTo, IsTimerWriteBy, is_quiet, is_quiet_register, is_eom, is_eom_register, eom_of, accessed_at}
use Rattle.live_board.proofs.Tried.{own-requested}

-- an outcome with the same own pages
abbrev Same : State → Outcome → Type 0
Same s o = o.0.own ≡ s.own

on-board : (s : State) (p : ℕ) (o : Outcome) → Same s o → Same s (at_processor s p o)
on-board s p o same = either (Same s) (nat_lt p (processors s)) _ _ (λ _. same) (λ _. refl)

off-board : (s : State) (p : ℕ) (o : Outcome) → nat_lt p (processors s) ≡ false → Same s (at_processor s p o)
off-board s p o off = ap (λ on. (if on then o else refused s NoSuchProcessor).0.own) off

same-stored : (s : State) (p : ℕ) (r : Register) (value : ℕ) → Same s (stored s p r value)
same-stored s p r value = either (Same s) (is_refused r value) _ _ (λ _. refl) (λ _. refl)

same-register : (s : State) (p : ℕ) (r : Register) (value : ℕ) → is_quiet_register r ≡ true
    → Same s (written_register s p r value)
same-register s p ReferenceCounter value quiet = refl
same-register s p Eoi value quiet = refl
same-register s p Tpr value quiet = refl
same-register s p Control value quiet = same-stored s p Control value
same-register s p Version value quiet = refl
same-register s p Sief value quiet = same-stored s p Sief value
same-register s p Sim value quiet = same-stored s p Sim value
same-register s p Eom value quiet = absurd (cc)
same-register s p (Source n) value quiet = same-stored s p (Source n) value
same-register s p (TimerConfig n) value quiet = absurd (cc)
same-register s p (TimerCount n) value quiet = absurd (cc)

same-written : (s : State) (p number value : ℕ) → option_map_or is_quiet_register (register_of number) true ≡ true
    → Same s (written s p number value)
same-written s p number value quiet = by (register_of number) quiet
  where
    by : (o : Option Register) → option_map_or is_quiet_register o true ≡ true
        → Same s (option_map_or (λ r. written_register s p r value) o (unchanged s GeneralProtection))
    by None q = refl
    by (Some r) q = same-register s p r value q

same-absorbed : (s : State) (p part bits n : ℕ) → (absorbed_below s p part bits n).0.own ≡ s.own
unfolding absorbed_below
same-absorbed s p part bits zero = refl
same-absorbed s p part bits (suc i) =
    let t : State = (absorbed_below s p part bits i).0 in
    either (λ (e : Effect). e.0.own ≡ t.own) (is_posted part bits i) _ _ (λ _. own-requested t p (64 * part + i))
    (λ _. refl) ∙ same-absorbed s p part bits i

same-sent : (s : State) (v mask n : ℕ) → (sent_below s v mask n).0.own ≡ s.own
unfolding sent_below
same-sent s v mask zero = refl
same-sent s v mask (suc p) =
    let t : State = (sent_below s v mask p).0 in
    either (λ (e : Effect). e.0.own ≡ t.own) (bit_at mask p == 1) _ _ (λ _. own-requested t p v) (λ _. refl)
    ∙ same-sent s v mask p

pub same-own : (s : State) (e : Event) → is_quiet e ≡ true → Same s (step s e)
unfolding step
same-own s (OpenPort port p i shape) quiet =
    elim (open_refusal (ports_of s) port p i shape) as
    (λ o. Same s (option_map_or (refused s) o
    (with_port s port (record { vp = p; sint = i; shape = shape }), Done, []))) [ None ↦ refl | Some r ↦ refl ]
same-own s (ClosePort port) quiet = by (target_of (ports_of s) port)
  where
    by : (o : Result Port Refusal) → Same s (closed_at s port o)
    by (Ok p) = refl
    by (Err r) = refl
same-own s (Write p number value) quiet = on-board s p (written s p number value) (same-written s p number value quiet)
same-own s (Read p number) quiet = on-board s p _ refl
same-own s (Post port kind payload) quiet = absurd (cc)
same-own s (Signal port flag) quiet = absurd (cc)
same-own s (Assert p v) quiet = on-board s p _ (own-requested s p v)
same-own s (Absorb p part bits) quiet =
    on-board s p _ (either (Same s) (nat_le part 3) _ _ (λ _. same-absorbed s p part bits 64) (λ _. refl))
same-own s (Store address bytes) quiet = absurd (cc)
same-own s (Load address count) quiet = absurd (cc)
same-own s (Tick moment) quiet = absurd (cc)
same-own s (Take p) quiet =
    on-board s p _ (elim (next (apic_of s p)) as
    (λ o. (option_map_or (λ v. with_apic s p (taken_at s p v)) o s).own ≡ s.own) [ None ↦ refl | Some v ↦ refl ])
same-own s (Suspend p) quiet = on-board s p _ (either (Same s) (is_suspended s p) _ _ (λ _. refl) (λ _. refl))
same-own s (Resume p) quiet = on-board s p _ (either (Same s) (is_suspended s p) _ _ (λ _. refl) (λ _. refl))
same-own s (Reset p) quiet = absurd (cc)
same-own s (Send v mask) quiet =
    either (Same s) (nat_lt mask (2 ^ processors s)) _ _ (λ _. same-sent s v mask 64) (λ _. refl)

pub quiet-own : (s now : State) (e : Event) (reply : Reply) (notices : List Notice) → is_quiet e ≡ true
    → (now, reply, notices) ≡ step s e → now.own ≡ s.own
quiet-own s now e reply notices quiet is = ap (λ (o : Outcome). o.0.own) is ∙ same-own s e quiet

-- an EOM of a processor that is not on the board changes none, either
pub not-ended : (s : State) (e : Event) → is_eom e ≡ true → eom_of s e ≡ None → Same s (step s e)
unfolding step
not-ended s (Write p number value) eom none = by (nat_lt p (processors s)) refl
  where
    by : (c : Bool) → nat_lt p (processors s) ≡ c → Same s (step s (Write p number value))
    by true there =
        let some : Some p ≡ None = (λ i. if sym eom i && sym there i then Some p else None) ∙ none in absurd (cc)
    by false there = off-board s p (written s p number value) there
not-ended s e eom none = absurd (cc)

pub not-ended-own : (s now : State) (e : Event) (reply : Reply) (notices : List Notice) → is_eom e ≡ true
    → eom_of s e ≡ None → (now, reply, notices) ≡ step s e → now.own ≡ s.own
not-ended-own s now e reply notices eom none is = ap (λ (o : Outcome). o.0.own) is ∙ not-ended s e eom none

-- nor does a write of a timer of a processor that is not on the board
not-timed : (s : State) (e : Event) → is_timer_write e ≡ true → timer_of s e ≡ None → Same s (step s e)
unfolding step
not-timed s (Write p number value) timer none = by (nat_lt p (processors s)) refl
  where
    by : (c : Bool) → nat_lt p (processors s) ≡ c → Same s (step s (Write p number value))
    by true there =
        let some : Some p ≡ None = (λ i. if sym timer i && sym there i then Some p else None) ∙ none in absurd (cc)
    by false there = off-board s p (written s p number value) there
not-timed s e timer none = absurd (cc)

pub not-timed-own : (s now : State) (e : Event) (reply : Reply) (notices : List Notice) → is_timer_write e ≡ true
    → timer_of s e ≡ None → (now, reply, notices) ≡ step s e → now.own ≡ s.own
not-timed-own s now e reply notices timer none is = ap (λ (o : Outcome). o.0.own) is ∙ not-timed s e timer none

-- nor does a reset of such a processor
pub not-reset : (s : State) (p : ℕ) → nat_lt p (processors s) ≡ false → Same s (step s (Reset p))
unfolding step
not-reset s p off = off-board s p (reset s p) off

-- nor an access to memory where the guest sees no overlay
outside : (b : Bool) → (if b then Some BadLength else Some OutsideSpace) ≡ None → ⊥
outside true e = absurd (cc)
outside false e = absurd (cc)

uncovered : (space : Space) (address : ℕ) (count : ℕ) → is_covered space (address / 4096) ≡ false
    → refusal_of space address count ≡ None → visible space (address / 4096) ≡ None
uncovered space address count free fits =
    by (visible space (address / 4096)) refl (nat_lt (address / 4096) (page_count space)) refl
  where
    page : ℕ
    page = address / 4096

    refusal : Bool → Option Refusal
    refusal inside =
        if (count == 0) || nat_lt 8 count then Some BadLength else if not inside then Some OutsideSpace
        else if nat_lt 4096 (address % 4096 + count) then Some CrossesPage else if is_elsewhere space page
        then Some Elsewhere else None

    by : (v : Option ℕ) → visible space page ≡ v → (inside : Bool) → nat_lt page (page_count space) ≡ inside
        → visible space page ≡ None
    by None is inside there = is
    by (Some overlay) is true there =
        let covered : true ≡ false = (λ i. sym there i && not (is_none (sym is i))) ∙ free in absurd (cc)
    by (Some overlay) is false there = absurd (outside ((count == 0) || nat_lt 8 count) (ap refusal (sym there) ∙ fits))

same-bytes : (s : State) (address : ℕ) (bytes : List ℕ) → is_covered (space_of s) (address / 4096) ≡ false
    → Same s (stored_bytes s address bytes)
same-bytes s address bytes free = by (refusal_of space address (length bytes)) refl
  where
    space : Space
    space = space_of s

    page : ℕ
    page = address / 4096

    new : List ℕ
    new = overwritten (visible_page space page) (address % 4096) bytes

    stored-if : Option Refusal → Option ℕ → Bool → Outcome
    stored-if refusal overlay inside =
        option_map_or (refused s) refusal
        (answered Done (consumed_in
        (with_space s (option_map_or (λ _. space) refusal
        (option_map_or (λ o. record space { own = set space.own o new }) overlay
        (record space { pages = set space.pages page new }))))
        (if inside then option_map_or overlay_owner overlay Guest else Nothing)))

    kept : (inside : Bool) → Same s (stored-if None None inside)
    kept true = refl
    kept false = refl

    by : (r : Option Refusal) → refusal_of space address (length bytes) ≡ r → Same s (stored_bytes s address bytes)
    by (Some r) is = ap (λ refusal. (stored-if refusal (visible space page) (nat_lt page (page_count space))).0.own) is
    by None is =
        ap (λ refusal. (stored-if refusal (visible space page) (nat_lt page (page_count space))).0.own) is
        ∙ ap (λ overlay. (stored-if None overlay (nat_lt page (page_count space))).0.own)
        (uncovered space address (length bytes) free is)
        ∙ kept (nat_lt page (page_count space))

pub same-accessed : (s : State) (e : Event) (address : ℕ) → accessed_at e ≡ Some address
    → is_covered (space_of s) (address / 4096) ≡ false → Same s (step s e)
unfolding step
same-accessed s (Store other bytes) address is free =
    same-bytes s other bytes.items (ap (λ n. is_covered (space_of s) (n / 4096)) (some-same is) ∙ free)
  where
    some-same : {A : Type 0} {x y : A} → Some x ≡ Some y → x ≡ y
    some-same {A} {x} {y} e = ap (λ o. option_map_or (λ v. v) o x) e
same-accessed s (Load other count) address is free = refl
same-accessed s e address is free = absurd (cc)

-- a write of a timer, of a processor on the board or of none
pub timer-there : (s : State) (p : ℕ) (e : Event) → IsTimerWriteBy p e → nat_lt p (processors s) ≡ true
    → timer_of s e ≡ Some p
timer-there s p (Write q number value) (same, timer) on =
    (λ i. if timer i && nat_lt (same i) (processors s) then Some (same i) else None)
    ∙ (λ i. if on i then Some p else None)
timer-there s p e other on = absurd other

pub timer-none : (s : State) (p : ℕ) (e : Event) → IsTimerWriteBy p e → nat_lt p (processors s) ≡ false
    → timer_of s e ≡ None
timer-none s p (Write q number value) (same, timer) off =
    (λ i. if timer i && nat_lt (same i) (processors s) then Some (same i) else None)
    ∙ (λ i. if off i then Some p else None)
timer-none s p e other off = absurd other

-- a write of a register
pub eom-there : (s : State) (p number : ℕ) (e : Event) → IsWriteTo p number e → register_of number ≡ Some Eom
    → p < processors s → eom_of s e ≡ Some p
eom-there s p number (Write q other value) (same, names) eom on =
    (λ i. if option_map_or is_eom_register (register_of (names i)) false && nat_lt (same i) (processors s)
    then Some (same i) else None)
    ∙ (λ i. if option_map_or is_eom_register (eom i) false && below i then Some p else None)
  where
    below : nat_lt p (processors s) ≡ true
    below = grind (arith)
eom-there s p number e other eom on = absurd other

eom-nowhere : (s : State) (p number : ℕ) (e : Event) → IsWriteTo p number e → nat_lt p (processors s) ≡ false
    → eom_of s e ≡ None
eom-nowhere s p number (Write q other value) (same, names) off =
    (λ i. if option_map_or is_eom_register (register_of other) false && nat_lt (same i) (processors s)
    then Some (same i) else None)
    ∙ ap (λ b. if b then Some p else None)
    (and_right (option_map_or is_eom_register (register_of other) false) (nat_lt p (processors s)) off)
eom-nowhere s p number e other off = absurd other

pub eom-cases : (s : State) (p number : ℕ) (e : Event) → IsWriteTo p number e → (p < processors s) ⊎ (eom_of s e ≡ None)
eom-cases s p number e to = by (nat_lt p (processors s)) refl
  where
    by : (on : Bool) → nat_lt p (processors s) ≡ on → (p < processors s) ⊎ (eom_of s e ≡ None)
    by true on = inl (grind (arith, nat_tests))
    by false off = inr (eom-nowhere s p number e to off)

pub quiet-is : (p number : ℕ) (e : Event) → IsWriteTo p number e
    → option_map_or is_quiet_register (register_of number) true ≡ true → is_quiet e ≡ true
quiet-is p number (Write q other value) (same, names) quiet =
    ap (λ n. option_map_or is_quiet_register (register_of n) true) names ∙ quiet
quiet-is p number e other quiet = absurd other

-- a register that is neither EOM nor a timer's
pub quiet-other : (n : ℕ) → n ≢ 0x40000084 → option_map_or is_timer_register (register_of n) false ≡ false
    → option_map_or is_quiet_register (register_of n) true ≡ true
quiet-other n apart none = by (register_of n) refl none
  where
    by : (o : Option Register) → register_of n ≡ o → option_map_or is_timer_register o false ≡ false
        → option_map_or is_quiet_register o true ≡ true
    by None is t = refl
    by (Some ReferenceCounter) is t = refl
    by (Some Eoi) is t = refl
    by (Some Tpr) is t = refl
    by (Some Control) is t = refl
    by (Some Version) is t = refl
    by (Some Sief) is t = refl
    by (Some Sim) is t = refl
    by (Some Eom) is t = absurd (apart (sym ((have_their_numbers n Eom).0 is).1))
    by (Some (Source k)) is t = refl
    by (Some (TimerConfig k)) is t = absurd (cc)
    by (Some (TimerCount k)) is t = absurd (cc)

pub quiet-written : (o : Option Register) (p : ℕ) (old : LiveModel) (event : Event) (now : LiveModel) (reply : Reply)
    (notices : List Notice) → option_map_or is_quiet_register o true ≡ true → (o ≡ Some Sim → ⊥) → (o ≡ Some Sief → ⊥)
    → IsQuietly old event now reply notices
    → IsRegisterWrite o p old event now reply 0 notices
quiet-written None p old event now reply notices quiet sim sief h = (h, refl)
quiet-written (Some ReferenceCounter) p old event now reply notices quiet sim sief h = (h, refl)
quiet-written (Some Eoi) p old event now reply notices quiet sim sief h = (h, refl)
quiet-written (Some Tpr) p old event now reply notices quiet sim sief h = (h, refl)
quiet-written (Some Control) p old event now reply notices quiet sim sief h = (h, refl)
quiet-written (Some Version) p old event now reply notices quiet sim sief h = (h, refl)
quiet-written (Some Sief) p old event now reply notices quiet sim sief h = absurd (sief refl)
quiet-written (Some Sim) p old event now reply notices quiet sim sief h = absurd (sim refl)
quiet-written (Some Eom) p old event now reply notices quiet sim sief h = absurd (cc)
quiet-written (Some (Source k)) p old event now reply notices quiet sim sief h = (h, refl)
quiet-written (Some (TimerConfig k)) p old event now reply notices quiet sim sief h = absurd (cc)
quiet-written (Some (TimerCount k)) p old event now reply notices quiet sim sief h = absurd (cc)
