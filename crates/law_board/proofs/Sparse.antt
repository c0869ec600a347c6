-- The guest pages of a board matter to loads and stores alone.
use Rattle.std.proofs.Common.{◌≡◌, ℕ, zero, suc, ◌+◌, ◌*◌, ◌/◌, ◌%◌, ◌^◌, Bool, true, false, ◌==◌, ◌&&◌, ◌||◌, List, [], ◌∷◌, length, take, drop, get_or, set, nat_lt, Option, None, Some, Result, Ok, Err, refl, ap, sym, ◌∙◌, length-set}
use Rattle.std.specs.Prelude.{if◌then◌else◌, not, is_none, nat_le}
use Rattle.std.specs.Int.{bit_at}
use Rattle.std.specs.Option.{option_map_or}
use Rattle.arrayvec.specs.ArrayVec.{ArrayVec}
use Rattle.board_terms.specs.declared.messages.Message.{Message}
use Rattle.board_terms.specs.declared.refusal.Refusal.{Refusal}
use Rattle.board_terms.specs.declared.refusal.Refusal.TheVariants.{BadLength, OutsideSpace, CrossesPage, Elsewhere, BadTarget, SynicOff, ClockBack, NoSuchProcessor, AlreadySuspended, NotSuspended}
use Rattle.board_terms.specs.declared.notices.Notice.TheVariants.{Requested}
use Rattle.stimer_bank.specs.declared.timer.Mode.{Mode}
use Rattle.stimer_bank.specs.declared.timer.Mode.TheVariants.{Direct, Posted}
use Rattle.message_queues.specs.Queues.{queue_of}
use Rattle.synic_regs.specs.Regs.{raised_by}
use Rattle.board_terms.specs.declared.messages.Message.TheVariants.{FromPort}
use Rattle.board_terms.specs.declared.pages.Owner.{Owner}
use Rattle.board_terms.specs.declared.pages.Owner.TheVariants.{Guest, Nothing}
use Rattle.board_terms.specs.declared.pages.Owner.TheVariants as owners
use Rattle.event_ports.specs.declared.ports.Port.{Port}
use Rattle.event_ports.specs.Ports.{open_refusal, target_of, message_target_of, flag_place_of}
use Rattle.lapic_core.specs.Apic.{request, next}
use Rattle.synic_regs.specs.Regs.{has, enable, is_refused, with_value}
use Rattle.synic_regs.specs.Registers.{register_of}
use Rattle.synic_regs.specs.declared.register.Register.{Register}
use Rattle.synic_regs.specs.declared.register.Register.TheVariants.{ReferenceCounter, Eoi, Tpr, Control, Version, Sief, Sim, Eom, Source, TimerConfig, TimerCount}
use Rattle.stimer_bank.specs.Bank.{dues, due_list, with_config, with_count}
use Rattle.gpa_space.specs.Page.{overwritten}
use Rattle.gpa_space.specs.Space.{Space, is_flag_set, visible, overlay_owner}
use Rattle.synic_board.specs.declared.event.Event.{Event}
use Rattle.synic_board.specs.declared.event.Event.TheVariants.{OpenPort, ClosePort, Write, Read, Post, Signal, Assert, Absorb, Store, Load, Tick, Take, Suspend, Resume, Reset, Send}
use Rattle.synic_board.specs.declared.event.Reply.{Reply}
use Rattle.synic_board.specs.declared.event.Reply.TheVariants.{Done, Taken, Accepted, FlagWasClear, FlagWasSet, GeneralProtection}
use Rattle.synic_board.specs.State.{State, processors, apic_of, regs_of, space_of, ports_of, bank_of, slot_of, with_apic, with_regs, with_bank, with_space}
use Rattle.synic_board.specs.Effects.{Effect, Outcome, nothing, after, answered, unchanged, refused, at_processor}
use Rattle.synic_board.specs.Interrupts.{is_requested, requested, raised, taken_at, taken}
use Rattle.synic_board.specs.Posts.{with_port, closed_at, closed, post_refusal, posted_at, posted, with_flag, flagged, signalled_at, signalled}
use Rattle.synic_board.specs.Registers.{stored, written_register, written, read_register, read}
use Rattle.synic_board.specs.Suspending.{is_suspended, with_suspension, suspended, resumed}
use Rattle.synic_board.specs.Resetting.{withdrawn_ticket, slot_emptied, queue_emptied, source_emptied, emptied_below, emptied, cleared, reset}
use Rattle.synic_board.specs.Stores.{consumed_ticket, consumed, consumed_below, consumed_in, load_reply}
use Rattle.synic_board.specs.Step.{step}
use Rattle.synic_board.specs.Run.{followed_by, run_of}
use Rattle.synic_board.proofs.keeping.Requests.{either}
use Rattle.synic_board.specs.Absorbing.{is_posted, absorbed_bit, absorbed_below, absorbed}
use Rattle.synic_board.specs.Sending.{sent_to, sent_below, sent}
use Rattle.synic_board.specs.Delivery.{delivers, is_slot_empty, placed_head, placed, marked, tried, tried_below, accepted, delivered}
use Rattle.synic_board.specs.Timers.{is_ready, mode_at, delivery_by, signalled_by, expired_state, expiry_at, expiry_notices, fired, attempted, attempted_until, most_expiries, at_moment, ticked}
use Rattle.board_terms.specs.Quantities.{TimerId}
use Rattle.law_board.specs.Sparse.{Memory, AreAllPages, holding, is_callers_access, with_memory, completed, completed_run}

-- an effect, with other guest pages
abbrev H : Memory → Effect → Effect
H m e = (holding e.0 m, e.1)

-- a function of the state does not look at the guest pages
abbrev Blind : (State → Effect) → Type 0
Blind f = (s : State) (m : Memory) → f (holding s m) ≡ H m (f s)

-- one after another
blind-after : (f : State → Effect) (g : State → Effect) → Blind f → Blind g → Blind (λ s. after (f s) (g (f s).0))
blind-after f g hf hg s m = ap (λ (e : Effect). after e (g e.0)) (hf s m) ∙ ap (after (H m (f s))) (hg (f s).0 m)

-- either of two
blind-either : (s : State) (m : Memory) (b : Bool) (f g : State → Effect) → f (holding s m) ≡ H m (f s)
    → g (holding s m) ≡ H m (g s) →
    (if b then f (holding s m) else g (holding s m)) ≡ H m (if b then f s else g s)
blind-either s m true f g p q = p
blind-either s m false f g p q = q

blind-requested : (p v : ℕ) → Blind (λ s. requested s p v)
blind-requested p v s m =
    blind-either s m (is_requested s p v) nothing
    (λ s. (with_apic s p (request (apic_of s p) v), Requested p v ∷ [])) refl refl

blind-raised : (p i : ℕ) → Blind (λ s. raised s p i)
blind-raised p i s m = by (raised_by (regs_of s p) i)
  where
    by : (o : Option ℕ) → option_map_or (requested (holding s m) p) o (nothing (holding s m))
        ≡ H m (option_map_or (requested s p) o (nothing s))
    by None = refl
    by (Some v) = blind-requested p v s m

blind-absorbed_bit : (p part bits i : ℕ) → Blind (λ s. absorbed_bit s p part bits i)
blind-absorbed_bit p part bits i s m =
    blind-either s m (is_posted part bits i) (λ s. requested s p (64 * part + i)) nothing
    (blind-requested p (64 * part + i) s m) refl

blind-absorbed : (p part bits n : ℕ) → Blind (λ s. absorbed_below s p part bits n)
unfolding absorbed_below
blind-absorbed p part bits zero s m = refl
blind-absorbed p part bits (suc n) s m =
    blind-after (λ x. absorbed_below x p part bits n) (λ x. absorbed_bit x p part bits n)
    (blind-absorbed p part bits n) (blind-absorbed_bit p part bits n) s m

blind-sent_to : (v mask p : ℕ) → Blind (λ s. sent_to s v mask p)
blind-sent_to v mask p s m =
    blind-either s m (bit_at mask p == 1) (λ s. requested s p v) nothing (blind-requested p v s m) refl

blind-sent_below : (v mask n : ℕ) → Blind (λ s. sent_below s v mask n)
unfolding sent_below
blind-sent_below v mask zero s m = refl
blind-sent_below v mask (suc p) s m =
    blind-after (λ x. sent_below x v mask p) (λ x. sent_to x v mask p) (blind-sent_below v mask p)
    (blind-sent_to v mask p) s m

-- delivery
blind-placed : (p i : ℕ) → Blind (λ s. placed s p i)
blind-placed p i s m = by (queue_of s.queues p i)
  where
    by : (q : List Message) → placed_head (holding s m) p i q ≡ H m (placed_head s p i q)
    by [] = refl
    by (x ∷ q) = refl

blind-tried : (p i : ℕ) → Blind (λ s. tried s p i)
unfolding tried
blind-tried p i s m = blind-either s m (delivers s p && nat_lt 0 (length (queue_of s.queues p i)))
    (λ x. if is_slot_empty x p i then after (placed x p i) (raised (placed x p i).0 p i) else marked x p i) nothing
    (blind-either s m (is_slot_empty s p i) (λ x. after (placed x p i) (raised (placed x p i).0 p i))
    (λ x. marked x p i)
    (blind-after (λ x. placed x p i) (λ x. raised x p i) (blind-placed p i) (blind-raised p i) s m) refl)
    refl

blind-tried_below : (p n : ℕ) → Blind (λ s. tried_below s p n)
unfolding tried_below
blind-tried_below p zero s m = refl
blind-tried_below p (suc n) s m =
    blind-after (λ x. tried_below x p n) (λ x. tried x p n) (blind-tried_below p n) (blind-tried p n) s m

blind-delivered : (p i : ℕ) (x : Message) → Blind (λ s. delivered s p i x)
blind-delivered p i x s m = blind-after (λ s. accepted s p i x) (λ s. tried s p i) (λ s m. refl) (blind-tried p i) s m

-- timers
blind-delivery : (t : TimerId) (mode : Mode) (d : ℕ) → Blind (λ s. delivery_by s t mode d)
blind-delivery t (Direct v) d s m = blind-requested t.0 v s m
blind-delivery t (Posted i) d s m = blind-delivered t.0 i _ s m

blind-signalled : (t : TimerId) (mode : Mode) (o : Option ℕ) → Blind (λ s. signalled_by s t mode o)
blind-signalled t mode None s m = refl
blind-signalled t mode (Some d) s m = blind-delivery t mode d s m

blind-fired : (t : TimerId) (mode : Mode) → Blind (λ s. fired s t mode)
blind-fired t mode s m =
    ap (after (H m (expired_state s t, expiry_notices t (expiry_at s t).signal (expiry_at s t).skipped)))
    (blind-signalled t mode (expiry_at s t).signal (expired_state s t) m)

blind-attempted : (t : TimerId) → Blind (λ s. attempted s t)
unfolding attempted
blind-attempted t s m =
    blind-either s m (is_ready s t) (λ x. fired x t (mode_at x t)) nothing (blind-fired t (mode_at s t) s m) refl

blind-attempted_until : (n : ℕ) (ts : List TimerId) → Blind (λ s. attempted_until n s ts)
unfolding attempted_until
blind-attempted_until zero ts s m = refl
blind-attempted_until (suc n) [] s m = refl
blind-attempted_until (suc n) (t ∷ ts) s m =
    let left = if is_ready s t then n else suc n in
    blind-after (λ x. attempted x t) (λ x. attempted_until left x ts) (blind-attempted t)
    (blind-attempted_until left ts) s m

-- an outcome, with other guest pages
abbrev HO : Memory → Outcome → Outcome
HO m o = with_memory m o

abbrev IsBlind : (State → Outcome) → Type 0
IsBlind f = (s : State) (m : Memory) → f (holding s m) ≡ HO m (f s)

blind-answered : (reply : Reply) (f : State → Effect) → Blind f → IsBlind (λ s. answered reply (f s))
blind-answered reply f h s m = ap (answered reply) (h s m)

-- either of two outcomes
blind-cases : (s : State) (m : Memory) (b : Bool) (f g : State → Outcome) → f (holding s m) ≡ HO m (f s)
    → g (holding s m) ≡ HO m (g s) →
    (if b then f (holding s m) else g (holding s m)) ≡ HO m (if b then f s else g s)
blind-cases s m true f g p q = p
blind-cases s m false f g p q = q

blind-at : (p : ℕ) (f : State → Outcome) → IsBlind f → IsBlind (λ s. at_processor s p (f s))
blind-at p f h s m = blind-cases s m (nat_lt p (processors s)) f (λ x. refused x NoSuchProcessor) (h s m) refl

-- refused, or not
blind-refused : (s : State) (m : Memory) (o : Option Refusal) (f : State → Outcome) → f (holding s m) ≡ HO m (f s) →
    option_map_or (refused (holding s m)) o (f (holding s m)) ≡ HO m (option_map_or (refused s) o (f s))
blind-refused s m None f p = p
blind-refused s m (Some r) f p = refl

blind-taken : (p : ℕ) → IsBlind (λ s. taken s p)
blind-taken p s m = by (next (apic_of s p))
  where
    by : (o : Option ℕ) → (
      option_map_or (λ v. with_apic (holding s m) p (taken_at s p v)) o (holding s m),
      Taken (next (apic_of s p)),
      [],
    )
        ≡ HO m (option_map_or (λ v. with_apic s p (taken_at s p v)) o s, Taken (next (apic_of s p)), [])
    by None = refl
    by (Some v) = refl

blind-closed : (port : ℕ) → IsBlind (λ s. closed s port)
blind-closed port s m = by (target_of (ports_of s) port)
  where
    by : (r : Result Port Refusal) → closed_at (holding s m) port r ≡ HO m (closed_at s port r)
    by (Err r) = refl
    by (Ok p) = refl

blind-posted : (port kind : ℕ) (payload : ArrayVec ℕ) → IsBlind (λ s. posted s port kind payload)
blind-posted port kind payload s m = by (message_target_of (ports_of s) port kind)
  where
    by : (r : Result Port Refusal)
        → posted_at (holding s m) port kind payload r ≡ HO m (posted_at s port kind payload r)
    by (Err r) = refl
    by (Ok p) = blind-refused s m (post_refusal s port p.vp p.shape)
        (λ x. answered (Accepted x.next_ticket) (delivered x p.vp p.sint (FromPort x.next_ticket port kind payload)))
        (ap (answered (Accepted s.next_ticket))
        (blind-delivered p.vp p.sint (FromPort s.next_ticket port kind payload) s m))

blind-signalled_at : (port flag : ℕ) → IsBlind (λ s. signalled s port flag)
blind-signalled_at port flag s m = by (flag_place_of (ports_of s) port flag)
  where
    by : (r : Result (ℕ × ℕ × ℕ) Refusal) → signalled_at (holding s m) r ≡ HO m (signalled_at s r)
    by (Err r) = refl
    by (Ok (p, i, flag)) =
        blind-cases s m (not (has (regs_of s p).control enable && has (regs_of s p).sief enable))
        (λ x. refused x SynicOff)
        (λ x. if is_flag_set (space_of x) p i flag then unchanged (with_flag x p i flag) FlagWasSet
        else answered FlagWasClear (after (flagged x p i flag) (raised (with_flag x p i flag) p i)))
        refl
        (blind-cases s m (is_flag_set (space_of s) p i flag) (λ x. unchanged (with_flag x p i flag) FlagWasSet)
        (λ x. answered FlagWasClear (after (flagged x p i flag) (raised (with_flag x p i flag) p i))) refl
        (ap (answered FlagWasClear)
        (ap (after (H m (flagged s p i flag))) (blind-raised p i (with_flag s p i flag) m))))

blind-ticked : (moment : ℕ) → IsBlind (λ s. ticked s moment)
blind-ticked moment s m = blind-cases s m (nat_lt moment s.moment) (λ x. refused x ClockBack)
    (λ x. if moment == x.moment then unchanged x Done
    else answered Done (attempted_until most_expiries (at_moment x moment)
    (due_list (dues (bank_of x)) moment))) refl
    (blind-cases s m (moment == s.moment) (λ x. unchanged x Done)
    (λ x. answered Done (attempted_until most_expiries (at_moment x moment) (due_list (dues (bank_of x)) moment)))
    refl
    (ap (answered Done) (blind-attempted_until most_expiries (due_list (dues (bank_of s)) moment)
    (at_moment s moment) m)))

blind-written : (p number value : ℕ) → IsBlind (λ s. written s p number value)
blind-written p number value s m = by (register_of number)
  where
    stores : (r : Register) → stored (holding s m) p r value ≡ HO m (stored s p r value)
    stores r = blind-cases s m (is_refused r value) (λ x. unchanged x GeneralProtection)
        (λ x. unchanged (with_regs x p (with_value (regs_of x p) r value)) Done) refl refl

    writes : (r : Register) → written_register (holding s m) p r value ≡ HO m (written_register s p r value)
    writes ReferenceCounter = refl
    writes Eoi = refl
    writes Tpr = refl
    writes Control = stores Control
    writes Version = refl
    writes Sief = stores Sief
    writes Sim = stores Sim
    writes Eom = ap (answered Done) (blind-tried_below p 16 s m)
    writes (Source n) = stores (Source n)
    writes (TimerConfig n) =
        ap (answered Done) (blind-attempted (p, n) (with_bank s (with_config (bank_of s) (p, n) value s.moment)) m)
    writes (TimerCount n) =
        ap (answered Done) (blind-attempted (p, n) (with_bank s (with_count (bank_of s) (p, n) value s.moment)) m)

    by : (o : Option Register)
        → option_map_or (λ r. written_register (holding s m) p r value) o (unchanged (holding s m) GeneralProtection)
        ≡ HO m (option_map_or (λ r. written_register s p r value) o (unchanged s GeneralProtection))
    by None = refl
    by (Some r) = writes r

blind-read : (p number : ℕ) (s : State) (m : Memory) → read (holding s m) p number ≡ read s p number
blind-read p number s m = by (register_of number)
  where
    reads : (r : Register) → read_register (holding s m) p r ≡ read_register s p r
    reads ReferenceCounter = refl
    reads Eoi = refl
    reads Tpr = refl
    reads Control = refl
    reads Version = refl
    reads Sief = refl
    reads Sim = refl
    reads Eom = refl
    reads (Source n) = refl
    reads (TimerConfig n) = refl
    reads (TimerCount n) = refl

    by : (o : Option Register)
        → option_map_or (read_register (holding s m) p) o GeneralProtection
        ≡ option_map_or (read_register s p) o GeneralProtection
    by None = refl
    by (Some r) = reads r

blind-slot : (p i : ℕ) → Blind (λ s. slot_emptied s p i)
blind-slot p i s m = by (slot_of s p i)
  where
    by : (o : Option ℕ) → option_map_or (withdrawn_ticket (holding s m) p i) o (nothing (holding s m))
        ≡ H m (option_map_or (withdrawn_ticket s p i) o (nothing s))
    by None = refl
    by (Some t) = refl

blind-emptied : (p n : ℕ) → Blind (λ s. emptied_below s p n)
unfolding emptied_below
blind-emptied p zero s m = refl
blind-emptied p (suc n) s m = blind-after (λ x. emptied_below x p n) (λ x. source_emptied x p n) (blind-emptied p n)
    (blind-after (λ x. slot_emptied x p n) (λ x. queue_emptied x p n) (blind-slot p n) (λ x m. refl)) s m

blind-reset : (p : ℕ) → IsBlind (λ s. reset s p)
blind-reset p =
    blind-answered Done (λ s. after (emptied s p) (cleared (emptied s p).0 p, []))
    (blind-after (λ s. emptied s p) (λ s. (cleared s p, [])) (blind-emptied p 16) (λ s m. refl))

blind-absorb : (p part bits : ℕ) → IsBlind (λ s. absorbed s p part bits)
blind-absorb p part bits s m =
    blind-cases s m (nat_le part 3) (λ x. answered Done (absorbed_below x p part bits 64)) (λ x. refused x BadTarget)
    (ap (answered Done) (blind-absorbed p part bits 64 s m)) refl

blind-sent : (v mask : ℕ) → IsBlind (λ s. sent s v mask)
blind-sent v mask s m =
    blind-cases s m (nat_lt mask (2 ^ processors s)) (λ x. answered Done (sent_below x v mask 64))
    (λ x. refused x NoSuchProcessor)
    (ap (answered Done) (blind-sent_below v mask 64 s m)) refl

blind-suspended : (p : ℕ) → IsBlind (λ s. suspended s p)
blind-suspended p s m =
    blind-cases s m (is_suspended s p) (λ x. refused x AlreadySuspended)
    (λ x. unchanged (with_suspension x p true) Done) refl refl

blind-resumed : (p : ℕ) → IsBlind (λ s. resumed s p)
blind-resumed p s m =
    blind-cases s m (is_suspended s p) (λ x. unchanged (with_suspension x p false) Done)
    (λ x. refused x NotSuspended) refl refl

-- messages that a store consumes
blind-consumed : (p i : ℕ) → Blind (λ s. consumed s p i)
unfolding consumed
blind-consumed p i s m =
    blind-either s m (is_slot_empty s p i) (λ x. consumed_ticket x p i (slot_of x p i)) nothing
    (by (slot_of s p i)) refl
  where
    by : (o : Option ℕ) → consumed_ticket (holding s m) p i o ≡ H m (consumed_ticket s p i o)
    by None = refl
    by (Some t) = refl

blind-consumed_below : (p n : ℕ) → Blind (λ s. consumed_below s p n)
unfolding consumed_below
blind-consumed_below p zero s m = refl
blind-consumed_below p (suc n) s m =
    blind-after (λ x. consumed_below x p n) (λ x. consumed x p n) (blind-consumed_below p n) (blind-consumed p n) s m

blind-consumed_in : (owner : Owner) → Blind (λ s. consumed_in s owner)
blind-consumed_in Guest s m = refl
blind-consumed_in (owners.Sim p) s m = blind-consumed_below p 16 s m
blind-consumed_in (owners.Sief p) s m = refl
blind-consumed_in Nothing s m = refl

-- a store, by what it finds: whether the length is bad, the page there, the bytes in two pages, an overlay visible,
-- and the board sparse
abbrev refusal_by : Bool → Bool → Bool → Option ℕ → Bool → Option Refusal
refusal_by bad within crosses o sparse =
    if bad then Some BadLength else if not within then Some OutsideSpace else if crosses then Some CrossesPage
    else if sparse && is_none o then Some Elsewhere else None

abbrev bytes_by : State → ℕ → List ℕ → Option ℕ → List ℕ
bytes_by x address bytes o =
    overwritten (option_map_or (λ overlay. get_or x.own overlay []) o (get_or x.pages (address / 4096) []))
    (address % 4096) bytes

abbrev space_by : State → ℕ → List ℕ → Option ℕ → Space
space_by x address bytes o =
    option_map_or (λ overlay. record (space_of x) { own = set x.own overlay (bytes_by x address bytes o) }) o
    (record (space_of x) { pages = set x.pages (address / 4096) (bytes_by x address bytes o) })

abbrev store_by : State → ℕ → List ℕ → Bool → Bool → Bool → Option ℕ → Bool → Outcome
store_by x address bytes bad within crosses o sparse =
    option_map_or (refused x) (refusal_by bad within crosses o sparse)
    (answered Done (consumed_in
    (with_space x (option_map_or (λ (_ : Refusal). space_of x) (refusal_by bad within crosses o sparse)
    (space_by x address bytes o)))
    (if within then option_map_or overlay_owner o Guest else Nothing)))

store-completed : (s : State) (m : Memory) (address : ℕ) (bytes : ArrayVec ℕ) (bad within crosses : Bool)
    (o : Option ℕ) →
    store_by (holding s m) address bytes.items bad within crosses o false
    ≡ completed m (Store address bytes) (store_by (holding s []) address bytes.items bad within crosses o true)
store-completed s m address bytes true within crosses o = refl
store-completed s m address bytes false false crosses o = refl
store-completed s m address bytes false true true o = refl
store-completed s m address bytes false true false None = refl
store-completed s m address bytes false true false (Some k) =
    ap (answered Done) (blind-consumed_in (overlay_owner k)
    (record (holding s []) { own = set s.own k (bytes_by (holding s []) address bytes.items (Some k)) }) m)

store-sparse : (s : State) (address : ℕ) (bytes : ArrayVec ℕ) (bad within crosses : Bool) (o : Option ℕ)
    → (store_by (holding s []) address bytes.items bad within crosses o true).0.pages ≡ []
store-sparse s address bytes true within crosses o = refl
store-sparse s address bytes false false crosses o = refl
store-sparse s address bytes false true true o = refl
store-sparse s address bytes false true false None = refl
store-sparse s address bytes false true false (Some k) =
    ap (λ (e : Effect). e.0.pages)
    (blind-consumed_in (overlay_owner k)
    (record (holding s []) { own = set s.own k (bytes_by (holding s []) address bytes.items (Some k)) }) [])

-- a load, by the same
abbrev load_by : State → ℕ → ℕ → Bool → Bool → Bool → Option ℕ → Bool → Outcome
load_by x address count bad within crosses o sparse =
    unchanged x (load_reply (option_map_or (λ r. Err r) (refusal_by bad within crosses o sparse)
    (Ok (record {
      items = take count
          (drop (address % 4096) (option_map_or (λ overlay. get_or x.own overlay []) o
          (get_or x.pages (address / 4096) [])));
    }))))

load-completed : (s : State) (m : Memory) (address count : ℕ) (bad within crosses : Bool) (o : Option ℕ) →
    load_by (holding s m) address count bad within crosses o false
    ≡ completed m (Load address count) (load_by (holding s []) address count bad within crosses o true)
load-completed s m address count true within crosses o = refl
load-completed s m address count false false crosses o = refl
load-completed s m address count false true true o = refl
load-completed s m address count false true false None = refl
load-completed s m address count false true false (Some k) = refl

-- a load or a store
abbrev accesses : Event → Bool
accesses (Store address bytes) = true
accesses (Load address count) = true
accesses event = false

blind-step : (e : Event) → accesses e ≡ false → IsBlind (λ s. step s e)
unfolding step
blind-step (OpenPort port p i shape) never s m =
    blind-refused s m (open_refusal (ports_of s) port p i shape)
    (λ x. unchanged (with_port x port (record { vp = p; sint = i; shape = shape })) Done) refl
blind-step (ClosePort port) never s m = blind-closed port s m
blind-step (Write p number value) never s m =
    blind-at p (λ x. written x p number value) (blind-written p number value) s m
blind-step (Read p number) never s m =
    blind-at p (λ x. unchanged x (read x p number)) (λ x m. ap (unchanged (holding x m)) (blind-read p number x m)) s m
blind-step (Post port kind payload) never s m = blind-posted port kind payload s m
blind-step (Signal port flag) never s m = blind-signalled_at port flag s m
blind-step (Assert p v) never s m =
    blind-at p (λ x. answered Done (requested x p v))
    (blind-answered Done (λ x. requested x p v) (blind-requested p v)) s m
blind-step (Absorb p part bits) never s m = blind-at p (λ x. absorbed x p part bits) (blind-absorb p part bits) s m
blind-step (Store address bytes) never s m = absurd (cc)
blind-step (Load address count) never s m = absurd (cc)
blind-step (Tick moment) never s m = blind-ticked moment s m
blind-step (Take p) never s m = blind-at p (λ x. taken x p) (blind-taken p) s m
blind-step (Suspend p) never s m = blind-at p (λ x. suspended x p) (blind-suspended p) s m
blind-step (Resume p) never s m = blind-at p (λ x. resumed x p) (blind-resumed p) s m
blind-step (Reset p) never s m = blind-at p (λ x. reset x p) (blind-reset p) s m
blind-step (Send v mask) never s m = blind-sent v mask s m

-- a board that holds no pages
empty-completed : (s : State) (m : Memory) (e : Event) → AreAllPages m
    → step (holding s m) e ≡ completed m e (step (holding s []) e)
unfolding step
empty-completed s m (Store address bytes) all =
    let bad = (length bytes.items == 0) || nat_lt 8 (length bytes.items) in
    let crosses = nat_lt 4096 (address % 4096 + length bytes.items) in
    let o = visible (space_of s) (address / 4096) in
    ap (λ n. store_by (holding s m) address bytes.items bad
    (nat_lt (address / 4096) (if n == 0 then 2 ^ 52 else n)) crosses o (n == 0)) all
    ∙ store-completed s m address bytes bad (nat_lt (address / 4096) (2 ^ 52)) crosses o
empty-completed s m (Load address count) all =
    let bad = (count == 0) || nat_lt 8 count in
    let crosses = nat_lt 4096 (address % 4096 + count) in
    let o = visible (space_of s) (address / 4096) in
    ap (λ n. load_by (holding s m) address count bad
    (nat_lt (address / 4096) (if n == 0 then 2 ^ 52 else n)) crosses o (n == 0)) all
    ∙ load-completed s m address count bad (nat_lt (address / 4096) (2 ^ 52)) crosses o
empty-completed s m e all = blind-step e refl (holding s []) m

empty-stays : (s : State) (e : Event) → (step (holding s []) e).0.pages ≡ []
unfolding step
empty-stays s (Store address bytes) =
    store-sparse s address bytes ((length bytes.items == 0) || nat_lt 8 (length bytes.items))
    (nat_lt (address / 4096) (2 ^ 52)) (nat_lt 4096 (address % 4096 + length bytes.items))
    (visible (space_of s) (address / 4096))
empty-stays s (Load address count) = refl
empty-stays s e = ap (λ (o : Outcome). o.0.pages) (blind-step e refl (holding s []) [])

pub stays_sparse : (s : State) (e : Event) → s.pages ≡ [] → (step s e).0.pages ≡ []
stays_sparse s e none = (λ i. (step (record s { pages = none i }) e).0.pages) ∙ empty-stays s e

pub step_completed : (s : State) (m : Memory) (e : Event) → s.pages ≡ [] → AreAllPages m
    → step (holding s m) e ≡ completed m e (step s e)
step_completed s m e none all =
    empty-completed s m e all ∙ (λ i. completed m e (step (record s { pages = sym none i }) e))

-- what is completed is the state of the sparse board, with all pages
splits : (m : Memory) (e : Event) (o : Outcome) → (completed m e o).0 ≡ holding o.0 (completed m e o).0.pages
splits m (Store address bytes) o =
    either (λ (x : Outcome). x.0 ≡ holding o.0 x.0.pages) (is_callers_access o.1) _ _ (λ _. refl) (λ _. refl)
splits m (Load address count) o =
    either (λ (x : Outcome). x.0 ≡ holding o.0 x.0.pages) (is_callers_access o.1) _ _ (λ _. refl) (λ _. refl)
splits m e o = refl

still-all : (m : Memory) (e : Event) (o : Outcome) → AreAllPages m → AreAllPages (completed m e o).0.pages
still-all m (Store address bytes) o all =
    either (λ (x : Outcome). AreAllPages x.0.pages) (is_callers_access o.1) _ _
    (λ _. length-set m (address / 4096) _ ∙ all) (λ _. all)
still-all m (Load address count) o all =
    either (λ (x : Outcome). AreAllPages x.0.pages) (is_callers_access o.1) _ _ (λ _. all) (λ _. all)
still-all m e o all = all

pub run_completed : (s : State) (m : Memory) (es : List Event) → s.pages ≡ [] → AreAllPages m
    → run_of (holding s m) es ≡ completed_run s m es
unfolding run_of completed_run
run_completed s m [] none all = refl
run_completed s m (e ∷ es) none all =
    let o = completed m e (step s e) in
    ap (λ (x : Outcome). followed_by x (run_of x.0 es)) (step_completed s m e none all)
    ∙ ap (followed_by o) (ap (λ x. run_of x es) (splits m e (step s e))
    ∙ run_completed (step s e).0 o.0.pages es (stays_sparse s e none) (still-all m e (step s e) all))
