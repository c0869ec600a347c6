-- Effects that look at no local APIC, on a board whose local APICs are changed.
use Rattle.std.proofs.Common.{◌≡◌, ℕ, zero, suc, ◌+◌, ◌*◌, ◌==◌, Bool, true, false, ◌&&◌, nat_lt, List, [], ◌∷◌, Option, None, Some}
use Rattle.std.specs.Prelude.{length, if◌then◌else◌}
use Rattle.std.specs.Option.{option_map_or}
use Rattle.std.specs.Int.{bit_at}
use Rattle.board_terms.specs.Quantities.{TimerId}
use Rattle.board_terms.specs.declared.messages.Message.{Message}
use Rattle.board_terms.specs.declared.messages.Message.TheVariants.{FromTimer}
use Rattle.board_terms.specs.declared.pages.Owner.{Owner}
use Rattle.board_terms.specs.declared.pages.Owner.TheVariants as owners
use Rattle.message_queues.specs.Queues.{queue_of}
use Rattle.lapic_core.specs.Apic.{Apic, with_task_priority, after_end}
use Rattle.stimer_bank.specs.declared.timer.Mode.{Mode}
use Rattle.stimer_bank.specs.declared.timer.Mode.TheVariants.{Direct, Posted}
use Rattle.synic_board.specs.State.{State, apic_of, regs_of, slot_of, with_apic}
use Rattle.synic_board.specs.Effects.{Effect, nothing, after}
use Rattle.synic_board.specs.Interrupts.{requested, raised}
use Rattle.synic_board.specs.Delivery.{delivers, is_slot_empty, placed_head, placed, marked, tried, tried_below, accepted, delivered}
use Rattle.synic_board.specs.Suspending.{is_suspended, with_suspension}
use Rattle.synic_board.specs.Resetting.{withdrawn_ticket, slot_emptied, queue_emptied, source_emptied, emptied_below}
use Rattle.synic_board.specs.Stores.{consumed_ticket, consumed, consumed_below, consumed_in}
use Rattle.synic_board.specs.Absorbing.{is_posted, absorbed_bit, absorbed_below}
use Rattle.synic_board.specs.Sending.{sent_to, sent_below}
use Rattle.synic_board.specs.Timers.{is_ready, mode_at, delivery_by, signalled_by, expired_state, expiry_at, expiry_notices, fired, attempted, attempted_until}
use Rattle.synic_regs.specs.Regs.{raised_by}

-- a change of the local APICs, and what is compared of an effect on the changed board and of that on the board
pub record Change : Type 0 where
  pub apics : List Apic → List Apic
  pub left : Effect → Effect
  pub right : Effect → Effect

abbrev pub changed : Change → State → State
changed c s = record s { apics = c.apics s.apics }

abbrev pub Carries : Change → (State → Effect) → Type 0
Carries c f = (s : State) → c.left (f (changed c s)) ≡ c.right (f s)

-- what is to be shown of a change, for all events to be carried
pub record IsCarried (c : Change) : Type 0 where
  -- an effect that leaves the local APICs
  pub kept : (e : Effect) → c.left (changed c e.0, e.1) ≡ c.right e
  -- one after another
  pub joined : (f g : State → Effect) → Carries c f → Carries c g → Carries c (λ s. after (f s) (g (f s).0))
  -- what an event does to a local APIC
  pub requests : (p v : ℕ) → Carries c (λ s. requested s p v)
  pub ends : (p : ℕ) → Carries c (λ s. (with_apic s p (after_end (apic_of s p)), []))
  pub priorities : (p value : ℕ) → Carries c (λ s. (with_apic s p (with_task_priority (apic_of s p) value), []))
  pub suspensions : (p : ℕ) (mark : Bool) → Carries c (λ s. (with_suspension s p mark, []))
  -- what an event asks of it
  pub marks : (s : State) (p : ℕ) → is_suspended (changed c s) p ≡ is_suspended s p
  pub count : (apics : List Apic) → length (c.apics apics) ≡ length apics

module _ (c : Change) (k : IsCarried c) where
  abbrev h : State → State
  h s = changed c s

  abbrev L : Effect → Effect
  L e = c.left e

  abbrev R : Effect → Effect
  R e = c.right e

  -- either of two
  carried-either : (s : State) (b : Bool) (f g : State → Effect) → L (f (h s)) ≡ R (f s) → L (g (h s)) ≡ R (g s)
      → L (if b then f (h s) else g (h s)) ≡ R (if b then f s else g s)
  carried-either s true f g p q = p
  carried-either s false f g p q = q

  carried-nothing : (s : State) → L (nothing (h s)) ≡ R (nothing s)
  carried-nothing s = k.kept (nothing s)

  pub carried-raised : (p i : ℕ) → Carries c (λ s. raised s p i)
  carried-raised p i s = by (raised_by (regs_of s p) i)
    where
      by : (o : Option ℕ) → L (option_map_or (requested (h s) p) o (nothing (h s)))
          ≡ R (option_map_or (requested s p) o (nothing s))
      by None = carried-nothing s
      by (Some v) = k.requests p v s

  carried-absorbed_bit : (p part bits i : ℕ) → Carries c (λ s. absorbed_bit s p part bits i)
  carried-absorbed_bit p part bits i s =
      carried-either s (is_posted part bits i) (λ s. requested s p (64 * part + i)) nothing
      (k.requests p (64 * part + i) s) (carried-nothing s)

  pub carried-absorbed : (p part bits n : ℕ) → Carries c (λ s. absorbed_below s p part bits n)
  unfolding absorbed_below
  carried-absorbed p part bits zero s = carried-nothing s
  carried-absorbed p part bits (suc n) s =
      k.joined (λ x. absorbed_below x p part bits n) (λ x. absorbed_bit x p part bits n)
      (carried-absorbed p part bits n) (carried-absorbed_bit p part bits n) s

  carried-sent_to : (v mask p : ℕ) → Carries c (λ s. sent_to s v mask p)
  carried-sent_to v mask p s =
      carried-either s (bit_at mask p == 1) (λ s. requested s p v) nothing (k.requests p v s) (carried-nothing s)

  pub carried-sent_below : (v mask n : ℕ) → Carries c (λ s. sent_below s v mask n)
  unfolding sent_below
  carried-sent_below v mask zero s = carried-nothing s
  carried-sent_below v mask (suc p) s =
      k.joined (λ x. sent_below x v mask p) (λ x. sent_to x v mask p) (carried-sent_below v mask p)
      (carried-sent_to v mask p) s

  -- delivery
  carried-placed : (p i : ℕ) → Carries c (λ s. placed s p i)
  carried-placed p i s = by (queue_of s.queues p i)
    where
      by : (q : List Message) → L (placed_head (h s) p i q) ≡ R (placed_head s p i q)
      by [] = carried-nothing s
      by (x ∷ q) = k.kept (placed_head s p i (x ∷ q))

  carried-tried : (p i : ℕ) → Carries c (λ s. tried s p i)
  unfolding tried
  carried-tried p i s = carried-either s (delivers s p && nat_lt 0 (length (queue_of s.queues p i)))
      (λ x. if is_slot_empty x p i then after (placed x p i) (raised (placed x p i).0 p i) else marked x p i) nothing
      (carried-either s (is_slot_empty s p i) (λ x. after (placed x p i) (raised (placed x p i).0 p i))
      (λ x. marked x p i)
      (k.joined (λ x. placed x p i) (λ x. raised x p i) (carried-placed p i) (carried-raised p i) s)
      (k.kept (marked s p i)))
      (carried-nothing s)

  pub carried-tried_below : (p n : ℕ) → Carries c (λ s. tried_below s p n)
  unfolding tried_below
  carried-tried_below p zero s = carried-nothing s
  carried-tried_below p (suc n) s =
      k.joined (λ x. tried_below x p n) (λ x. tried x p n) (carried-tried_below p n) (carried-tried p n) s

  pub carried-delivered : (p i : ℕ) (x : Message) → Carries c (λ s. delivered s p i x)
  carried-delivered p i x s =
      k.joined (λ s. accepted s p i x) (λ s. tried s p i) (λ s. k.kept (accepted s p i x)) (carried-tried p i) s

  -- timers
  carried-delivery : (t : TimerId) (mode : Mode) (d : ℕ) → Carries c (λ s. delivery_by s t mode d)
  carried-delivery t (Direct v) d s = k.requests t.0 v s
  carried-delivery t (Posted i) d s = carried-delivered t.0 i (FromTimer s.next_ticket t d) s

  carried-signalled : (t : TimerId) (mode : Mode) (o : Option ℕ) → Carries c (λ s. signalled_by s t mode o)
  carried-signalled t mode None s = carried-nothing s
  carried-signalled t mode (Some d) s = carried-delivery t mode d s

  carried-fired : (t : TimerId) (mode : Mode) → Carries c (λ s. fired s t mode)
  carried-fired t mode s =
      k.joined (λ x. (expired_state x t, expiry_notices t (expiry_at x t).signal (expiry_at x t).skipped))
      (λ x. signalled_by x t mode (expiry_at s t).signal)
      (λ x. k.kept (expired_state x t, expiry_notices t (expiry_at x t).signal (expiry_at x t).skipped))
      (carried-signalled t mode (expiry_at s t).signal) s

  pub carried-attempted : (t : TimerId) → Carries c (λ s. attempted s t)
  unfolding attempted
  carried-attempted t s =
      carried-either s (is_ready s t) (λ x. fired x t (mode_at x t)) nothing (carried-fired t (mode_at s t) s)
      (carried-nothing s)

  pub carried-attempted_until : (n : ℕ) (ts : List TimerId) → Carries c (λ s. attempted_until n s ts)
  unfolding attempted_until
  carried-attempted_until zero ts s = carried-nothing s
  carried-attempted_until (suc n) [] s = carried-nothing s
  carried-attempted_until (suc n) (t ∷ ts) s =
      let left = if is_ready s t then n else suc n in
      k.joined (λ x. attempted x t) (λ x. attempted_until left x ts) (carried-attempted t)
      (carried-attempted_until left ts) s

  -- resetting
  carried-slot : (p i : ℕ) → Carries c (λ s. slot_emptied s p i)
  carried-slot p i s = by (slot_of s p i)
    where
      by : (o : Option ℕ) → L (option_map_or (withdrawn_ticket (h s) p i) o (nothing (h s)))
          ≡ R (option_map_or (withdrawn_ticket s p i) o (nothing s))
      by None = carried-nothing s
      by (Some t) = k.kept (withdrawn_ticket s p i t)

  pub carried-emptied : (p n : ℕ) → Carries c (λ s. emptied_below s p n)
  unfolding emptied_below
  carried-emptied p zero s = carried-nothing s
  carried-emptied p (suc n) s = k.joined (λ x. emptied_below x p n) (λ x. source_emptied x p n) (carried-emptied p n)
      (k.joined (λ x. slot_emptied x p n) (λ x. queue_emptied x p n) (carried-slot p n)
      (λ x. k.kept (queue_emptied x p n))) s

  -- messages that a store consumes
  carried-consumed : (p i : ℕ) → Carries c (λ s. consumed s p i)
  unfolding consumed
  carried-consumed p i s =
      carried-either s (is_slot_empty s p i) (λ x. consumed_ticket x p i (slot_of x p i)) nothing (by (slot_of s p i))
      (carried-nothing s)
    where
      by : (o : Option ℕ) → L (consumed_ticket (h s) p i o) ≡ R (consumed_ticket s p i o)
      by None = carried-nothing s
      by (Some t) = k.kept (consumed_ticket s p i (Some t))

  carried-consumed_below : (p n : ℕ) → Carries c (λ s. consumed_below s p n)
  unfolding consumed_below
  carried-consumed_below p zero s = carried-nothing s
  carried-consumed_below p (suc n) s =
      k.joined (λ x. consumed_below x p n) (λ x. consumed x p n) (carried-consumed_below p n) (carried-consumed p n) s

  pub carried-consumed_in : (owner : Owner) → Carries c (λ s. consumed_in s owner)
  carried-consumed_in owners.Guest s = carried-nothing s
  carried-consumed_in (owners.Sim p) s = carried-consumed_below p 16 s
  carried-consumed_in (owners.Sief p) s = carried-nothing s
  carried-consumed_in owners.Nothing s = carried-nothing s
