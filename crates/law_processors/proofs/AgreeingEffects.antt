-- States that agree in what processor q has: an effect of q does the same in both.
use Rattle.std.proofs.Common.{◌≡◌, ℕ, zero, suc, ◌+◌, ◌*◌, ◌<◌, ◌≤◌, ◌==◌, ◌&&◌, Bool, false, nat_lt, List, [], ◌∷◌, length, map, Option, None, Some, set, refl, sym, ap, ◌∙◌, subst, arith}
use Rattle.std.specs.Prelude.{if◌then◌else◌, cond}
use Rattle.std.specs.Option.{option_map_or}
use Rattle.board_terms.specs.Messages.{ticket_of}
use Rattle.board_terms.specs.declared.messages.Message.{Message}
use Rattle.board_terms.specs.declared.notices.Notice.TheVariants.{Pending, Withdrawn}
use Rattle.board_terms.specs.declared.pages.Kind.TheVariants as kind
use Rattle.lapic_core.specs.Apic.{empty_apic}
use Rattle.synic_regs.specs.Regs.{Regs, has, enable, reset_regs}
use Rattle.message_queues.specs.Queues.{queue_of, withdrawn_of, left_of}
use Rattle.message_queues.specs.Image.{image, slot_type}
use Rattle.stimer_bank.specs.Bank.{idle_timer, with_timer}
use Rattle.gpa_space.specs.Page.{zero_page, is_set, with_slot, with_bit, pending_place}
use Rattle.gpa_space.specs.Space.{own_page, overlay_of}
use Rattle.synic_board.specs.State.{State, space_of, slot_of, bank_of, with_apic, with_regs, with_bank}
use Rattle.synic_board.specs.Effects.{Effect, nothing, after}
use Rattle.synic_board.specs.Interrupts.{requested, raised}
use Rattle.synic_board.specs.Absorbing.{is_posted, absorbed_bit, absorbed_below}
use Rattle.synic_board.specs.Delivery.{delivers, is_slot_empty, with_image, with_messages, placed_head, placed, marked, tried, tried_below}
use Rattle.synic_board.specs.Posts.{withdrawn}
use Rattle.synic_board.specs.Stores.{consumed_ticket, consumed, consumed_below}
use Rattle.synic_board.specs.Resetting.{withdrawn_ticket, slot_emptied, queue_emptied, source_emptied, emptied_below, cleared}
use Rattle.law_processors.proofs.Agreeing.{Same, Both, twice, both-after, own-same, same-apic, same-regs, same-mark, same-own, same-queue, same-slot, same-timer, both-requested, both-raised}

pub queue-same : (q : ℕ) (s t : State) → Same q s t → (i : ℕ) → i < 16 → queue_of t.queues q i ≡ queue_of s.queues q i
queue-same q s t h i low = h.queues.1 (16 * q + i) (omega arith)

slot-same : (q : ℕ) (s t : State) → Same q s t → (i : ℕ) → i < 16 → slot_of t q i ≡ slot_of s q i
slot-same q s t h i low = h.slots.1 (16 * q + i) (omega arith)

empty-same : (q : ℕ) (s t : State) → Same q s t → (i : ℕ) → is_slot_empty t q i ≡ is_slot_empty s q i
empty-same q s t h i = ap (λ (page : List ℕ). slot_type page i == 0) (own-same q s t h kind.Sim)

delivers-same : (q : ℕ) (s t : State) → Same q s t → delivers t q ≡ delivers s q
delivers-same q s t h = ap (λ (r : Regs). has r.control enable && has r.sim enable) (h.regs.1 q refl)

module _ (q : ℕ) where
  -- delivery
  both-placed : (s t : State) → Same q s t → (i : ℕ) → (messages : List Message)
      → Both q (placed_head s q i messages) (placed_head t q i messages)
  both-placed s t h i [] = (h, refl)
  both-placed s t h i (m ∷ rest) =
      let more : Bool = nat_lt 0 (length rest) in
      let here : List ℕ → ℕ → List ℕ = λ page moment. with_slot page i (image m more moment) in
      let imaged = same-own q s t h (2 * q) (here (own_page (space_of s) q kind.Sim) s.moment)
      (here (own_page (space_of t) q kind.Sim) t.moment)
      (ap (λ page. here page t.moment) (own-same q s t h kind.Sim)
      ∙ ap (here (own_page (space_of s) q kind.Sim)) h.moment) in
      let queued = same-queue q (with_image s q i m more) (with_image t q i m more) imaged i rest rest refl in (
        same-slot q (with_messages (with_image s q i m more) q i rest)
            (with_messages (with_image t q i m more) q i rest) queued i (Some (ticket_of m)),
        refl,
      )

  both-marked : (s t : State) → Same q s t → (i : ℕ) → Both q (marked s q i) (marked t q i)
  both-marked s t h i =
      let e = own-same q s t h kind.Sim in (
        same-own q s t h (2 * q) (with_bit (own_page (space_of s) q kind.Sim) (pending_place i) 0)
            (with_bit (own_page (space_of t) q kind.Sim) (pending_place i) 0)
            (ap (λ (page : List ℕ). with_bit page (pending_place i) 0) e),
        ap (λ (page : List ℕ). if is_set page (pending_place i) 0 then [] else Pending q i ∷ []) e,
      )

  pub both-tried : (s t : State) → Same q s t → (i : ℕ) → i < 16 → Both q (tried s q i) (tried t q i)
  unfolding tried
  both-tried s t h i low =
      let e : Effect = placed s q i in
      let f : Effect = placed t q i in
      let is = queue-same q s t h i low in
      let heads : Both q e f =
      subst (λ (messages : List Message). Both q e (placed_head t q i messages)) (sym is)
      (both-placed s t h i (queue_of s.queues q i)) in
      twice (Both q) (delivers s q && nat_lt 0 (length (queue_of s.queues q i)))
      (delivers t q && nat_lt 0 (length (queue_of t.queues q i)))
      (cond (is_slot_empty s q i) (after e (raised e.0 q i)) (marked s q i)) (nothing s)
      (cond (is_slot_empty t q i) (after f (raised f.0 q i)) (marked t q i)) (nothing t)
      (ap (λ b. b && nat_lt 0 (length (queue_of t.queues q i))) (delivers-same q s t h)
      ∙ ap (λ (messages : List Message). delivers s q && nat_lt 0 (length messages)) is)
      (λ _. twice (Both q) (is_slot_empty s q i) (is_slot_empty t q i) (after e (raised e.0 q i)) (marked s q i)
      (after f (raised f.0 q i)) (marked t q i) (empty-same q s t h i)
      (λ _. both-after q e (raised e.0 q i) f (raised f.0 q i) heads (both-raised q e.0 f.0 heads.0 i))
      (λ _. both-marked s t h i)) (λ _. (h, refl))

  pub both-tried_below : (s t : State) → Same q s t → (n : ℕ) → n ≤ 16 → Both q (tried_below s q n) (tried_below t q n)
  unfolding tried_below
  both-tried_below s t h zero low = (h, refl)
  both-tried_below s t h (suc i) low =
      let e : Effect = tried_below s q i in
      let f : Effect = tried_below t q i in
      let both = both-tried_below s t h i (omega arith) in
      both-after q e (tried e.0 q i) f (tried f.0 q i) both (both-tried e.0 f.0 both.0 i (omega arith))

  -- posted vectors
  pub both-absorbed_below : (s t : State) → Same q s t → (part bits n : ℕ)
      → Both q (absorbed_below s q part bits n) (absorbed_below t q part bits n)
  unfolding absorbed_below
  both-absorbed_below s t h part bits zero = (h, refl)
  both-absorbed_below s t h part bits (suc i) =
      let e : Effect = absorbed_below s q part bits i in
      let f : Effect = absorbed_below t q part bits i in
      let both = both-absorbed_below s t h part bits i in
      both-after q e (absorbed_bit e.0 q part bits i) f (absorbed_bit f.0 q part bits i) both
      (twice (Both q) (is_posted part bits i) (is_posted part bits i) (requested e.0 q (64 * part + i)) (nothing e.0)
      (requested f.0 q (64 * part + i)) (nothing f.0) refl (λ _. both-requested q e.0 f.0 both.0 (64 * part + i))
      (λ _. (both.0, refl)))

  -- consumption
  both-ticket : (s t : State) → Same q s t → (i : ℕ) (o : Option ℕ)
      → Both q (consumed_ticket s q i o) (consumed_ticket t q i o)
  both-ticket s t h i None = (h, refl)
  both-ticket s t h i (Some ticket) = (same-slot q s t h i None, refl)

  both-consumed : (s t : State) → Same q s t → (i : ℕ) → i < 16 → Both q (consumed s q i) (consumed t q i)
  unfolding consumed
  both-consumed s t h i low = twice (Both q) (is_slot_empty s q i) (is_slot_empty t q i)
      (consumed_ticket s q i (slot_of s q i)) (nothing s) (consumed_ticket t q i (slot_of t q i)) (nothing t)
      (empty-same q s t h i)
      (λ _. subst (λ (o : Option ℕ). Both q (consumed_ticket s q i (slot_of s q i)) (consumed_ticket t q i o))
      (sym (slot-same q s t h i low)) (both-ticket s t h i (slot_of s q i))) (λ _. (h, refl))

  pub both-consumed_below : (s t : State) → Same q s t → (n : ℕ) → n ≤ 16
      → Both q (consumed_below s q n) (consumed_below t q n)
  unfolding consumed_below
  both-consumed_below s t h zero low = (h, refl)
  both-consumed_below s t h (suc i) low =
      let e : Effect = consumed_below s q i in
      let f : Effect = consumed_below t q i in
      let both = both-consumed_below s t h i (omega arith) in
      both-after q e (consumed e.0 q i) f (consumed f.0 q i) both (both-consumed e.0 f.0 both.0 i (omega arith))

  -- withdrawal
  pub both-withdrawn : (s t : State) → Same q s t → (i port : ℕ) → i < 16
      → Both q (withdrawn s q i port) (withdrawn t q i port)
  both-withdrawn s t h i port low =
      let is = queue-same q s t h i low in (
        same-queue q s t h i (left_of port (queue_of s.queues q i)) (left_of port (queue_of t.queues q i))
            (ap (left_of port) is),
        ap (λ (messages : List Message). map (λ ticket. Withdrawn q i ticket) (withdrawn_of port messages)) is,
      )

  both-slot_emptied : (s t : State) → Same q s t → (i : ℕ) → i < 16 → Both q (slot_emptied s q i) (slot_emptied t q i)
  both-slot_emptied s t h i low =
      subst (λ (o : Option ℕ). Both q (slot_emptied s q i) (option_map_or (withdrawn_ticket t q i) o (nothing t)))
      (sym (slot-same q s t h i low)) (by (slot_of s q i))
    where
      by : (o : Option ℕ)
          → Both q (option_map_or (withdrawn_ticket s q i) o (nothing s))
          (option_map_or (withdrawn_ticket t q i) o (nothing t))
      by None = (h, refl)
      by (Some ticket) = (same-slot q s t h i None, refl)

  both-queue_emptied : (s t : State) → Same q s t → (i : ℕ) → i < 16
      → Both q (queue_emptied s q i) (queue_emptied t q i)
  both-queue_emptied s t h i low = (
    same-queue q s t h i [] [] refl,
    ap (λ (messages : List Message). map (λ ticket. Withdrawn q i ticket) (map ticket_of messages))
        (queue-same q s t h i low),
  )

  pub both-emptied_below : (s t : State) → Same q s t → (n : ℕ) → n ≤ 16
      → Both q (emptied_below s q n) (emptied_below t q n)
  unfolding emptied_below
  both-emptied_below s t h zero low = (h, refl)
  both-emptied_below s t h (suc i) low =
      let e : Effect = emptied_below s q i in
      let f : Effect = emptied_below t q i in
      let g : Effect = slot_emptied e.0 q i in
      let k : Effect = slot_emptied f.0 q i in
      let both = both-emptied_below s t h i (omega arith) in
      let slots = both-slot_emptied e.0 f.0 both.0 i (omega arith) in
      both-after q e (source_emptied e.0 q i) f (source_emptied f.0 q i) both
      (both-after q g (queue_emptied g.0 q i) k (queue_emptied k.0 q i) slots
      (both-queue_emptied g.0 k.0 slots.0 i (omega arith)))

  pub same-cleared : (s t : State) → Same q s t → Same q (cleared s q) (cleared t q)
  same-cleared s t h =
      let a : State → State = λ x. with_apic x q empty_apic in
      let b : State → State = λ x. with_regs (a x) q reset_regs in
      let c : State → State = λ x. record (b x) { own = set x.own (overlay_of q kind.Sim) zero_page } in
      let d : State → State = λ x. record (c x) { own = set (c x).own (overlay_of q kind.Sief) zero_page } in
      let e : State → State = λ x. with_bank (d x) (with_timer (bank_of x) (q, 0) idle_timer) in
      let f : State → State = λ x. with_bank (e x) (with_timer (bank_of (e x)) (q, 1) idle_timer) in
      let g : State → State = λ x. with_bank (f x) (with_timer (bank_of (f x)) (q, 2) idle_timer) in
      let k : State → State = λ x. with_bank (g x) (with_timer (bank_of (g x)) (q, 3) idle_timer) in
      let ha = same-apic q s t h empty_apic empty_apic refl in
      let hb = same-regs q (a s) (a t) ha reset_regs reset_regs refl in
      let hc = same-own q (b s) (b t) hb (overlay_of q kind.Sim) zero_page zero_page refl in
      let hd = same-own q (c s) (c t) hc (overlay_of q kind.Sief) zero_page zero_page refl in
      let he = same-timer q (d s) (d t) hd 0 idle_timer idle_timer refl in
      let hf = same-timer q (e s) (e t) he 1 idle_timer idle_timer refl in
      let hg = same-timer q (f s) (f t) hf 2 idle_timer idle_timer refl in
      let hk = same-timer q (g s) (g t) hg 3 idle_timer idle_timer refl in
      same-mark q (k s) (k t) hk false
