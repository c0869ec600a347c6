-- A message that waits after an attempt: its slot is occupied, and has MessagePending.
use Rattle.std.proofs.Common.{◌≡◌, ◌≢◌, ◌⊎◌, inl, inr, ℕ, zero, suc, ◌+◌, ◌*◌, ◌<◌, ◌≤◌, Bool, true, false, ◌&&◌, nat_lt, List, [], ◌∷◌, length, get_or, set, Option, None, Some, Ok, Err, refl, sym, ap, ◌∙◌, subst, arith, All}
use Rattle.std.specs.Prelude.{◌==◌, bit_or, if◌then◌else◌}
use Rattle.std.specs.Int.{bit_at}
use Rattle.std.specs.FinSet.{contains}
use Rattle.std.specs.Option.{option_map_or}
use Rattle.std.proofs.lemmas.Bool.{cases_eq, and_parts}
use Rattle.std.proofs.lemmas.Bool.Decides.{nat_tests}
use Rattle.std.proofs.lemmas.List.{get_or-set_same}
use Rattle.std.proofs.lemmas.Nat.Bits.{bit_at_or, bit_at-lt}
use Rattle.arrayvec.specs.ArrayVec.{ArrayVec}
use Rattle.board_terms.specs.Sources.{source_number}
use Rattle.board_terms.specs.declared.messages.Message.{Message}
use Rattle.board_terms.specs.declared.messages.Message.TheVariants.{FromPort, FromTimer}
use Rattle.board_terms.specs.declared.messages.PortShape.{PortShape}
use Rattle.board_terms.specs.declared.messages.PortShape.TheVariants.{Messages, Flags}
use Rattle.board_terms.specs.declared.refusal.Refusal.{Refusal}
use Rattle.board_terms.specs.declared.refusal.Refusal.TheVariants.{UnknownPort, BadType}
use Rattle.event_ports.specs.declared.ports.Port.{Port}
use Rattle.event_ports.specs.Ports.{port_at, is_posted_type, message_target_at}
use Rattle.gpa_space.specs.Page.{is_set, with_bit, with_slot, pending_place}
use Rattle.gpa_space.specs.Space.{is_pending}
use Rattle.message_queues.specs.Queues.{queue_of}
use Rattle.message_queues.specs.Image.{image}
use Rattle.message_queues.proofs.WrittenSlots.{length-image, inside}
use Rattle.synic_regs.specs.Regs.{raised_by}
use Rattle.synic_regs.specs.declared.register.Register.TheVariants.{Eom}
use Rattle.synic_regs.specs.Registers.{register_of}
use Rattle.synic_board.specs.declared.event.Event.TheVariants.{Write}
use Rattle.synic_board.specs.declared.event.Reply.TheVariants.{Accepted}
use Rattle.synic_board.specs.Step.{step}
use Rattle.synic_board.specs.State.{State, processors, apic_of, ports_of, regs_of, space_of}
use Rattle.synic_board.specs.Effects.{Effect, Outcome, nothing, answered, refused}
use Rattle.synic_board.specs.Interrupts.{requested, raised}
use Rattle.synic_board.specs.Delivery.{delivers, is_slot_empty, placed_head, placed, tried, tried_below, accepted, delivered}
use Rattle.synic_board.specs.Posts.{post_refusal, posted_at, posted}
use Rattle.synic_board.specs.Slots.{slot_byte}
use Rattle.synic_board.specs.Sound.{IsSound, IsMessage}
use Rattle.synic_board.proofs.keeping.Attempts.{marked-type, keeps-tried_below}
use Rattle.synic_board.proofs.keeping.Placements.{page_of, image_of, page-long, queue-good, tail-good, occupied}
use Rattle.synic_board.proofs.keeping.Requests.{either}
use Rattle.synic_board.proofs.keeping.Wholes.{IsIntact, kept_from_sound}
use Rattle.live_board.specs.Live.{is_waiting}
use Rattle.live_board.proofs.Ended.{aside-tried, bytes-tried, same-empty}
use Rattle.live_board.proofs.Posted.{accepted-whole, some-kind, small-kind}
use Rattle.live_board.proofs.Tried.{pages-tried}

-- if a message waits for a source, its slot is occupied and has MessagePending
pub record IsSeen (s : State) (p i : ℕ) : Type 0 where
  pub occupied : is_slot_empty s p i ≡ false
  pub pending : is_pending (space_of s) p i ≡ true

abbrev pub WaitsSeen : State → ℕ → ℕ → Type 0
WaitsSeen s p i = is_waiting s p i ≡ true → IsSeen s p i

-- raising a vector changes none of this
alike-requested : (s : State) (q v p i : ℕ) → WaitsSeen s p i → WaitsSeen (requested s q v).0 p i
alike-requested s q v p i h =
    either (λ (e : Effect). WaitsSeen e.0 p i) (contains (apic_of s q).requested v) _ _ (λ _. h)
    (λ _ w. record { occupied = (h w).occupied; pending = (h w).pending })

alike-raised : (s : State) (q j p i : ℕ) → WaitsSeen s p i → WaitsSeen (raised s q j).0 p i
alike-raised s q j p i h =
    elim (raised_by (regs_of s q) j) as
    (λ o. WaitsSeen (option_map_or (requested s q) o (nothing s)).0 p i) [
      | None ↦ h
      | Some v ↦
          alike-requested s q v p i h
    ]

pending-byte : (m : Message) (moment : ℕ) → get_or (image m true moment) 5 0 ≡ 1
unfolding image
pending-byte (FromPort ticket port kind payload) moment = refl
pending-byte (FromTimer ticket timer expiration) moment = refl

pending-written : (page : List ℕ) (i : ℕ) (m : Message) (pending : Bool) (moment : ℕ) → length page ≡ 4096 → i < 16
    → length (image m pending moment) ≡ 256 → pending ≡ true
    → is_set (with_slot page i (image m pending moment)) (pending_place i) 0 ≡ true
pending-written page i m pending moment long under size is =
    ap (λ b. bit_at b 0 == 1)
    (inside page (image m pending moment) i 5 (omega (arith, long, under)) (omega (arith, size))
    ∙ ap (λ b. get_or (image m b moment) 5 0) is ∙ pending-byte m moment)

set-bit : (n : ℕ) → bit_at (bit_or n 1) 0 ≡ 1
set-bit n = let h = bit_at_or n 1 0 in let k = bit_at-lt n 0 in omega (arith, h, k)

pending-marked : (page : List ℕ) (i : ℕ) → length page ≡ 4096 → i < 16
    → is_set (with_bit page (pending_place i) 0) (pending_place i) 0 ≡ true
pending-marked page i long under =
    ap (λ b. bit_at b 0 == 1)
    (get_or-set_same page (256 * i + 5) (bit_or (get_or page (256 * i + 5) 0) 1) 0 (omega (arith, long, under)))
    ∙ ap (λ b. b == 1) (set-bit (get_or page (256 * i + 5) 0))

-- the message page that was written
own : (n : ℕ) (s : State) (p : ℕ) (page : List ℕ) → IsIntact n s → p < n
    → get_or (set s.own (2 * p) page) (2 * p) [] ≡ page
own n s p page h below = get_or-set_same s.own (2 * p) page [] (omega (arith, h.whole.own, below))

no-length : (q : List Message) → nat_lt 0 (length q) ≡ true → q ≢ []
no-length [] e = absurd (cc)
no-length (m ∷ rest) e = λ z. cc

-- the source that is tried
seen-placed : (n : ℕ) (s : State) (p i : ℕ) → IsIntact n s → p < n → i < 16 → WaitsSeen (placed s p i).0 p i
seen-placed n s p i h below under = head (queue_of s.queues p i) refl
  where
    waits : (t : State) → queue_of t.queues p i ≡ [] → WaitsSeen t p i
    waits t none w = absurd (no-length (queue_of t.queues p i) (and_parts (delivers t p) _ w).1 none)

    head : (q : List Message) → queue_of s.queues p i ≡ q → WaitsSeen (placed_head s p i q).0 p i
    head [] is = waits s is
    head (m ∷ []) is =
        waits (placed_head s p i (m ∷ [])).0
        (get_or-set_same s.queues (source_number p i) [] [] (omega (arith, h.whole.queues, below, under)))
    head (m ∷ next ∷ rest) is =
        let good = (tail-good m (next ∷ rest)
        (subst (λ q. All IsMessage q) is (queue-good n s p i h.whole below under))).0 in
        let more : nat_lt 0 (length (next ∷ rest)) ≡ true = grind (arith, nat_tests) in
        let bytes : List ℕ = image_of s m (next ∷ rest) in
        let size : length bytes ≡ 256 = length-image m (nat_lt 0 (length (next ∷ rest))) s.moment good.2 in
        let full = occupied n s p i m (next ∷ rest) h below under good in
        λ _. record {
          occupied = grind (arith, nat_tests, full);
          pending = ap (λ page. is_set page (pending_place i) 0) (own n s p (with_slot (page_of s p) i bytes) h below)
              ∙ pending-written (page_of s p) i m (nat_lt 0 (length (next ∷ rest))) s.moment
              (page-long n s p h.whole below) under size more;
        }

pub seen-tried : (n : ℕ) (s : State) (p i : ℕ) → IsIntact n s → p < n → i < 16 → WaitsSeen (tried s p i).0 p i
unfolding tried
seen-tried n s p i h below under =
    let Seen = λ (e : Effect). WaitsSeen e.0 p i in
    either Seen (is_waiting s p i) _ _
    (λ _. either Seen (is_slot_empty s p i) _ _
    (λ _. alike-raised (placed s p i).0 p i p i (seen-placed n s p i h below under))
    (λ full _. record {
      occupied = ap (λ k. k == 0) (marked-type n s p i p i h.whole below) ∙ full;
      pending = ap (λ page. is_set page (pending_place i) 0)
          (own n s p (with_bit (page_of s p) (pending_place i) 0) h below)
          ∙ pending-marked (page_of s p) i (page-long n s p h.whole below) under;
    }))
    (λ idle w. absurd (let e : true ≡ false = sym w ∙ idle in cc))

-- a source waits only if it waited before it was tried
idle-tried : (s : State) (p i : ℕ) → is_waiting (tried s p i).0 p i ≡ true → is_waiting s p i ≡ true
unfolding tried
idle-tried s p i =
    either (λ (e : Effect). is_waiting e.0 p i ≡ true → is_waiting s p i ≡ true) (is_waiting s p i) _ _
    (λ waits _. waits) (λ _ w. w)

-- another source of the processor
same-waiting : (s : State) (p i j : ℕ) → j ≢ i → is_waiting (tried s p i).0 p j ≡ is_waiting s p j
same-waiting s p i j ne =
    let a = aside-tried s p i in (λ k. delivers (record s { regs = a.regs k }) p && nat_lt 0 (length (a.queues j ne k)))

seen-other : (n : ℕ) (s : State) (p i j : ℕ) → IsIntact n s → p < n → i < 16 → j < 16 → j ≢ i → IsSeen s p j
    → IsSeen (tried s p i).0 p j
seen-other n s p i j h on under low ne seen = record {
  occupied = same-empty s now p j same ∙ seen.occupied;
  pending = ap (λ b. bit_at b 0 == 1) (same 5 (omega arith)) ∙ seen.pending;
}
  where
    now : State
    now = (tried s p i).0

    same : (b : ℕ) → b < 256 → slot_byte now p j b ≡ slot_byte s p j b
    same b small =
        bytes-tried s now p i j b (omega (arith, h.whole.own, on)) (page-long n s p h.whole on) under low ne small
        (pages-tried n s p i h.whole on under)

-- attempts at the sources of a processor, in order: what waits then waited before, and is seen
pub record AreSeen (s : State) (p n : ℕ) (now : State) : Type 0 where
  pub before : (i : ℕ) → i < 16 → is_waiting now p i ≡ true → is_waiting s p i ≡ true
  pub seen : (i : ℕ) → i < n → WaitsSeen now p i

seen-next : (s mid : State) (p n : ℕ) → p < processors s → n < 16 → IsIntact (processors s) mid → AreSeen s p n mid
    → AreSeen s p (suc n) (tried mid p n).0
seen-next s mid p n on under intact first = record {
  before = λ i low w. first.before i low (back i w (cases_eq i n));
  seen = λ i low. each i low (cases_eq i n);
}
  where
    back : (i : ℕ) → is_waiting (tried mid p n).0 p i ≡ true → (i ≡ n) ⊎ (i ≢ n) → is_waiting mid p i ≡ true
    back i w (inl e) =
        subst (λ k. is_waiting mid p k ≡ true) (sym e)
        (idle-tried mid p n (subst (λ k. is_waiting (tried mid p n).0 p k ≡ true) e w))
    back i w (inr ne) = sym (same-waiting mid p n i ne) ∙ w

    each : (i : ℕ) → i < suc n → (i ≡ n) ⊎ (i ≢ n) → WaitsSeen (tried mid p n).0 p i
    each i low (inl e) =
        subst (λ k. WaitsSeen (tried mid p n).0 p k) (sym e) (seen-tried (processors s) mid p n intact on under)
    each i low (inr ne) =
        λ w. seen-other (processors s) mid p n i intact on under (omega (arith, low, under)) ne
        (first.seen i (omega (arith, low, ne)) (back i w (inr ne)))

seen-below : (s : State) (p n : ℕ) → IsSound s → p < processors s → n ≤ 16 → AreSeen s p n (tried_below s p n).0
unfolding tried_below
seen-below s p zero h on bound = record { before = λ i _ w. w; seen = λ i low. absurd (omega (arith, low)) }
seen-below s p (suc n) h on bound =
    seen-next s (tried_below s p n).0 p n on (omega (arith, bound))
    (keeps-tried_below (processors s) s p n (kept_from_sound s h) on (omega arith)).kept
    (seen-below s p n h on (omega arith))

-- an EOM
pub eom-seen : (s : State) (p number value : ℕ) → register_of number ≡ Some Eom → IsSound s → p < processors s
    → AreSeen s p 16 (step s (Write p number value)).0
unfolding step
eom-seen s p number value eom h on =
    let there : nat_lt p (processors s) ≡ true = grind (arith, nat_tests) in
    let state : (step s (Write p number value)).0 ≡ (tried_below s p 16).0 = rw (there, eom) refl in
    subst (AreSeen s p 16) (sym state) (seen-below s p 16 h on (omega arith))

-- a post that is accepted
delivered-seen : (s : State) (p i : ℕ) (m : Message) → IsSound s → p < processors s → i < 16 → IsMessage m
    → WaitsSeen (delivered s p i m).0 p i
delivered-seen s p i m h on under good =
    seen-tried (processors s) (accepted s p i m).0 p i
    (record {
      count = refl;
      whole = accepted-whole (processors s) s p i m h.whole on under good;
      empty = h.empty;
    }) on under

pub post-seen : (s : State) (number kind ticket : ℕ) (payload : ArrayVec ℕ) (port : Port)
    → port_at (ports_of s) number ≡ Some port → IsSound s → length payload.items ≤ 240
    → (posted s number kind payload).1 ≡ Accepted ticket
    → WaitsSeen (posted s number kind payload).0 port.vp port.sint
post-seen s number kind ticket payload port is h size =
    subst (λ o. Goes (posted_at s number kind payload
    (option_map_or (λ q. message_target_at kind q q.shape) o (Err UnknownPort)))) (sym is) (shaped port.shape)
  where
    p : ℕ
    p = port.vp

    i : ℕ
    i = port.sint

    Goes : Outcome → Type 0
    Goes o = o.1 ≡ Accepted ticket → WaitsSeen o.0 p i

    no : (r : Refusal) → Goes (refused s r)
    no r e = absurd (cc)

    judged : (o : Option Refusal) → is_posted_type kind ≡ true
        → Goes (option_map_or (refused s) o
        (answered (Accepted s.next_ticket) (delivered s p i (FromPort s.next_ticket number kind payload))))
    judged None good =
        let reached =
        h.whole.ports number port is in
        λ _. delivered-seen s p i (FromPort s.next_ticket number kind payload) h reached.0 reached.1
        (some-kind kind good, small-kind kind good, size)
    judged (Some r) good = no r

    shaped : (shape : PortShape)
        → Goes (posted_at s number kind payload
        (message_target_at kind (record { vp = p; sint = i; shape = shape }) shape))
    shaped (Flags base count) = no _
    shaped (Messages buffers) = valid (is_posted_type kind) refl
      where
        valid : (b : Bool) → is_posted_type kind ≡ b
            → Goes (posted_at s number kind payload
            (if b then Ok (record { vp = p; sint = i; shape = Messages buffers }) else Err BadType))
        valid true e = judged (post_refusal s number p (Messages buffers)) e
        valid false e = no BadType
