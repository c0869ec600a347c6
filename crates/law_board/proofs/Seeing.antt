-- After an EOM no message is queued without MessagePending.
use Rattle.std.proofs.Common.{◌≡◌, ◌≢◌, ◌⊎◌, inl, inr, ℕ, zero, suc, ◌+◌, ◌*◌, ◌<◌, ◌≤◌, Bool, true, false, ◌&&◌, List, [], ◌∷◌, length, get_or, refl, ap, sym, subst, ◌∙◌, arith, nat_lt}
use Rattle.std.specs.Prelude.{None, Some, ◌==◌, slice_index_or, slice_set, bit_or}
use Rattle.std.specs.Option.{option_map_or}
use Rattle.std.specs.List.{All}
use Rattle.std.specs.Int.{bit_at}
use Rattle.std.specs.FinSet as set
use Rattle.std.proofs.lemmas.Nat.Bits.{bit_at_or, bit_at-lt}
use Rattle.std.proofs.lemmas.Bool.{cases_eq, cases_lt}
use Rattle.std.proofs.lemmas.Bool.Decides.{nat_tests}
use Rattle.std.proofs.lemmas.List.{get_or-set_same, get_or-set_other}
use Rattle.board_terms.specs.declared.messages.Message.{Message}
use Rattle.board_terms.specs.declared.messages.Message.TheVariants.{FromPort, FromTimer}
use Rattle.synic_regs.specs.Registers.{number_of_register}
use Rattle.synic_regs.specs.Regs.{raised_by}
use Rattle.synic_regs.specs.declared.register.Register.TheVariants.{Eom}
use Rattle.board_terms.specs.Sources.{source_number}
use Rattle.message_queues.specs.Queues.{queue_of}
use Rattle.message_queues.specs.Image.{image, slot_type}
use Rattle.message_queues.proofs.WrittenSlots.{length-image, slot_type-other, inside, outside}
use Rattle.gpa_space.specs.Page.{is_set, with_bit, with_slot, pending_place}
use Rattle.gpa_space.specs.Space.{is_pending}
use Rattle.synic_board.specs.declared.event.Event.TheVariants.{Write}
use Rattle.synic_board.specs.State.{State, processors, apic_of, regs_of, space_of}
use Rattle.synic_board.specs.Effects.{Effect, Outcome, nothing}
use Rattle.synic_board.specs.Interrupts.{requested, raised}
use Rattle.synic_board.specs.Delivery.{delivers, is_slot_empty, placed_head, placed, marked, tried, tried_below}
use Rattle.law_board.specs.Seen.{IsSeen}
use Rattle.synic_board.specs.Sound.{IsMessage, IsSound}
use Rattle.synic_board.specs.Step.{step}
use Rattle.synic_board.proofs.keeping.Wholes.{IsIntact, kept_from_sound}
use Rattle.synic_board.proofs.keeping.Requests.{either}
use Rattle.synic_board.proofs.keeping.Slots.{other_place}
use Rattle.synic_board.proofs.keeping.Placements.{page_of, image_of, page-long, queue-good, tail-good, occupied}
use Rattle.synic_board.proofs.keeping.Attempts.{marked-type, keeps-tried_below}

-- what IsSeen depends on stays the same
record IsAlike (s t : State) (p i : ℕ) : Type 0 where
  pub regs : t.regs ≡ s.regs
  pub queue : queue_of t.queues p i ≡ queue_of s.queues p i
  pub slot : slot_type (page_of t p) i ≡ slot_type (page_of s p) i
  pub pending : is_pending (space_of t) p i ≡ is_pending (space_of s) p i

alike : (s : State) (p i : ℕ) → IsAlike s s p i
alike s p i = record { regs = refl; queue = refl; slot = refl; pending = refl }

alike-after : (s t u : State) (p i : ℕ) → IsAlike s t p i → IsAlike t u p i → IsAlike s u p i
alike-after s t u p i a b =
    record {
      regs = b.regs ∙ a.regs;
      queue = b.queue ∙ a.queue;
      slot = b.slot ∙ a.slot;
      pending = b.pending ∙ a.pending;
    }

stays-seen : (s t : State) (p i : ℕ) → IsAlike s t p i → IsSeen s p i → IsSeen t p i
stays-seen s t p i same (inl none) = inl (same.queue ∙ none)
stays-seen s t p i same (inr (full, marked)) = inr (ap (λ k. k == 0) same.slot ∙ full, same.pending ∙ marked)

alike-requested : (s : State) (q v p i : ℕ) → IsAlike s (requested s q v).0 p i
alike-requested s q v p i =
    either (λ (e : Effect). IsAlike s e.0 p i) (set.contains (apic_of s q).requested v) _ _ (λ _. alike s p i)
    (λ _. record { regs = refl; queue = refl; slot = refl; pending = refl })

alike-raised : (s : State) (q j p i : ℕ) → IsAlike s (raised s q j).0 p i
alike-raised s q j p i =
    elim (raised_by (regs_of s q) j) as
    (λ o. IsAlike s (option_map_or (requested s q) o (nothing s)).0 p i) [
      | None ↦ alike s p i
      | Some v ↦
          alike-requested s q v p i
    ]

-- the pending bit of a page in which a slot is written, of this source or another
pending-other : (page bytes : List ℕ) (j i : ℕ) → length page ≡ 4096 → length bytes ≡ 256 → j < 16 → i < 16 → i ≢ j →
    is_set (with_slot page j bytes) (pending_place i) 0 ≡ is_set page (pending_place i) 0
pending-other page bytes j i long size below under ne =
    ap (λ b. bit_at b 0 == 1)
    (outside page bytes j (256 * i + 5) (omega (arith, long, below)) size (apart (cases_lt i j)))
  where
    apart : (i < j) ⊎ (j ≤ i) → (256 * i + 5 < 256 * j) ⊎ (256 * j + 256 ≤ 256 * i + 5)
    apart (inl less) = inl (omega (arith, less))
    apart (inr le) = inr (let more : j < i = omega (arith, le, ne) in omega (arith, more))

pending-byte : (m : Message) (moment : ℕ) → get_or (image m true moment) 5 0 ≡ 1
unfolding image
pending-byte (FromPort ticket port kind payload) moment = refl
pending-byte (FromTimer ticket timer expiration) moment = refl

pending-written : (page : List ℕ) (i : ℕ) (m : Message) (pending : Bool) (moment : ℕ) → length page ≡ 4096 → i < 16
    → length (image m pending moment) ≡ 256 →
    pending ≡ true → is_set (with_slot page i (image m pending moment)) (pending_place i) 0 ≡ true
pending-written page i m pending moment long under size is =
    ap (λ b. bit_at b 0 == 1)
    (inside page (image m pending moment) i 5 (omega (arith, long, under)) (omega (arith, size))
    ∙ ap (λ b. get_or (image m b moment) 5 0) is ∙ pending-byte m moment)

-- MessagePending is set, of this source or another
set-bit : (n : ℕ) → bit_at (bit_or n 1) 0 ≡ 1
set-bit n = let h = bit_at_or n 1 0 in let k = bit_at-lt n 0 in omega (arith, h, k)

pending-marked : (page : List ℕ) (i : ℕ) → length page ≡ 4096 → i < 16
    → is_set (with_bit page (pending_place i) 0) (pending_place i) 0 ≡ true
pending-marked page i long under =
    ap (λ b. bit_at b 0 == 1)
    (get_or-set_same page (256 * i + 5) (bit_or (slice_index_or page (256 * i + 5) 0) 1) 0
    (omega (arith, long, under)))
    ∙ ap (λ b. b == 1) (set-bit (slice_index_or page (256 * i + 5) 0))

pending-apart : (page : List ℕ) (j i : ℕ) → i ≢ j
    → is_set (with_bit page (pending_place j) 0) (pending_place i) 0 ≡ is_set page (pending_place i) 0
pending-apart page j i ne =
    ap (λ b. bit_at b 0 == 1)
    (get_or-set_other page (256 * j + 5) (256 * i + 5) (bit_or (slice_index_or page (256 * j + 5) 0) 1) 0
    (λ e. ne (omega (arith, e))))

-- the message page that was written
own : (n : ℕ) (s : State) (p : ℕ) (page : List ℕ) → IsIntact n s → p < n
    → slice_index_or (slice_set s.own (2 * p) page) (2 * p) [] ≡ page
own n s p page h below = get_or-set_same s.own (2 * p) page [] (omega (arith, h.whole.own, below))

-- a message that is placed for one source, and another source
alike-placed : (n : ℕ) (s : State) (p j i : ℕ) → IsIntact n s → p < n → j < 16 → i < 16 → i ≢ j
    → IsAlike s (placed s p j).0 p i
alike-placed n s p j i h below inside_ under ne = head (queue_of s.queues p j) refl
  where
    head : (q : List Message) → queue_of s.queues p j ≡ q → IsAlike s (placed_head s p j q).0 p i
    head [] is = alike s p i
    head (m ∷ rest) is =
        let good = (tail-good m rest (subst (λ q. All IsMessage q) is (queue-good n s p j h.whole below inside_))).0 in
        let bytes : List ℕ = image_of s m rest in
        let size : length bytes ≡ 256 = length-image m (nat_lt 0 (length rest)) s.moment good.2 in
        let long = page-long n s p h.whole below in
        let here = own n s p (with_slot (page_of s p) j bytes) h below in
        record {
          regs = refl;
          queue = get_or-set_other s.queues (source_number p j) (source_number p i) rest []
              (λ e. other_place p j p i inside_ under (λ _ same. ne (sym same)) (sym e));
          slot = ap (λ page. slot_type page i) here
              ∙ slot_type-other (page_of s p) bytes j i long size inside_ under ne;
          pending = ap (λ page. is_set page (pending_place i) 0) here
              ∙ pending-other (page_of s p) bytes j i long size inside_ under ne;
        }

alike-marked : (n : ℕ) (s : State) (p j i : ℕ) → IsIntact n s → p < n → i ≢ j → IsAlike s (marked s p j).0 p i
alike-marked n s p j i h below ne = record {
  regs = refl;
  queue = refl;
  slot = marked-type n s p j p i h.whole below;
  pending = ap (λ page. is_set page (pending_place i) 0)
      (own n s p (with_bit (page_of s p) (pending_place j) 0) h below) ∙ pending-apart (page_of s p) j i ne;
}

alike-tried : (n : ℕ) (s : State) (p j i : ℕ) → IsIntact n s → p < n → j < 16 → i < 16 → i ≢ j
    → IsAlike s (tried s p j).0 p i
unfolding tried
alike-tried n s p j i h below inside_ under ne =
    let Alike = λ (e : Effect). IsAlike s e.0 p i in
    either Alike (delivers s p && nat_lt 0 (length (queue_of s.queues p j))) _ _
    (λ _. either Alike (is_slot_empty s p j) _ _
    (λ _. alike-after s (placed s p j).0 (raised (placed s p j).0 p j).0 p i
    (alike-placed n s p j i h below inside_ under ne) (alike-raised (placed s p j).0 p j p i))
    (λ _. alike-marked n s p j i h below ne))
    (λ _. alike s p i)

-- the source that is tried
seen-placed : (n : ℕ) (s : State) (p i : ℕ) → IsIntact n s → p < n → i < 16 → IsSeen (placed s p i).0 p i
seen-placed n s p i h below under = head (queue_of s.queues p i) refl
  where
    head : (q : List Message) → queue_of s.queues p i ≡ q → IsSeen (placed_head s p i q).0 p i
    head [] is = inl is
    head (m ∷ []) is =
        inl (get_or-set_same s.queues (source_number p i) [] [] (omega (arith, h.whole.queues, below, under)))
    head (m ∷ next ∷ rest) is =
        let good = (tail-good m (next ∷ rest)
        (subst (λ q. All IsMessage q) is (queue-good n s p i h.whole below under))).0 in
        let more : nat_lt 0 (length (next ∷ rest)) ≡ true = grind (arith, nat_tests) in
        let bytes : List ℕ = image_of s m (next ∷ rest) in
        let size : length bytes ≡ 256 = length-image m (nat_lt 0 (length (next ∷ rest))) s.moment good.2 in
        let full = occupied n s p i m (next ∷ rest) h below under good in
        inr (
          grind (arith, nat_tests, full),
          ap (λ page. is_set page (pending_place i) 0) (own n s p (with_slot (page_of s p) i bytes) h below)
              ∙ pending-written (page_of s p) i m (nat_lt 0 (length (next ∷ rest))) s.moment
              (page-long n s p h.whole below) under size more,
        )

seen-tried : (n : ℕ) (s : State) (p i : ℕ) → IsIntact n s → p < n → i < 16 → delivers s p ≡ true
    → IsSeen (tried s p i).0 p i
unfolding tried
seen-tried n s p i h below under on =
    let Seen = λ (e : Effect). IsSeen e.0 p i in
    either Seen (delivers s p && nat_lt 0 (length (queue_of s.queues p i))) _ _
    (λ _. either Seen (is_slot_empty s p i) _ _
    (λ _. stays-seen (placed s p i).0 (raised (placed s p i).0 p i).0 p i (alike-raised (placed s p i).0 p i p i)
    (seen-placed n s p i h below under))
    (λ full. inr (
      ap (λ k. k == 0) (marked-type n s p i p i h.whole below)
          ∙ full,
      ap (λ page. is_set page (pending_place i) 0) (own n s p (with_bit (page_of s p) (pending_place i) 0) h below)
          ∙ pending-marked (page_of s p) i (page-long n s p h.whole below) under,
    )))
    (λ idle. inl (none (queue_of s.queues p i)
    (ap (λ b. b && nat_lt 0 (length (queue_of s.queues p i))) (sym on) ∙ idle)))
  where
    none : (q : List Message) → nat_lt 0 (length q) ≡ false → q ≡ []
    none [] e = refl
    none (m ∷ rest) e = let some : nat_lt 0 (length (m ∷ rest)) ≡ true = grind (arith, nat_tests) in absurd (cc)

-- registers stay
regs-tried : (s : State) (p i : ℕ) → (tried s p i).0.regs ≡ s.regs
unfolding tried
regs-tried s p i =
    let Same = λ (e : Effect). e.0.regs ≡ s.regs in
    either Same (delivers s p && nat_lt 0 (length (queue_of s.queues p i))) _ _
    (λ _. either Same (is_slot_empty s p i) _ _
    (λ _. (alike-raised (placed s p i).0 p i p i).regs ∙ head (queue_of s.queues p i))
    (λ _. refl))
    (λ _. refl)
  where
    head : (q : List Message) → (placed_head s p i q).0.regs ≡ s.regs
    head [] = refl
    head (m ∷ rest) = refl

-- IsSeen holds for the sources below n, and the registers are unchanged
record AreSeen (s t : State) (p n : ℕ) : Type 0 where
  pub regs : t.regs ≡ s.regs
  pub each : (i : ℕ) → i < n → IsSeen t p i

seen-below : (n : ℕ) (s : State) (p k : ℕ) → IsIntact n s → p < n → k ≤ 16 → delivers s p ≡ true
    → AreSeen s (tried_below s p k).0 p k
unfolding tried_below
seen-below n s p zero h below bound on = record { regs = refl; each = λ i less. absurd (omega (arith, less)) }
seen-below n s p (suc k) h below bound on =
    let first = seen-below n s p k h below (omega (arith, bound)) on in
    let t : State = (tried_below s p k).0 in
    let intact = (keeps-tried_below n s p k h below (omega (arith, bound))).kept in
    let still : delivers t p ≡ true = ap (λ regs. delivers (record t { regs = regs }) p) first.regs ∙ on in
    record { regs = regs-tried t p k ∙ first.regs; each = λ i less. each i less (cases_eq i k) first intact still }
  where
    each : (i : ℕ) → i < suc k → (i ≡ k) ⊎ (i ≢ k) → AreSeen s (tried_below s p k).0 p k
        → IsIntact n (tried_below s p k).0 → delivers (tried_below s p k).0 p ≡ true →
        IsSeen (tried (tried_below s p k).0 p k).0 p i
    each i less (inl same) first intact still = subst (λ j. IsSeen (tried (tried_below s p k).0 p k).0 p j) (sym same)
        (seen-tried n (tried_below s p k).0 p k intact below (omega (arith, bound)) still)
    each i less (inr ne) first intact still =
        stays-seen (tried_below s p k).0 (tried (tried_below s p k).0 p k).0 p i
        (alike-tried n (tried_below s p k).0 p k i intact below (omega (arith, bound))
        (omega (arith, bound, less)) ne) (first.each i (omega (arith, less, ne)))

pub seen_behind : (s : State) (p i value : ℕ) → IsSound s → p < processors s → i < 16 → delivers s p ≡ true
    → IsSeen (step s (Write p (number_of_register Eom) value)).0 p i
unfolding step
seen_behind s p i value sound below under on =
    either (λ (o : Outcome). IsSeen o.0 p i) (nat_lt p (processors s)) _ _
    (λ _. (seen-below (processors s) s p 16 (kept_from_sound s sound) below (omega arith) on).each i under)
    (λ away. absurd (grind (arith, nat_tests, away, below)))
