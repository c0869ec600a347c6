-- What writes of timers and ticks change: in an occupied slot at most MessagePending, which they set.
use Rattle.std.proofs.Common.{◌≡◌, ◌≢◌, ◌⊎◌, inl, inr, ℕ, ◌+◌, ◌*◌, ◌^◌, ◌<◌, true, false, nat_lt, List, [], ◌∷◌, length, get_or, set, Option, None, Some, refl, sym, ap, ◌∙◌, subst, arith, zero, suc}
use Rattle.std.specs.Prelude.{◌==◌, bit_or, if◌then◌else◌}
use Rattle.std.proofs.lemmas.Bool.{cases_eq, and_parts}
use Rattle.std.proofs.lemmas.List.{get_or-set_same, get_or-set_other}
use Rattle.board_terms.specs.Dues.{number_of}
use Rattle.board_terms.specs.declared.messages.Message.{Message}
use Rattle.board_terms.specs.declared.messages.Message.TheVariants.{FromTimer}
use Rattle.gpa_space.specs.Page.{with_bit, pending_place}
use Rattle.stimer_bank.specs.declared.timer.Timer.{Timer}
use Rattle.stimer_bank.specs.declared.timer.Mode.{Mode}
use Rattle.stimer_bank.specs.declared.timer.Mode.TheVariants.{Direct, Posted}
use Rattle.stimer_bank.specs.Timer.{after_expiry}
use Rattle.stimer_bank.specs.Bank.{timer_in, is_due_in, dues, due_list, with_timer}
use Rattle.stimer_bank.proofs.Shown.{due-there}
use Rattle.synic_board.specs.State.{State, bank_of, with_bank}
use Rattle.synic_board.specs.Effects.{Effect, Outcome}
use Rattle.synic_board.specs.Interrupts.{requested}
use Rattle.synic_board.specs.Delivery.{is_slot_empty, tried, accepted, delivered}
use Rattle.synic_board.specs.Timers.{mode_at, is_ready_for, is_ready, delivery_by, signalled_by, expired_state, expiry_at, fired, attempted, attempted_until, most_expiries, written_timer, at_moment, ticked}
use Rattle.synic_board.specs.Slots.{slot_byte}
use Rattle.synic_board.specs.Sound.{IsWhole, IsMessage}
use Rattle.synic_board.proofs.keeping.Changes.{kept-timer, kept-moment}
use Rattle.synic_board.proofs.keeping.Clocks.{Names, mode-names, keeps-attempted}
use Rattle.synic_board.proofs.keeping.Placements.{page_of, page-long}
use Rattle.synic_board.proofs.keeping.Requests.{either}
use Rattle.synic_board.proofs.keeping.Wholes.{IsIntact}
use Rattle.live_board.specs.inside.Parts.{SlotGrows, SlotFills}
use Rattle.live_board.proofs.Bytes.{or-one}
use Rattle.live_board.proofs.Ended.{Aside, aside-tried, bytes-tried, fills-tried, pages-aside, same-empty, regs-requested, pages-requested}
use Rattle.live_board.proofs.Posted.{accepted-whole}
use Rattle.live_board.proofs.Tried.{Pages, pages-tried, own-requested}

-- only some own pages change
pub record Grows (n : ℕ) (may : ℕ → Type 0) (s now : State) : Type 0 where
  pub count : length now.own ≡ length s.own
  pub pages : now.pages ≡ s.pages
  pub regs : now.regs ≡ s.regs
  pub others : (j : ℕ) → (may j → ⊥) → get_or now.own j [] ≡ get_or s.own j []
  pub slots : (p i : ℕ) → p < n → i < 16 → is_slot_empty s p i ≡ false → SlotGrows s p i now
  pub fills : (p i : ℕ) → p < n → i < 16 → is_slot_empty s p i ≡ true → SlotFills s p i now

pub slot-same : (s now : State) (p i : ℕ) → get_or now.own (2 * p) [] ≡ get_or s.own (2 * p) [] → SlotGrows s p i now
slot-same s now p i same =
    record {
      bytes = λ b _ _. ap (λ l. get_or l (256 * i + b) 0) same;
      flags = inl (ap (λ l. get_or l (256 * i + 5) 0) same);
    }

pub still-occupied : (s now : State) (p i : ℕ) → SlotGrows s p i now → is_slot_empty now p i ≡ is_slot_empty s p i
still-occupied s now p i h = rw (
  h.bytes 0 (omega arith) (λ e. omega (arith, e)),
  h.bytes 1 (omega arith) (λ e. omega (arith, e)),
  h.bytes 2 (omega arith) (λ e. omega (arith, e)),
  h.bytes 3 (omega arith) (λ e. omega (arith, e)),
) refl

or-twice : (x : ℕ) → bit_or (bit_or x (2 ^ 0)) (2 ^ 0) ≡ bit_or x (2 ^ 0)
or-twice x = let once = or-one x 0 in let twice = or-one (bit_or x (2 ^ 0)) 0 in omega (arith, once, twice)

pub slot-trans : (s mid now : State) (p i : ℕ) → SlotGrows s p i mid → SlotGrows mid p i now → SlotGrows s p i now
slot-trans s mid now p i h k =
    record { bytes = λ b low ne. k.bytes b low ne ∙ h.bytes b low ne; flags = by h.flags k.flags }
  where
    x : ℕ
    x = slot_byte s p i 5

    by : (slot_byte mid p i 5 ≡ x) ⊎ (slot_byte mid p i 5 ≡ bit_or x (2 ^ 0))
        → (slot_byte now p i 5 ≡ slot_byte mid p i 5) ⊎ (slot_byte now p i 5 ≡ bit_or (slot_byte mid p i 5) (2 ^ 0))
        → (slot_byte now p i 5 ≡ x) ⊎ (slot_byte now p i 5 ≡ bit_or x (2 ^ 0))
    by (inl e) (inl f) = inl (f ∙ e)
    by (inl e) (inr f) = inr (f ∙ ap (λ b. bit_or b (2 ^ 0)) e)
    by (inr e) (inl f) = inr (f ∙ e)
    by (inr e) (inr f) = inr (f ∙ ap (λ b. bit_or b (2 ^ 0)) e ∙ or-twice x)

pub fills-same : (s now : State) (p i : ℕ) → get_or now.own (2 * p) [] ≡ get_or s.own (2 * p) [] → SlotFills s p i now
fills-same s now p i same = inl (λ b _. ap (λ l. get_or l (256 * i + b) 0) same)

pub fills-trans : (s mid now : State) (p i : ℕ) → is_slot_empty s p i ≡ true → SlotFills s p i mid
    → (is_slot_empty mid p i ≡ true → SlotFills mid p i now) → (is_slot_empty mid p i ≡ false → SlotGrows mid p i now)
    → SlotFills s p i now
fills-trans s mid now p i empty (inr full) later grows = inr (still-occupied mid now p i (grows full) ∙ full)
fills-trans s mid now p i empty (inl same) later grows = by (later (same-empty s mid p i same ∙ empty))
  where
    by : SlotFills mid p i now → SlotFills s p i now
    by (inl more) = inl (λ b low. more b low ∙ same b low)
    by (inr full) = inr full

pub grows-same : (n : ℕ) (may : ℕ → Type 0) (s now : State) → now.own ≡ s.own → now.pages ≡ s.pages
    → now.regs ≡ s.regs → Grows n may s now
grows-same n may s now own pages regs = record {
  count = ap length own;
  pages = pages;
  regs = regs;
  others = λ j _. ap (λ l. get_or l j []) own;
  slots = λ p i _ _ _. slot-same s now p i (ap (λ l. get_or l (2 * p) []) own);
  fills = λ p i _ _ _. fills-same s now p i (ap (λ l. get_or l (2 * p) []) own);
}

grows-trans : (n : ℕ) (may : ℕ → Type 0) (s mid now : State) → Grows n may s mid → Grows n may mid now
    → Grows n may s now
grows-trans n may s mid now h k = record {
  count = k.count ∙ h.count;
  pages = k.pages ∙ h.pages;
  regs = k.regs ∙ h.regs;
  others = λ j no. k.others j no ∙ h.others j no;
  slots = λ p i on under full.
      (let first = h.slots p i on under full in
      slot-trans s mid now p i first (k.slots p i on under (still-occupied s mid p i first ∙ full)));
  fills = λ p i on under empty.
      fills-trans s mid now p i empty (h.fills p i on under empty) (k.fills p i on under) (k.slots p i on under);
}

pub grows-more : (n : ℕ) (may more : ℕ → Type 0) (s now : State) → ((j : ℕ) → may j → more j) → Grows n may s now
    → Grows n more s now
grows-more n may more s now wider h =
    record {
      count = h.count;
      pages = h.pages;
      regs = h.regs;
      others = λ j no. h.others j (λ m. no (wider j m));
      slots = h.slots;
      fills = h.fills;
    }

-- the message page of a processor
abbrev pub Only : ℕ → ℕ → Type 0
Only p j = j ≡ 2 * p

-- an attempt at a source
slot-tried : (s now : State) (p i j : ℕ) → 2 * p < length s.own → length (page_of s p) ≡ 4096 → i < 16 → j < 16
    → is_slot_empty s p j ≡ false → Pages s p i now.own → (j ≡ i) ⊎ (j ≢ i) → SlotGrows s p j now
slot-tried s now p i j inside long under low full pages (inr ne) =
    record {
      bytes = λ b small _. bytes-tried s now p i j b inside long under low ne small pages;
      flags = inl (bytes-tried s now p i j 5 inside long under low ne (omega arith) pages);
    }
slot-tried s now p i j inside long under low full (inl (none, own)) (inl is) =
    slot-same s now p j (ap (λ l. get_or l (2 * p) []) own)
slot-tried s now p i j inside long under low full (inr (made, inl (occupied, own))) (inl is) = record {
  bytes = λ b small ne. page b
      ∙ get_or-set_other (page_of s p) (pending_place i) (256 * j + b) byte 0 (λ e. ne (omega (arith, e, is)));
  flags = inr (page 5 ∙ (λ k. get_or (set (page_of s p) (pending_place i) byte) (place k) 0)
      ∙ get_or-set_same (page_of s p) (pending_place i) byte 0 (omega (arith, long, under))
      ∙ ap (λ k. bit_or (get_or (page_of s p) k 0) (2 ^ 0)) (sym place));
}
  where
    byte : ℕ
    byte = bit_or (get_or (page_of s p) (pending_place i) 0) (2 ^ 0)

    place : 256 * j + 5 ≡ pending_place i
    place = omega (arith, is)

    page : (b : ℕ) → slot_byte now p j b ≡ get_or (with_bit (page_of s p) (pending_place i) 0) (256 * j + b) 0
    page b = ap (λ l. get_or (get_or l (2 * p) []) (256 * j + b) 0) own
        ∙ ap (λ l. get_or l (256 * j + b) 0)
        (get_or-set_same s.own (2 * p) (with_bit (page_of s p) (pending_place i) 0) [] inside)
slot-tried s now p i j inside long under low full (inr (made, inr (empty, (image, size, some, own)))) (inl is) =
    absurd (let e : true ≡ false = sym empty ∙ ap (is_slot_empty s p) (sym is) ∙ full in cc)

grows-tried : (n : ℕ) (s : State) (p i : ℕ) → IsWhole n s → p < n → i < 16 → Grows n (Only p) s (tried s p i).0
grows-tried n s p i h on under = record {
  count = (pages-aside s now p i (2 * p + 1) (λ e. omega (arith, e)) pages).1;
  pages = aside.pages;
  regs = aside.regs;
  others = λ j ne. (pages-aside s now p i j ne pages).0;
  slots = λ q j below low full. slot q j low full (cases_eq q p);
  fills = λ q j below low empty. fill q j low empty (cases_eq q p);
}
  where
    now : State
    now = (tried s p i).0

    pages : Pages s p i now.own
    pages = pages-tried n s p i h on under

    aside : Aside s p i now
    aside = aside-tried s p i

    fill : (q j : ℕ) → j < 16 → is_slot_empty s q j ≡ true → (q ≡ p) ⊎ (q ≢ p) → SlotFills s q j now
    fill q j low empty (inr ne) =
        fills-same s now q j ((pages-aside s now p i (2 * q) (λ e. ne (omega (arith, e))) pages).0)
    fill q j low empty (inl e) =
        subst (λ k. SlotFills s k j now) (sym e)
        (fills-tried s now p i j (omega (arith, h.own, on)) (page-long n s p h on) under low
        (ap (λ k. is_slot_empty s k j) (sym e) ∙ empty) pages (cases_eq j i))

    slot : (q j : ℕ) → j < 16 → is_slot_empty s q j ≡ false → (q ≡ p) ⊎ (q ≢ p) → SlotGrows s q j now
    slot q j low full (inr ne) =
        slot-same s now q j ((pages-aside s now p i (2 * q) (λ e. ne (omega (arith, e))) pages).0)
    slot q j low full (inl e) =
        subst (λ k. SlotGrows s k j now) (sym e)
        (slot-tried s now p i j (omega (arith, h.own, on)) (page-long n s p h on) under low
        (ap (λ k. is_slot_empty s k j) (sym e) ∙ full) pages (cases_eq j i))

grows-delivered : (n : ℕ) (s : State) (p i : ℕ) (m : Message) → IsWhole n s → p < n → i < 16 → IsMessage m
    → Grows n (Only p) s (delivered s p i m).0
grows-delivered n s p i m h on under good =
    let a : State = (accepted s p i m).0 in
    grows-trans n (Only p) s a (delivered s p i m).0 (grows-same n (Only p) s a refl refl refl)
    (grows-tried n a p i (accepted-whole n s p i m h on under good) on under)

-- an expiry
grows-emitted : (n : ℕ) (s : State) (t : ℕ × ℕ) (mode : Mode) (d : ℕ) → IsWhole n s → t.0 < n → Names mode
    → Grows n (Only t.0) s (delivery_by s t mode d).0
grows-emitted n s t (Direct v) d h on names =
    grows-same n (Only t.0) s (requested s t.0 v).0 (own-requested s t.0 v) (pages-requested s t.0 v)
    (regs-requested s t.0 v)
grows-emitted n s t (Posted i) d h on names =
    grows-delivered n s t.0 i (FromTimer s.next_ticket t d) h on names ((λ e. omega (arith, e)), omega arith, tt)

grows-signalled : (n : ℕ) (s : State) (t : ℕ × ℕ) (mode : Mode) (o : Option ℕ) → IsWhole n s → t.0 < n → Names mode
    → Grows n (Only t.0) s (signalled_by s t mode o).0
grows-signalled n s t mode None h on names = grows-same n (Only t.0) s s refl refl refl
grows-signalled n s t mode (Some d) h on names = grows-emitted n s t mode d h on names

grows-fired : (n : ℕ) (s : State) (t : ℕ × ℕ) (mode : Mode) → IsIntact n s → number_of t < 4 * n → Names mode
    → Grows n (Only t.0) s (fired s t mode).0
grows-fired n s t mode h low names =
    let now : State = expired_state s t in
    let whole = (kept-timer n s t ((after_expiry (timer_in (bank_of s) t) s.moment).0) h).whole in
    grows-trans n (Only t.0) s now (fired s t mode).0 (grows-same n (Only t.0) s now refl refl refl)
    (grows-signalled n now t mode (expiry_at s t).signal whole (omega (arith, low)) names)

-- a due timer belongs to a processor on the board
pub due-on : (n : ℕ) (s : State) (t : ℕ × ℕ) → IsIntact n s → is_due_in (bank_of s) t s.moment ≡ true
    → number_of t < 4 * n
due-on n s t h due = let there = due-there (bank_of s) t s.moment due in omega (arith, there, h.whole.timers)

pub grows-attempted : (n : ℕ) (s : State) (t : ℕ × ℕ) → IsIntact n s → Grows n (Only t.0) s (attempted s t).0
unfolding attempted
grows-attempted n s t h =
    either (λ (e : Effect). Grows n (Only t.0) s e.0) (is_ready s t) _ _
    (λ ready. grows-fired n s t (mode_at s t) h
    (due-on n s t h (and_parts (is_due_in (bank_of s) t s.moment) (is_ready_for s t (mode_at s t)) ready).0)
    (mode-names (timer_in (bank_of s) t).config))
    (λ _. grows-same n (Only t.0) s s refl refl refl)

-- some message page
abbrev pub Any : ℕ → Type 0
Any j = (p : ℕ) × (j ≡ 2 * p)

grows-attempted_until : (n few : ℕ) (s : State) (ts : List (ℕ × ℕ)) → IsIntact n s
    → Grows n Any s (attempted_until few s ts).0
unfolding attempted_until
grows-attempted_until n zero s ts h = grows-same n Any s s refl refl refl
grows-attempted_until n (suc few) s [] h = grows-same n Any s s refl refl refl
grows-attempted_until n (suc few) s (t ∷ ts) h =
    let now : State = (attempted s t).0 in
    let left = if is_ready s t then few else suc few in
    grows-trans n Any s now (attempted_until left now ts).0
    (grows-more n (Only t.0) Any s now (λ j e. (t.0, e)) (grows-attempted n s t h))
    (grows-attempted_until n left now ts (keeps-attempted n s t h).kept)

-- a write of a timer, and a tick
pub grows-written : (n : ℕ) (s : State) (t : ℕ × ℕ) (x : Timer) → IsIntact n s
    → Grows n (Only t.0) s (written_timer s (with_timer (bank_of s) t x) t).0
grows-written n s t x h =
    let now : State = with_bank s (with_timer (bank_of s) t x) in
    grows-trans n (Only t.0) s now (attempted now t).0 (grows-same n (Only t.0) s now refl refl refl)
    (grows-attempted n now t (kept-timer n s t x h))

pub grows-ticked : (n : ℕ) (s : State) (moment : ℕ) → IsIntact n s → Grows n Any s (ticked s moment).0
grows-ticked n s moment h =
    let now : State = at_moment s moment in
    either (λ (o : Outcome). Grows n Any s o.0) (nat_lt moment s.moment) _ _
    (λ _. grows-same n Any s s refl refl refl)
    (λ _. either (λ (o : Outcome). Grows n Any s o.0) (moment == s.moment) _ _
    (λ _. grows-same n Any s s refl refl refl)
    (λ _. grows-trans n Any s now _ (grows-same n Any s now refl refl refl)
    (grows-attempted_until n most_expiries now (due_list (dues (bank_of s)) moment) (kept-moment n s moment h))))
