-- The words that an EOM changes.
use Rattle.std.proofs.Common.{◌≡◌, ◌≢◌, ◌⊎◌, inl, inr, ℕ, zero, suc, ◌+◌, ◌*◌, ◌^◌, ◌<◌, ◌≤◌, true, false, ◌&&◌, nat_lt, List, [], ◌∷◌, length, get_or, None, Some, refl, sym, ap, ◌∙◌, subst, arith, length-set}
use Rattle.std.specs.Prelude.{◌==◌, bit_or}
use Rattle.std.specs.Option.{option_map_or}
use Rattle.std.proofs.lemmas.Bool.{cases_eq}
use Rattle.std.proofs.lemmas.Bool.Decides.{nat_tests}
use Rattle.std.proofs.lemmas.List.{get_or-set_same, get_or-set_other}
use Rattle.board_terms.specs.Sources.{source_number}
use Rattle.board_terms.specs.declared.messages.Message.{Message}
use Rattle.board_terms.specs.declared.notices.Notice.{Notice}
use Rattle.gpa_space.specs.Page.{with_bit, with_slot, pending_place}
use Rattle.message_queues.specs.Image.{slot_type}
use Rattle.message_queues.specs.Queues.{queue_of}
use Rattle.synic_regs.specs.declared.register.Register.TheVariants.{Eom}
use Rattle.synic_regs.specs.Registers.{register_of}
use Rattle.synic_regs.specs.Regs.{raised_by}
use Rattle.synic_board.specs.declared.event.Event.TheVariants.{Write}
use Rattle.synic_board.specs.declared.event.Reply.{Reply}
use Rattle.synic_board.specs.State.{State, processors, regs_of}
use Rattle.synic_board.specs.Effects.{Effect, Outcome, nothing, after}
use Rattle.synic_board.specs.Interrupts.{requested, raised}
use Rattle.synic_board.specs.Delivery.{delivers, is_slot_empty, placed_head, tried, tried_below}
use Rattle.synic_board.specs.Ranges.{HasRanges}
use Rattle.synic_board.specs.Slots.{slot_byte}
use Rattle.synic_board.specs.Sound.{IsSound, HasShape}
use Rattle.synic_board.specs.Step.{step}
use Rattle.synic_board.proofs.keeping.Attempts.{keeps-tried_below}
use Rattle.synic_board.proofs.keeping.Left.{slot-other}
use Rattle.synic_board.proofs.keeping.Placements.{page_of, page-long}
use Rattle.synic_board.proofs.keeping.Requests.{either}
use Rattle.synic_board.proofs.keeping.Wholes.{kept_from_sound}
use Rattle.live_board.specs.Live.{is_waiting}
use Rattle.live_board.specs.Words.{word_at, word_of}
use Rattle.live_board.specs.inside.Parts.{Attempts, SlotEnds, SlotFills, Ends}
use Rattle.live_board.proofs.Bytes.{same-word}
use Rattle.live_board.proofs.Part.{header-bytes}
use Rattle.live_board.proofs.Tried.{Pages, pages-tried, tries-is}

other-false : (x h : ℕ) → x ≢ h → (x == h) ≡ false
other-false x h e = grind (arith, nat_tests)

-- an attempt leaves the registers, and the guest's pages
pub regs-requested : (s : State) (p v : ℕ) → (requested s p v).0.regs ≡ s.regs
regs-requested s p v = either (λ (e : Effect). e.0.regs ≡ s.regs) _ _ _ (λ _. refl) (λ _. refl)

regs-raised : (s : State) (p i : ℕ) → (raised s p i).0.regs ≡ s.regs
regs-raised s p i =
    elim (raised_by (regs_of s p) i) as
    (λ o. (option_map_or (requested s p) o (nothing s)).0.regs ≡ s.regs) [ None ↦ refl | Some v ↦ regs-requested s p v ]

queues-requested : (s : State) (p v : ℕ) → (requested s p v).0.queues ≡ s.queues
queues-requested s p v = either (λ (e : Effect). e.0.queues ≡ s.queues) _ _ _ (λ _. refl) (λ _. refl)

pub queues-raised : (s : State) (p i : ℕ) → (raised s p i).0.queues ≡ s.queues
queues-raised s p i =
    elim (raised_by (regs_of s p) i) as
    (λ o. (option_map_or (requested s p) o (nothing s)).0.queues ≡ s.queues) [
      | None ↦ refl
      | Some v ↦
          queues-requested s p v
    ]

pub pages-requested : (s : State) (p v : ℕ) → (requested s p v).0.pages ≡ s.pages
pages-requested s p v = either (λ (e : Effect). e.0.pages ≡ s.pages) _ _ _ (λ _. refl) (λ _. refl)

pages-raised : (s : State) (p i : ℕ) → (raised s p i).0.pages ≡ s.pages
pages-raised s p i =
    elim (raised_by (regs_of s p) i) as
    (λ o. (option_map_or (requested s p) o (nothing s)).0.pages ≡ s.pages) [
      | None ↦ refl
      | Some v ↦
          pages-requested s p v
    ]

-- the registers, the guest's pages, and the queues of other sources
pub record Aside (s : State) (p i : ℕ) (now : State) : Type 0 where
  pub regs : now.regs ≡ s.regs
  pub pages : now.pages ≡ s.pages
  pub queues : (j : ℕ) → j ≢ i → queue_of now.queues p j ≡ queue_of s.queues p j

pub aside-tried : (s : State) (p i : ℕ) → Aside s p i (tried s p i).0
unfolding tried
aside-tried s p i =
    either (λ (e : Effect). Aside s p i e.0) (is_waiting s p i) _ _
    (λ _. either (λ (e : Effect). Aside s p i e.0) (is_slot_empty s p i) _ _ (λ _. head (queue_of s.queues p i))
    (λ _. record { regs = refl; pages = refl; queues = λ j _. refl }))
    (λ _. record { regs = refl; pages = refl; queues = λ j _. refl })
  where
    head : (q : List Message) → Aside s p i (after (placed_head s p i q) (raised (placed_head s p i q).0 p i)).0
    head [] = record {
      regs = regs-raised s p i;
      pages = pages-raised s p i;
      queues = λ j _. ap (λ q. queue_of q p j) (queues-raised s p i);
    }
    head (m ∷ rest) = record {
      regs = regs-raised (placed_head s p i (m ∷ rest)).0 p i;
      pages = pages-raised (placed_head s p i (m ∷ rest)).0 p i;
      queues = λ j ne. ap (λ q. queue_of q p j) (queues-raised (placed_head s p i (m ∷ rest)).0 p i)
          ∙ get_or-set_other s.queues (source_number p i) (source_number p j) rest [] (λ e. ne (omega (arith, e)));
    }

-- the bytes of other slots
pub bytes-tried : (s now : State) (p i j b : ℕ) → 2 * p < length s.own → length (page_of s p) ≡ 4096 → i < 16 → j < 16
    → j ≢ i → b < 256 → Pages s p i now.own → slot_byte now p j b ≡ slot_byte s p j b
bytes-tried s now p i j b inside long under low ne small (inl (none, own)) =
    ap (λ l. get_or (get_or l (2 * p) []) (256 * j + b) 0) own
bytes-tried s now p i j b inside long under low ne small (inr (made, inl (full, own))) =
    ap (λ l. get_or (get_or l (2 * p) []) (256 * j + b) 0) own
    ∙ ap (λ l. get_or l (256 * j + b) 0)
    (get_or-set_same s.own (2 * p) (with_bit (page_of s p) (pending_place i) 0) [] inside)
    ∙ get_or-set_other (page_of s p) (pending_place i) (256 * j + b)
    (bit_or (get_or (page_of s p) (pending_place i) 0) (2 ^ 0)) 0 (λ e. ne (omega (arith, e, small)))
bytes-tried s now p i j b inside long under low ne small (inr (made, inr (empty, (image, size, some, own)))) =
    ap (λ l. get_or (get_or l (2 * p) []) (256 * j + b) 0) own
    ∙ ap (λ l. get_or l (256 * j + b) 0) (get_or-set_same s.own (2 * p) (with_slot (page_of s p) i image) [] inside)
    ∙ slot-other (page_of s p) image i j b long size under low ne small

-- the other pages
pub pages-aside : (s now : State) (p i j : ℕ) → j ≢ 2 * p → Pages s p i now.own
    → (get_or now.own j [] ≡ get_or s.own j []) × (length now.own ≡ length s.own)
pages-aside s now p i j ne (inl (none, own)) = (ap (λ l. get_or l j []) own, ap length own)
pages-aside s now p i j ne (inr (made, inl (full, own))) =
    let page : List ℕ = with_bit (page_of s p) (pending_place i) 0 in (
      ap (λ l. get_or l j []) own ∙ get_or-set_other s.own (2 * p) j page [] ne,
      ap length own ∙ length-set s.own (2 * p) page,
    )
pages-aside s now p i j ne (inr (made, inr (empty, (image, size, some, own)))) =
    let page : List ℕ = with_slot (page_of s p) i image in (
      ap (λ l. get_or l j []) own ∙ get_or-set_other s.own (2 * p) j page [] ne,
      ap length own ∙ length-set s.own (2 * p) page,
    )

-- an attempt fills an empty slot, or leaves it
pub fills-tried : (s now : State) (p i j : ℕ) → 2 * p < length s.own → length (page_of s p) ≡ 4096 → i < 16 → j < 16
    → is_slot_empty s p j ≡ true → Pages s p i now.own → (j ≡ i) ⊎ (j ≢ i) → SlotFills s p j now
fills-tried s now p i j inside long under low empty pages (inr ne) =
    inl (λ b small. bytes-tried s now p i j b inside long under low ne small pages)
fills-tried s now p i j inside long under low empty (inl (none, own)) (inl is) =
    inl (λ b _. ap (λ l. get_or (get_or l (2 * p) []) (256 * j + b) 0) own)
fills-tried s now p i j inside long under low empty (inr (made, inl (full, own))) (inl is) =
    absurd (let e : true ≡ false = sym empty ∙ ap (is_slot_empty s p) is ∙ full in cc)
fills-tried s now p i j inside long under low empty (inr (made, inr (was, (image, size, some, own)))) (inl is) =
    inr (other-false (slot_type (page_of now p) j) 0
    (λ z. some (sym (there ∙ ap (slot_type (with_slot (page_of s p) i image)) is) ∙ z)))
  where
    there : slot_type (page_of now p) j ≡ slot_type (with_slot (page_of s p) i image) j
    there = ap (λ l. slot_type (get_or l (2 * p) []) j) own
        ∙ ap (λ l. slot_type l j) (get_or-set_same s.own (2 * p) (with_slot (page_of s p) i image) [] inside)

-- an attempt that is made at an empty slot fills it
filled-tried : (s now : State) (p i : ℕ) → 2 * p < length s.own → is_waiting s p i ≡ true → is_slot_empty s p i ≡ true
    → Pages s p i now.own → is_slot_empty now p i ≡ false
filled-tried s now p i inside waits empty (inl (none, own)) = absurd (let e : true ≡ false = sym waits ∙ none in cc)
filled-tried s now p i inside waits empty (inr (made, inl (full, own))) =
    absurd (let e : true ≡ false = sym empty ∙ full in cc)
filled-tried s now p i inside waits empty (inr (made, inr (was, (image, size, some, own)))) =
    other-false (slot_type (page_of now p) i) 0 (λ z. some (sym there ∙ z))
  where
    there : slot_type (page_of now p) i ≡ slot_type (with_slot (page_of s p) i image) i
    there = ap (λ l. slot_type (get_or l (2 * p) []) i) own
        ∙ ap (λ l. slot_type l i) (get_or-set_same s.own (2 * p) (with_slot (page_of s p) i image) [] inside)

-- the words of a slot with the same bytes
pub slot-word : (s now : State) (p i : ℕ) → ((b : ℕ) → b < 256 → slot_byte now p i b ≡ slot_byte s p i b) → (w : ℕ)
    → w < 32 → word_of now (2 * p) (32 * i + w) ≡ word_of s (2 * p) (32 * i + w)
slot-word s now p i same w low =
    same-word (page_of now p) (page_of s p) (8 * (32 * i + w))
    (λ b h. (let e : 8 * (32 * i + w) + b ≡ 256 * i + (8 * w + b) = omega arith in
    ap (λ n. get_or (page_of now p) n 0) e ∙ same (8 * w + b) (omega arith)
    ∙ ap (λ n. get_or (page_of s p) n 0) (sym e)))

pub same-empty : (s now : State) (p i : ℕ) → ((b : ℕ) → b < 256 → slot_byte now p i b ≡ slot_byte s p i b)
    → is_slot_empty now p i ≡ is_slot_empty s p i
same-empty s now p i same =
    rw (same 0 (omega arith), same 1 (omega arith), same 2 (omega arith), same 3 (omega arith)) refl

-- the attempts at the sources below n are made
record Below (s : State) (p n : ℕ) (now : State) : Type 0 where
  pub count : length now.own ≡ length s.own
  pub pages : (j : ℕ) → j ≢ 2 * p → get_or now.own j [] ≡ get_or s.own j []
  pub regs : now.regs ≡ s.regs
  pub queues : (i : ℕ) → n ≤ i → queue_of now.queues p i ≡ queue_of s.queues p i
  pub bytes : (i b : ℕ) → n ≤ i → i < 16 → b < 256 → slot_byte now p i b ≡ slot_byte s p i b
  pub slots : (i : ℕ) → i < n → SlotEnds s p i now

same-true : (x h : ℕ) → x ≡ h → (x == h) ≡ true
same-true x h e = grind (arith, nat_tests)

-- what the slot of the next source has
slot-here : (s mid now : State) (p n : ℕ) → n < 16 → 2 * p < length mid.own → Below s p n mid → Pages mid p n now.own
    → Attempts mid p n (is_waiting mid p n) now → SlotEnds s p n now
slot-here s mid now p n under inside h pages m = record {
  idle = λ none w low. m.idle (same-waiting ∙ none) (2 * p) (32 * n + w) ∙ before w low;
  marks = λ waits full. m.marks (same-waiting ∙ waits) (same-type ∙ full) (32 * n) (omega (arith, under))
      ∙ rw (same-true (32 * n) (32 * n) refl) (ap (λ x. bit_or x (2 ^ 40)) head);
  payload = λ waits full w some low.
      m.marks (same-waiting ∙ waits) (same-type ∙ full) (32 * n + w) (omega (arith, under, low))
      ∙ rw (other-false (32 * n + w) (32 * n) (λ e. omega (arith, e, some))) (before w low);
  fills = λ waits empty. filled-tried mid now p n inside (same-waiting ∙ waits) (same-type ∙ empty) pages;
}
  where
    bytes : (b : ℕ) → b < 256 → slot_byte mid p n b ≡ slot_byte s p n b
    bytes b low = h.bytes n b (omega arith) under low

    same-waiting : is_waiting mid p n ≡ is_waiting s p n
    same-waiting = (λ i. delivers (record s { regs = h.regs i }) p && nat_lt 0 (length (h.queues n (omega arith) i)))

    same-type : is_slot_empty mid p n ≡ is_slot_empty s p n
    same-type = same-empty s mid p n bytes

    before : (w : ℕ) → w < 32 → word_of mid (2 * p) (32 * n + w) ≡ word_of s (2 * p) (32 * n + w)
    before w low = slot-word s mid p n bytes w low

    head : word_of mid (2 * p) (32 * n) ≡ word_of s (2 * p) (32 * n)
    head = let e : 32 * n + 0 ≡ 32 * n = omega arith in
        ap (word_of mid (2 * p)) (sym e) ∙ before 0 (omega arith) ∙ ap (word_of s (2 * p)) e

-- and the slots before
slot-before : (s mid now : State) (p i n : ℕ) → i < n → n < 16 → SlotEnds s p i mid
    → is_slot_empty now p i ≡ is_slot_empty mid p i → Attempts mid p n (is_waiting mid p n) now → SlotEnds s p i now
slot-before s mid now p i n less under h type m = record {
  idle = λ none w low. same w low ∙ h.idle none w low;
  marks = λ waits full. (let e : 32 * i + 0 ≡ 32 * i = omega arith in
      ap (word_of now (2 * p)) (sym e) ∙ same 0 (omega arith) ∙ ap (word_of mid (2 * p)) e) ∙ h.marks waits full;
  payload = λ waits full w some low. same w low ∙ h.payload waits full w some low;
  fills = λ waits empty. type ∙ h.fills waits empty;
}
  where
    same : (w : ℕ) → w < 32 → word_of now (2 * p) (32 * i + w) ≡ word_of mid (2 * p) (32 * i + w)
    same w low =
        m.others (2 * p) (32 * i + w) (omega (arith, less, under, low)) (inr (λ e. omega (arith, e, less, low)))

below-next : (s mid now : State) (p n : ℕ) → n < 16 → 2 * p < length mid.own → length (page_of mid p) ≡ 4096
    → Below s p n mid → Pages mid p n now.own → Aside mid p n now → Attempts mid p n (is_waiting mid p n) now
    → Below s p (suc n) now
below-next s mid now p n under inside long h pages aside m = record {
  count = m.count ∙ h.count;
  pages = λ j ne. (pages-aside mid now p n j ne pages).0 ∙ h.pages j ne;
  regs = aside.regs ∙ h.regs;
  queues = λ i le. aside.queues i (λ e. omega (arith, e, le)) ∙ h.queues i (omega arith);
  bytes = λ i b le low small.
      bytes-tried mid now p n i b inside long under low (λ e. omega (arith, e, le)) small pages
      ∙ h.bytes i b (omega arith) low small;
  slots = λ i low. slot i (omega arith) (cases_eq i n);
}
  where
    slot : (i : ℕ) → i ≤ n → (i ≡ n) ⊎ (i ≢ n) → SlotEnds s p i now
    slot i le (inl e) = subst (λ k. SlotEnds s p k now) (sym e) (slot-here s mid now p n under inside h pages m)
    slot i le (inr ne) =
        let less : i < n = omega (arith, le, ne) in
        slot-before s mid now p i n less under (h.slots i less)
        (same-empty mid now p i (λ b small.
        bytes-tried mid now p n i b inside long under (omega (arith, less, under)) ne small pages)) m

below : (s : State) (p n : ℕ) → IsSound s → HasShape s → HasRanges s → p < processors s → n ≤ 16
    → Below s p n (tried_below s p n).0
unfolding tried_below
below s p zero sound shape ranges on bound =
    record {
      count = refl;
      pages = λ j _. refl;
      regs = refl;
      queues = λ i _. refl;
      bytes = λ i b _ _ _. refl;
      slots = λ i low. absurd (omega (arith, low));
    }
below s p (suc n) sound shape ranges on bound =
    let mid : State = (tried_below s p n).0 in
    let h = below s p n sound shape ranges on (omega arith) in
    let whole = (keeps-tried_below (processors s) s p n (kept_from_sound s sound) on (omega arith)).kept.whole in
    let long = page-long (processors s) mid p whole on in
    let inside : 2 * p < length mid.own = omega (arith, whole.own, on) in
    let pages = pages-tried (processors s) mid p n whole on (omega arith) in
    let bytes = λ (b : ℕ) (low : b < 8). (let e : 8 * (32 * n) + b ≡ 256 * n + b = omega arith in
    subst (λ k. get_or (page_of mid p) k 0 < 256) (sym e)
    (subst (λ x. x < 256) (sym (h.bytes n b (omega arith) (omega arith) (omega arith)))
    (subst (λ k. get_or (page_of s p) k 0 < 256) e (header-bytes s p n shape ranges on (omega arith) b low)))) in
    below-next s mid (tried mid p n).0 p n (omega arith) inside long h pages (aside-tried mid p n)
    (tries-is mid (tried mid p n).0 p n inside long (omega arith) bytes pages)

pub ended : (s now : State) (p number value : ℕ) (reply : Reply) (notices : List Notice)
    → register_of number ≡ Some Eom → (now, reply, notices) ≡ step s (Write p number value) → IsSound s → HasShape s
    → HasRanges s → p < processors s → Ends s p now
unfolding step
ended s now p number value reply notices eom is sound shape ranges on =
    subst (Ends s p) (sym (ap (λ (o : Outcome). o.0) is ∙ state)) (record {
      count = h.count;
      others = λ j x ne. ap (λ l. word_at l (8 * x)) (h.pages j ne);
      slots = h.slots;
    })
  where
    h : Below s p 16 (tried_below s p 16).0
    h = below s p 16 sound shape ranges on (omega arith)

    there : nat_lt p (processors s) ≡ true
    there = grind (arith, nat_tests)

    state : (step s (Write p number value)).0 ≡ (tried_below s p 16).0
    state = rw (there, eom) refl
