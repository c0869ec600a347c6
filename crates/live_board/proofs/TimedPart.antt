-- A write of a timer on one page.
use Rattle.std.proofs.Common.{◌≡◌, ◌≢◌, ◌⊎◌, inl, inr, ℕ, ◌+◌, ◌*◌, ◌/◌, ◌%◌, ◌^◌, ◌<◌, ◌≤◌, Bool, true, false, nat_lt, List, [], ◌∷◌, ◌++◌, get_or, Option, None, Some, refl, sym, ap, ◌∙◌, subst, arith, append_assoc, append-nil}
use Rattle.std.specs.Prelude.{◌==◌, bit_or}
use Rattle.std.specs.Option.{option_map_or}
use Rattle.std.proofs.lemmas.Bool.{cases_eq}
use Rattle.std.proofs.lemmas.Bool.Decides.{nat_tests}
use Rattle.board_terms.specs.declared.notices.Notice.{Notice}
use Rattle.board_terms.specs.declared.pages.Kind.TheVariants.{Sim}
use Rattle.board_terms.specs.declared.pages.Owner.TheVariants as owner
use Rattle.gpa_space.specs.Space.{owner_of, page_of as page_in}
use Rattle.message_queues.specs.Image.{slot_type}
use Rattle.stimer_bank.specs.Bank.{timer_in}
use Rattle.stimer_bank.specs.Timer.{after_config, after_count}
use Rattle.synic_regs.specs.Regs.{Regs, reset_regs}
use Rattle.synic_regs.specs.declared.register.Register.{Register}
use Rattle.synic_regs.specs.declared.register.Register.TheVariants.{TimerConfig, TimerCount}
use Rattle.synic_regs.specs.Registers.{register_of, Exists}
use Rattle.synic_regs.proofs.Numbers.{have_their_numbers}
use Rattle.synic_board.specs.declared.event.Event.{Event}
use Rattle.synic_board.specs.declared.event.Event.TheVariants.{Write}
use Rattle.synic_board.specs.declared.event.Reply.{Reply}
use Rattle.synic_board.specs.declared.event.Reply.TheVariants.{Done, GeneralProtection}
use Rattle.synic_board.specs.State.{State, processors, bank_of, overlay_registers}
use Rattle.synic_board.specs.Effects.{Outcome, unchanged}
use Rattle.synic_board.specs.Bounds.{most_notices}
use Rattle.synic_board.specs.Delivery.{is_slot_empty}
use Rattle.synic_board.specs.Ranges.{HasRanges}
use Rattle.synic_board.specs.Registers.{written, written_register}
use Rattle.synic_board.specs.Run.{Run, run_of, followed_by}
use Rattle.synic_board.specs.Slots.{slot_byte}
use Rattle.synic_board.specs.Sound.{IsSound, HasShape, PayloadFits}
use Rattle.synic_board.specs.Step.{step}
use Rattle.synic_board.proofs.keeping.Placements.{page_of}
use Rattle.synic_board.proofs.keeping.Wholes.{kept_from_sound}
use Rattle.live_pages.specs.Words.{known, type_of}
use Rattle.live_pages.specs.declared.access.Access.{Access}
use Rattle.live_board.specs.Words.{word_at, word_of}
use Rattle.live_board.specs.Timers.{is_timer_register, is_timer_write}
use Rattle.live_board.specs.Live.{explained, explained_after, all_done, number_at, AreCareful, IsShown, ArePlaced}
use Rattle.live_board.specs.inside.Parts.{IsStep, IsLooks, IsPublished, MayBeMarked, IsMarking, IsTimedPart, IsTimerOf, SlotGrows, WordsGrow}
use Rattle.live_board.proofs.Bytes.{word-bytes, same-word, joined-set}
use Rattle.live_board.proofs.Grown.{Grows, Only, grows-written}
use Rattle.live_board.proofs.Joined as runs
use Rattle.live_board.proofs.Marked.{same-after}
use Rattle.live_board.proofs.Part.{type-is, header-bytes}
use Rattle.live_board.proofs.Staying.{stays}

-- a write of a timer of a processor on the board
pub timer-on : (s : State) (p : ℕ) (event : Event) → IsTimerOf s p event → p < processors s
timer-on s p (Write q number value) (on, same, timer) = on
timer-on s p event other = absurd other

-- a write of a timer by what it writes
pub timer-write-as : (a n v : ℕ) (event : Event) → is_timer_write event ≡ true
    → ((q number value : ℕ) → event ≡ Write q number value → event ≡ Write a n v) → event ≡ Write a n v
timer-write-as a n v (Write q number value) timer by = by q number value refl
timer-write-as a n v event timer by = absurd (cc)

timer-fits : (s : State) (p : ℕ) (event : Event) → IsTimerOf s p event → PayloadFits event
timer-fits s p (Write q number value) timer = tt
timer-fits s p event other = absurd other

pub timer-stays : (s now : State) (p : ℕ) (event : Event) (reply : Reply) (notices : List Notice)
    → IsTimerOf s p event → IsSound s → (now, reply, notices) ≡ step s event → p < processors now
timer-stays s now p event reply notices timer sound is =
    subst (λ n. p < n) (sym (stays s now event reply notices (timer-fits s p event timer) sound is))
    (timer-on s p event timer)

pub rest-timer : (s now : State) (p : ℕ) (event : Event) → now ≡ record s { own = now.own; slots = now.slots }
    → IsTimerOf s p event → IsTimerOf now p event
rest-timer s now p (Write q number value) rest (on, same, timer) =
    (subst (λ n. p < n) (sym (ap processors rest)) on, same, timer)
rest-timer s now p event rest other = absurd other

grows-register : (n : ℕ) (s : State) (p : ℕ) (r : Register) (value : ℕ) → is_timer_register r ≡ true → Exists r
    → p < n → processors s ≡ n → IsSound s → Grows n (Only p) s (written_register s p r value).0
grows-register n s p (TimerConfig k) value timer exists on count sound =
    subst (λ m. Grows m (Only p) s (written_register s p (TimerConfig k) value).0) count
    (grows-written (processors s) s (p, k) (after_config (timer_in (bank_of s) (p, k)) value s.moment)
    (kept_from_sound s sound))
grows-register n s p (TimerCount k) value timer exists on count sound =
    subst (λ m. Grows m (Only p) s (written_register s p (TimerCount k) value).0) count
    (grows-written (processors s) s (p, k) (after_count (timer_in (bank_of s) (p, k)) value s.moment)
    (kept_from_sound s sound))
grows-register n s p r value timer exists on count sound = absurd (cc)

pub timer-grows : (s now : State) (p : ℕ) (event : Event) (reply : Reply) (notices : List Notice)
    → IsTimerOf s p event → (now, reply, notices) ≡ step s event → IsSound s → Grows (processors s) (Only p) s now
unfolding step
timer-grows s now p (Write q number value) reply notices (on, same, timer) is sound =
    subst (Grows (processors s) (Only p) s) (sym (ap (λ (o : Outcome). o.0) is ∙ state))
    (by (register_of number) refl timer)
  where
    there : nat_lt p (processors s) ≡ true
    there = grind (arith, nat_tests)

    state : (step s (Write q number value)).0 ≡ (written s p number value).0
    state = ap (λ k. (step s (Write k number value)).0) same ∙ rw there refl

    by : (o : Option Register) → register_of number ≡ o → option_map_or is_timer_register o false ≡ true
        → Grows (processors s) (Only p) s
        (option_map_or (λ r. written_register s p r value) o (unchanged s GeneralProtection)).0
    by None e t = absurd (cc)
    by (Some r) e t = grows-register (processors s) s p r value t ((have_their_numbers number r).0 e).0 on refl sound
timer-grows s now p event reply notices other is sound = absurd other

-- the words of a slot in which at most MessagePending is set
pub grown-payload : (s now : State) (p i : ℕ) → SlotGrows s p i now → (w : ℕ) → 1 ≤ w → w < 32
    → word_of now (2 * p) (32 * i + w) ≡ word_of s (2 * p) (32 * i + w)
grown-payload s now p i g w some low =
    same-word (page_of now p) (page_of s p) (8 * (32 * i + w))
    (λ b h. (let e : 8 * (32 * i + w) + b ≡ 256 * i + (8 * w + b) = omega arith in
    ap (λ n. get_or (page_of now p) n 0) e ∙ g.bytes (8 * w + b) (omega arith) (λ z. omega (arith, z, some))
    ∙ ap (λ n. get_or (page_of s p) n 0) (sym e)))

pub grown-head : (s now : State) (p i : ℕ) → SlotGrows s p i now
    → ((b : ℕ) → b < 8 → get_or (page_of s p) (8 * (32 * i) + b) 0 < 256)
    → (word_of now (2 * p) (32 * i) ≡ word_of s (2 * p) (32 * i))
    ⊎ (word_of now (2 * p) (32 * i) ≡ bit_or (word_of s (2 * p) (32 * i)) (2 ^ 40))
grown-head s now p i g bytes = by g.flags
  where
    at : ℕ
    at = 8 * (32 * i)

    place : (b : ℕ) → at + b ≡ 256 * i + b
    place b = omega arith

    byte : (b : ℕ) → b < 8 → b ≢ 5 → get_or (page_of now p) (at + b) 0 ≡ get_or (page_of s p) (at + b) 0
    byte b low ne =
        ap (λ n. get_or (page_of now p) n 0) (place b) ∙ g.bytes b (omega arith) ne
        ∙ ap (λ n. get_or (page_of s p) n 0) (sym (place b))

    by : (slot_byte now p i 5 ≡ slot_byte s p i 5) ⊎ (slot_byte now p i 5 ≡ bit_or (slot_byte s p i 5) (2 ^ 0))
        → (word_of now (2 * p) (32 * i) ≡ word_of s (2 * p) (32 * i))
        ⊎ (word_of now (2 * p) (32 * i) ≡ bit_or (word_of s (2 * p) (32 * i)) (2 ^ 40))
    by (inl e) = inl (same-word (page_of now p) (page_of s p) at (λ b low. each b low (cases_eq b 5)))
      where
        each : (b : ℕ) → b < 8 → (b ≡ 5) ⊎ (b ≢ 5) → get_or (page_of now p) (at + b) 0 ≡ get_or (page_of s p) (at + b) 0
        each b low (inr ne) = byte b low ne
        each b low (inl five) =
            ap (λ k. get_or (page_of now p) (at + k) 0) five ∙ ap (λ n. get_or (page_of now p) n 0) (place 5) ∙ e
            ∙ ap (λ n. get_or (page_of s p) n 0) (sym (place 5)) ∙ ap (λ k. get_or (page_of s p) (at + k) 0) (sym five)
    by (inr e) = inr (word-bytes (page_of now p) at
        ∙ joined-set 5 0 (λ b. get_or (page_of s p) (at + b) 0) (λ b. get_or (page_of now p) (at + b) 0) (omega arith)
        (omega arith) bytes byte
        (ap (λ n. get_or (page_of now p) n 0) (place 5) ∙ e
        ∙ ap (λ n. bit_or (get_or (page_of s p) n 0) (2 ^ 0)) (sym (place 5)))
        ∙ ap (λ n. bit_or n (2 ^ 40)) (sym (word-bytes (page_of s p) at)))

-- a guest sees the page after the event if it did before
pub shown-same : (s now : State) (p : ℕ) → now.regs ≡ s.regs → now.pages ≡ s.pages → IsShown s p Sim → IsShown now p Sim
shown-same s now p regs pages shown =
    subst (λ (rs : List Regs). owner_of
    (record { pages = now.pages; registers = overlay_registers rs; own = now.own })
    (page_in (get_or rs p reset_regs).sim) ≡ owner.Sim p) (sym regs)
    (subst (λ (ps : List (List ℕ)). owner_of
    (record { pages = ps; registers = overlay_registers s.regs; own = now.own })
    (page_in (get_or s.regs p reset_regs).sim) ≡ owner.Sim p) (sym pages) shown)

other-false : (x h : ℕ) → x ≢ h → (x == h) ≡ false
other-false x h e = grind (arith, nat_tests)

-- occupied slots in which at most MessagePending is set, in words that the host knows
pub words-grow : (mid now : State) (p : ℕ) (words : List ℕ)
    → ((x : ℕ) → x < 512 → get_or words x 0 ≡ word_of mid (2 * p) x)
    → ((i : ℕ) → i < 16 → is_slot_empty mid p i ≡ false → SlotGrows mid p i now) → HasShape mid → HasRanges mid
    → p < processors mid
    → WordsGrow now p words
words-grow mid now p words are g shape ranges on i under full = (
  λ w some low. grown-payload mid now p i slot w some low ∙ sym (are (32 * i + w) (omega (arith, under, low))),
  by (grown-head mid now p i slot (header-bytes mid p i shape ranges on under)),
)
  where
    head : get_or words (32 * i) 0 ≡ word_of mid (2 * p) (32 * i)
    head = are (32 * i) (omega (arith, under))

    slot : SlotGrows mid p i now
    slot = g i under (other-false (slot_type (page_of mid p) i) 0
        (λ z. full (ap type_of head ∙ type-is (page_of mid p) i (header-bytes mid p i shape ranges on under) ∙ z)))

    by : (word_of now (2 * p) (32 * i) ≡ word_of mid (2 * p) (32 * i))
        ⊎ (word_of now (2 * p) (32 * i) ≡ bit_or (word_of mid (2 * p) (32 * i)) (2 ^ 40))
        → (word_of now (2 * p) (32 * i) ≡ get_or words (32 * i) 0)
        ⊎ (word_of now (2 * p) (32 * i) ≡ bit_or (get_or words (32 * i) 0) (2 ^ 40))
    by (inl e) = inl (e ∙ sym head)
    by (inr e) = inr (e ∙ ap (λ n. bit_or n (2 ^ 40)) (sym head))

-- what the host knows when the empty slots are brought up to date
module _ (now : State) (p : ℕ) (words : List ℕ) (log log-now : List Access)
    (knows : (x : ℕ) → x < 512 → known log x ≡ get_or words x 0)
    (published : IsPublished now p true words 16 log log-now) (grow : WordsGrow now p words) where
  pub timed-payload : (x : ℕ) → x < 512 → x % 32 ≢ 0 → known log-now x ≡ word_of now (2 * p) x
  timed-payload x low odd = by (cases_eq (type_of (get_or words (32 * (x / 32)) 0)) 0)
    where
      by : (type_of (get_or words (32 * (x / 32)) 0) ≡ 0) ⊎ (type_of (get_or words (32 * (x / 32)) 0) ≢ 0)
          → known log-now x ≡ word_of now (2 * p) x
      by (inl empty) = published.done x low (omega (arith, low)) (inr empty)
      by (inr full) =
          let place : 32 * (x / 32) + x % 32 ≡ x = omega arith in
          published.left x low (inr (refl, full)) ∙ knows x low ∙ ap (λ n. get_or words n 0) (sym place)
          ∙ sym ((grow (x / 32) (omega (arith, low)) full).0 (x % 32) (omega (arith, odd)) (omega arith))
          ∙ ap (word_of now (2 * p)) place

  same-place : (i : ℕ) → 32 * ((32 * i) / 32) ≡ 32 * i
  same-place i = omega arith

  pub timed-known : (i : ℕ) → i < 16 → type_of (get_or words (32 * i) 0) ≢ 0
      → known log-now (32 * i) ≡ get_or words (32 * i) 0
  timed-known i under full =
      published.left (32 * i) (omega (arith, under))
      (inr (refl, subst (λ x. type_of (get_or words x 0) ≢ 0) (sym (same-place i)) full))
      ∙ knows (32 * i) (omega (arith, under))

  pub timed-heads : (i : ℕ) → i < 16
      → MayBeMarked (get_or words (32 * i) 0) (known log-now (32 * i)) (word_of now (2 * p) (32 * i))
  timed-heads i under = by (cases_eq (type_of (get_or words (32 * i) 0)) 0)
    where
      low : 32 * i < 512
      low = omega (arith, under)

      by : (type_of (get_or words (32 * i) 0) ≡ 0) ⊎ (type_of (get_or words (32 * i) 0) ≢ 0)
          → MayBeMarked (get_or words (32 * i) 0) (known log-now (32 * i)) (word_of now (2 * p) (32 * i))
      by (inl empty) =
          inl (published.done (32 * i) low (omega (arith, under))
          (inr (subst (λ x. type_of (get_or words x 0) ≡ 0) (sym (same-place i)) empty)))
      by (inr full) = head (grow i under full).1
        where
          head : (word_of now (2 * p) (32 * i) ≡ get_or words (32 * i) 0)
              ⊎ (word_of now (2 * p) (32 * i) ≡ bit_or (get_or words (32 * i) 0) (2 ^ 40))
              → MayBeMarked (get_or words (32 * i) 0) (known log-now (32 * i)) (word_of now (2 * p) (32 * i))
          head (inl same) = inl (timed-known i under full ∙ sym same)
          head (inr set) = inr (full, set)

-- events before an event, and after it
pub run-around : (s mid between now : State) (before after : List Event) (event : Event) (reply : Reply)
    (first second third : List Notice) → run_of s before ≡ (mid, all_done before, first)
    → (between, reply, second) ≡ step mid event
    → run_of between after ≡ (now, all_done after, third)
    → run_of s (before ++ event ∷ after)
    ≡ (now, all_done before ++ reply ∷ all_done after, first ++ (second ++ third))
unfolding run_of
run-around s mid between now before after event reply first second third a is b =
    runs.run-append s before (event ∷ after) ∙ ap (λ (r : Run). runs.joined r (run_of r.0 (event ∷ after))) a
    ∙ ap (runs.joined (mid, all_done before, first))
    (ap (λ (o : Outcome). followed_by o (run_of o.0 after)) (sym is) ∙ ap (followed_by (between, reply, second)) b)

pub part-timed : (s mid now end : State) (p : ℕ) (log log-mid log-now log-end : List Access) (words : List ℕ)
    (event : Event) (reply : Reply) (owed : Bool) (first between after : List Notice)
    → IsShown s p Sim → IsLooks s p log mid log-mid first 16
    → IsStep mid event now reply first between → Grows (processors mid) (Only p) mid now
    → IsPublished now p true words 16 log-mid log-now
    → IsMarking now p words log-now end log-end owed between after 16
    → IsTimedPart s p log event end log-end reply owed after
part-timed s mid now end p log log-mid log-now log-end words event reply owed first between after shown look one g
    published m = record {
      looks = look.watched.news;
      stores = published.news;
      marks = m.news;
      are = record {
        shown = λ _. look.looks;
        hidden = λ no. absurd (no shown);
        stored = published.stores;
        placed = subst (λ l. ArePlaced 16 l published.news) look.watched.page published.placed;
        marked = m.marks;
        careful = λ _. subst (AreCareful Sim published.news) look.watched.page (published.careful refl);
      };
      page = m.page ∙ ap (λ l. m.news ++ l) page;
      run = run-around s mid now end earlier later event reply first one.emitted m.emitted look.watched.run one.step
          marked ∙ ap (λ (ns : List Notice). (end, all_done earlier ++ reply ∷ all_done later, ns)) (sym notices);
      owes = m.owes;
      shadow = λ x low. m.done x low (inr (omega (arith, low)));
      others = λ j x low ne. m.others j x low ne ∙ ap (λ l. word_at l (8 * x)) (g.others j ne)
          ∙ look.watched.others j x low ne;
      count = m.count ∙ g.count ∙ look.watched.count;
    }
  where
    earlier : List Event
    earlier = explained s p Sim look.watched.news log

    later : List Event
    later = explained_after s p m.news (published.news ++ (look.watched.news ++ log))

    page : log-now ≡ published.news ++ (look.watched.news ++ log)
    page = published.page ∙ ap (λ l. published.news ++ l) look.watched.page

    number : number_at now p Sim ≡ number_at s p Sim
    number = ap (λ (rs : List Regs). page_in (get_or rs p reset_regs).sim) g.regs
        ∙ runs.rest-number s mid p Sim look.watched.rest

    same : explained_after now p m.news log-now ≡ later
    same = same-after s now p m.news log-now number ∙ ap (explained_after s p m.news) page

    marked : run_of now later ≡ (end, all_done later, m.emitted)
    marked = ap (run_of now) (sym same) ∙ m.run ∙ ap (λ (x : List Event). (end, all_done x, m.emitted)) same

    notices : after ≡ first ++ (one.emitted ++ m.emitted)
    notices = m.notices ∙ ap (λ ns. ns ++ m.emitted) one.notices ∙ append_assoc first one.emitted m.emitted

pub part-timed-hidden : (s now : State) (p : ℕ) (log log-now : List Access) (words : List ℕ) (event : Event)
    (reply : Reply) (before after : List Notice) → before ≡ [] → (IsShown s p Sim → ⊥)
    → IsStep s event now reply before after
    → Grows (processors s) (Only p) s now → IsPublished now p false words 16 log log-now
    → IsTimedPart s p log event now log-now reply false after
unfolding run_of
part-timed-hidden s now p log log-now words event reply before after empty hidden one g published = record {
  looks = [];
  stores = published.news;
  marks = [];
  are = record {
    shown = λ shown. absurd (hidden shown);
    hidden = λ _. (refl, refl);
    stored = published.stores;
    placed = published.placed;
    marked = tt;
    careful = λ shown. absurd (hidden shown);
  };
  page = published.page;
  run = run-around s s now now [] [] event reply [] one.emitted [] refl one.step refl
      ∙ ap (λ (ns : List Notice). (now, reply ∷ [], ns))
      (append-nil one.emitted ∙ sym (one.notices ∙ ap (λ ns. ns ++ one.emitted) empty));
  owes = refl;
  shadow = λ x low. published.done x low (omega (arith, low)) (inl refl);
  others = λ j x low ne. ap (λ l. word_at l (8 * x)) (g.others j ne);
  count = g.count;
}

pub timer-few : (s : State) (p : ℕ) (event : Event) → IsTimerOf s p event → most_notices event ≤ 192
timer-few s p (Write q number value) timer = omega arith
timer-few s p event other = absurd other

-- the reply to a write of a timer
pub timer-done : (s now : State) (p : ℕ) (event : Event) (reply : Reply) (notices : List Notice) → IsTimerOf s p event
    → (now, reply, notices) ≡ step s event → reply ≡ Done
unfolding step
timer-done s now p (Write q number value) reply notices (on, same, timer) is =
    ap (λ (o : Outcome). o.1) is ∙ state ∙ by (register_of number) timer
  where
    there : nat_lt p (processors s) ≡ true
    there = grind (arith, nat_tests)

    state : (step s (Write q number value)).1
        ≡ (option_map_or (λ r. written_register s p r value) (register_of number) (unchanged s GeneralProtection)).1
    state = ap (λ k. (step s (Write k number value)).1) same ∙ rw there refl

    by : (o : Option Register) → option_map_or is_timer_register o false ≡ true
        → (option_map_or (λ r. written_register s p r value) o (unchanged s GeneralProtection)).1 ≡ Done
    by (Some (TimerConfig n)) t = refl
    by (Some (TimerCount n)) t = refl
    by o t = absurd (cc)
timer-done s now p event reply notices other is = absurd other
