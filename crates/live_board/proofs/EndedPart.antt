-- An EOM on one page.
use Rattle.std.proofs.Common.{◌≡◌, ◌≢◌, ◌⊎◌, inl, inr, ℕ, zero, suc, ◌+◌, ◌*◌, ◌/◌, ◌%◌, ◌<◌, Bool, true, false, ◌&&◌, nat_lt, List, [], ◌∷◌, ◌++◌, length, get_or, refl, sym, ap, ◌∙◌, subst, arith, append_assoc, append-nil}
use Rattle.std.specs.Prelude.{◌==◌}
use Rattle.std.proofs.Math.Bool.{and-false}
use Rattle.std.proofs.lemmas.Bool.{cases_eq}
use Rattle.std.proofs.lemmas.Bool.Decides.{nat_tests}
use Rattle.board_terms.specs.declared.messages.Message.{Message}
use Rattle.board_terms.specs.declared.notices.Notice.{Notice}
use Rattle.board_terms.specs.declared.pages.Kind.TheVariants.{Sim}
use Rattle.message_queues.specs.Image.{slot_type}
use Rattle.synic_board.specs.declared.event.Event.{Event}
use Rattle.synic_board.specs.declared.event.Event.TheVariants.{Write}
use Rattle.synic_board.specs.declared.event.Reply.{Reply}
use Rattle.synic_board.specs.State.{State, processors}
use Rattle.synic_board.specs.Delivery.{delivers, is_slot_empty}
use Rattle.synic_board.specs.Ranges.{HasRanges}
use Rattle.synic_board.specs.Sound.{IsSound, HasShape, PayloadFits}
use Rattle.synic_board.specs.Step.{step}
use Rattle.synic_board.proofs.keeping.Placements.{page_of}
use Rattle.live_pages.specs.Words.{known, type_of}
use Rattle.live_pages.specs.declared.access.Access.{Access}
use Rattle.live_board.specs.Words.{word_of}
use Rattle.live_board.specs.Live.{explained, all_done, AreCareful, IsShown, HasProbed, ProbesIf, AreProbes, NoneQueued, is_waiting, ArePlaced, FindInPage}
use Rattle.live_board.specs.inside.Parts.{IsShadow, IsStep, IsPart, IsLeft, IsProbing, IsPublished, IsWatched, Ends, IsEomOf}
use Rattle.live_board.proofs.Ended.{ended}
use Rattle.live_board.proofs.Filled.{stores-show}
use Rattle.live_board.proofs.Joined.{explained-append, careful-append, within-append, stores-within}
use Rattle.live_board.proofs.Watched.{unwatched}
use Rattle.live_board.proofs.Part.{run-then, type-is, type-marked, header-bytes}
use Rattle.live_board.proofs.Probed.{rest-waiting}
use Rattle.live_board.proofs.Staying.{stays}

-- an EOM of a processor
pub eom-ends : (s now : State) (p : ℕ) (event : Event) (reply : Reply) (notices : List Notice) → IsEomOf s p event
    → (now, reply, notices) ≡ step s event → IsSound s → HasShape s → HasRanges s → Ends s p now
eom-ends s now p (Write q number value) reply notices (on, same, eom) is sound shape ranges =
    ended s now p number value reply notices eom
    (is ∙ ap (λ r. step s (Write r number value)) same) sound shape ranges on
eom-ends s now p event reply notices other is sound shape ranges = absurd other

-- an EOM is one after looks, too
pub rest-eom : (s now : State) (p : ℕ) (event : Event) → now ≡ record s { own = now.own; slots = now.slots }
    → IsEomOf s p event → IsEomOf now p event
rest-eom s now p (Write q number value) rest (on, same, eom) =
    (subst (λ n. p < n) (sym (ap processors rest)) on, same, eom)
rest-eom s now p event rest other = absurd other

-- the accesses before an event, and the stores after it
joined : (s mid now : State) (p : ℕ) (log log-mid log-now more : List Access) (event : Event) (reply : Reply)
    (first after : List Notice) (w : IsWatched s p Sim log mid log-mid first) → IsStep mid event now reply first after
    → explained s p Sim more (w.news ++ log) ≡ [] → FindInPage more → (IsShown s p Sim → AreCareful Sim more log-mid)
    → log-now ≡ more ++ log-mid
    → IsShadow now (2 * p) log-now → ((j x : ℕ) → j ≢ 2 * p → word_of now j x ≡ word_of mid j x)
    → length now.own ≡ length mid.own → IsPart s p Sim log event now log-now reply after
joined s mid now p log log-mid log-now more event reply first after w one silent within careful page shadow others
    count =
    record {
      news = more ++ w.news;
      page = page ∙ ap (λ l. more ++ l) w.page ∙ sym (append_assoc more w.news log);
      run = run-then s mid now p Sim log log-mid more event reply first one.emitted w shows one.step
          ∙ ap (λ (ns : List Notice). (now, all_done (explained s p Sim (more ++ w.news) log) ++ reply ∷ [], ns))
          (sym one.notices);
      careful = λ shown. careful-append Sim more w.news log
          (subst (AreCareful Sim more) w.page (careful shown)) w.careful;
      within = within-append more w.news within w.within;
      hidden = λ no. shows ∙ w.hidden no;
      shadow = shadow;
      others = λ j x low ne. others j x ne ∙ w.others j x low ne;
      count = count ∙ w.count;
    }
  where
    shows : explained s p Sim (more ++ w.news) log ≡ explained s p Sim w.news log
    shows = explained-append s p Sim more w.news log
        ∙ ap (λ (es : List Event). explained s p Sim w.news log ++ es) silent
        ∙ append-nil (explained s p Sim w.news log)

-- what is not queued does not wait
pub none-waiting : (s : State) (p : ℕ) → NoneQueued s p → (i : ℕ) → i < 16 → is_waiting s p i ≡ false
none-waiting s p none i under =
    ap (λ (q : List Message). delivers s p && nat_lt 0 (length q)) (none i under) ∙ and-false (delivers s p)

-- nothing is probed
pub probes-none : (s : State) (p n : ℕ) → ((i : ℕ) → i < n → is_waiting s p i ≡ false) → AreProbes s p n []
probes-none s p zero idle = refl
probes-none s p (suc n) idle = (
  [],
  [],
  refl,
  subst (λ b. ProbesIf b n []) (sym (idle n (omega arith))) refl,
  probes-none s p n (λ i low. idle i (omega (arith, low))),
)

other-false : (x h : ℕ) → x ≢ h → (x == h) ≡ false
other-false x h e = grind (arith, nat_tests)

pub part-ended : (s mid now : State) (p : ℕ) (log log-mid log-now : List Access) (words : List ℕ) (event : Event)
    (reply : Reply) (between after : List Notice) → IsProbing s p log mid log-mid words between 16
    → HasShape mid → HasRanges mid → p < processors mid → IsStep mid event now reply between after → Ends mid p now
    → IsPublished now p true words 16 log-mid log-now → IsPart s p Sim log event now log-now reply after
part-ended s mid now p log log-mid log-now words event reply between after h shape ranges on one e pub-now =
    joined s mid now p log log-mid log-now pub-now.news event reply between after h.watched one
    (stores-show s p Sim pub-now.news (h.watched.news ++ log) pub-now.stores)
    (stores-within pub-now.news pub-now.stores)
    (λ _. pub-now.careful refl) pub-now.page
    (λ x low. by x low (cases_eq (type_of (get_or words (32 * (x / 32)) 0)) 0)) e.others e.count
  where
    same-waiting : (i : ℕ) → is_waiting mid p i ≡ is_waiting s p i
    same-waiting i = rest-waiting s mid p i h.watched.rest

    occupied : (i : ℕ) → i < 16 → type_of (word_of mid (2 * p) (32 * i)) ≢ 0 → is_slot_empty mid p i ≡ false
    occupied i under full =
        other-false (slot_type (page_of mid p) i) 0
        (λ z. full (type-is (page_of mid p) i (header-bytes mid p i shape ranges on under) ∙ z))

    left : (i w : ℕ) (b : Bool) → is_waiting mid p i ≡ b → i < 16 → w < 32 → type_of (known log-mid (32 * i)) ≢ 0
        → IsLeft b (word_of mid (2 * p) (32 * i)) (known log-mid (32 * i)) → (w ≡ 0) ⊎ (w ≢ 0)
        → known log-mid (32 * i + w) ≡ word_of now (2 * p) (32 * i + w)
    left i w true waits under low full (inl (z, empty)) which = absurd (full empty)
    left i w true waits under low full (inr is) (inl first) =
        let place : 32 * i + w ≡ 32 * i = omega (arith, first) in
        let some : type_of (word_of mid (2 * p) (32 * i)) ≢ 0 =
        λ z. full (ap type_of is ∙ type-marked (word_of mid (2 * p) (32 * i)) ∙ z) in
        ap (known log-mid) place ∙ is ∙ sym ((e.slots i under).marks waits (occupied i under some))
        ∙ ap (word_of now (2 * p)) (sym place)
    left i w true waits under low full (inr is) (inr later) =
        let some : type_of (word_of mid (2 * p) (32 * i)) ≢ 0 =
        λ z. full (ap type_of is ∙ type-marked (word_of mid (2 * p) (32 * i)) ∙ z) in
        h.fresh (32 * i + w) (omega (arith, under, low)) (inl (λ z. later (omega (arith, z, low))))
        ∙ sym ((e.slots i under).payload waits (occupied i under some) w (omega (arith, later)) low)
    left i w false idle under low full is (inl first) =
        let place : 32 * i + w ≡ 32 * i = omega (arith, first) in
        ap (known log-mid) place ∙ is ∙ ap (word_of mid (2 * p)) (sym place) ∙ sym ((e.slots i under).idle idle w low)
    left i w false idle under low full is (inr later) =
        h.fresh (32 * i + w) (omega (arith, under, low)) (inl (λ z. later (omega (arith, z, low))))
        ∙ sym ((e.slots i under).idle idle w low)

    by : (x : ℕ) → x < 512 → (type_of (get_or words (32 * (x / 32)) 0) ≡ 0)
        ⊎ (type_of (get_or words (32 * (x / 32)) 0) ≢ 0) → known log-now x ≡ word_of now (2 * p) x
    by x low (inl empty) = pub-now.done x low (omega (arith, low)) (inr empty)
    by x low (inr full) =
        let i : ℕ = x / 32 in
        let under : i < 16 = omega (arith, low) in
        let place : 32 * i + x % 32 ≡ x = omega arith in
        let head : type_of (known log-mid (32 * i)) ≢ 0 =
        λ z. full (ap type_of (sym (h.knows (32 * i) (omega (arith, under)))) ∙ z) in
        let exact = subst (λ b. IsLeft b (word_of mid (2 * p) (32 * i)) (known log-mid (32 * i)))
        (sym (same-waiting i)) (h.exact i under) in
        pub-now.left x low (inr (refl, full)) ∙ ap (known log-mid) (sym place)
        ∙ left i (x % 32) (is_waiting mid p i) refl under (omega arith) head exact (cases_eq (x % 32) 0)
        ∙ ap (word_of now (2 * p)) place

pub part-ended-hidden : (s now : State) (p : ℕ) (log log-now : List Access) (words : List ℕ) (event : Event)
    (reply : Reply) (before after : List Notice) → before ≡ [] → (IsShown s p Sim → ⊥)
    → IsStep s event now reply before after → Ends s p now → IsPublished now p false words 16 log log-now
    → IsPart s p Sim log event now log-now reply after
part-ended-hidden s now p log log-now words event reply before after empty hidden one e pub-now =
    joined s s now p log log log-now pub-now.news event reply [] after (unwatched s p Sim log [] refl)
    (subst (λ ns. IsStep s event now reply ns after) empty one)
    (stores-show s p Sim pub-now.news _ pub-now.stores) (stores-within pub-now.news pub-now.stores)
    (λ shown. absurd (hidden shown)) pub-now.page
    (λ x low. pub-now.done x low (omega (arith, low)) (inl refl)) e.others e.count

pub has-probed : (s mid now : State) (p : ℕ) (log log-mid log-now : List Access) (words : List ℕ)
    (between : List Notice) → IsProbing s p log mid log-mid words between 16
    → IsPublished now p true words 16 log-mid log-now → HasProbed s p log log-now
has-probed s mid now p log log-mid log-now words between h pub-now = (
  pub-now.news,
  h.watched.news,
  pub-now.page ∙ ap (λ l. pub-now.news ++ l) h.watched.page,
  pub-now.stores,
  h.probes,
  subst (λ l. ArePlaced 16 l pub-now.news) h.watched.page pub-now.placed,
)

-- a processor that writes EOM is on the board, and stays there
pub eom-on : (s : State) (p : ℕ) (event : Event) → IsEomOf s p event → p < processors s
eom-on s p (Write q number value) (on, same, eom) = on
eom-on s p event other = absurd other

pub eom-fits : (s : State) (p : ℕ) (event : Event) → IsEomOf s p event → PayloadFits event
eom-fits s p (Write q number value) eom = tt
eom-fits s p event other = absurd other

pub eom-stays : (s now : State) (p : ℕ) (event : Event) (reply : Reply) (notices : List Notice) → IsEomOf s p event
    → IsSound s → (now, reply, notices) ≡ step s event → p < processors now
eom-stays s now p event reply notices eom sound is =
    subst (λ n. p < n) (sym (stays s now event reply notices (eom-fits s p event eom) sound is)) (eom-on s p event eom)
