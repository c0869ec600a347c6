-- A post on one page.
use Rattle.std.proofs.Common.{◌≡◌, ◌≢◌, ◌⊎◌, inl, inr, ℕ, ◌+◌, ◌*◌, ◌/◌, ◌%◌, ◌^◌, ◌<◌, ◌≤◌, Bool, true, false, List, [], ◌∷◌, ◌++◌, length, get_or, Some, refl, sym, ap, ◌∙◌, subst, arith, append_assoc, append-nil}
use Rattle.std.specs.Prelude.{◌==◌, bit_or}
use Rattle.std.proofs.lemmas.Bool.{cases_eq}
use Rattle.std.proofs.lemmas.Bool.Decides.{nat_tests}
use Rattle.arrayvec.specs.ArrayVec.{ArrayVec}
use Rattle.board_terms.specs.declared.notices.Notice.{Notice}
use Rattle.board_terms.specs.declared.pages.Kind.{Kind}
use Rattle.board_terms.specs.declared.pages.Kind.TheVariants.{Sim}
use Rattle.event_ports.specs.declared.ports.Port.{Port}
use Rattle.event_ports.specs.Ports.{port_at}
use Rattle.message_queues.specs.Image.{slot_type}
use Rattle.synic_board.specs.declared.event.Event.{Event}
use Rattle.synic_board.specs.declared.event.Event.TheVariants.{Post}
use Rattle.synic_board.specs.declared.event.Reply.{Reply}
use Rattle.synic_board.specs.Ranges.{HasRanges}
use Rattle.synic_board.specs.State.{State, processors, ports_of}
use Rattle.synic_board.specs.Effects.{Outcome}
use Rattle.synic_board.specs.Step.{step}
use Rattle.synic_board.specs.Run.{Run, run_of}
use Rattle.synic_board.specs.Sound.{IsSound, HasShape}
use Rattle.synic_board.specs.Delivery.{is_slot_empty}
use Rattle.synic_board.specs.Posts.{posted}
use Rattle.synic_board.proofs.keeping.Placements.{page_of}
use Rattle.live_pages.specs.Words.{known, type_of, is_pending}
use Rattle.live_pages.specs.declared.access.Access.{Access}
use Rattle.live_pages.specs.declared.access.Access.TheVariants.{Load}
use Rattle.live_pages.proofs.Bits.{or-set}
use Rattle.live_board.proofs.Watched.{unwatched}
use Rattle.live_board.specs.Words.{word_at, word_of}
use Rattle.live_board.specs.Live.{explained, all_done, AreCareful, IsShown, HasLooked}
use Rattle.live_board.specs.inside.Parts.{IsShadow, IsWatched, IsFound, IsStep, IsInto, IsPart, IsLooks, IsViewed, Attempts, is_attempted}
use Rattle.live_board.proofs.Bytes.{joined, word-bytes}
use Rattle.live_board.proofs.Posted.{posted-attempts}
use Rattle.live_board.proofs.Filled.{stores-show}
use Rattle.live_board.proofs.Joined as runs
use Rattle.std.specs.Int.{bit_at}
use Rattle.std.specs.Int.Bits.{or_zero_r}
use Rattle.std.proofs.lemmas.Nat.{or_mod}
use Rattle.live_board.proofs.Found.{rest-attempted}

-- the type in the first word of a slot
low-word : (f : ℕ → ℕ) → ((b : ℕ) → b < 8 → f b < 256)
    → joined f % 2 ^ 32 ≡ f 0 + 0x100 * f 1 + 0x10000 * f 2 + 0x1000000 * f 3
low-word f bytes =
    let b0 = bytes 0 (omega arith) in
    let b1 = bytes 1 (omega arith) in
    let b2 = bytes 2 (omega arith) in
    let b3 = bytes 3 (omega arith) in
    omega (arith, b0, b1, b2, b3)

pub type-is : (page : List ℕ) (i : ℕ) → ((b : ℕ) → b < 8 → get_or page (8 * (32 * i) + b) 0 < 256)
    → type_of (word_at page (8 * (32 * i))) ≡ slot_type page i
type-is page i bytes =
    let place = λ (b : ℕ). (let e : 8 * (32 * i) + b ≡ 256 * i + b = omega arith in e) in
    ap (λ n. n % 2 ^ 32) (word-bytes page (8 * (32 * i))) ∙ low-word (λ b. get_or page (8 * (32 * i) + b) 0) bytes
    ∙ (λ j. get_or page (place 0 j) 0 + 0x100 * get_or page (place 1 j) 0 + 0x10000 * get_or page
    (place 2 j) 0 + 0x1000000 * get_or page (place 3 j) 0)

-- the words after a post
abbrev Made : State → ℕ → ℕ → Port → State → Type 0
Made s number kind port now = Attempts s port.vp port.sint (is_attempted s number kind port) now

-- the state after a step
stepped : (s now : State) (number kind : ℕ) (payload : ArrayVec ℕ) (reply : Reply) (ns : List Notice)
    → (now, reply, ns) ≡ step s (Post number kind payload) → now ≡ (posted s number kind payload).0
unfolding step
stepped s now number kind payload reply ns is = ap (λ (o : Outcome). o.0) is

pub made : (s now : State) (number kind : ℕ) (payload : ArrayVec ℕ) (reply : Reply) (ns : List Notice) (port : Port)
    → (now, reply, ns) ≡ step s (Post number kind payload) → port_at (ports_of s) number ≡ Some port
    → IsSound s → length payload.items ≤ 240
    → ((b : ℕ) → b < 8 → get_or (page_of s port.vp) (8 * (32 * port.sint) + b) 0 < 256)
    → Made s number kind port now
made s now number kind payload reply ns port is there h size bytes =
    subst (Made s number kind port) (sym (stepped s now number kind payload reply ns is))
    (posted-attempts s number kind payload port there h size bytes)

-- a run of looks, and then an event
pub run-then : (s mid now : State) (p : ℕ) (k : Kind) (log log-mid : List Access) (more : List Access) (event : Event)
    (reply : Reply) (first second : List Notice) (w : IsWatched s p k log mid log-mid first)
    → explained s p k (more ++ w.news) log ≡ explained s p k w.news log → (now, reply, second) ≡ step mid event
    → run_of s (explained s p k (more ++ w.news) log ++ event ∷ [])
    ≡ (now, all_done (explained s p k (more ++ w.news) log) ++ reply ∷ [], first ++ second)
unfolding run_of
run-then s mid now p k log log-mid more event reply first second w same is =
    let es : List Event = explained s p k w.news log in
    let one : run_of mid (event ∷ []) ≡ (now, reply ∷ [], second) =
    ap (λ (o : Outcome). (o.0, o.1 ∷ [], o.2 ++ [])) (sym is)
    ∙ ap (λ (ns : List Notice). (now, reply ∷ [], ns)) (append-nil second) in
    ap (λ (x : List Event). run_of s (x ++ event ∷ [])) same ∙ runs.run-append s es (event ∷ [])
    ∙ ap (λ (r : Run). runs.joined r (run_of r.0 (event ∷ []))) w.run
    ∙ ap (runs.joined (mid, all_done es, first)) one
    ∙ ap (λ (x : List Event). (now, all_done x ++ reply ∷ [], first ++ second)) (sym same)

-- the header, and a mark of it
pub type-marked : (h : ℕ) → type_of (bit_or h (2 ^ 40)) ≡ type_of h
type-marked h = or_mod h (2 ^ 40) 32 ∙ or_zero_r (h % 2 ^ 32)

pub left-type : (s : State) (number kind : ℕ) (port : Port) (header left : ℕ)
    → ((left ≡ header) × ((type_of header ≡ 0)
    ⊎ ((is_pending header ≡ true) ⊎ (is_attempted s number kind port ≡ false))))
    ⊎ ((left ≡ bit_or header (2 ^ 40)) × (is_attempted s number kind port ≡ true)) → type_of left ≡ type_of header
left-type s number kind port header left (inl h) = ap type_of h.0
left-type s number kind port header left (inr h) = ap type_of h.0 ∙ type-marked header

pub bit-set : (h : ℕ) → is_pending h ≡ true → bit_at h 40 ≡ 1
bit-set h e = grind (arith, nat_tests)

same-true : (x h : ℕ) → x ≡ h → (x == h) ≡ true
same-true x h e = grind (arith, nat_tests)

other-false : (x h : ℕ) → x ≢ h → (x == h) ≡ false
other-false x h e = grind (arith, nat_tests)

-- a post that leaves the header of a slot, or only marks it, leaves its payload
pub kept-payload : (mid now : State) (number kind : ℕ) (port : Port) (left : ℕ) → port.sint < 16
    → ((b : ℕ) → b < 8 → get_or (page_of mid port.vp) (8 * (32 * port.sint) + b) 0 < 256)
    → ((b : ℕ) → b < 8 → get_or (page_of now port.vp) (8 * (32 * port.sint) + b) 0 < 256)
    → Made mid number kind port now
    → type_of left ≡ type_of (word_of mid (2 * port.vp) (32 * port.sint))
    → word_of now (2 * port.vp) (32 * port.sint) ≡ left → (k : ℕ) → 1 ≤ k → k < 32
    → word_of now (2 * port.vp) (32 * port.sint + k) ≡ word_of mid (2 * port.vp) (32 * port.sint + k)
kept-payload mid now number kind port left under bytes bytes-now m like same k some low =
    by (is_attempted mid number kind port) refl (is_slot_empty mid p i) refl
  where
    p : ℕ
    p = port.vp

    i : ℕ
    i = port.sint

    types : slot_type (page_of now p) i ≡ slot_type (page_of mid p) i
    types = sym (type-is (page_of now p) i bytes-now) ∙ ap type_of same ∙ like ∙ type-is (page_of mid p) i bytes

    by : (made : Bool) → is_attempted mid number kind port ≡ made → (empty : Bool) → is_slot_empty mid p i ≡ empty
        → word_of now (2 * p) (32 * i + k) ≡ word_of mid (2 * p) (32 * i + k)
    by false none _ _ = m.idle none (2 * p) (32 * i + k)
    by true holds false full =
        m.marks holds full (32 * i + k) (omega (arith, under, low))
        ∙ rw (other-false (32 * i + k) (32 * i) (λ e. omega (arith, e, some))) refl
    by true holds true empty =
        absurd (let e : true ≡ false = sym empty ∙ ap (λ n. n == 0) (sym types) ∙ m.fills holds empty in cc)

-- an occupied slot after a post
pub part-kept : (s mid now : State) (number kind : ℕ) (port : Port) (log log-mid : List Access) (header left : ℕ)
    (event : Event) (reply : Reply) (between after : List Notice)
    → port.sint < 16 → ((b : ℕ) → b < 8 → get_or (page_of mid port.vp) (8 * (32 * port.sint) + b) 0 < 256)
    → IsFound s number kind port log mid log-mid header left [] between → IsStep mid event now reply between after
    → Made mid number kind port now → type_of header ≢ 0 → IsPart s port.vp Sim log event now log-mid reply after
part-kept s mid now number kind port log log-mid header left event reply between after under bytes f one m full =
    record {
      news = f.watched.news;
      page = f.watched.page;
      run = run-then s mid now p Sim log log-mid [] event reply f.emitted one.emitted f.watched refl one.step
          ∙ ap (λ (ns : List Notice). (now, all_done (explained s p Sim f.watched.news log) ++ reply ∷ [], ns))
          (sym (one.notices ∙ ap (λ ns. ns ++ one.emitted) f.notices));
      careful = λ _. f.watched.careful;
      within = f.watched.within;
      hidden = f.watched.hidden;
      shadow = λ x low. by x low (cases_eq x h);
      others = λ j w low ne. m.others j w low (inl ne) ∙ f.watched.others j w low ne;
      count = m.count ∙ f.watched.count;
    }
  where
    p : ℕ
    p = port.vp

    h : ℕ
    h = 32 * port.sint

    occupied : is_slot_empty mid p port.sint ≡ false
    occupied =
        let e : slot_type (page_of mid p) port.sint ≡ type_of header =
        sym (type-is (page_of mid p) port.sint bytes) ∙ ap type_of f.here in
        other-false (slot_type (page_of mid p) port.sint) 0 (λ z. full (sym e ∙ z))

    marked : is_attempted mid number kind port ≡ true → word_of now (2 * p) h ≡ bit_or header (2 ^ 40)
    marked holds =
        m.marks holds occupied h (omega (arith, under)) ∙ rw (same-true h h refl) (ap (λ n. bit_or n (2 ^ 40)) f.here)

    mid-attempted : is_attempted mid number kind port ≡ is_attempted s number kind port
    mid-attempted = rest-attempted s mid number kind port f.watched.rest

    pending : (b : Bool) → is_attempted mid number kind port ≡ b → is_pending header ≡ true
        → word_of now (2 * p) h ≡ header
    pending true holds set = marked holds ∙ or-set header 40 (bit-set header set)
    pending false none set = m.idle none (2 * p) h ∙ f.here

    head : ((left ≡ header) ×
        ((type_of header ≡ 0) ⊎ ((is_pending header ≡ true) ⊎ (is_attempted s number kind port ≡ false))))
        ⊎ ((left ≡ bit_or header (2 ^ 40)) × (is_attempted s number kind port ≡ true)) → left ≡ word_of now (2 * p) h
    head (inl (same, inl empty)) = absurd (full empty)
    head (inl (same, inr (inl set))) = same ∙ sym (pending (is_attempted mid number kind port) refl set)
    head (inl (same, inr (inr none))) = same ∙ sym (m.idle (mid-attempted ∙ none) (2 * p) h ∙ f.here)
    head (inr (same, holds)) = same ∙ sym (marked (mid-attempted ∙ holds))

    payload : (b : Bool) → is_attempted mid number kind port ≡ b → (x : ℕ) → x < 512 → x ≢ h
        → word_of now (2 * p) x ≡ word_of mid (2 * p) x
    payload true holds x low ne = m.marks holds occupied x low ∙ rw (other-false x h ne) refl
    payload false none x low ne = m.idle none (2 * p) x

    by : (x : ℕ) → x < 512 → (x ≡ h) ⊎ (x ≢ h) → known log-mid x ≡ word_of now (2 * p) x
    by x low (inl e) = ap (known log-mid) e ∙ f.known_here ∙ head f.exact ∙ ap (word_of now (2 * p)) (sym e)
    by x low (inr ne) = f.others x low ne ∙ sym (payload (is_attempted mid number kind port) refl x low ne)

-- a slot that was filled after a post
pub part-filled : (s mid now : State) (number kind : ℕ) (port : Port) (log log-mid log-now : List Access) (left : ℕ)
    (event : Event) (reply : Reply) (first between after : List Notice)
    → port.sint < 16 → (w : IsWatched s port.vp Sim log mid log-mid first) → between ≡ first
    → ((x : ℕ) → x < 512 → x ≢ 32 * port.sint → known log-mid x ≡ word_of mid (2 * port.vp) x)
    → IsInto port left mid log-mid event now log-now reply between after → Made mid number kind port now
    → (IsShown s port.vp Sim → type_of left ≡ 0) → IsPart s port.vp Sim log event now log-now reply after
part-filled s mid now number kind port log log-mid log-now left event reply first between after under w notices
    known-others into m empty = record {
      news = more ++ w.news;
      page = into.filled.page ∙ ap (λ l. more ++ l) w.page ∙ sym (append_assoc more w.news log);
      run = run-then s mid now p Sim log log-mid more event reply first into.step.emitted w shows into.step.step
          ∙ ap (λ (ns : List Notice). (now, all_done (explained s p Sim (more ++ w.news) log) ++ reply ∷ [], ns))
          (sym (into.step.notices ∙ ap (λ ns. ns ++ into.step.emitted) notices));
      careful = λ shown. runs.careful-append Sim more w.news log
          (subst (λ l. AreCareful Sim more l) w.page (into.filled.careful (empty shown))) w.careful;
      within = runs.within-append more w.news (runs.stores-within more into.filled.stores) w.within;
      hidden = λ no. shows ∙ w.hidden no;
      shadow = λ x low. by x low (cases_eq (x / 32) port.sint);
      others = λ j x low ne. m.others j x low (inl ne) ∙ w.others j x low ne;
      count = m.count ∙ w.count;
    }
  where
    p : ℕ
    p = port.vp

    more : List Access
    more = into.filled.news

    shows : explained s p Sim (more ++ w.news) log ≡ explained s p Sim w.news log
    shows = runs.explained-append s p Sim more w.news log
        ∙ ap (λ (es : List Event). explained s p Sim w.news log ++ es)
        (stores-show s p Sim more (w.news ++ log) into.filled.stores) ∙ append-nil (explained s p Sim w.news log)

    by : (x : ℕ) → x < 512 → (x / 32 ≡ port.sint) ⊎ (x / 32 ≢ port.sint) → known log-now x ≡ word_of now (2 * p) x
    by x low (inl e) =
        let place : 32 * port.sint + x % 32 ≡ x = omega (arith, e) in
        ap (known log-now) (sym place) ∙ into.filled.words (x % 32) (omega arith) ∙ into.are (x % 32) (omega arith)
        ∙ ap (word_of now (2 * p)) place
    by x low (inr ne) =
        into.filled.others x ne ∙ known-others x low (λ e. ne (omega (arith, e)))
        ∙ sym (m.others (2 * p) x low (inr ne))

pub no-looks : (s : State) (p : ℕ) (log : List Access) (notices : List Notice) → notices ≡ [] → IsShadow s (2 * p) log
    → IsLooks s p log s log notices 0
unfolding unwatched
no-looks s p log notices none shadow = record {
  watched = unwatched s p Sim log notices none;
  shadow = shadow;
  few = omega (arith, ap length none);
  looks = refl;
}

-- the bytes of a header
pub header-bytes : (s : State) (p i : ℕ) → HasShape s → HasRanges s → p < processors s → i < 16 → (b : ℕ) → b < 8
    → get_or (page_of s p) (8 * (32 * i) + b) 0 < 256
header-bytes s p i shape ranges on under b low =
    let inside : 2 * p < length s.own = omega (arith, shape.overlays, on) in
    ranges.own (2 * p) [] inside (8 * (32 * i) + b) 0 (omega (arith, shape.own (2 * p) [] inside, under, low))

pub viewed-looks : (s : State) (p : ℕ) (log : List Access) (now : State) (log-now : List Access)
    (notices : List Notice) → IsShown s p Sim → IsLooks s p log now log-now notices 16
    → IsViewed s p log now log-now notices
viewed-looks s p log now log-now notices shown h =
    record {
      watched = h.watched;
      shadow = h.shadow;
      few = h.few;
      shown = λ _. h.looks;
      hidden = λ no. absurd (no shown);
    }

pub viewed-none : (s : State) (p : ℕ) (log : List Access) (notices : List Notice) → (IsShown s p Sim → ⊥)
    → notices ≡ [] → IsShadow s (2 * p) log → IsViewed s p log s log notices
unfolding no-looks
viewed-none s p log notices hidden none shadow =
    record {
      watched = (no-looks s p log notices none shadow).watched;
      shadow = shadow;
      few = omega (arith, ap length none);
      shown = λ shown. absurd (hidden shown);
      hidden = λ _. refl;
    }

-- more accesses after a look
pub looked-more : (w : ℕ) (log mid now more : List Access) → now ≡ more ++ mid → HasLooked w log mid
    → HasLooked w log now
looked-more w log mid now more is h =
    (more ++ h.0, h.1, is ∙ ap (λ l. more ++ l) h.2 ∙ sym (append_assoc more h.0 (Load w h.1 ∷ log)))
