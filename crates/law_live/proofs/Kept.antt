-- The accesses of calls to a message page, slot by slot.
use Rattle.std.proofs.Common.{◌≡◌, ◌≢◌, ◌⊎◌, inl, inr, ℕ, zero, suc, ◌+◌, ◌*◌, ◌/◌, ◌<◌, ◌≤◌, Bool, true, false, List, [], ◌∷◌, ◌++◌, length, get_or, set, refl, sym, ap, ◌∙◌, subst, arith, append_assoc}
use Rattle.std.specs.Prelude.{◌==◌, not}
use Rattle.std.proofs.lemmas.Bool.{cases_eq}
use Rattle.std.proofs.lemmas.Bool.Decides.{nat_tests}
use Rattle.std.proofs.lemmas.List.{append_cancel_right, get_or-set_same, get_or-set_other}
use Rattle.board_terms.specs.declared.notices.Notice.{Notice}
use Rattle.board_terms.specs.declared.pages.Kind.{Kind}
use Rattle.board_terms.specs.declared.pages.Kind.TheVariants.{Sim, Sief}
use Rattle.gpa_space.specs.Space.{overlay_of}
use Rattle.synic_board.specs.declared.event.Event.{Event}
use Rattle.synic_board.specs.declared.event.Event.TheVariants.{Post}
use Rattle.synic_board.specs.declared.event.Reply.{Reply}
use Rattle.synic_board.specs.State.{State}
use Rattle.live_pages.specs.Headers.{is_occupied}
use Rattle.live_pages.specs.Words.{known, header, type_of, pending_mask}
use Rattle.live_pages.specs.declared.access.Access.{Access}
use Rattle.live_pages.specs.declared.access.Access.TheVariants.{Load, FetchOr, Store}
use Rattle.live_board.specs.Live.{LiveModel, IsLive, HasPlaced, slot_word, IsShown, AreCareful, AreReads, AreLooks, AreMarks, AreProbes, AreStores, ArePuts, IsStoredAnew, HasProbed, ProbesIf, AreDueDirect, is_any_due, is_waiting, log_of}
use Rattle.live_board.proofs.Joined.{careful-append}
use Rattle.live_board.proofs.WokenTicks.{direct-or}
use Rattle.law_slots.specs.Reading.{is_in}
use Rattle.law_live.specs.Kept.{AreKept, KeepsSlots, PostsKeepSlots, EomsKeepSlots, TimersKeepSlots, TicksKeepSlots}
use Rattle.law_live.proofs.Apart.{page-count}
use Rattle.law_live.proofs.Calls.{overlay-low}

-- atomic ors of MessagePending in headers, if any
AreOrs : List Access → Type 0
AreOrs [] = Unit {0}
AreOrs (Load w found ∷ news) = AreOrs news
AreOrs (FetchOr w mask found ∷ news) = ((j : ℕ) × (w ≡ header j) × (mask ≡ pending_mask)) × AreOrs news
AreOrs (Store w value ∷ news) = AreOrs news

same-slot : (i j : ℕ) → is_in (header i) (header j) ≡ true → j ≡ i
same-slot i j inside =
    let low : 32 * i ≤ 32 * j = grind (arith, nat_tests) in
    let high : 32 * j < 32 * i + 32 = grind (arith, nat_tests) in omega (arith, low, high)

its-slot : (i w : ℕ) → is_in (header i) w ≡ true → w / 32 ≡ i
its-slot i w inside =
    let low : 32 * i ≤ w = grind (arith, nat_tests) in
    let high : w < 32 * i + 32 = grind (arith, nat_tests) in omega (arith, low, high)

empty-is : (h : ℕ) → type_of h ≡ 0 → is_occupied h ≡ false
empty-is h e = ap (λ t. not (t == 0)) e

-- careful stores, and such ors
kept-by : (i : ℕ) (news log : List Access) → AreCareful Sim news log → AreOrs news → AreKept (header i) news log
unfolding AreOrs
kept-by i [] log careful ors = tt
kept-by i (Load w found ∷ news) log careful ors = (tt, kept-by i news log careful ors)
kept-by i (FetchOr w mask found ∷ news) log careful ((j, at, mask-is), ors) = (
  λ inside. (at ∙ ap header (same-slot i j (subst (λ v. is_in (header i) v ≡ true) at inside)), mask-is),
  kept-by i news log careful ors,
)
kept-by i (Store w value ∷ news) log (empty, careful) ors = (
  λ inside. empty-is (known (news ++ log) (header i))
      (ap (λ s. type_of (known (news ++ log) (32 * s))) (sym (its-slot i w inside)) ∙ empty),
  kept-by i news log careful ors,
)

ors-append : (a b : List Access) → AreOrs a → AreOrs b → AreOrs (a ++ b)
unfolding AreOrs
ors-append [] b h g = g
ors-append (Load w found ∷ a) b h g = ors-append a b h g
ors-append (FetchOr w mask found ∷ a) b h g = (h.0, ors-append a b h.1 g)
ors-append (Store w value ∷ a) b h g = ors-append a b h g

stores-ors : (news : List Access) → AreStores news → AreOrs news
unfolding AreOrs
stores-ors [] are = tt
stores-ors (Store w value ∷ news) are = stores-ors news are
stores-ors (Load w found ∷ news) are = absurd are
stores-ors (FetchOr w mask found ∷ news) are = absurd are

reads-ors : (i : ℕ) (news : List Access) → AreReads i news → AreOrs news
unfolding AreOrs
reads-ors i [] are = tt
reads-ors i (Load w found ∷ news) (at, are) = reads-ors i news are
reads-ors i (FetchOr w mask found ∷ news) (at, mask-is, are) = ((i, at, mask-is), reads-ors i news are)
reads-ors i (Store w value ∷ news) are = absurd are

puts-ors : (i : ℕ) (image : ℕ → ℕ) (n : ℕ) (news : List Access) → ArePuts i image n news → AreOrs news
unfolding AreOrs
puts-ors i image zero news is = subst AreOrs (sym is) tt
puts-ors i image (suc n) news (rest, inl is, more) = subst AreOrs (sym is) (puts-ors i image n rest more)
puts-ors i image (suc n) news (rest, inr (found, is), more) = subst AreOrs (sym is) (puts-ors i image n rest more)

stored-ors : (i : ℕ) (image : ℕ → ℕ) (log news : List Access) → IsStoredAnew i image log news → AreOrs news
unfolding AreOrs
stored-ors i image log news ((puts, is, are), other) = subst AreOrs (sym is) (puts-ors i image 31 puts are)

looks-ors : (n : ℕ) (news : List Access) → AreLooks n news → AreOrs news
unfolding AreOrs
looks-ors zero news is = subst AreOrs (sym is) tt
looks-ors (suc n) news (found, rest, is, more) = subst AreOrs (sym is) (looks-ors n rest more)

marks-ors : (news : List Access) → AreMarks news → AreOrs news
unfolding AreOrs
marks-ors [] are = tt
marks-ors (FetchOr w mask found ∷ news) (j, low, at, mask-is, more) = ((j, at, mask-is), marks-ors news more)
marks-ors (Load w found ∷ news) are = absurd are
marks-ors (Store w value ∷ news) are = absurd are

probe-ors : (b : Bool) (i : ℕ) (news : List Access) → ProbesIf b i news → AreOrs news
unfolding AreOrs
probe-ors false i news is = subst AreOrs (sym is) tt
probe-ors true i news (found, inl (is, which)) = subst AreOrs (sym is) tt
probe-ors true i news (found, inr (marked, is, full, clear)) = subst AreOrs (sym is) ((i, refl, refl), tt)

probes-ors : (s : State) (p n : ℕ) (news : List Access) → AreProbes s p n news → AreOrs news
unfolding AreOrs
probes-ors s p zero news is = subst AreOrs (sym is) tt
probes-ors s p (suc n) news (one, rest, is, probe, more) =
    subst AreOrs (sym is)
    (ors-append one rest (probe-ors (is_waiting s p n) n one probe) (probes-ors s p n rest more))

-- looks, careful stores and marks
looks-careful : (n : ℕ) (news log : List Access) → AreLooks n news → AreCareful Sim news log
looks-careful zero news log is = subst (λ l. AreCareful Sim l log) (sym is) tt
looks-careful (suc n) news log (found, rest, is, more) =
    subst (λ l. AreCareful Sim l log) (sym is) (looks-careful n rest log more)

marks-careful : (news log : List Access) → AreMarks news → AreCareful Sim news log
marks-careful [] log are = tt
marks-careful (FetchOr w mask found ∷ news) log (j, low, at, mask-is, more) = marks-careful news log more
marks-careful (Load w found ∷ news) log are = absurd are
marks-careful (Store w value ∷ news) log are = absurd are

timed-kept : (i : ℕ) (looks stores marks log : List Access) → AreLooks 16 looks → AreStores stores
    → AreCareful Sim stores (looks ++ log) → AreMarks marks → AreKept (header i) (marks ++ (stores ++ looks)) log
timed-kept i looks stores marks log are stored careful marked =
    kept-by i (marks ++ (stores ++ looks)) log
    (careful-append Sim marks (stores ++ looks) log
    (marks-careful marks ((stores ++ looks) ++ log) marked)
    (careful-append Sim stores looks log careful (looks-careful 16 looks log are)))
    (ors-append marks (stores ++ looks) (marks-ors marks marked)
    (ors-append stores looks (stores-ors stores stored) (looks-ors 16 looks are)))

regrouped : (marks stores looks log now : List Access) → now ≡ marks ++ (stores ++ (looks ++ log))
    → now ≡ (marks ++ (stores ++ looks)) ++ log
regrouped marks stores looks log now is =
    is ∙ ap (λ l. marks ++ l) (sym (append_assoc stores looks log)) ∙ sym (append_assoc marks (stores ++ looks) log)

-- an event with accesses to one page
other-page : (p vp : ℕ) (kind : Kind) → (overlay_of p Sim ≡ overlay_of vp kind)
    → (vp ≡ p) × (kind ≡ Sim)
other-page p vp Sim e = (omega (arith, e), refl)
other-page p vp Sief e = absurd (omega (arith, e))

live-kept : (p : ℕ) (old now : LiveModel) (event : Event) (reply : Reply) (notices : List Notice)
    (news : List Access) → 2 * p + 1 < length old.pages → IsShown old.board.state p Sim
    → IsLive old event now reply notices → log_of now p Sim ≡ news ++ log_of old p Sim → AreOrs news
    → KeepsSlots p old now
live-kept p old now event reply notices news size shown live page ors =
    record { news = news; page = page; kept = λ i under. by i (cases_eq (overlay_of p Sim) o) }
  where
    o : ℕ
    o = overlay_of live.vp live.kind

    log : List Access
    log = log_of old live.vp live.kind

    by : (i : ℕ) → (overlay_of p Sim ≡ o) ⊎ (overlay_of p Sim ≢ o)
        → AreKept (header i) news (log_of old p Sim)
    by i (inr ne) =
        let same : log_of now p Sim ≡ log_of old p Sim =
        ap (λ (ps : List (List Access)). get_or ps (overlay_of p Sim) []) live.pages
        ∙ get_or-set_other old.pages o (overlay_of p Sim) (live.news ++ log) [] ne in
        subst (λ l. AreKept (header i) l (log_of old p Sim))
        (sym (append_cancel_right news [] (log_of old p Sim) (sym page ∙ same))) tt
    by i (inl e) =
        let which = other-page p live.vp live.kind e in
        let there : log_of now p Sim ≡ live.news ++ log =
        ap (λ (ps : List (List Access)). get_or ps (overlay_of p Sim) []) live.pages
        ∙ ap (λ n. get_or (set old.pages o (live.news ++ log)) n []) e
        ∙ get_or-set_same old.pages o (live.news ++ log) []
        (subst (λ n. n < length old.pages) e (overlay-low p (length old.pages) Sim size)) in
        let same-log : log ≡ log_of old p Sim = ap (λ n. get_or old.pages n []) (sym e) in
        let same : live.news ≡ news =
        append_cancel_right live.news news (log_of old p Sim)
        (ap (λ l. live.news ++ l) (sym same-log) ∙ sym there ∙ page) in
        let seen : IsShown old.board.state live.vp live.kind =
        subst (λ q. IsShown old.board.state q live.kind) (sym which.0)
        (subst (λ k. IsShown old.board.state p k) (sym which.1) shown) in
        let careful : AreCareful Sim live.news log =
        subst (λ k. AreCareful k live.news log) which.1 (live.careful seen) in
        kept-by i news (log_of old p Sim)
        (subst (λ l. AreCareful Sim l (log_of old p Sim)) same
        (subst (λ l. AreCareful Sim live.news l) same-log careful)) ors

pub posts-keep-slots : PostsKeepSlots
posts-keep-slots old now port type payload target reply notices ready opened shown live placed =
    by (placed target opened)
  where
    size : 2 * target.vp + 1 < length old.pages
    size = page-count target.vp old ready

    log : List Access
    log = log_of old target.vp Sim

    by : HasPlaced target.sint (slot_word now.board.state target.vp target.sint) log (log_of now target.vp Sim)
        → KeepsSlots target.vp old now
    by (reads, are, inl is) =
        live-kept target.vp old now (Post port type payload) reply notices reads size shown live is
        (reads-ors target.sint reads are)
    by (reads, are, inr (stores, stored, is)) =
        live-kept target.vp old now (Post port type payload) reply notices (stores ++ reads) size shown live
        (is ∙ sym (append_assoc stores reads log))
        (ors-append stores reads
        (stored-ors target.sint (slot_word now.board.state target.vp target.sint) (reads ++ log) stores stored)
        (reads-ors target.sint reads are))

pub eoms-keep-slots : EomsKeepSlots
eoms-keep-slots p old now event reply notices ready shown ended = by (ended.1 ready.on shown)
  where
    log : List Access
    log = log_of old p Sim

    by : HasProbed old.board.state p log (log_of now p Sim) → KeepsSlots p old now
    by (stores, probes, is, stored, probed, placed) =
        live-kept p old now event reply notices (stores ++ probes) (page-count p old ready) shown ended.0
        (is ∙ sym (append_assoc stores probes log))
        (ors-append stores probes (stores-ors stores stored) (probes-ors old.board.state p 16 probes probed))

pub timers-keep-slots : TimersKeepSlots
timers-keep-slots p old now event reply owed notices ready shown t =
    let low : 2 * p < length old.pages = let size = page-count p old ready in omega (arith, size) in
    record {
      news = t.marks ++ (t.stores ++ t.looks);
      page = regrouped t.marks t.stores t.looks (log_of old p Sim) (log_of now p Sim)
          (ap (λ (ps : List (List Access)). get_or ps (2 * p) []) t.pages
          ∙ get_or-set_same old.pages (2 * p) (t.marks ++ (t.stores ++ (t.looks ++ log_of old p Sim))) [] low);
      kept = λ i under. timed-kept i t.looks t.stores t.marks (log_of old p Sim) (t.are.shown shown) t.are.stored
          (t.are.careful shown) t.are.marked;
    }

pub ticks-keep-slots : TicksKeepSlots
ticks-keep-slots p old now moment reply owed notices ready shown t = record {
  news = t.marks p ++ (t.stores p ++ t.looks p);
  page = regrouped (t.marks p) (t.stores p) (t.looks p) (log_of old p Sim) (log_of now p Sim) (t.logs p ready.on);
  kept = λ i under. by i (direct-or old.board.state p moment) (is_any_due old.board.state moment) refl;
}
  where
    Kept : ℕ → List Access → List Access → List Access → Type 0
    Kept i looks stores marks = AreKept (header i) (marks ++ (stores ++ looks)) (log_of old p Sim)

    nothing : (i : ℕ) → (t.looks p ≡ []) × (t.stores p ≡ []) × (t.marks p ≡ [])
        → Kept i (t.looks p) (t.stores p) (t.marks p)
    nothing i none =
        subst (λ l. Kept i l (t.stores p) (t.marks p)) (sym none.0)
        (subst (λ l. Kept i [] l (t.marks p)) (sym none.1) (subst (Kept i [] []) (sym none.2) tt))

    by : (i : ℕ) → AreDueDirect old.board.state p moment ⊎ (AreDueDirect old.board.state p moment → ⊥) → (b : Bool)
        → is_any_due old.board.state moment ≡ b → Kept i (t.looks p) (t.stores p) (t.marks p)
    by i (inl direct) b is = nothing i (t.direct p ready.on direct)
    by i (inr posted) false idle = nothing i (t.idle idle p)
    by i (inr posted) true due =
        let are = t.due due p ready.on posted in
        timed-kept i (t.looks p) (t.stores p) (t.marks p) (log_of old p Sim) (are.shown shown) are.stored
        (are.careful shown) are.marked
