-- A message that waits after a call is in a slot that the host has left marked.
use Rattle.std.proofs.Common.{◌≡◌, ◌≢◌, ◌⊎◌, inl, inr, ℕ, zero, suc, ◌+◌, ◌*◌, ◌/◌, ◌<◌, ◌≤◌, Bool, true, false, List, [], ◌∷◌, ◌++◌, length, get_or, Option, None, Some, refl, sym, ap, ◌∙◌, subst, arith, All, append_assoc}
use Rattle.std.specs.Prelude.{◌==◌, ◌||◌}
use Rattle.std.specs.Int.{bit_at}
use Rattle.std.specs.Option.{option_map_or}
use Rattle.std.proofs.lemmas.Bool.{cases_eq}
use Rattle.std.proofs.lemmas.Bool.Decides.{nat_tests}
use Rattle.std.proofs.lemmas.List.Elements.{All-head, All-tail}
use Rattle.arrayvec.specs.ArrayVec.{ArrayVec}
use Rattle.board_terms.specs.declared.notices.Notice.{Notice}
use Rattle.board_terms.specs.declared.pages.Kind.{Kind}
use Rattle.board_terms.specs.declared.pages.Kind.TheVariants.{Sim}
use Rattle.board_terms.specs.declared.refusal.Refusal.{Refusal}
use Rattle.event_ports.specs.declared.ports.Port.{Port}
use Rattle.event_ports.specs.Ports.{port_at}
use Rattle.message_queues.specs.Image.{slot_type}
use Rattle.gpa_space.specs.Space.{refusal_of, owner_of}
use Rattle.synic_regs.specs.declared.register.Register.TheVariants.{Eom}
use Rattle.synic_regs.specs.Registers.{register_of}
use Rattle.synic_board.specs.declared.event.Event.{Event}
use Rattle.synic_board.specs.declared.event.Event.TheVariants.{Write, Post, Store}
use Rattle.synic_board.specs.declared.event.Reply.{Reply}
use Rattle.synic_board.specs.declared.event.Reply.TheVariants.{Accepted, Done}
use Rattle.synic_board.specs.State.{State, processors, ports_of, space_of}
use Rattle.synic_board.specs.Effects.{answered, refused}
use Rattle.synic_board.specs.Stores.{consumed_in, with_bytes}
use Rattle.synic_board.specs.Ranges.{HasRanges}
use Rattle.synic_board.specs.Run.{Run, run_of}
use Rattle.synic_board.specs.Sound.{IsSound, HasShape, PayloadFits}
use Rattle.synic_board.specs.Step.{step}
use Rattle.synic_board.proofs.keeping.Placements.{page_of}
use Rattle.live_pages.specs.Words.{known, header, type_of, is_pending}
use Rattle.live_pages.specs.declared.access.Access.{Access}
use Rattle.live_pages.specs.declared.access.Access.TheVariants.{Load}
use Rattle.live_pages.specs.Traces.{is_of, is_accessed}
use Rattle.live_board.specs.Acting.{HasLookedAt, HasProbedAt}
use Rattle.live_board.specs.Live.{LiveModel, Shadows, IsLive, IsOwnStore, IsProbe, ProbesIf, AreProbes, is_waiting, explained, all_done, log_of}
use Rattle.live_board.specs.Waking.{LeavesMarked}
use Rattle.live_board.specs.Words.{word_of}
use Rattle.live_board.proofs.Bytes.{bit-of}
use Rattle.live_board.proofs.Guests.{guest-stores, fits-all, kept-by}
use Rattle.live_board.proofs.Joined.{joined, run-append}
use Rattle.live_board.proofs.Part.{type-is, header-bytes}
use Rattle.live_board.proofs.Seen.{IsSeen, post-seen, eom-seen}
use Rattle.live_board.proofs.Shown.{still-in}
use Rattle.live_board.proofs.Staying.{stays}

-- a guest's store leaves the registers, the queues, the ports and the processors
pub record IsBeside (s now : State) : Type 0 where
  pub regs : now.regs ≡ s.regs
  pub queues : now.queues ≡ s.queues
  pub ports : now.ports ≡ s.ports
  pub apics : now.apics ≡ s.apics

beside-after : (s mid now : State) → IsBeside s mid → IsBeside mid now → IsBeside s now
beside-after s mid now a b =
    record {
      regs = b.regs ∙ a.regs;
      queues = b.queues ∙ a.queues;
      ports = b.ports ∙ a.ports;
      apics = b.apics ∙ a.apics;
    }

beside-store : (s : State) (address : ℕ) (bytes : ArrayVec ℕ) → IsBeside s (step s (Store address bytes)).0
unfolding step
beside-store s address bytes = by (refusal_of (space_of s) address (length bytes.items))
  where
    t : State
    t = with_bytes s address bytes.items

    by : (o : Option Refusal)
        → IsBeside s (option_map_or (refused s) o
        (answered Done (consumed_in t (owner_of (space_of s) (address / 4096))))).0
    by (Some r) = record { regs = refl; queues = refl; ports = refl; apics = refl }
    by None =
        let is = still-in t (owner_of (space_of s) (address / 4096)) in
        record {
          regs = ap (λ (x : State). x.regs) is;
          queues = ap (λ (x : State). x.queues) is;
          ports = ap (λ (x : State). x.ports) is;
          apics = ap (λ (x : State). x.apics) is;
        }

pub beside-run : (t : State) (p : ℕ) (k : Kind) (s : State) (es : List Event) → All (IsOwnStore t p k) es
    → IsBeside s (run_of s es).0
unfolding run_of
beside-run t p k s [] h = record { regs = refl; queues = refl; ports = refl; apics = refl }
beside-run t p k s (e ∷ es) h =
    let one = All-head (IsOwnStore t p k) e es h in
    let first = subst (λ x. IsBeside s (step s x).0) (sym one.2) (beside-store s _ _) in
    beside-after s (step s e).0 (run_of (step s e).0 es).0 first
    (beside-run t p k (step s e).0 es (All-tail (IsOwnStore t p k) e es h))

-- whether a source waits depends on registers and queues
pub beside-waiting : (s now : State) (p i : ℕ) → IsBeside s now → is_waiting now p i ≡ is_waiting s p i
beside-waiting s now p i h = (λ k. is_waiting (record s { regs = h.regs k; queues = h.queues k }) p i)

-- the last of some replies
abbrev last-or : Reply → List Reply → Reply
last-or r [] = r
last-or r (x ∷ xs) = last-or x xs

last-is : (xs : List Reply) (x r : Reply) → last-or r (xs ++ x ∷ []) ≡ x
last-is [] x r = refl
last-is (y ∷ xs) x r = last-is xs x y

-- an event after stores: its state and its reply
record IsAfter (s : State) (event : Event) (now : State) (reply : Reply) : Type 0 where
  pub mid : State
  pub sound : IsSound mid
  pub beside : IsBeside s mid
  pub state : now ≡ (step mid event).0
  pub answer : reply ≡ (step mid event).1

after-stores : (old now : LiveModel) (event : Event) (reply : Reply) (notices : List Notice) → IsSound old.board.state
    → IsLive old event now reply notices → IsAfter old.board.state event now.board.state reply
unfolding run_of
after-stores old now event reply notices h live = record {
  mid = mid;
  sound = (kept-by s mid es (run_of s es).1 (run_of s es).2 (fits-all s live.vp live.kind es own) h refl).0;
  beside = beside-run s live.vp live.kind s es own;
  state = sym (ap (λ (r : Run). r.0) whole);
  answer = sym (last-is (all_done es) reply Done) ∙ sym (ap (λ (r : Run). last-or Done r.1) whole)
      ∙ last-is (run_of s es).1 (step mid event).1 Done;
}
  where
    s : State
    s = old.board.state

    es : List Event
    es = explained s live.vp live.kind live.news (log_of old live.vp live.kind)

    own : All (IsOwnStore s live.vp live.kind) es
    own = guest-stores s live.vp live.kind live.news (log_of old live.vp live.kind)

    mid : State
    mid = (run_of s es).0

    whole : joined (run_of s es) (run_of mid (event ∷ [])) ≡ (now.board.state, all_done es ++ reply ∷ [], notices)
    whole = sym (run-append s es (event ∷ [])) ∙ live.run

-- a slot of the board as what the host knows of its header
pub marked-known : (s : State) (pages : List (List Access)) (p i : ℕ) → HasShape s → HasRanges s → Shadows s pages
    → p < processors s → i < 16 → IsSeen s p i
    → (type_of (known (get_or pages (2 * p) []) (header i)) ≢ 0)
    × (is_pending (known (get_or pages (2 * p) []) (header i)) ≡ true)
marked-known s pages p i shape ranges shadows on under seen = (
  λ z. full (sym (ap type_of is ∙ type-is (page_of s p) i bytes) ∙ z),
  ap is_pending is ∙ ap (λ b. b == 1) bit ∙ seen.pending,
)
  where
    bytes : (b : ℕ) → b < 8 → get_or (page_of s p) (8 * (32 * i) + b) 0 < 256
    bytes = header-bytes s p i shape ranges on under

    is : known (get_or pages (2 * p) []) (32 * i) ≡ word_of s (2 * p) (32 * i)
    is = shadows.words (2 * p) (32 * i) (omega (arith, shape.overlays, on)) (omega (arith, under))

    full : slot_type (page_of s p) i ≢ 0
    full z = let e = seen.occupied in grind (arith, nat_tests)

    bit : bit_at (word_of s (2 * p) (32 * i)) 40 ≡ bit_at (get_or (page_of s p) (256 * i + 5) 0) 0
    bit = let place : 8 * (32 * i) + 5 ≡ 256 * i + 5 = omega arith in
        bit-of (page_of s p) (32 * i) 5 0 (omega arith) (omega arith) bytes
        ∙ ap (λ n. bit_at (get_or (page_of s p) n 0) 0) place

-- an access among others
or-left : (c a b : Bool) → (a ≡ true → b ≡ true) → (c || a) ≡ true → (c || b) ≡ true
or-left true a b f e = refl
or-left false a b f e = f e

or-right : (c b : Bool) → b ≡ true → (c || b) ≡ true
or-right true b e = refl
or-right false b e = e

pub accessed-left : (w : ℕ) (a b : List Access) → is_accessed w a ≡ true → is_accessed w (a ++ b) ≡ true
accessed-left w [] b e = absurd (cc)
accessed-left w (x ∷ a) b e =
    or-left (is_of w x) (is_accessed w a) (is_accessed w (a ++ b)) (λ h. accessed-left w a b h) e

pub accessed-right : (w : ℕ) (a b : List Access) → is_accessed w b ≡ true → is_accessed w (a ++ b) ≡ true
accessed-right w [] b e = e
accessed-right w (x ∷ a) b e = or-right (is_of w x) (is_accessed w (a ++ b)) (accessed-right w a b e)

pub same : (w : ℕ) → (w == w) ≡ true
same w = grind (arith, nat_tests)

-- a probe accesses the header
probe-accesses : (i : ℕ) (news : List Access) → IsProbe i news → is_accessed (header i) news ≡ true
probe-accesses i news (found, inl (is, which)) = ap (is_accessed (header i)) is ∙ rw (same (header i)) refl
probe-accesses i news (found, inr (marked, is, full, clear)) =
    ap (is_accessed (header i)) is ∙ rw (same (header i)) refl

probes-access : (s : State) (p n i : ℕ) (news : List Access) → i < n → is_waiting s p i ≡ true → AreProbes s p n news
    → is_accessed (header i) news ≡ true
probes-access s p zero i news low waits are = absurd (omega (arith, low))
probes-access s p (suc n) i news low waits (one, rest, is, first, more) =
    ap (is_accessed (header i)) is ∙ by (λ less. probes-access s p n i rest less waits more) (cases_eq i n)
  where
    by : (i < n → is_accessed (header i) rest ≡ true) → (i ≡ n) ⊎ (i ≢ n) → is_accessed (header i) (one ++ rest) ≡ true
    by later (inl e) =
        accessed-left (header i) one rest
        (probe-accesses i one (subst (λ b. ProbesIf b i one) waits
        (subst (λ k. ProbesIf (is_waiting s p k) k one) (sym e) first)))
    by later (inr ne) = accessed-right (header i) one rest (later (omega (arith, low, ne)))

-- a processor that is on the board stays there
pub on-after : (mid now : State) (p : ℕ) (event : Event) → PayloadFits event → IsSound mid → now ≡ (step mid event).0
    → p < processors mid → p < processors now
on-after mid now p event fits sound state on =
    subst (λ n. p < n)
    (sym (ap processors state
    ∙ stays mid (step mid event).0 event (step mid event).1 (step mid event).2 fits sound refl)) on

-- the processor is still on the board after a write
pub still-on : (old now : LiveModel) (p number value : ℕ) (reply : Reply) (notices : List Notice)
    → IsSound old.board.state → p < processors old.board.state → IsLive old (Write p number value) now reply notices
    → p < processors now.board.state
still-on old now p number value reply notices sound on live =
    let a = after-stores old now (Write p number value) reply notices sound live in
    on-after a.mid now.board.state p (Write p number value) tt a.sound a.state
    (subst (λ l. p < length l) (sym a.beside.apics) on)

pub eom-marked : (old now : LiveModel) (p i number value : ℕ) (reply : Reply) (notices : List Notice)
    → IsSound old.board.state → HasShape now.board.state → HasRanges now.board.state → Shadows now.board.state now.pages
    → p < processors old.board.state → i < 16 → register_of number ≡ Some Eom
    → IsLive old (Write p number value) now reply notices → HasProbedAt p old now → LeavesMarked p i old now
eom-marked old now p i number value reply notices sound shape ranges shadows on under eom live probed shown waits =
    let s : State = old.board.state in
    let a = after-stores old now (Write p number value) reply notices sound live in
    let on-mid : p < processors a.mid = subst (λ l. p < length l) (sym a.beside.apics) on in
    let all = eom-seen a.mid p number value eom a.sound on-mid in
    let waits-step = subst (λ t. is_waiting t p i ≡ true) a.state waits in
    let seen = subst (λ t. IsSeen t p i) (sym a.state) (all.seen i under waits-step) in
    let before = sym (beside-waiting s a.mid p i a.beside) ∙ all.before i under waits-step in
    let known = marked-known now.board.state now.pages p i shape ranges shadows
    (still-on old now p number value reply notices sound on live) under seen in
    let h = probed on shown in
    record {
      news = h.0 ++ h.1;
      page = h.2 ∙ sym (append_assoc h.0 h.1 (log_of old p Sim));
      accessed = accessed-right (header i) h.0 h.1 (probes-access s p 16 i h.1 under before h.4);
      occupied = known.0;
      pending = known.1;
    }

pub post-marked : (old now : LiveModel) (port kind ticket : ℕ) (payload : ArrayVec ℕ) (target : Port)
    (notices : List Notice) → IsSound old.board.state → length payload.items ≤ 240 → HasShape now.board.state
    → HasRanges now.board.state → Shadows now.board.state now.pages
    → IsLive old (Post port kind payload) now (Accepted ticket) notices → HasLookedAt port old now
    → port_at (ports_of old.board.state) port ≡ Some target → LeavesMarked target.vp target.sint old now
unfolding step
post-marked old now port kind ticket payload target notices sound size shape ranges shadows live looked opened shown
    waits =
    let s : State = old.board.state in
    let p : ℕ = target.vp in
    let i : ℕ = target.sint in
    let a = after-stores old now (Post port kind payload) (Accepted ticket) notices sound live in
    let there : port_at (ports_of a.mid) port ≡ Some target =
    (λ k. port_at (record { processors = length (a.beside.apics k); ports = a.beside.ports k }) port) ∙ opened in
    let reached = a.sound.whole.ports port target there in
    let seen = subst (λ t. IsSeen t p i) (sym a.state)
    (post-seen a.mid port kind ticket payload target there a.sound size (sym a.answer)
    (subst (λ t. is_waiting t p i ≡ true) a.state waits)) in
    let known = marked-known now.board.state now.pages p i shape ranges shadows
    (on-after a.mid now.board.state p (Post port kind payload) size a.sound a.state reached.0) reached.1 seen in
    let h = looked target opened shown in
    record {
      news = h.0 ++ Load (header i) h.1 ∷ [];
      page = h.2 ∙ sym (append_assoc h.0 (Load (header i) h.1 ∷ []) (log_of old p Sim));
      accessed = accessed-right (header i) h.0 (Load (header i) h.1 ∷ []) (rw (same (header i)) refl);
      occupied = known.0;
      pending = known.1;
    }
