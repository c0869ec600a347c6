-- What the host left in a header, in the histories of its page and in the protocol of a slot.
use Rattle.std.proofs.Common.{◌≡◌, ◌≢◌, ℕ, Bool, true, false, List, [], ◌∷◌, ◌++◌, refl, sym, ap, ◌∙◌, subst, arith}
use Rattle.std.specs.Prelude.{◌==◌, ◌||◌, not, nat_lt, if◌then◌else◌}
use Rattle.std.proofs.lemmas.Bool.Decides.{nat_tests}
use Rattle.live_pages.specs.Words.{known, header, type_of, is_pending}
use Rattle.live_pages.specs.declared.access.Turn.{Turn}
use Rattle.live_pages.specs.declared.access.Turn.TheVariants.{ByHost, ByGuest}
use Rattle.live_pages.specs.Traces.{memory, accesses, IsHistory, is_of, is_accessed}
use Rattle.live_pages.specs.Protocol.{idle, cleared, HostAt, GuestAt}
use Rattle.live_pages.specs.Headers.{Slot, Step, are_steps, led_to, is_stuck, is_occupied}
use Rattle.live_pages.specs.declared.access.Access.{Access}
use Rattle.live_pages.specs.declared.access.Access.TheVariants.{Load, FetchOr, Store}
use Rattle.live_pages.proofs.Protocol.{kept, world}
use Rattle.live_pages.proofs.Headers.{world_of, runs}
use Rattle.live_board.specs.Waking.{IsLeftMarked, WasMarked, MayFollow}

equal : (a b : ℕ) → (a == b) ≡ true → a ≡ b
equal a b e = grind (arith, nat_tests)

-- after an access to a word memory has what the host knows
memory-of : (a : Access) (turns : List Turn) (log : List Access) (w : ℕ) → IsHistory (ByHost a ∷ turns)
    → is_of w a ≡ true → memory (ByHost a ∷ turns) w ≡ known (a ∷ log) w
memory-of (Load x found) turns log w h of =
    ap (memory turns) (equal w x of) ∙ sym h.0 ∙ sym (ap (λ (b : Bool). if b then found else known log w) of)
memory-of (FetchOr x mask found) turns log w h of = rw of refl
memory-of (Store x value) turns log w h of = rw of refl

-- an access to another word
pub known-other : (a : Access) (log : List Access) (w : ℕ) → is_of w a ≡ false → known (a ∷ log) w ≡ known log w
known-other (Load x found) log w of = rw of refl
known-other (FetchOr x mask found) log w of = rw of refl
known-other (Store x value) log w of = rw of refl

-- the word is marked, as the host knows it
pub record Marks (word : ℕ) : Type 0 where
  pub occupied : type_of word ≢ 0
  pub pending : is_pending word ≡ true

was : (i : ℕ) (turns : List Turn) (news log : List Access) → accesses turns ≡ news ++ log
    → is_accessed (header i) news ≡ true → Marks (known (news ++ log) (header i)) → IsHistory turns
    → WasMarked i log turns
was i turns [] log is some marks h = absurd (cc)
was i [] (b ∷ news) log is some marks h = absurd (cc)
was i (ByGuest x value ∷ turns) (b ∷ news) log is some marks h =
    let r = was i turns (b ∷ news) log is some marks h in
    record {
      since = ByGuest x value ∷ r.since;
      before = r.before;
      split = ap (λ l. ByGuest x value ∷ l) r.split;
      call =
          r.call;
      within =
          r.within;
      accessed = r.accessed;
      occupied = r.occupied;
      pending = r.pending;
      untouched = r.untouched;
    }
was i (ByHost a ∷ turns) (b ∷ news) log is some marks h =
    by (is_of (header i) a) refl (λ other. was i turns news log rest (later other) (less other) h.1)
  where
    first : b ≡ a
    first = cc

    rest : accesses turns ≡ news ++ log
    rest = cc

    later : is_of (header i) a ≡ false → is_accessed (header i) news ≡ true
    later other = sym (ap (λ c. c || is_accessed (header i) news) (ap (is_of (header i)) first ∙ other)) ∙ some

    less : is_of (header i) a ≡ false → Marks (known (news ++ log) (header i))
    less other = subst Marks (known-other b (news ++ log) (header i) (ap (is_of (header i)) first ∙ other)) marks

    here : is_of (header i) a ≡ true → Marks (memory (ByHost a ∷ turns) (header i))
    here of = subst Marks (ap (λ c. known (c ∷ (news ++ log)) (header i)) first
        ∙ sym (memory-of a turns (news ++ log) (header i) h of)) marks

    by : (c : Bool) → is_of (header i) a ≡ c → (is_of (header i) a ≡ false → WasMarked i log turns)
        → WasMarked i log (ByHost a ∷ turns)
    by true of more =
        record {
          since = [];
          before = ByHost a ∷ turns;
          split = refl;
          call = b ∷ news;
          within = is;
          accessed = some;
          occupied = (here of).occupied;
          pending = (here of).pending;
          untouched = refl;
        }
    by false of more =
        let r = more of in
        record {
          since = ByHost a ∷ r.since;
          before = r.before;
          split = ap (λ l. ByHost a ∷ l) r.split;
          call = r.call;
          within = r.within;
          accessed = r.accessed;
          occupied = r.occupied;
          pending = r.pending;
          untouched = ap (λ c. c || is_accessed (header i) (accesses r.since)) of ∙ r.untouched;
        }

pub was-marked : (i : ℕ) (log now : List Access) (turns : List Turn) → IsLeftMarked i log now → IsHistory turns
    → accesses turns ≡ now → WasMarked i log turns
was-marked i log now turns left h is =
    was i turns left.news log (is ∙ left.page) left.accessed
    (subst (λ l. Marks (known l (header i))) left.page (record { occupied = left.occupied; pending = left.pending })) h

-- no steps of the protocol lead from there to a missed wake-up
or-true : (b : Bool) → (b || true) ≡ true
or-true true = refl
or-true false = refl

keeps : (o p b : Bool) (n : ℕ) (g : GuestAt) → o ≡ true → p ≡ true → (b ≡ true → g ≡ cleared)
    → kept (world o p b n idle g) ≡ true
keeps o p true n g oe pe at = let e = at refl in rw (oe, pe, e) (or-true (not (nat_lt 0 n)))
keeps o p false n g oe pe at = rw (oe, pe) (or-true (not (nat_lt 0 n)))

pub never-missed : (i : ℕ) (log now : List Access) (s : Slot) (steps : List Step) → IsLeftMarked i log now
    → MayFollow (known now (header i)) s → are_steps s steps ≡ true → is_stuck (led_to s steps) ≡ false
never-missed i log now s steps left follow may = runs s steps (start follow.host) may
  where
    occupied : is_occupied s.header ≡ true
    occupied = let full = left.occupied in let e = follow.header in ap is_occupied e ∙ grind (arith, nat_tests, full)

    pending : is_pending s.header ≡ true
    pending = ap is_pending follow.header ∙ left.pending

    start : s.host ≡ idle → kept (world_of s) ≡ true
    start e = ap (λ (h : HostAt). kept
        (world (is_occupied s.header) (is_pending s.header) s.buffered s.queued h s.guest)) e
        ∙ keeps (is_occupied s.header) (is_pending s.header) s.buffered s.queued s.guest occupied pending follow.guest
