-- Each access of the host, and each write of anybody else, extends a history.
use Rattle.std.proofs.Common.{◌≡◌, ℕ, ◌<◌, true, false, List, [], ◌∷◌, ◌++◌, length, set, sym, ap, ◌∙◌, refl, arith, subst, get_or-set_same, get_or-set_other, length-set, zero, suc}
use Rattle.std.specs.Prelude.{◌==◌, bit_or, slice_index, replicate, if◌then◌else◌}
use Rattle.std.proofs.lemmas.Bool.Decides.{nat_tests}
use mathlib.Core.Logic.{dite}
use mathlib.Core.Option.{none}
use native.Mathlib.Decide.{ℕ_discrete}
use Rattle.atomic_table.specs.Table.{Me, Allows, step, keeps, opening}
use Rattle.live_pages.specs.declared.access.Access.{Access}
use Rattle.live_pages.specs.declared.access.Access.TheVariants.{Load, FetchOr, Store}
use Rattle.live_pages.specs.declared.access.Turn.{Turn}
use Rattle.live_pages.specs.declared.access.Turn.TheVariants.{ByHost, ByGuest}
use Rattle.live_pages.specs.declared.page.View.{View}
use Rattle.std.specs.Int.{bit_at}
use Rattle.std.proofs.Common.{◌⊎◌, inl, inr}
use Rattle.std.proofs.Math.Nat.{max-eq_left, max-eq_right}
use Rattle.std.proofs.lemmas.Nat.Bits.{bit_at_or, bit_at-lt}
use Rattle.std.proofs.lemmas.List.Elements.{All-head, All-tail, All-cons, All-nil}
use Rattle.live_pages.specs.Words.{known}
use Rattle.live_pages.specs.Traces.{memory, accesses, writes, hosts_turns, Finds, IsHistory, IsTraced, IsGuestLoad, IsGuestStore, AnybodyMayWrite, AreOwn, AGuestThatWritesNothingIsNotSeen, Leaves, ASignalledFlagStays}
use Rattle.live_pages.specs.inside.Open.{IsOpen, Fits, host_view, guest_view, both_view, affirmed_as, loaded_as, ored_as, stored_as, guest_loaded_as, guest_stored_as}
use Rattle.live_pages.proofs.Seats.{hosts_step, guests_step, opens_both}

pub same : (x h : ℕ) → x ≡ h → (x == h) ≡ true
same x h e = grind (arith, nat_tests)

pub apart : (x h : ℕ) → (x ≡ h → ⊥) → (x == h) ≡ false
apart x h e = grind (arith, nat_tests)

-- a list whose words are a function of their places, after one is set
pub set_at : (words : List ℕ) (page : ℕ → ℕ) (x n : ℕ) → ((w : ℕ) → w < length words → slice_index words w ≡ page w)
    → (w : ℕ) → w < length (set words x n) → slice_index (set words x n) w ≡ (if w == x then n else page w)
set_at words page x n is w lt =
    let wide : w < length words = omega (arith, length-set words x n) in
    dite (ℕ_discrete w x)
    (λ here. rw (same w x here) (ap (slice_index (set words x n)) here ∙ get_or-set_same words x n 0 (omega arith)))
    (λ other. rw (apart w x other) (get_or-set_other words x w n 0 other ∙ is w wide))

-- a list whose word is set to what it was
set_same : (words : List ℕ) (page : ℕ → ℕ) (x : ℕ) → x < length words
    → ((w : ℕ) → w < length words → slice_index words w ≡ page w)
    → (w : ℕ) → w < length (set words x (slice_index words x))
    → slice_index (set words x (slice_index words x)) w ≡ page w
set_same words page x wide is w lt =
    let long = length-set words x (slice_index words x) in
    dite (ℕ_discrete w x)
    (λ here. ap (slice_index (set words x (slice_index words x))) here
    ∙ get_or-set_same words x (slice_index words x) 0 wide ∙ is x wide ∙ ap page (sym here))
    (λ other. get_or-set_other words x w (slice_index words x) 0 other ∙ is w (omega arith))

-- the accesses in a history that the host has carried on
pub accesses-hosts : (since : List Access) (seen : List Turn) → accesses (hosts_turns since ++ seen) ≡ since
    ++ accesses seen
accesses-hosts [] seen = refl
accesses-hosts (a ∷ since) seen = ap (λ l. a ∷ l) (accesses-hosts since seen)

-- one more access of the host, which found what was there
extends : (words later : List ℕ) (log : List Access) (seen : List Turn) (a : Access) (t : IsTraced words log seen)
    → Finds (memory (hosts_turns t.whole.since ++ seen)) a
    → ((w : ℕ) → w < length later → slice_index later w ≡ memory (ByHost a ∷ (hosts_turns t.whole.since ++ seen)) w)
    → IsTraced later (a ∷ log) seen
extends words later log seen a t finds leaves = record {
  whole = record {
    since = a ∷ t.whole.since;
    host = ap (λ l. a ∷ l) t.whole.host;
    history = (finds, t.whole.history);
  };
  leaves = leaves;
}

pub looks : (key slots id i : ℕ) (me : Me (Unit {0}) View) → i < 512 → me ≡ (host_view me.0.log, [])
    → Allows (IsOpen key) slots id me i (λ n. n) (loaded_as (step slots i 0 0 none) me)
looks key slots id i me wide is s h homes at fits =
    let n = slice_index s.words i in
    let inside : i < length s.words = omega (arith, h.width) in (
      host_view (Load i n ∷ me.0.log),
      keeps,
      tt,
      hosts_step key id me.0 s (set s.words i n) s.homes (Load i n) (ap (λ (m : Me (Unit {0}) View). m.0) is) h at
          (length-set s.words i n)
          (λ log seen t. extends s.words (set s.words i n) log seen (Load i n) t (t.leaves i inside)
          (set_same s.words (memory (hosts_turns t.whole.since ++ seen)) i inside t.leaves)),
      (refl, refl),
    )

pub affirms : (key slots id i : ℕ) (me : Me (Unit {0}) View) → i < 512 → me ≡ (host_view me.0.log, [])
    → Allows (IsOpen key) slots id me i (λ n. n) (affirmed_as (step slots i 0 0 none) me)
affirms key slots id i me wide is s h homes at fits =
    let n = slice_index s.words i in (
      host_view (Store i n ∷ me.0.log),
      keeps,
      tt,
      hosts_step key id me.0 s (set s.words i n) s.homes (Store i n) (ap (λ (m : Me (Unit {0}) View). m.0) is) h at
          (length-set s.words i n)
          (λ log seen t. extends s.words (set s.words i n) log seen (Store i n) t tt
          (set_at s.words (memory (hosts_turns t.whole.since ++ seen)) i n t.leaves)),
      (refl, refl),
    )

pub ors : (key slots id i mask : ℕ) (me : Me (Unit {0}) View) → i < 512 → me ≡ (host_view me.0.log, [])
    → Allows (IsOpen key) slots id me i (λ n. bit_or n mask) (ored_as (step slots i mask 0 none) me)
ors key slots id i mask me wide is s h homes at fits =
    let n = slice_index s.words i in
    let inside : i < length s.words = omega (arith, h.width) in (
      host_view (FetchOr i mask n ∷ me.0.log),
      keeps,
      tt,
      hosts_step key id me.0 s (set s.words i (bit_or n mask)) s.homes (FetchOr i mask n)
          (ap (λ (m : Me (Unit {0}) View). m.0) is) h at (length-set s.words i (bit_or n mask))
          (λ log seen t. extends s.words (set s.words i (bit_or n mask)) log seen (FetchOr i mask n) t
          (t.leaves i inside)
          (set_at s.words (memory (hosts_turns t.whole.since ++ seen)) i (bit_or n mask) t.leaves)),
      (refl, refl),
    )

pub sets : (key slots id i value : ℕ) (me : Me (Unit {0}) View) → i < 512 → me ≡ (host_view me.0.log, [])
    → Allows (IsOpen key) slots id me i (λ _. value) (λ _. stored_as (step slots i value 0 none) me value)
sets key slots id i value me wide is s h homes at fits = (
  host_view (Store i value ∷ me.0.log),
  keeps,
  tt,
  hosts_step key id me.0 s (set s.words i value) s.homes (Store i value) (ap (λ (m : Me (Unit {0}) View). m.0) is) h at
      (length-set s.words i value)
      (λ log seen t. extends s.words (set s.words i value) log seen (Store i value) t tt
      (set_at s.words (memory (hosts_turns t.whole.since ++ seen)) i value t.leaves)),
  (refl, refl),
)

pub anybody_may_write : AnybodyMayWrite
anybody_may_write words log seen w value t =
    record {
      whole = record {
        since = [];
        host = t.whole.host ∙ sym (accesses-hosts t.whole.since seen);
        history = t.whole.history;
      };
      leaves = set_at words (memory (hosts_turns t.whole.since ++ seen)) w value t.leaves;
    }

-- what the guest has seen after a load
looked : (words : List ℕ) (log : List Access) (seen : List Turn) (i : ℕ) (t : IsTraced words log seen)
    → i < length words
    → IsTraced (set words i (slice_index words i)) log (hosts_turns t.whole.since ++ seen)
looked words log seen i t inside =
    record {
      whole = record {
        since = [];
        host = t.whole.host ∙ sym (accesses-hosts t.whole.since seen);
        history = t.whole.history;
      };
      leaves = set_same words (memory (hosts_turns t.whole.since ++ seen)) i inside t.leaves;
    }

pub guest_looks : (key slots id i : ℕ) (me : Me (Unit {0}) View) → i < 512
    → me.0 ≡ both_view me.0.log me.0.seen
    → Allows (IsOpen key) slots id me i (λ n. n) (guest_loaded_as (step slots i 0 0 none) me)
guest_looks key slots id i me wide is s h homes at fits =
    let t = opens_both key id me.0 s is h at in
    let inside : i < length s.words = omega (arith, h.width) in
    let seen = hosts_turns t.whole.since ++ me.0.seen in (
      both_view me.0.log seen,
      keeps,
      tt,
      guests_step key id me.0 s (set s.words i (slice_index s.words i)) s.homes seen is h at
          (length-set s.words i (slice_index s.words i)) (looked s.words me.0.log me.0.seen i t inside),
      (seen, refl, refl, (t.whole, refl, t.leaves i inside)),
    )

pub guest_sets : (key slots id i value : ℕ) (me : Me (Unit {0}) View) → i < 512
    → me.0 ≡ both_view me.0.log me.0.seen
    → Allows (IsOpen key) slots id me i (λ _. value) (λ _. guest_stored_as (step slots i value 0 none) me value)
guest_sets key slots id i value me wide is s h homes at fits =
    let t = opens_both key id me.0 s is h at in
    let seen = ByGuest i value ∷ (hosts_turns t.whole.since ++ me.0.seen) in (
      both_view me.0.log seen,
      keeps,
      tt,
      guests_step key id me.0 s (set s.words i value) s.homes seen is h at (length-set s.words i value)
          (anybody_may_write s.words me.0.log me.0.seen i value t),
      (seen, refl, refl, (t.whole, refl)),
    )

pub zeros : (n w : ℕ) → slice_index (replicate n 0) w ≡ 0
zeros zero w = refl
zeros (suc n) zero = refl
zeros (suc n) (suc w) = zeros n w

-- nothing has happened to a page of zeros
pub opens : (key : ℕ) → IsOpen key (opening (replicate 512 0) [] (both_view [] []))
opens key = record {
  log = [];
  seen = [];
  host = refl;
  guest = refl;
  fits = All-cons (Fits [] []) (both_view [] []) [] (record { host = λ _. refl; guest = λ _. refl })
      (All-nil (Fits [] []));
  width = refl;
  traced = record {
    whole = record { since = []; host = refl; history = tt };
    leaves = λ w lt. zeros 512 w;
  };
}

-- a history without writes of the guest leaves what the host knows
alone : (turns : List Turn) → writes turns ≡ [] → IsHistory turns → (x : ℕ) → memory turns x ≡ known (accesses turns) x
alone [] nil h x = refl
alone (ByGuest w value ∷ turns) nil h x = absurd (cons_nil nil)
  where
    cons_nil : ((w, value) ∷ writes turns) ≡ [] → ⊥
    cons_nil e = grind arith
alone (ByHost (Load w found) ∷ turns) nil h x = dite (ℕ_discrete x w)
    (λ here. rw (same x w here) (ap (memory turns) here ∙ sym h.0))
    (λ other. rw (apart x w other) (alone turns nil h.1 x))
alone (ByHost (FetchOr w mask found) ∷ turns) nil h x = dite (ℕ_discrete x w)
    (λ here. rw (same x w here) refl)
    (λ other. rw (apart x w other) (alone turns nil h.1 x))
alone (ByHost (Store w value) ∷ turns) nil h x = dite (ℕ_discrete x w)
    (λ here. rw (same x w here) refl)
    (λ other. rw (apart x w other) (alone turns nil h.1 x))

own : (turns : List Turn) → writes turns ≡ [] → IsHistory turns → AreOwn (accesses turns)
own [] nil h = tt
own (ByGuest w value ∷ turns) nil h = absurd (cons_nil nil)
  where
    cons_nil : ((w, value) ∷ writes turns) ≡ [] → ⊥
    cons_nil e = grind arith
own (ByHost (Load w found) ∷ turns) nil h = (h.0 ∙ alone turns nil h.1 w, own turns nil h.1)
own (ByHost (FetchOr w mask found) ∷ turns) nil h = (h.0 ∙ alone turns nil h.1 w, own turns nil h.1)
own (ByHost (Store w value) ∷ turns) nil h = (tt, own turns nil h.1)

writes-hosts : (since : List Access) (seen : List Turn) → writes (hosts_turns since ++ seen) ≡ writes seen
writes-hosts [] seen = refl
writes-hosts (a ∷ since) seen = writes-hosts since seen

pub a_guest_that_writes_nothing_is_not_seen : AGuestThatWritesNothingIsNotSeen
a_guest_that_writes_nothing_is_not_seen log seen whole nil =
    subst AreOwn (accesses-hosts whole.since seen ∙ sym whole.host)
    (own (hosts_turns whole.since ++ seen) (writes-hosts whole.since seen ∙ nil) whole.history)

-- a write that does not clear a bit
kept-bit : (w x value rest bit : ℕ) → (x ≡ w → bit_at value bit ≡ 1) → bit_at rest bit ≡ 1
    → bit_at (if w == x then value else rest) bit ≡ 1
kept-bit w x value rest bit leaves is = dite (ℕ_discrete w x)
    (λ here. rw (same w x here) (leaves (sym here)))
    (λ other. rw (apart w x other) is)

or-bit : (found mask bit : ℕ) → (bit_at found bit ≡ 1) ⊎ (bit_at mask bit ≡ 1) → bit_at (bit_or found mask) bit ≡ 1
or-bit found mask bit (inl is) = bit_at_or found mask bit ∙ rw is (max-eq_left (omega (arith, bit_at-lt mask bit)))
or-bit found mask bit (inr is) = bit_at_or found mask bit ∙ rw is (max-eq_right (omega (arith, bit_at-lt found bit)))

-- an or at a word whose bit is set
kept-or : (w x mask seen rest bit : ℕ) → (x ≡ w → seen ≡ rest) → bit_at rest bit ≡ 1
    → bit_at (if w == x then bit_or seen mask else rest) bit ≡ 1
kept-or w x mask seen rest bit finds is = dite (ℕ_discrete w x)
    (λ here. rw (same w x here) (or-bit seen mask bit (inl (ap (λ n. bit_at n bit) (finds (sym here)) ∙ is))))
    (λ other. rw (apart w x other) is)

pub a_signalled_flag_stays : ASignalledFlagStays
a_signalled_flag_stays [] earlier w mask found bit h set ok = rw (same w w refl) (or-bit found mask bit (inr set))
a_signalled_flag_stays (ByGuest x value ∷ later) earlier w mask found bit h set ok =
    kept-bit w x value (memory (later ++ ByHost (FetchOr w mask found) ∷ earlier) w) bit
    (All-head (Leaves w bit) (ByGuest x value) later ok)
    (a_signalled_flag_stays later earlier w mask found bit h set (All-tail (Leaves w bit) (ByGuest x value) later ok))
a_signalled_flag_stays (ByHost (Load x seen) ∷ later) earlier w mask found bit h set ok =
    a_signalled_flag_stays later earlier w mask found bit h.1 set
    (All-tail (Leaves w bit) (ByHost (Load x seen)) later ok)
a_signalled_flag_stays (ByHost (FetchOr x more seen) ∷ later) earlier w mask found bit h set ok =
    kept-or w x more seen (memory (later ++ ByHost (FetchOr w mask found) ∷ earlier) w) bit
    (λ here. h.0 ∙ ap (memory (later ++ ByHost (FetchOr w mask found) ∷ earlier)) here)
    (a_signalled_flag_stays later earlier w mask found bit h.1 set
    (All-tail (Leaves w bit) (ByHost (FetchOr x more seen)) later ok))
a_signalled_flag_stays (ByHost (Store x value) ∷ later) earlier w mask found bit h set ok =
    kept-bit w x value (memory (later ++ ByHost (FetchOr w mask found) ∷ earlier) w) bit
    (All-head (Leaves w bit) (ByHost (Store x value)) later ok)
    (a_signalled_flag_stays later earlier w mask found bit h.1 set
    (All-tail (Leaves w bit) (ByHost (Store x value)) later ok))

pub is_both : (v : View) (log : List Access) (seen : List Turn) → v ≡ both_view log seen → v ≡ both_view v.log v.seen
is_both v log seen e = e ∙ sym (ap (λ (u : View). both_view u.log u.seen) e)

-- what a guest's step records, at the seat that it leaves with
pub tells_load : (slots i : ℕ) (log : List Access) (seen : List Turn) (before after last : Me (Unit {0}) View)
    (found : ℕ) → before.0 ≡ both_view log seen → guest_loaded_as (step slots i 0 0 none) before found after
    → last.0 ≡ guest_view after.0.seen → IsGuestLoad i found log seen last.0.seen
tells_load slots i log seen before after last found is (now, moved, same, tells) leaves =
    subst (IsGuestLoad i found log seen)
    (sym (ap (λ (v : View). v.seen) leaves ∙ ap (λ (v : View). v.seen) moved))
    (subst (λ (v : View). IsGuestLoad i found v.log v.seen now) is tells)

pub tells_store : (slots i value : ℕ) (log : List Access) (seen : List Turn) (before after last : Me (Unit {0}) View)
    (found : ℕ) → before.0 ≡ both_view log seen → guest_stored_as (step slots i value 0 none) before found after
    → last.0 ≡ guest_view after.0.seen → IsGuestStore i value log seen last.0.seen
tells_store slots i value log seen before after last found is (now, moved, same, tells) leaves =
    subst (IsGuestStore i value log seen)
    (sym (ap (λ (v : View). v.seen) leaves ∙ ap (λ (v : View). v.seen) moved))
    (subst (λ (v : View). IsGuestStore i value v.log v.seen now) is tells)
