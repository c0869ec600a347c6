-- While a guest reads its message, the host leaves it alone.
use Rattle.std.proofs.Common.{◌≡◌, ◌≢◌, ℕ, Bool, true, false, List, [], ◌∷◌, refl, sym, ap, ◌∙◌, subst, arith}
use Rattle.std.specs.Prelude.{◌==◌, bit_or, if◌then◌else◌}
use Rattle.std.specs.Int.{bit_at}
use mir.Syntax.{w64}
use Rattle.std.proofs.lemmas.Bool.Decides.{nat_tests}
use Rattle.std.proofs.lemmas.Nat.Bits.{bit_at_set_other}
use Rattle.live_pages.specs.Words.{pending_mask}
use Rattle.live_pages.specs.Traces.{memory, accesses}
use Rattle.live_pages.specs.declared.access.Access.TheVariants.{Load, FetchOr, Store}
use Rattle.live_pages.specs.Headers.{is_occupied}
use Rattle.law_slots.specs.Slots.{GuestAt, guest_is, taken}
use Rattle.law_slots.specs.Pages.{PageState, Move, touches, takes, clears, drains, fences, sees, writes, MayMove, moved, moved_by, entered, acted_by, opened}
use Rattle.law_slots.specs.Reading.{is_in, KeepsSlot, MayMeanwhile, AreMeanwhile, amid, IsSameMessage, NoMessageIsTorn}
use Rattle.law_slots.proofs.Effects.{equal}
use Rattle.law_slots.proofs.Memory.{is-fit, in-memory, as-known, fit-move, fit-moves, fit-entered, kept-acts}
use Rattle.law_slots.proofs.Views.{fits}

header-in : (x : ℕ) → is_in x x ≡ true
header-in x = grind (arith, nat_tests)

-- a word of the slot is not one beyond it
apart : (x w y : ℕ) → is_in x w ≡ false → is_in x y ≡ true → (y == w) ≡ false
apart x w y out inside = by (y == w) refl
  where
    by : (b : Bool) → (y == w) ≡ b → (y == w) ≡ false
    by false e = e
    by true e = let both = sym inside ∙ ap (is_in x) (equal y w e) ∙ out in absurd (cc)

other : (x w y : ℕ) → w ≡ x → y ≢ x → (y == w) ≡ false
other x w y same ne = by (y == w) refl
  where
    by : (b : Bool) → (y == w) ≡ b → (y == w) ≡ false
    by false e = e
    by true e = absurd (ne (equal y w e ∙ same))

same-message : (x : ℕ) (page : ℕ → ℕ) → IsSameMessage x page page
same-message x page = record { payload = λ w inside ne. refl; header = λ b ne. refl }

then-same : (x : ℕ) (a b c : ℕ → ℕ) → IsSameMessage x a b → IsSameMessage x b c → IsSameMessage x a c
then-same x a b c one two = record {
  payload = λ w inside ne. two.payload w inside ne ∙ one.payload w inside ne;
  header = λ n ne. two.header n ne ∙ one.header n ne;
}

-- a change of a word beyond the slot
beyond : (x w value : ℕ) (page : ℕ → ℕ) → is_in x w ≡ false
    → IsSameMessage x page (λ y. if y == w then value else page y)
beyond x w value page out = record {
  payload = λ y inside ne. ap (λ (b : Bool). if b then value else page y) (apart x w y out inside);
  header = λ n ne. ap (λ (b : Bool). bit_at (if b then value else page x) n) (apart x w x out (header-in x));
}

-- MessagePending is set
marked : (x w found : ℕ) (page : ℕ → ℕ) → w ≡ x → found ≡ page w
    → IsSameMessage x page (λ y. if y == w then bit_or found pending_mask else page y)
marked x w found page here is = record {
  payload = λ y inside ne. ap (λ (b : Bool). if b then bit_or found pending_mask else page y) (other x w y here ne);
  header = λ n ne. ap (λ v. bit_at (if x == v then bit_or found pending_mask else page x) n) here
      ∙ ap (λ (b : Bool). bit_at (if b then bit_or found pending_mask else page x) n) (itself x)
      ∙ bit_at_set_other w64 found 40 (omega arith) n ne ∙ ap (λ v. bit_at v n) (is ∙ ap page here);
}
  where
    itself : (y : ℕ) → (y == y) ≡ true
    itself y = grind (arith, nat_tests)

-- a guest that reads has an occupied slot, and the host knows it
reading-known : (o e b : Bool) (g : GuestAt) → fits o e b g ≡ true → guest_is g taken ≡ true → e ≡ true
reading-known o e b g f at = grind arith

stored : (x w value : ℕ) (s : PageState) (b : Bool) → is_in x w ≡ b → KeepsSlot x (accesses s.turns) (Store w value)
    → is_occupied (as-known x s) ≡ true
    → IsSameMessage x (memory s.turns) (λ y. if y == w then value else memory s.turns y)
stored x w value s false out keeps full = beyond x w value (memory s.turns) out
stored x w value s true inside keeps full = let both = sym full ∙ keeps inside in absurd (cc)

ored : (x w mask found : ℕ) (s : PageState) (b : Bool) → is_in x w ≡ b → found ≡ memory s.turns w
    → KeepsSlot x (accesses s.turns) (FetchOr w mask found)
    → IsSameMessage x (memory s.turns) (λ y. if y == w then bit_or found mask else memory s.turns y)
ored x w mask found s false out is keeps = beyond x w (bit_or found mask) (memory s.turns) out
ored x w mask found s true inside is keeps =
    let here = keeps inside in
    subst (λ m. IsSameMessage x (memory s.turns) (λ y. if y == w then bit_or found m else memory s.turns y))
    (sym here.1) (marked x w found (memory s.turns) here.0 is)

one-same : (x : ℕ) (s : PageState) (m : Move) → is-fit x s ≡ true → guest_is s.guest taken ≡ true
    → MayMeanwhile x s m → IsSameMessage x (memory s.turns) (memory (moved x s m).turns)
one-same x s (touches (Load w found)) f at may = same-message x (memory s.turns)
one-same x s (touches (FetchOr w mask found)) f at may = ored x w mask found s (is_in x w) refl may.0 may.1
one-same x s (touches (Store w value)) f at may =
    stored x w value s (is_in x w) refl may.1
    (reading-known (is_occupied (in-memory x s)) (is_occupied (as-known x s)) s.buffered s.guest f at)
one-same x s (writes w value) f at may = beyond x w value (memory s.turns) may
one-same x s takes f at may = absurd may
one-same x s clears f at may = absurd may
one-same x s drains f at may = absurd may
one-same x s fences f at may = absurd may
one-same x s sees f at may = absurd may

-- such a move is one that the protocol allows, and the guest stays where it is
allowed : (x : ℕ) (s : PageState) (m : Move) → MayMeanwhile x s m
    → MayMove x s m × (guest_is (moved x s m).guest taken ≡ guest_is s.guest taken)
allowed x s (touches (Load w found)) may = ((may.0, tt), refl)
allowed x s (touches (FetchOr w mask found)) may = ((may.0, tt), refl)
allowed x s (touches (Store w value)) may =
    ((may.0, λ e. may.1 (subst (λ y. is_in x y ≡ true) (equal x w e) (header-in x))), refl)
allowed x s (writes w value) may = (apart x w x may (header-in x), refl)
allowed x s takes may = absurd may
allowed x s clears may = absurd may
allowed x s drains may = absurd may
allowed x s fences may = absurd may
allowed x s sees may = absurd may

all-same : (ms : List Move) (x : ℕ) (s : PageState) → is-fit x s ≡ true → guest_is s.guest taken ≡ true
    → AreMeanwhile x s ms → IsSameMessage x (memory s.turns) (memory (moved_by x s ms).turns)
all-same [] x s f at may = same-message x (memory s.turns)
all-same (m ∷ ms) x s f at may =
    let one = allowed x s m may.0 in
    then-same x (memory s.turns) (memory (moved x s m).turns) (memory (moved_by x (moved x s m) ms).turns)
    (one-same x s m f at may.0)
    (all-same ms x (moved x s m) (fit-move x s m one.0 f) (one.1 ∙ at) may.1)

pub no_message_is_torn : NoMessageIsTorn
no_message_is_torn x acts ends moves meanwhile run begins during reads may =
    let kept = kept-acts acts x opened run (record { fit = refl; wants = λ w. absurd (cc) }) in
    let entry = fit-entered x (acted_by x opened acts).page ends begins kept.fit in
    all-same meanwhile x (amid x acts ends moves)
    (fit-moves moves x (entered (acted_by x opened acts).page ends) during entry) reads may
