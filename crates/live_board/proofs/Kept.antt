-- A slot whose header is as the host knows it after an EOM, a write of a timer or a tick is so as a whole.
use Rattle.std.proofs.Common.{◌≡◌, ◌≢◌, ◌⊎◌, inl, inr, ℕ, ◌+◌, ◌*◌, ◌%◌, ◌<◌, ◌≤◌, Bool, true, false, List, get_or, refl, sym, ap, ◌∙◌, arith}
use Rattle.std.specs.Prelude.{◌==◌}
use Rattle.std.proofs.lemmas.Bool.{cases_eq}
use Rattle.std.proofs.lemmas.Bool.Decides.{nat_tests}
use Rattle.message_queues.specs.Image.{slot_type}
use Rattle.synic_board.specs.State.{State, processors}
use Rattle.synic_board.specs.Delivery.{is_slot_empty}
use Rattle.synic_board.specs.Ranges.{HasRanges}
use Rattle.synic_board.specs.Sound.{HasShape}
use Rattle.synic_board.proofs.keeping.Placements.{page_of}
use Rattle.live_pages.specs.Words.{type_of}
use Rattle.live_board.specs.Live.{is_waiting}
use Rattle.live_board.specs.Words.{word_of}
use Rattle.live_board.specs.inside.Parts.{AreKept, IsLeft, Ends, SlotGrows, SlotFills}
use Rattle.live_board.proofs.Ended.{slot-word}
use Rattle.live_board.proofs.Part.{type-is, type-marked, header-bytes}
use Rattle.live_board.proofs.TimedPart.{grown-payload}

-- the payload of a slot is the same, or the slot was empty and is occupied
abbrev Settles : State → ℕ → ℕ → State → Type 0
Settles s p i now =
    ((w : ℕ) → 1 ≤ w → w < 32 → word_of now (2 * p) (32 * i + w) ≡ word_of s (2 * p) (32 * i + w))
    ⊎ ((is_slot_empty s p i ≡ true) × (is_slot_empty now p i ≡ false))

zero-is : (x : ℕ) → (x == 0) ≡ true → x ≡ 0
zero-is x e = grind (arith, nat_tests)

zero-not : (x : ℕ) → (x == 0) ≡ false → x ≢ 0
zero-not x e = λ z. grind (arith, nat_tests)

-- words that have the payload and the types of a state, which settles
kept : (s now : State) (p : ℕ) (words : List ℕ) → HasShape s → HasRanges s → HasShape now → HasRanges now
    → p < processors s → p < processors now
    → ((x : ℕ) → x < 512 → x % 32 ≢ 0 → get_or words x 0 ≡ word_of s (2 * p) x)
    → ((i : ℕ) → i < 16 → type_of (get_or words (32 * i) 0) ≡ type_of (word_of s (2 * p) (32 * i)))
    → ((i : ℕ) → i < 16 → Settles s p i now) → AreKept now p words
kept s now p words shape ranges shape-now ranges-now on on-now payload types settles i under same w low =
    by (cases_eq w 0) (settles i under)
  where
    by : (w ≡ 0) ⊎ (w ≢ 0) → Settles s p i now → get_or words (32 * i + w) 0 ≡ word_of now (2 * p) (32 * i + w)
    by (inl first) h =
        let place : 32 * i + w ≡ 32 * i =
        omega (arith, first) in ap (λ n. get_or words n 0) place ∙ same ∙ ap (word_of now (2 * p)) (sym place)
    by (inr later) (inl stays) =
        payload (32 * i + w) (omega (arith, under, low)) (λ z. later (omega (arith, z, low)))
        ∙ sym (stays w (omega (arith, later)) low)
    by (inr later) (inr (empty, full)) =
        absurd (zero-not (slot_type (page_of now p) i) full
        (sym (type-is (page_of now p) i (header-bytes now p i shape-now ranges-now on-now under))
        ∙ ap type_of (sym same) ∙ types i under
        ∙ type-is (page_of s p) i (header-bytes s p i shape ranges on under)
        ∙ zero-is (slot_type (page_of s p) i) empty))

-- a header that a probe leaves has the type that it found
pub left-type : (waits : Bool) (header left : ℕ) → IsLeft waits header left → type_of left ≡ type_of header
left-type true header left (inl (was, is)) = is ∙ sym was
left-type true header left (inr marked) = ap type_of marked ∙ type-marked header
left-type false header left same = ap type_of same

-- after an EOM
pub kept-ended : (s now : State) (p : ℕ) (words : List ℕ) → HasShape s → HasRanges s → HasShape now → HasRanges now
    → p < processors s → p < processors now
    → ((x : ℕ) → x < 512 → x % 32 ≢ 0 → get_or words x 0 ≡ word_of s (2 * p) x)
    → ((i : ℕ) → i < 16 → type_of (get_or words (32 * i) 0) ≡ type_of (word_of s (2 * p) (32 * i))) → Ends s p now
    → AreKept now p words
kept-ended s now p words shape ranges shape-now ranges-now on on-now payload types e =
    kept s now p words shape ranges shape-now ranges-now on on-now payload types
    (λ i under. by i under (is_waiting s p i) (is_slot_empty s p i) refl refl)
  where
    by : (i : ℕ) → i < 16 → (a b : Bool) → is_waiting s p i ≡ a → is_slot_empty s p i ≡ b → Settles s p i now
    by i under false b idle type = inl (λ w _ low. (e.slots i under).idle idle w low)
    by i under true true waits empty = inr (empty, (e.slots i under).fills waits empty)
    by i under true false waits full = inl (λ w some low. (e.slots i under).payload waits full w some low)

-- after a write of a timer, or a tick
pub kept-grown : (s now : State) (p : ℕ) (words : List ℕ) → HasShape s → HasRanges s → HasShape now → HasRanges now
    → p < processors s → p < processors now → ((x : ℕ) → x < 512 → get_or words x 0 ≡ word_of s (2 * p) x)
    → ((i : ℕ) → i < 16 → is_slot_empty s p i ≡ false → SlotGrows s p i now)
    → ((i : ℕ) → i < 16 → is_slot_empty s p i ≡ true → SlotFills s p i now) → AreKept now p words
kept-grown s now p words shape ranges shape-now ranges-now on on-now are grows fills =
    kept s now p words shape ranges shape-now ranges-now on on-now (λ x low _. are x low)
    (λ i under. ap type_of (are (32 * i) (omega (arith, under)))) (λ i under. by i under (is_slot_empty s p i) refl)
  where
    filled : (i : ℕ) → is_slot_empty s p i ≡ true → SlotFills s p i now → Settles s p i now
    filled i empty (inl same) = inl (λ w _ low. slot-word s now p i same w low)
    filled i empty (inr full) = inr (empty, full)

    by : (i : ℕ) → i < 16 → (b : Bool) → is_slot_empty s p i ≡ b → Settles s p i now
    by i under true empty = filled i empty (fills i under empty)
    by i under false full = inl (λ w some low. grown-payload s now p i (grows i under full) w some low)
