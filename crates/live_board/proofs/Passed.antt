-- What a passed word leaves and changes.
use Rattle.std.proofs.Common.{◌≡◌, ◌≢◌, ◌⊎◌, inl, inr, ℕ, ◌+◌, ◌*◌, ◌/◌, ◌%◌, ◌^◌, ◌<◌, ◌≤◌, Bool, true, false, List, [], ◌∷◌, ◌++◌, length, get_or, set, Option, None, Some, refl, sym, ap, ◌∙◌, subst, arith, length-set, append-nil}
use Rattle.std.specs.Prelude.{◌==◌, if◌then◌else◌}
use Rattle.std.specs.Int.{to_le_bytes, w64}
use Rattle.std.proofs.lemmas.Bool.{cases_eq, cases_lt}
use Rattle.std.proofs.lemmas.Bool.Decides.{nat_tests}
use Rattle.std.proofs.lemmas.List.{get_or-set_same, get_or-set_other}
use Rattle.board_terms.specs.declared.notices.Notice.{Notice}
use Rattle.board_terms.specs.declared.pages.Kind.{Kind}
use Rattle.board_terms.specs.declared.pages.Kind.TheVariants as kind
use Rattle.message_queues.specs.Image.{slot_type}
use Rattle.gpa_space.specs.Page.{overwritten}
use Rattle.gpa_space.specs.Space.{overlay_of}
use Rattle.synic_board.specs.State.{State, processors, slot_of}
use Rattle.synic_board.specs.Effects.{Effect, Outcome}
use Rattle.synic_board.specs.Run.{Run, run_of}
use Rattle.synic_board.specs.Sound.{IsSound, IsFree}
use Rattle.synic_board.specs.Stores.{consumed_ticket, consumed, consumed_in}
use Rattle.synic_board.specs.Delivery.{is_slot_empty}
use Rattle.synic_board.proofs.Touching.{one-consumed, none-consumed}
use Rattle.synic_board.proofs.keeping.Requests.{either}
use Rattle.synic_board.proofs.keeping.Slots.{overwritten-other}
use Rattle.live_board.specs.Live.{IsShown, owner_at, store_of, all_done}
use Rattle.live_board.specs.inside.Parts.{IsPassed}
use Rattle.live_board.specs.Words.{word_of}
use Rattle.live_board.specs.inside.Parts.{HasWord, IsPassedOn}
use Rattle.live_board.proofs.Bytes.{word-written, word-elsewhere}
use Rattle.live_board.proofs.Shown.{with_word, stored-word, still-in, passed-same}

same-has : (s : State) (o w value : ℕ) → value ≡ word_of s o w → HasWord s o w value s
same-has s o w value is =
    record { rest = refl; count = refl; here = sym is; others = λ j x _. refl; same = λ j _. refl }

-- a word that the board has
pub passed-equal : (s : State) (p : ℕ) (k : Kind) (w value : ℕ) (before : List Notice)
    → value ≡ word_of s (overlay_of p k) w → IsPassedOn s p k w value s before before
passed-equal s p k w value before is =
    record {
      emitted = [];
      notices = sym (append-nil before);
      few = omega arith;
      passed = passed-same s p k w value [] is refl;
      word = same-has s (overlay_of p k) w value is;
    }

stored-has : (s now : State) (o w value : ℕ) → o < length s.own → length (get_or s.own o []) ≡ 4096 → w < 512
    → value < 2 ^ 64 → now ≡ record (with_word s o w value) { slots = now.slots } → HasWord s o w value now
stored-has s now o w value inside long low small is = record {
  rest = is ∙ ap (λ l. record s { own = l; slots = now.slots }) (sym own);
  count = ap length own ∙ length-set s.own o page;
  here = ap (λ l. word_of (record s { own = l }) o w) own
      ∙ ap (λ l. word_of (record s { own = l ∷ [] }) 0 w) (get_or-set_same s.own o page [] inside)
      ∙ word-written (get_or s.own o []) w value (omega (arith, long, low)) small;
  others = λ j x apart. ap (λ l. word_of (record s { own = l }) j x) own ∙ elsewhere j x (cases_eq j o) apart;
  same = λ j ne. ap (λ l. get_or l j []) own ∙ get_or-set_other s.own o j page [] ne;
}
  where
    page : List ℕ
    page = overwritten (get_or s.own o []) (8 * w) (to_le_bytes w64 value)

    own : now.own ≡ set s.own o page
    own = ap (λ (t : State). t.own) is

    elsewhere : (j x : ℕ) → (j ≡ o) ⊎ (j ≢ o) → (j ≢ o) ⊎ (x ≢ w)
        → word_of (record s { own = set s.own o page }) j x ≡ word_of s j x
    elsewhere j x (inr ne) apart =
        ap (λ l. word_of (record s { own = l ∷ [] }) 0 x) (get_or-set_other s.own o j page [] ne)
    elsewhere j x (inl same) (inl ne) = absurd (ne same)
    elsewhere j x (inl same) (inr ne) =
        ap (λ n. word_of (record s { own = set s.own o page }) n x) same
        ∙ ap (λ l. word_of (record s { own = l ∷ [] }) 0 x) (get_or-set_same s.own o page [] inside)
        ∙ word-elsewhere (get_or s.own o []) (to_le_bytes w64 value) w x refl (omega (arith, long, low)) ne
        ∙ ap (λ n. word_of s n x) (sym same)

-- a store of a word consumes at most one message
few-consumed : (t : State) (p i : ℕ) → length (consumed t p i).1 ≤ 1
unfolding consumed
few-consumed t p i =
    either (λ (e : Effect). length e.1 ≤ 1) (is_slot_empty t p i) _ _ (λ _. held (slot_of t p i)) (λ _. omega arith)
  where
    held : (o : Option ℕ) → length (consumed_ticket t p i o).1 ≤ 1
    held None = omega arith
    held (Some x) = omega arith

few-word : (s : State) (p : ℕ) (k : Kind) (w value : ℕ) → IsSound s → p < processors s → w < 512
    → length (consumed_in (with_word s (overlay_of p k) w value) (owner_at p k)).1 ≤ 1
few-word s p kind.Sief w value h on low = omega arith
few-word s p kind.Sim w value h on low =
    let t : State = with_word s (2 * p) w value in
    let one = one-consumed t p (w / 32) (omega arith) (λ j under ne. free j under ne) in
    omega (arith, few-consumed t p (w / 32), ap (λ (e : Effect). length e.1) one)
  where
    bytes : List ℕ
    bytes = to_le_bytes w64 value

    page : List ℕ
    page = get_or s.own (2 * p) []

    inside : 2 * p < length s.own
    inside = omega (arith, h.whole.own, on)

    long : length page ≡ 4096
    long = h.whole.pages (2 * p) [] inside

    free : (j : ℕ) → j < 16 → j ≢ w / 32 → IsFree (with_word s (2 * p) w value) p j
    free j under ne z =
        let there = get_or-set_same s.own (2 * p) (overwritten page (8 * w) bytes) [] inside in
        let byte = λ (b : ℕ) (small : b < 4). overwritten-other page bytes (8 * w) (256 * j + b)
        (omega (arith, long, low)) (side b small (cases_lt j (w / 32))) in
        let same : slot_type (overwritten page (8 * w) bytes) j ≡ slot_type page j =
        rw (byte 0 (omega arith), byte 1 (omega arith), byte 2 (omega arith), byte 3 (omega arith)) refl in
        h.empty p j on under (sym same ∙ ap (λ l. slot_type l j) (sym there) ∙ z)
      where
        side : (b : ℕ) → b < 4 → (j < w / 32) ⊎ (w / 32 ≤ j) → (256 * j + b < 8 * w) ⊎ (8 * w + 8 ≤ 256 * j + b)
        side b small (inl less) = inl (omega arith)
        side b small (inr le) = inr (let more : w / 32 < j = omega (arith, ne) in omega arith)

-- what a passed word means for the words
pub has-word : (s now : State) (p : ℕ) (k : Kind) (w value : ℕ) (notices : List Notice) → IsSound s → p < processors s
    → w < 512 → value < 2 ^ 64 → IsShown s p k → IsPassed s p k w value now notices
    → HasWord s (overlay_of p k) w value now × (length notices ≤ 1)
unfolding run_of
has-word s now p k w value notices h on low small shown passed = by (value == word_of s o w) refl
  where
    o : ℕ
    o = overlay_of p k

    e : Effect
    e = consumed_in (with_word s o w value) (owner_at p k)

    inside : o < length s.own
    inside = number k
      where
        number : (k : Kind) → overlay_of p k < length s.own
        number kind.Sim = omega (arith, h.whole.own, on)
        number kind.Sief = omega (arith, h.whole.own, on)

    by : (b : Bool) → (value == word_of s o w) ≡ b → HasWord s o w value now × (length notices ≤ 1)
    by true is =
        let run : (s, [], []) ≡ (now, [], notices) =
        ap (λ b. run_of s (if b then [] else store_of s p k w value ∷ [])) (sym is) ∙ passed
        ∙ ap (λ b. (now, all_done (if b then [] else store_of s p k w value ∷ []), notices)) is in
        let equal : value ≡ word_of s o w = grind (arith, nat_tests) in (
          subst (HasWord s o w value) (ap (λ (r : Run). r.0) run) (same-has s o w value equal),
          omega (arith, ap (λ (r : Run). length r.2) run),
        )
    by false is =
        let run : run_of s (store_of s p k w value ∷ []) ≡ (now, all_done (store_of s p k w value ∷ []), notices) =
        ap (λ b. run_of s (if b then [] else store_of s p k w value ∷ [])) (sym is) ∙ passed
        ∙ ap (λ b. (now, all_done (if b then [] else store_of s p k w value ∷ []), notices)) is in
        let stored = stored-word s p k w value shown low in
        let state : now ≡ e.0 = sym (ap (λ (r : Run). r.0) run) ∙ ap (λ (x : Outcome). x.0) stored in
        let emitted : notices ≡ e.1 ++ [] = sym (ap (λ (r : Run). r.2) run) ∙ ap (λ (x : Outcome). x.2 ++ []) stored in
        let is : now ≡ record (with_word s o w value) { slots = now.slots } =
        state ∙ still-in (with_word s o w value) (owner_at p k)
        ∙ ap (λ (t : State). record (with_word s o w value) { slots = t.slots }) (sym state) in (
          stored-has s now o w value inside (h.whole.pages o [] inside) low small is,
          omega (arith, few-word s p k w value h on low, ap length emitted, ap length (append-nil e.1)),
        )

-- a word without the type of a slot consumes nothing
none-word : (s : State) (p : ℕ) (k : Kind) (w value : ℕ) → IsSound s → p < processors s → w < 512 → w % 32 ≢ 0
    → (consumed_in (with_word s (overlay_of p k) w value) (owner_at p k)).1 ≡ []
none-word s p kind.Sief w value h on low inner = refl
none-word s p kind.Sim w value h on low inner =
    ap (λ (e : Effect). e.1) (none-consumed (with_word s (2 * p) w value) p (λ j under. free j under))
  where
    bytes : List ℕ
    bytes = to_le_bytes w64 value

    page : List ℕ
    page = get_or s.own (2 * p) []

    inside : 2 * p < length s.own
    inside = omega (arith, h.whole.own, on)

    long : length page ≡ 4096
    long = h.whole.pages (2 * p) [] inside

    free : (j : ℕ) → j < 16 → IsFree (with_word s (2 * p) w value) p j
    free j under z =
        let there = get_or-set_same s.own (2 * p) (overwritten page (8 * w) bytes) [] inside in
        let byte = λ (b : ℕ) (small : b < 4). overwritten-other page bytes (8 * w) (256 * j + b)
        (omega (arith, long, low)) (side b small (cases_lt (w / 32) j)) in
        let same : slot_type (overwritten page (8 * w) bytes) j ≡ slot_type page j =
        rw (byte 0 (omega arith), byte 1 (omega arith), byte 2 (omega arith), byte 3 (omega arith)) refl in
        h.empty p j on under (sym same ∙ ap (λ l. slot_type l j) (sym there) ∙ z)
      where
        side : (b : ℕ) → b < 4 → (w / 32 < j) ⊎ (j ≤ w / 32) → (256 * j + b < 8 * w) ⊎ (8 * w + 8 ≤ 256 * j + b)
        side b small (inl less) = inr (omega arith)
        side b small (inr le) = inl (omega (arith, le, inner))

pub no-notices : (s now : State) (p : ℕ) (k : Kind) (w value : ℕ) (notices : List Notice) → IsSound s
    → p < processors s → w < 512 → w % 32 ≢ 0 → IsShown s p k → IsPassed s p k w value now notices → notices ≡ []
unfolding run_of
no-notices s now p k w value notices h on low inner shown passed = by (value == word_of s (overlay_of p k) w) refl
  where
    by : (b : Bool) → (value == word_of s (overlay_of p k) w) ≡ b → notices ≡ []
    by true is =
        let run : (s, [], []) ≡ (now, [], notices) =
        ap (λ b. run_of s (if b then [] else store_of s p k w value ∷ [])) (sym is) ∙ passed
        ∙ ap (λ b. (now, all_done (if b then [] else store_of s p k w value ∷ []), notices)) is in
        sym (ap (λ (r : Run). r.2) run)
    by false is =
        let run : run_of s (store_of s p k w value ∷ []) ≡ (now, all_done (store_of s p k w value ∷ []), notices) =
        ap (λ b. run_of s (if b then [] else store_of s p k w value ∷ [])) (sym is) ∙ passed
        ∙ ap (λ b. (now, all_done (if b then [] else store_of s p k w value ∷ []), notices)) is in
        sym (ap (λ (r : Run). r.2) run) ∙ ap (λ (x : Outcome). x.2 ++ []) (stored-word s p k w value shown low)
        ∙ ap (λ ns. ns ++ []) (none-word s p k w value h on low inner)
