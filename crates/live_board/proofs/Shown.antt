-- A guest's store of a word of an overlay that it sees.
use Rattle.std.proofs.Common.{◌≡◌, ◌≢◌, ℕ, zero, suc, ◌+◌, ◌*◌, ◌/◌, ◌%◌, ◌<◌, ◌≤◌, ◌⊎◌, inl, inr, Bool, true, false, List, [], ◌∷◌, ◌++◌, length, get_or, set, Option, None, Some, refl, sym, ap, ◌∙◌, arith, nat_lt, append-nil}
use Rattle.std.specs.Prelude.{◌==◌, if◌then◌else◌}
use Rattle.std.specs.Option.{option_map_or}
use Rattle.std.specs.Int.{to_le_bytes, w64}
use Rattle.std.proofs.Math.Bool.{and-false}
use Rattle.std.proofs.lemmas.Bool.Decides.{nat_tests}
use Rattle.board_terms.specs.declared.notices.Notice.{Notice}
use Rattle.board_terms.specs.declared.pages.Kind.{Kind}
use Rattle.board_terms.specs.declared.pages.Kind.TheVariants as kind
use Rattle.std.proofs.lemmas.Bool.{cases_lt}
use Rattle.std.proofs.lemmas.List.FromFn.{get_or-map-range_with_len, length-map-range_with_len}
use Rattle.synic_board.specs.Summaries.{owners_of}
use Rattle.board_terms.specs.declared.pages.Owner.{Owner}
use Rattle.board_terms.specs.declared.pages.Owner.TheVariants.{Guest, Sim, Sief, Nothing}
use Rattle.gpa_space.specs.Page.{overwritten}
use Rattle.gpa_space.specs.Space.{Space, page_count, visible, overlay_owner, overlay_of, owner_of, refusal_of, after_store, is_sparse}
use Rattle.synic_board.specs.declared.event.Reply.{Reply}
use Rattle.synic_board.specs.declared.event.Reply.TheVariants.{Done}
use Rattle.synic_board.specs.State.{State, space_of, with_space, slot_of}
use Rattle.synic_board.specs.Effects.{Outcome, nothing, answered, refused}
use Rattle.synic_board.specs.Step.{step}
use Rattle.synic_board.specs.Run.{run_of}
use Rattle.synic_board.specs.Stores.{consumed_ticket, consumed, consumed_below, consumed_in, with_bytes}
use Rattle.synic_board.specs.Delivery.{is_slot_empty}
use Rattle.live_board.specs.Live.{number_at, owner_at, IsShown, store_of}
use Rattle.live_board.specs.inside.Parts.{IsPassed}
use Rattle.live_board.specs.Words.{word_of}

-- which overlay an owner is
own_number : (o p : ℕ) (k : Kind) → overlay_owner o ≡ owner_at p k → o ≡ overlay_of p k
own_number o p k e = judged k (o % 2 == 0) refl e
  where
    judged : (k : Kind) (b : Bool) → (o % 2 == 0) ≡ b → overlay_owner o ≡ owner_at p k → o ≡ overlay_of p k
    judged kind.Sim true is e =
        let half : Sim (o / 2) ≡ Sim p = sym (ap (λ (b : Bool). if b then Sim (o / 2) else Sief (o / 2)) is) ∙ e in
        let number : o / 2 ≡ p = cc in
        let even : o % 2 ≡ 0 = grind (arith, nat_tests) in
        omega arith
    judged kind.Sim false is e =
        let half : Sief (o / 2) ≡ Sim p = sym (ap (λ (b : Bool). if b then Sim (o / 2) else Sief (o / 2)) is) ∙ e in
        absurd (cc)
    judged kind.Sief true is e =
        let half : Sim (o / 2) ≡ Sief p = sym (ap (λ (b : Bool). if b then Sim (o / 2) else Sief (o / 2)) is) ∙ e in
        absurd (cc)
    judged kind.Sief false is e =
        let half : Sief (o / 2) ≡ Sief p = sym (ap (λ (b : Bool). if b then Sim (o / 2) else Sief (o / 2)) is) ∙ e in
        let number : o / 2 ≡ p = cc in
        let odd : o % 2 ≢ 0 = grind (arith, nat_tests) in
        omega arith

-- the guest page is no overlay, and no page is none
no_guest : (p : ℕ) (k : Kind) → Guest ≡ owner_at p k → ⊥
no_guest p kind.Sim e = cc
no_guest p kind.Sief e = cc

no_nothing : (p : ℕ) (k : Kind) → Nothing ≡ owner_at p k → ⊥
no_nothing p kind.Sim e = cc
no_nothing p kind.Sief e = cc

-- an overlay that a guest sees at a page is visible there
pub shows : (s : Space) (page p : ℕ) (k : Kind) → owner_of s page ≡ owner_at p k → (nat_lt page (page_count s) ≡ true)
    × (visible s page ≡ Some (overlay_of p k))
shows s page p k e = judged (nat_lt page (page_count s)) refl
  where
    seen : (o : Option ℕ) → option_map_or overlay_owner o Guest ≡ owner_at p k → o ≡ Some (overlay_of p k)
    seen None f = absurd (no_guest p k f)
    seen (Some o) f = ap (λ n. Some n) (own_number o p k f)

    judged : (b : Bool) → nat_lt page (page_count s) ≡ b → (nat_lt page (page_count s) ≡ true)
        × (visible s page ≡ Some (overlay_of p k))
    judged true is = (
      is,
      seen (visible s page)
          (sym (ap (λ (b : Bool). if b then option_map_or overlay_owner (visible s page) Guest else Nothing) is) ∙ e),
    )
    judged false is =
        absurd
        (no_nothing p k
        (sym (ap (λ (b : Bool). if b then option_map_or overlay_owner (visible s page) Guest else Nothing) is) ∙ e))

-- a store of a word of it is not refused
not-refused : (s : Space) (number w o : ℕ) → nat_lt number (page_count s) ≡ true → visible s number ≡ Some o → w < 512
    → refusal_of s (number * 4096 + 8 * w) 8 ≡ None
not-refused s number w o inside seen low =
    let page : (number * 4096 + 8 * w) / 4096 ≡ number = omega arith in
    let at : nat_lt 4096 ((number * 4096 + 8 * w) % 4096 + 8) ≡ false = grind (arith, nat_tests) in
    rw (page, inside, at, seen, and-false (is_sparse s)) refl

-- consuming messages changes only the tickets of slots
still-ticket : (s : State) (p i : ℕ) (o : Option ℕ)
    → (consumed_ticket s p i o).0 ≡ record s { slots = (consumed_ticket s p i o).0.slots }
still-ticket s p i None = refl
still-ticket s p i (Some t) = refl

still-consumed : (s : State) (p i : ℕ) → (consumed s p i).0 ≡ record s { slots = (consumed s p i).0.slots }
unfolding consumed
still-consumed s p i =
    elim (is_slot_empty s p i) as
    (λ b. (if b then consumed_ticket s p i (slot_of s p i) else nothing s).0
    ≡ record s { slots = (if b then consumed_ticket s p i (slot_of s p i) else nothing s).0.slots }) [
      | true ↦ still-ticket s p i (slot_of s p i)
      | false ↦ refl
    ]

still-below : (s : State) (p n : ℕ) → (consumed_below s p n).0 ≡ record s { slots = (consumed_below s p n).0.slots }
unfolding consumed_below
still-below s p zero = refl
still-below s p (suc n) =
    let e : State = (consumed_below s p n).0 in
    still-consumed e p n ∙ ap (λ (t : State). record t { slots = (consumed e p n).0.slots }) (still-below s p n)

pub still-in : (s : State) (owner : Owner)
    → (consumed_in s owner).0 ≡ record s { slots = (consumed_in s owner).0.slots }
still-in s Guest = refl
still-in s (Sim p) = still-below s p 16
still-in s (Sief p) = refl
still-in s Nothing = refl

-- the state with another word of an own page
abbrev pub with_word : State → ℕ → ℕ → ℕ → State
with_word s o w value = record s { own = set s.own o (overwritten (get_or s.own o []) (8 * w) (to_le_bytes w64 value)) }

-- a store of a word that a guest sees
pub stored-word : (s : State) (p : ℕ) (k : Kind) (w value : ℕ) → IsShown s p k → w < 512
    → step s (store_of s p k w value)
    ≡ answered Done (consumed_in (with_word s (overlay_of p k) w value) (owner_at p k))
unfolding step
stored-word s p k w value shown low =
    let number : ℕ = number_at s p k in
    let address : ℕ = number * 4096 + 8 * w in
    let bytes : List ℕ = to_le_bytes w64 value in
    let seen = shows (space_of s) number p k shown in
    let page : address / 4096 ≡ number = omega arith in
    let at : address % 4096 ≡ 8 * w = omega arith in
    let none : refusal_of (space_of s) address 8 ≡ None =
    not-refused (space_of s) number w (overlay_of p k) seen.0 seen.1 low in
    let there : visible (space_of s) (address / 4096) ≡ Some (overlay_of p k) =
    ap (visible (space_of s)) page ∙ seen.1 in
    let owner : owner_of (space_of s) (address / 4096) ≡ owner_at p k = ap (owner_of (space_of s)) page ∙ shown in
    let stored : after_store (space_of s) address bytes ≡ space_of (with_word s (overlay_of p k) w value) =
    rw (none, there, at) refl in
    ap (λ o. option_map_or (refused s) o
    (answered Done (consumed_in (with_bytes s address bytes) (owner_of (space_of s) (address / 4096))))) none
    ∙ (λ i. answered Done (consumed_in (with_space s (stored i)) (owner i)))

-- what the host found in a word that a guest sees is a run of the board
pub passed-same : (s : State) (p : ℕ) (k : Kind) (w value : ℕ) (notices : List Notice)
    → value ≡ word_of s (overlay_of p k) w → notices ≡ [] → IsPassed s p k w value s notices
unfolding run_of
passed-same s p k w value notices is none =
    let e : (value == word_of s (overlay_of p k) w) ≡ true = grind (arith, nat_tests) in
    rw (e, none) refl

pub passed-other : (s now : State) (p : ℕ) (k : Kind) (w value : ℕ) (reply : Reply) (notices : List Notice)
    → value ≢ word_of s (overlay_of p k) w → IsShown s p k → w < 512
    → (now, reply, notices) ≡ step s (store_of s p k w value) → IsPassed s p k w value now notices
unfolding run_of
passed-other s now p k w value reply notices other shown low is =
    let e : (value == word_of s (overlay_of p k) w) ≡ false = grind (arith, nat_tests) in
    let done : reply ≡ Done = ap (λ (o : Outcome). o.1) (is ∙ stored-word s p k w value shown low) in
    rw e (let run = sym is ∙ ap (λ r. (now, r, notices)) done in
    ap (λ (o : Outcome). (o.0, o.1 ∷ [], o.2 ++ [])) run
    ∙ ap (λ (ns : List Notice). (now, Done ∷ [], ns)) (append-nil notices))

-- the owner that the summary has for a page, if it has one
beyond : (os : List Owner) (i : ℕ) (d : Owner) → length os ≤ i → get_or os i d ≡ d
beyond [] i d h = refl
beyond (o ∷ os) zero d h = absurd (omega (arith, h))
beyond (o ∷ os) (suc i) d h = beyond os i d (omega (arith, h))

pub seen-owner : (s : Space) (page : ℕ) (owner : Owner) → get_or (owners_of s) page Nothing ≡ owner → owner ≢ Nothing
    → owner_of s page ≡ owner
seen-owner s page owner is some = by (cases_lt page (length s.pages))
  where
    by : (page < length s.pages) ⊎ (length s.pages ≤ page) → owner_of s page ≡ owner
    by (inl low) =
        sym (get_or-map-range_with_len (owner_of s) 0 (length s.pages) page page Nothing low (omega arith)) ∙ is
    by (inr high) =
        absurd
        (some (sym is ∙ beyond (owners_of s) page Nothing
        (omega (arith, length-map-range_with_len (owner_of s) 0 (length s.pages), high))))
