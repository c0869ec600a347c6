-- What a guest store leaves unchanged.
use Rattle.std.proofs.Common.{◌≡◌, ◌≢◌, ◌⊎◌, inl, inr, ℕ, zero, suc, ◌/◌, ◌%◌, ◌^◌, ◌==◌, List, [], length, get_or, set, nat_lt, refl, ap, sym, ◌∙◌, subst, length-set}
use Rattle.std.specs.Prelude.{Option, None, Some, map, if◌then◌else◌}
use Rattle.std.specs.List.{range_with_len}
use Rattle.std.specs.Option.{option_map_or}
use Rattle.std.proofs.lemmas.List.{get_or-set_other}
use Rattle.arrayvec.specs.ArrayVec.{ArrayVec}
use Rattle.board_terms.specs.declared.refusal.Refusal.{Refusal}
use Rattle.board_terms.specs.declared.pages.Owner.{Owner}
use Rattle.board_terms.specs.declared.pages.Owner.TheVariants.{Guest, Sim, Sief, Nothing}
use Rattle.gpa_space.specs.Page.{overwritten}
use Rattle.gpa_space.specs.Space.{visible, overlay_owner, owner_of, visible_page, with_visible_page, refusal_of}
use Rattle.synic_board.specs.declared.event.Event.TheVariants.{Store}
use Rattle.synic_board.specs.State.{State, space_of, with_space, slot_of}
use Rattle.synic_board.specs.Effects.{Effect}
use Rattle.synic_board.specs.Delivery.{is_slot_empty}
use Rattle.synic_board.specs.Stores.{consumed_ticket, consumed, consumed_below, consumed_in, stored_bytes}
use Rattle.synic_board.specs.Summaries.{summary_of}
use Rattle.synic_board.specs.Step.{step}
use Rattle.law_board.specs.Leaving.{LeavesSummary, LeavesHidden}
use Rattle.synic_board.proofs.keeping.Requests.{either}

-- only the slots' tickets differ
record IsLike (s now : State) : Type 0 where
  summary : summary_of now ≡ summary_of s
  ticket : now.next_ticket ≡ s.next_ticket
  own : now.own ≡ s.own
  pages : now.pages ≡ s.pages

like-itself : (s : State) → IsLike s s
like-itself s = record { summary = refl; ticket = refl; own = refl; pages = refl }

like-after : (s t u : State) → IsLike s t → IsLike t u → IsLike s u
like-after s t u h k =
    record {
      summary = k.summary ∙ h.summary;
      ticket = k.ticket ∙ h.ticket;
      own = k.own ∙ h.own;
      pages = k.pages ∙ h.pages;
    }

like-ticket : (s : State) (p i : ℕ) (o : Option ℕ) → IsLike s (consumed_ticket s p i o).0
like-ticket s p i None = like-itself s
like-ticket s p i (Some t) = record { summary = refl; ticket = refl; own = refl; pages = refl }

like-consumed : (s : State) (p i : ℕ) → IsLike s (consumed s p i).0
unfolding consumed
like-consumed s p i =
    either (λ (e : Effect). IsLike s e.0) (is_slot_empty s p i) _ _ (λ _. like-ticket s p i (slot_of s p i))
    (λ _. like-itself s)

like-below : (s : State) (p n : ℕ) → IsLike s (consumed_below s p n).0
unfolding consumed_below
like-below s p zero = like-itself s
like-below s p (suc n) =
    like-after s (consumed_below s p n).0 (consumed (consumed_below s p n).0 p n).0 (like-below s p n)
    (like-consumed (consumed_below s p n).0 p n)

like-in : (s : State) (owner : Owner) → IsLike s (consumed_in s owner).0
like-in s Guest = like-itself s
like-in s (Sim p) = like-below s p 16
like-in s (Sief p) = like-itself s
like-in s Nothing = like-itself s

-- the bytes after a store to that visible overlay, or to the guest page
abbrev there : State → ℕ → List ℕ → Option ℕ → State
there s page bytes o =
    option_map_or (λ overlay. record s { own = set s.own overlay bytes }) o
    (record s { pages = set s.pages page bytes })

visible_page-there : (s : State) (page : ℕ) (bytes : List ℕ)
    → with_space s (with_visible_page (space_of s) page bytes) ≡ there s page bytes (visible (space_of s) page)
visible_page-there s page bytes = seen (visible (space_of s) page)
  where
    seen : (o : Option ℕ) →
        with_space s (option_map_or (λ overlay. record (space_of s) { own = set s.own overlay bytes }) o
        (record (space_of s) { pages = set s.pages page bytes })) ≡ there s page bytes o
    seen None = refl
    seen (Some k) = refl

-- the owners, as a function of the number of pages
abbrev owners_among : State → ℕ → List Owner
owners_among s n =
    map (λ page. if nat_lt page (if n == 0 then 2 ^ 52 else n)
    then option_map_or overlay_owner (visible (space_of s) page) Guest else Nothing) (range_with_len 0 n)

leaves-summary-there : (s : State) (page : ℕ) (bytes : List ℕ) (o : Option ℕ) → LeavesSummary s (there s page bytes o)
leaves-summary-there s page bytes None =
    record {
      summary = ap (λ n. record (summary_of s) { owners = owners_among s n }) (length-set s.pages page bytes);
      ticket = refl;
    }
leaves-summary-there s page bytes (Some k) = record { summary = refl; ticket = refl }

leaves-hidden-there : (s : State) (page : ℕ) (bytes : List ℕ) (o : Option ℕ) → visible (space_of s) page ≡ o
    → LeavesHidden s (there s page bytes o) page
leaves-hidden-there s page bytes None is =
    record { overlays = λ k other. refl; guest = λ other which. apart other which }
  where
    apart : (other : ℕ) → (other ≢ page) ⊎ (visible (space_of s) page ≢ None)
        → get_or (set s.pages page bytes) other [] ≡ get_or s.pages other []
    apart other (inl ne) = get_or-set_other s.pages page other bytes [] ne
    apart other (inr some) = absurd (some is)
leaves-hidden-there s page bytes (Some k) is =
    record {
      overlays = λ n other. get_or-set_other s.own k n bytes [] (λ same. other (is ∙ ap Some (sym same)));
      guest = λ other which. refl;
    }

-- a store is refused, or it writes its bytes and messages are consumed
stored : (P : State → Type 0) (s : State) (address : ℕ) (bytes : List ℕ) → P s →
    ((now : State) → (new : List ℕ)
    → IsLike (there s (address / 4096) new (visible (space_of s) (address / 4096))) now → P now)
    → P (stored_bytes s address bytes).0
stored P s address bytes same other = judged (refusal_of (space_of s) address (length bytes)) refl
  where
    judged : (o : Option Refusal) → refusal_of (space_of s) address (length bytes) ≡ o
        → P (stored_bytes s address bytes).0
    judged None is =
        let new : List ℕ = overwritten (visible_page (space_of s) (address / 4096)) (address % 4096) bytes in
        let owner : Owner = owner_of (space_of s) (address / 4096) in
        let t : State = with_space s (with_visible_page (space_of s) (address / 4096) new) in
        rw is (other (consumed_in t owner).0 new
        (subst (λ u. IsLike u (consumed_in t owner).0) (visible_page-there s (address / 4096) new)
        (like-in t owner)))
    judged (Some r) is = rw is same

pub leaves-summary : (s : State) (address : ℕ) (bytes : ArrayVec ℕ) → LeavesSummary s (step s (Store address bytes)).0
unfolding step
leaves-summary s address bytes =
    stored (LeavesSummary s) s address bytes.items (record { summary = refl; ticket = refl }) (λ now new like.
    let first = leaves-summary-there s (address / 4096) new (visible (space_of s) (address / 4096)) in
    record { summary = like.summary ∙ first.summary; ticket = like.ticket ∙ first.ticket })

pub leaves_hidden : (s : State) (address : ℕ) (bytes : ArrayVec ℕ)
    → LeavesHidden s (step s (Store address bytes)).0 (address / 4096)
unfolding step
leaves_hidden s address bytes =
    stored (λ now. LeavesHidden s now (address / 4096)) s address bytes.items
    (record { overlays = λ k other. refl; guest = λ other which. refl }) (λ now new like.
    let first = leaves-hidden-there s (address / 4096) new (visible (space_of s) (address / 4096)) refl in
    record {
      overlays = λ k other. ap (λ (own : List (List ℕ)). get_or own k []) like.own ∙ first.overlays k other;
      guest = λ other which. ap (λ (pages : List (List ℕ)). get_or pages other []) like.pages ∙ first.guest other which;
    })
