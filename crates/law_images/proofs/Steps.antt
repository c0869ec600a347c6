-- Each piece of an image that may come next, and is not the last, adds its line.
use Rattle.std.proofs.Common.{◌≡◌, ℕ, ◌<◌, sym, subst}
use Rattle.synic_board.specs.State.{State, IsWithinLimits, processors}
use Rattle.text_image.specs.declared.piece.Piece.{Piece}
use Rattle.text_image.specs.declared.piece.Piece.TheVariants as pieces
use Rattle.text_image.specs.Pieces.{IsPiece}
use Rattle.text_restore.specs.Restoring.{IsLater, IsInTurn, Restores, lapics_after}
use Rattle.law_images.proofs.Extending.{IsShaped, IsBlank, Extends}
use Rattle.law_images.proofs.parts.Processors.{moment-extends, lapic-extends}
use Rattle.law_images.proofs.parts.Registers.{control-extends, overlay-extends, stored-extends}
use Rattle.law_images.proofs.parts.Pages.{guest-extends, own-extends}
use Rattle.law_images.proofs.parts.Tables.{opened_port-extends, timer-extends, message-extends, ticket-extends}

-- any piece except the last
abbrev pub IsInner : Piece → Type 0
IsInner pieces.End = ⊥
IsInner x = Unit {0}

-- a piece that leads to this state
module _ (n m ticket : ℕ) (s : State) (last lapics : ℕ) (new : State) (sizes : IsWithinLimits n m)
    (shaped : IsShaped n m ticket s) (blank : IsBlank n m s last lapics) where
  on : (p : ℕ) → p < processors s → p < n
  on p h = subst (λ (k : ℕ). p < k) shaped.apics h

  to : (x : Piece) (now : State) (after : ℕ) → new ≡ now → Extends n m ticket s lapics x now after
      → Extends n m ticket s lapics x new after
  to x now after e h = subst (λ (t : State). Extends n m ticket s lapics x t after) (sym e) h

  pub extends : (x : Piece) → IsInner x → IsPiece x → IsLater last x → IsInTurn n lapics x → Restores s x new
      → Extends n m ticket s lapics x new (lapics_after lapics x)
  extends (pieces.Moment t) inner fits later turn h =
      to (pieces.Moment t) _ lapics h.2 (moment-extends n m ticket s last lapics t shaped blank later h.0)
  extends (pieces.Lapic p a) inner fits later turn h =
      to (pieces.Lapic p a) _ _ h.1 (lapic-extends n m ticket s last lapics p a shaped blank later (on p h.0) turn)
  extends (pieces.Control p value) inner fits later turn h =
      to (pieces.Control p value) _ lapics h.2
      (control-extends n m ticket s last lapics p value shaped blank later (on p h.0) h.1)
  extends (pieces.Overlay p kind value) inner fits later turn h = to (pieces.Overlay p kind value) _ lapics h.2
      (overlay-extends n m ticket s last lapics p kind value shaped blank later (on p h.0) h.1)
  extends (pieces.Source p i value) inner fits later turn h =
      stored-extends n m ticket s last lapics p i value new shaped blank later (on p h.0) fits.1 h.1 h.2
  extends (pieces.Guest k at bytes) inner fits later turn h = to (pieces.Guest k at bytes) _ lapics h.2
      (guest-extends n m ticket s last lapics k at bytes shaped blank later
      (subst (λ (y : ℕ). k < y) shaped.pages h.0) h.1 fits.1.2)
  extends (pieces.Own p kind at bytes) inner fits later turn h = to (pieces.Own p kind at bytes) _ lapics h.3
      (own-extends n m ticket s last lapics p kind at bytes shaped blank later (on p h.0) h.2 fits.1.2)
  extends (pieces.Port k p i shape) inner fits later turn h =
      opened_port-extends n m ticket s last lapics k p i shape new shaped blank later h
  extends (pieces.Timer p i config count due) inner fits later turn h =
      to (pieces.Timer p i config count due) _ lapics h.4
      (timer-extends n m ticket s last lapics p i config count due sizes.processor_bound shaped blank later
      (on p h.0) h.1 h.2)
  extends (pieces.Queued p i x) inner fits later turn h =
      to (pieces.Queued p i x) _ lapics h.3 (message-extends n m ticket s lapics p i x shaped (on p h.0) h.1)
  extends (pieces.Slot p i x) inner fits later turn h =
      to (pieces.Slot p i x) _ lapics h.3
      (ticket-extends n m ticket s last lapics p i x shaped blank later (on p h.0) h.1)
  extends pieces.End inner fits later turn h = absurd inner
