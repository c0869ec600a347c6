-- Bytes of a guest page, and of an own page.
use Rattle.std.proofs.Common.{◌≡◌, ◌≢◌, ◌⊎◌, inl, inr, ℕ, zero, suc, ◌+◌, ◌*◌, ◌/◌, ◌<◌, ◌≤◌, Bool, false, List, [], ◌∷◌, cond, length, replicate, refl, sym, ap, subst, ◌∙◌, arith}
use Rattle.std.specs.Prelude.{slice_index_or}
use Rattle.std.specs.Str.{bytes_eq}
use Rattle.std.proofs.lemmas.Bool.{cases_eq}
use Rattle.std.proofs.lemmas.List.{get_or-set_same, get_or-set_other, length-set}
use Rattle.std.proofs.lemmas.List.Elements.{All-set}
use Rattle.arrayvec.specs.ArrayVec.{ArrayVec}
use Rattle.board_terms.specs.declared.pages.Kind.{Kind}
use Rattle.board_terms.specs.declared.pages.Kind.TheVariants as kinds
use Rattle.gpa_space.specs.Page.{overwritten}
use Rattle.gpa_space.specs.Space.{own_page, overlay_of}
use Rattle.synic_board.specs.State.{State, space_of}
use Rattle.synic_board.specs.Restoring.{with_own_bytes, with_guest_bytes}
use Rattle.synic_board.proofs.keeping.Stores.{length-overwritten}
use Rattle.text_image.specs.declared.piece.Piece.{Piece}
use Rattle.text_image.specs.declared.piece.Piece.TheVariants as pieces
use Rattle.text_image.specs.Pieces.{piece_fields}
use Rattle.text_restore.specs.Restoring.{rank_of, page_rank, IsBlock}
use Rattle.law_images.proofs.Blocks.{block-here, block-other}
use Rattle.law_images.proofs.Spots.{Guests, Owns, IsSpot, AgreeElsewhere}
use Rattle.law_images.proofs.Printed.{printed, guest_printed, own_printed, block_printed, block_of, kind_of}
use Rattle.law_images.proofs.Extending.{IsShaped, IsBlank, Extends, first-added}

-- a block that is not all zeros has its line
block-line : (x : Piece) (bytes : List ℕ) → bytes_eq bytes (replicate 256 0) ≡ false
    → block_printed x bytes ≡ piece_fields x ∷ []
block-line x bytes off = ap (λ (t : Bool). cond t [] (piece_fields x ∷ [])) off

pub guest-extends : (n m ticket : ℕ) (s : State) (last lapics k at : ℕ) (bytes : ArrayVec ℕ) → IsShaped n m ticket s
    → IsBlank n m s last lapics →
    last < rank_of (pieces.Guest k at bytes) → k < m → IsBlock at bytes.items → length bytes.items ≡ 256 →
    Extends n m ticket s lapics (pieces.Guest k at bytes) (with_guest_bytes s k at bytes.items) lapics
guest-extends n m ticket s last lapics k at bytes h blank later on block size = record {
  shaped = record {
    apics = h.apics;
    pages = length-set s.pages k now ∙ h.pages;
    next = h.next;
    regs = h.regs;
    own = h.own;
    ports = h.ports;
    timers = h.timers;
    queues = h.queues;
    slots = h.slots;
    sints = h.sints;
    page_bytes =
        All-set (λ (page : List ℕ). length page ≡ 4096) s.pages k now
        (length-overwritten page bytes.items at whole fits) h.page_bytes;
    own_bytes = h.own_bytes;
  };
  section = Guests;
  a = k;
  b = 0;
  c = c;
  spot = spot;
  is = omega (arith, place);
  frame = frame;
  added = first-added (printed s lapics Guests k 0 c) (printed new lapics Guests k 0 c)
      (piece_fields (pieces.Guest k at bytes)) (blank Guests k 0 c spot (omega (arith, place, later)))
      (ap (λ (y : List ℕ). guest_printed k y c) same
      ∙ (λ i. block_printed (pieces.Guest k (sym place i) (record { items = here i })) (here i))
      ∙ block-line (pieces.Guest k at (record { items = bytes.items })) bytes.items block.2);
}
  where
    new : State
    new = with_guest_bytes s k at bytes.items

    page : List ℕ
    page = slice_index_or s.pages k []

    now : List ℕ
    now = overwritten page at bytes.items

    c : ℕ
    c = at / 256

    low : c < 16
    low = omega (arith, block.0)

    place : at ≡ 256 * c
    place = omega (arith, block.1)

    whole : length page ≡ 4096
    whole = h.page_bytes k [] (omega (arith, h.pages, on))

    fits : at + length bytes.items ≤ 4096
    fits = omega (arith, place, low, size)

    spot : IsSpot n m Guests k 0 c
    spot = (on, omega arith, low)

    same : slice_index_or new.pages k [] ≡ now
    same = get_or-set_same s.pages k now [] (omega (arith, h.pages, on))

    here : block_of now c ≡ bytes.items
    here = block-here page bytes.items at c whole size low place

    by : (q j : ℕ) → j < 16 → (q ≡ k) ⊎ (q ≢ k) → (q ≡ k → j ≢ c)
        → guest_printed q (slice_index_or new.pages q []) j ≡ guest_printed q (slice_index_or s.pages q []) j
    by q j below (inl e) apart =
        subst (λ (y : ℕ). guest_printed y (slice_index_or new.pages y []) j
        ≡ guest_printed y (slice_index_or s.pages y []) j) (sym e)
        (ap (λ (y : List ℕ). guest_printed k y j) same
        ∙ ap (λ (y : List ℕ). block_printed (pieces.Guest k (256 * j) (record { items = y })) y)
        (block-other page bytes.items at c j whole size low place below (apart e)))
    by q j below (inr ne) apart = ap (λ (y : List ℕ). guest_printed q y j) (get_or-set_other s.pages k q now [] ne)

    frame : AgreeElsewhere n m (rank_of (pieces.Guest k at bytes)) (printed s lapics) (printed new lapics)
    frame Guests q j l h' other = by q l h'.2 (cases_eq q k) (λ e f. other (omega (arith, place, e, f, h'.1)))
    frame σ i j l h' other = refl

kind-place : (kind : Kind) → kind_of (page_rank kind) ≡ kind
kind-place kinds.Sim = refl
kind-place kinds.Sief = refl

kind-few : (kind : Kind) → page_rank kind < 2
kind-few kinds.Sim = omega arith
kind-few kinds.Sief = omega arith

overlay-kind : (p : ℕ) (kind : Kind) → overlay_of p kind ≡ 2 * p + page_rank kind
overlay-kind p kinds.Sim = omega arith
overlay-kind p kinds.Sief = refl

overlay-number : (q j : ℕ) → j < 2 → overlay_of q (kind_of j) ≡ 2 * q + j
overlay-number q zero h = omega arith
overlay-number q (suc j) h = omega (arith, h)

pub own-extends : (n m ticket : ℕ) (s : State) (last lapics p : ℕ) (kind : Kind) (at : ℕ) (bytes : ArrayVec ℕ)
    → IsShaped n m ticket s → IsBlank n m s last lapics →
    last < rank_of (pieces.Own p kind at bytes) → p < n → IsBlock at bytes.items → length bytes.items ≡ 256 →
    Extends n m ticket s lapics (pieces.Own p kind at bytes) (with_own_bytes s p kind at bytes.items) lapics
own-extends n m ticket s last lapics p kind at bytes h blank later on block size = record {
  shaped = record {
    apics = h.apics;
    pages = h.pages;
    next = h.next;
    regs = h.regs;
    own = length-set s.own o now ∙ h.own;
    ports = h.ports;
    timers = h.timers;
    queues = h.queues;
    slots = h.slots;
    sints = h.sints;
    page_bytes = h.page_bytes;
    own_bytes = All-set (λ (page : List ℕ). length page ≡ 4096) s.own o now
        (length-overwritten page bytes.items at whole fits) h.own_bytes;
  };
  section = Owns;
  a = p;
  b = page_rank kind;
  c = c;
  spot = spot;
  is = omega (arith, place);
  frame = frame;
  added = first-added (printed s lapics Owns p (page_rank kind) c) (printed new lapics Owns p (page_rank kind) c)
      (piece_fields (pieces.Own p kind at bytes))
      (blank Owns p (page_rank kind) c spot (omega (arith, place, later)))
      ((λ i. own_printed p (kind-place kind i) (own_page (space_of new) p (kind-place kind i)) c)
      ∙ ap (λ (y : List ℕ). own_printed p kind y c) same
      ∙ (λ i. block_printed (pieces.Own p kind (sym place i) (record { items = here i })) (here i))
      ∙ block-line (pieces.Own p kind at (record { items = bytes.items })) bytes.items block.2);
}
  where
    new : State
    new = with_own_bytes s p kind at bytes.items

    o : ℕ
    o = overlay_of p kind

    page : List ℕ
    page = own_page (space_of s) p kind

    now : List ℕ
    now = overwritten page at bytes.items

    c : ℕ
    c = at / 256

    low : c < 16
    low = omega (arith, block.0)

    place : at ≡ 256 * c
    place = omega (arith, block.1)

    inside : o < length s.own
    inside = omega (arith, h.own, on, overlay-kind p kind, kind-few kind)

    whole : length page ≡ 4096
    whole = h.own_bytes o [] inside

    fits : at + length bytes.items ≤ 4096
    fits = omega (arith, place, low, size)

    spot : IsSpot n m Owns p (page_rank kind) c
    spot = (on, kind-few kind, low)

    same : own_page (space_of new) p kind ≡ now
    same = get_or-set_same s.own o now [] inside

    here : block_of now c ≡ bytes.items
    here = block-here page bytes.items at c whole size low place

    -- the overlay of other numbers
    number-of : (q j : ℕ) → j < 2 → overlay_of q (kind_of j) ≡ o → (q ≡ p) × (j ≡ page_rank kind)
    number-of q j below e = (
      omega (arith, e, overlay-number q j below, overlay-kind p kind, kind-few kind),
      omega (arith, e, overlay-number q j below, overlay-kind p kind, kind-few kind),
    )

    by : (q j l : ℕ) → j < 2 → l < 16 → (overlay_of q (kind_of j) ≡ o) ⊎ (overlay_of q (kind_of j) ≢ o)
        → (q ≡ p → j ≡ page_rank kind → l ≢ c) →
        own_printed q (kind_of j) (own_page (space_of new) q (kind_of j)) l
        ≡ own_printed q (kind_of j) (own_page (space_of s) q (kind_of j)) l
    by q j l below inner (inl e) apart =
        let is = number-of q j below e in
        let first : own_page (space_of new) q (kind_of j) ≡ now =
        ap (λ (y : ℕ). slice_index_or new.own y []) e ∙ same in
        let old : own_page (space_of s) q (kind_of j) ≡ page = ap (λ (y : ℕ). slice_index_or s.own y []) e in
        ap (λ (y : List ℕ). own_printed q (kind_of j) y l) first
        ∙ ap (λ (y : List ℕ). block_printed (pieces.Own q (kind_of j) (256 * l) (record { items = y })) y)
        (block-other page bytes.items at c l whole size low place inner (apart is.0 is.1))
        ∙ ap (λ (y : List ℕ). own_printed q (kind_of j) y l) (sym old)
    by q j l below inner (inr ne) apart =
        ap (λ (y : List ℕ). own_printed q (kind_of j) y l)
        (get_or-set_other s.own o (overlay_of q (kind_of j)) now [] ne)

    frame : AgreeElsewhere n m (rank_of (pieces.Own p kind at bytes)) (printed s lapics) (printed new lapics)
    frame Owns q j l h' other =
        by q j l h'.1 h'.2 (cases_eq (overlay_of q (kind_of j)) o) (λ e f g. other (omega (arith, place, e, f, g)))
    frame σ i j l h' other = refl
