-- A piece of an image adds its line to what was printed before it.
use Rattle.std.proofs.Common.{◌≡◌, nat_eq, ℕ, ◌*◌, ◌≤◌, List, [], ◌∷◌, ◌++◌, length, sym, ap, ◌∙◌, arith}
use Rattle.std.specs.List.{All}
use Rattle.event_ports.specs.Ports.{port_count}
use Rattle.synic_regs.specs.Regs.{Regs}
use Rattle.synic_board.specs.State.{State}
use Rattle.text_image.specs.Image.{Lines}
use Rattle.text_image.specs.declared.piece.Piece.{Piece}
use Rattle.text_image.specs.Pieces.{piece_fields}
use Rattle.text_restore.specs.Restoring.{rank_of}
use Rattle.law_images.proofs.Spots.{Section, IsSpot, rank_at, AgreeElsewhere, IsEmptyAfter, AddsLine}
use Rattle.law_images.proofs.Printed.{printed}

-- a state of a board of n processors and m guest pages, with this next ticket
pub record IsShaped (n m ticket : ℕ) (s : State) : Type 0 where
  pub apics : length s.apics ≡ n
  pub pages : length s.pages ≡ m
  pub next : s.next_ticket ≡ ticket
  pub regs : length s.regs ≡ n
  pub own : length s.own ≡ 2 * n
  pub ports : length s.ports ≡ port_count n (nat_eq m 0)
  pub timers : length s.timers ≡ 4 * n
  pub queues : length s.queues ≡ 16 * n
  pub slots : length s.slots ≡ 16 * n
  pub sints : All (λ (r : Regs). length r.sints ≡ 16) s.regs
  pub page_bytes : All (λ (page : List ℕ). length page ≡ 4096) s.pages
  pub own_bytes : All (λ (page : List ℕ). length page ≡ 4096) s.own

-- nothing is printed after a rank
abbrev pub IsBlank : ℕ → ℕ → State → ℕ → ℕ → Type 0
IsBlank n m s last lapics = IsEmptyAfter n m last (printed s lapics)

-- A piece leads to a state in which its line is at its spot, after the lines that were there, and the other spots are
-- unchanged.
pub record Extends (n m ticket : ℕ) (s : State) (lapics : ℕ) (x : Piece) (new : State) (after : ℕ) : Type 0 where
  pub shaped : IsShaped n m ticket new
  pub section : Section
  pub a : ℕ
  pub b : ℕ
  pub c : ℕ
  pub spot : IsSpot n m section a b c
  pub is : rank_of x ≡ rank_at section a b c
  pub frame : AgreeElsewhere n m (rank_of x) (printed s lapics) (printed new after)
  pub added : printed new after section a b c ≡ printed s lapics section a b c ++ piece_fields x ∷ []

-- the first line at a spot
pub first-added : (old new : Lines) (x : List (List ℕ)) → old ≡ [] → new ≡ x ∷ [] → new ≡ old ++ x ∷ []
first-added old new x empty is = is ∙ ap (λ (y : Lines). y ++ x ∷ []) (sym empty)

pub extends-adds : (n m ticket : ℕ) (s : State) (last lapics : ℕ) (x : Piece) (new : State) (after : ℕ)
    → IsBlank n m s last lapics → last ≤ rank_of x →
    Extends n m ticket s lapics x new after
    → AddsLine n m (printed s lapics) (printed new after) (rank_of x) (piece_fields x)
extends-adds n m ticket s last lapics x new after blank later h = record {
  section = h.section;
  a = h.a;
  b = h.b;
  c = h.c;
  spot = h.spot;
  is = h.is;
  frame = h.frame;
  blank = λ σ i j k spot behind. blank σ i j k spot (omega (arith, behind, later));
  added = h.added;
}

pub still-blank : (n m ticket : ℕ) (s : State) (last lapics : ℕ) (x : Piece) (new : State) (after : ℕ)
    → IsBlank n m s last lapics → last ≤ rank_of x →
    Extends n m ticket s lapics x new after → IsBlank n m new (rank_of x) after
still-blank n m ticket s last lapics x new after blank later h =
    λ σ i j k spot behind. h.frame σ i j k spot (λ e. omega (arith, e, behind))
    ∙ blank σ i j k spot (omega (arith, behind, later))
