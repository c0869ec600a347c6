-- Lines that lead to a stage before the end are the first lines of an image, and no line comes after the end.
use Rattle.std.proofs.Common.{◌≡◌, ℕ, zero, suc, ◌+◌, ◌-◌, ◌<◌, ◌≤◌, List, [], ◌∷◌, Option, Some, None, length-set, Bool, true, false, cond, eqb-true, refl, sym, ap, subst, ◌∙◌, arith, codes}
use Rattle.std.specs.Option.{option_map_or}
use Rattle.std.proofs.lemmas.List.{length-replicate}
use Rattle.std.specs.Ordering.{nat_cmp}
use Rattle.std.specs.FinSet as set
use Rattle.text_base.specs.Fields.{spaced}
use Rattle.text_base.proofs.LineLemmas.{AreLines}
use Rattle.text_base.proofs.PlainWords.{IsWritten, plain_by, written}
use Rattle.board_terms.specs.declared.pages.Kind.{Kind}
use Rattle.board_terms.specs.declared.pages.Kind.TheVariants as kinds
use Rattle.board_terms.specs.declared.refusal.Refusal.{Refusal}
use Rattle.lapic_core.specs.Apic.{empty_apic}
use Rattle.lapic_core.specs.Ranges.{AreVectors, IsApic}
use Rattle.synic_regs.specs.Regs.{is_refused}
use Rattle.synic_regs.specs.declared.register.Register.TheVariants as register
use Rattle.synic_board.specs.State.{State, processors, opened}
use Rattle.synic_board.specs.Effects.{Outcome}
use Rattle.synic_board.specs.Restoring.{with_processor}
use Rattle.text_lines.specs.Items.{Opening, item_fields}
use Rattle.text_lines.proofs.ReadLemmas.{reading-means as item-reading}
use Rattle.text_lines.proofs.WrittenLemmas.{board-written, item-means}
use Rattle.text_image.specs.declared.piece.Piece.{Piece}
use Rattle.text_image.specs.declared.piece.Piece.TheVariants as pieces
use Rattle.text_image.specs.Pieces.{piece_fields, IsPiece}
use Rattle.text_image.specs.Parsing.{piece_at}
use Rattle.text_image.proofs.PieceLemmas.{reading-means, piece-means}
use Rattle.text_restore.specs.Restoring.{Stage, Untitled, Titled, Body, rank, rank_of, page_rank, overlay_rank, lapics_after, IsInTurn, IsLater, Restores, Follows, IsComplete}
use Rattle.text_restore.specs.Images.{Leads}
use Rattle.text_restore.specs.Taking.{has_ended}
use Rattle.text_restore.proofs.Short.{piece-written}

-- The local APICs that are missing can come, and the end.
pub record IsOpenBody (s : State) (last lapics : ℕ) : Type 0 where
  pub bound : processors s ≤ 64
  pub few : lapics ≤ processors s
  pub missing : lapics < processors s → last < rank 2 lapics 0 0
  pub before : last < rank 10 0 0 0

-- lines lead here, and the end was not read
abbrev pub IsOpen : Stage → Type 0
IsOpen Untitled = Unit {0}
IsOpen Titled = Unit {0}
IsOpen (Body s last lapics) = IsOpenBody s last lapics

-- the piece of a line is in range
in-range : (line : List ℕ) (x : Piece) → piece_at line ≡ Some x → IsPiece x
in-range line x is = ((reading-means line x).0 is).fits

-- No piece is after the end.
page-low : (kind : Kind) → page_rank kind ≤ 1
page-low kinds.Sim = omega arith
page-low kinds.Sief = omega arith

overlay-low : (kind : Kind) → overlay_rank kind ≤ 2
overlay-low kinds.Sim = omega arith
overlay-low kinds.Sief = omega arith

-- any piece except the last
abbrev IsInner : Piece → Type 0
IsInner pieces.End = ⊥
IsInner x = Unit {0}

low : (x : Piece) → IsInner x → IsPiece x → rank_of x < rank 10 0 0 0
low (pieces.Moment t) inner h = omega arith
low (pieces.Lapic p a) inner h = omega (arith, h.0)
low (pieces.Control p value) inner h = omega (arith, h.0)
low (pieces.Overlay p kind value) inner h = omega (arith, h.0, overlay-low kind)
low (pieces.Source p i value) inner h = omega (arith, h.0, h.1)
low (pieces.Guest n at bytes) inner h = omega (arith, h.0, h.1.0)
low (pieces.Own p kind at bytes) inner h = omega (arith, h.0, h.1.0, page-low kind)
low (pieces.Port n p i shape) inner h = omega (arith, h.0)
low (pieces.Timer p i config count due) inner h = omega (arith, h.0, h.1)
low (pieces.Queued p i m) inner h = omega (arith, h.0, h.1)
low (pieces.Slot p i ticket) inner h = omega (arith, h.0, h.1)
low pieces.End inner h = absurd inner

not-later : (x : Piece) → IsPiece x → IsLater (rank 10 0 0 0) x → ⊥
not-later pieces.End h later = omega (arith, later)
not-later (pieces.Queued p i m) h later = omega (arith, later, low (pieces.Queued p i m) tt h)
not-later x h later = omega (arith, later, low x tt h)

stopped : (s t : State) (last lapics : ℕ) (line : List ℕ) (new : Stage) → last ≡ rank 10 0 0 0
    → Follows (Body s last lapics) line new → ⊥
stopped s t last lapics line new is h =
    not-later h.0 (in-range line h.0 h.1) (subst (λ (k : ℕ). IsLater k h.0) is h.2.later)

-- No line comes after the end.
pub no-more : (stage : Stage) (s : State) (line : List ℕ) (new : Stage) → IsComplete stage s → Follows stage line new
    → ⊥
no-more stage s line new complete h =
    stopped s s (rank 10 0 0 0) complete.0 line new refl (subst (λ (x : Stage). Follows x line new) complete.1 h)

-- The end was read iff the image is complete.
pub ended : (s : State) (last lapics : ℕ) → has_ended (Body s last lapics) ≡ true → IsComplete (Body s last lapics) s
ended s last lapics is = (lapics, ap (λ (k : ℕ). Body s k lapics) (eqb-true last (rank 10 0 0 0) is))

pub not-ended : (stage : Stage) (s : State) → has_ended stage ≡ false → IsComplete stage s → ⊥
not-ended stage s off complete =
    let yes : has_ended stage ≡ true = ap has_ended complete.1 in let both : true ≡ false = sym yes ∙ off in cc

pub has-board : (stage : Stage) → has_ended stage ≡ true → ((s : State) → IsComplete stage s → ⊥) → ⊥
has-board (Body s last lapics) is none = none s (ended s last lapics is)
has-board stage is none = cc

-- A piece leaves the number of processors unchanged.
either-kept : (n : ℕ) (b : Bool) (x y : Outcome) → processors x.0 ≡ n → processors y.0 ≡ n
    → processors (cond b x y).0 ≡ n
either-kept n true x y h k = h
either-kept n false x y h k = k

refused-kept : (n : ℕ) (o : Option Refusal) (f : Refusal → Outcome) (y : Outcome)
    → ((r : Refusal) → processors (f r).0 ≡ n) → processors y.0 ≡ n → processors (option_map_or f o y).0 ≡ n
refused-kept n None f y h k = k
refused-kept n (Some r) f y h k = h r

kept : (s : State) (x : Piece) (t : State) → Restores s x t → processors t ≡ processors s
kept s (pieces.Moment m) t h = ap processors h.2
kept s (pieces.Lapic p a) t h = ap processors h.1 ∙ length-set s.apics p a
kept s (pieces.Control p value) t h = ap processors h.2
kept s (pieces.Overlay p kind value) t h = ap processors h.2
kept s (pieces.Source p i value) t h =
    ap (λ (o : Outcome). processors o.0) h.2
    ∙ either-kept (processors s) (is_refused (register.Source i) value) _ _ refl refl
kept s (pieces.Guest n at bytes) t h = ap processors h.2
kept s (pieces.Own p kind at bytes) t h = ap processors h.3
kept s (pieces.Port n p i shape) t h =
    ap (λ (o : Outcome). processors o.0) h ∙ refused-kept (processors s) _ _ _ (λ r. refl) refl
kept s (pieces.Timer p i config count due) t h = ap processors h.4
kept s (pieces.Queued p i m) t h = ap processors h.3
kept s (pieces.Slot p i ticket) t h = ap processors h.3
kept s pieces.End t h = ap processors h

-- after the local APICs
settled : (s t : State) (last lapics at : ℕ) → IsOpenBody s last lapics → processors t ≡ processors s
    → lapics ≡ processors s → at < rank 10 0 0 0 → IsOpenBody t at lapics
settled s t last lapics at h same all under = record {
  bound = omega (arith, same, h.bound);
  few = omega (arith, same, all);
  missing = λ more. absurd (omega (arith, same, all, more));
  before = under;
}

after-piece : (s : State) (last lapics : ℕ) (x : Piece) (t : State) → IsOpenBody s last lapics → IsInner x → IsPiece x
    → IsInTurn (processors s) lapics x → Restores s x t →
    processors t ≡ processors s → IsOpenBody t (rank_of x) (lapics_after lapics x)
after-piece s last lapics (pieces.Moment m) t h inner fits turn restores same = record {
  bound = omega (arith, same, h.bound);
  few = omega (arith, turn);
  missing = λ more. omega arith;
  before = omega arith;
}
after-piece s last lapics (pieces.Lapic p a) t h inner fits turn restores same = record {
  bound = omega (arith, same, h.bound);
  few = omega (arith, same, turn, restores.0);
  missing = λ more. omega (arith, turn);
  before = omega (arith, fits.0);
}
after-piece s last lapics pieces.End t h inner fits turn restores same = absurd inner
after-piece s last lapics (pieces.Queued p i m) t h inner fits turn restores same =
    settled s t last lapics _ h same turn (low (pieces.Queued p i m) tt fits)
after-piece s last lapics (pieces.Control p value) t h inner fits turn restores same =
    settled s t last lapics _ h same turn (low (pieces.Control p value) tt fits)
after-piece s last lapics (pieces.Overlay p kind value) t h inner fits turn restores same =
    settled s t last lapics _ h same turn (low (pieces.Overlay p kind value) tt fits)
after-piece s last lapics (pieces.Source p i value) t h inner fits turn restores same =
    settled s t last lapics _ h same turn (low (pieces.Source p i value) tt fits)
after-piece s last lapics (pieces.Guest n at bytes) t h inner fits turn restores same =
    settled s t last lapics _ h same turn (low (pieces.Guest n at bytes) tt fits)
after-piece s last lapics (pieces.Own p kind at bytes) t h inner fits turn restores same =
    settled s t last lapics _ h same turn (low (pieces.Own p kind at bytes) tt fits)
after-piece s last lapics (pieces.Port n p i shape) t h inner fits turn restores same =
    settled s t last lapics _ h same turn (low (pieces.Port n p i shape) tt fits)
after-piece s last lapics (pieces.Timer p i config count due) t h inner fits turn restores same =
    settled s t last lapics _ h same turn (low (pieces.Timer p i config count due) tt fits)
after-piece s last lapics (pieces.Slot p i ticket) t h inner fits turn restores same =
    settled s t last lapics _ h same turn (low (pieces.Slot p i ticket) tt fits)

-- a stage after a piece is open, or the piece is the end
after-any : (s : State) (last lapics : ℕ) (x : Piece) (t : State) → IsOpenBody s last lapics → IsPiece x
    → IsInTurn (processors s) lapics x → Restores s x t →
    has_ended (Body t (rank_of x) (lapics_after lapics x)) ≡ false → IsOpenBody t (rank_of x) (lapics_after lapics x)
after-any s last lapics pieces.End t h fits turn restores off = cc
after-any s last lapics x t h fits turn restores off =
    after-piece s last lapics x t h tt fits turn restores (kept s x t restores)

-- Each line leads to an open stage, or the image is complete.
pub open-next : (old : Stage) (line : List ℕ) (new : Stage) → IsOpen old → Follows old line new
    → has_ended new ≡ false → IsOpen new
open-next Untitled line new from h off = subst IsOpen (sym h.1) tt
open-next Titled line new from h off = subst IsOpen (sym h.stage) (
    let same : processors (opened h.count h.pages h.ticket) ≡ h.count = length-replicate h.count empty_apic in
    record {
      bound = omega (arith, same, h.sizes.processor_bound);
      few = omega arith;
      missing = λ more. omega arith;
      before = omega arith;
    }
    )
open-next (Body s last lapics) line new from h off =
    let stage = h.2.stage in
    subst IsOpen (sym stage)
    (after-any s last lapics h.0 h.2.next from (in-range line h.0 h.1) h.2.turn h.2.restores
    (ap has_ended (sym stage) ∙ off))

-- lines that complete an image
pub record Ending (stage : Stage) : Type 0 where
  pub lines : List (List ℕ)
  pub each : AreLines lines
  pub last : Stage
  pub state : State
  pub leads : Leads stage lines last
  pub complete : IsComplete last state

one-more : (old new : Stage) (fields : List (List ℕ)) → IsWritten fields → Follows old (spaced fields) new
    → Ending new → Ending old
one-more old new fields w follows h = record {
  lines = spaced fields ∷ h.lines;
  each = (w.one, h.each);
  last = h.last;
  state = h.state;
  leads = (new, w.short, follows, h.leads);
  complete = h.complete;
}

piece-follows : (s : State) (last lapics : ℕ) (x : Piece) (t : State) → IsPiece x → IsLater last x
    → IsInTurn (processors s) lapics x → Restores s x t →
    Follows (Body s last lapics) (spaced (piece_fields x)) (Body t (rank_of x) (lapics_after lapics x))
piece-follows s last lapics x t fits later turn restores = (
  x,
  (reading-means (spaced (piece_fields x)) x).1 (piece-means x fits),
  record { next = t; later = later; turn = turn; restores = restores; stage = refl },
)

no-apic : IsApic empty_apic
no-apic = (none, none, omega arith)
  where
    none : AreVectors set.empty
    none v is = let off : true ≡ false = sym is ∙ set.contains-empty nat_cmp v in cc

end-all : (s : State) (last lapics : ℕ) → IsOpenBody s last lapics → lapics ≡ processors s → Ending (Body s last lapics)
end-all s last lapics h all =
    one-more (Body s last lapics) (Body s (rank_of pieces.End) lapics) (piece_fields pieces.End)
    (piece-written pieces.End tt)
    (piece-follows s last lapics pieces.End s tt h.before all refl)
    (record {
      lines = [];
      each = tt;
      last = Body s (rank_of pieces.End) lapics;
      state = s;
      leads = refl;
      complete = (lapics, refl);
    })

end-body : (k : ℕ) (s : State) (last lapics : ℕ) → IsOpenBody s last lapics → lapics + k ≡ processors s
    → Ending (Body s last lapics)
end-body zero s last lapics h count = end-all s last lapics h (omega (arith, count))
end-body (suc k) s last lapics h count =
    let x = pieces.Lapic lapics empty_apic in
    let t = with_processor s lapics empty_apic in
    let fits : IsPiece x = (omega (arith, h.bound, count), no-apic) in
    let same : processors t ≡ processors s = length-set s.apics lapics empty_apic in
    let on : lapics < processors s = omega (arith, count) in
    let restores : Restores s x t = (on, refl) in
    one-more (Body s last lapics) (Body t (rank_of x) (lapics + 1)) (piece_fields x) (piece-written x fits)
    (piece-follows s last lapics x t fits (h.missing on) refl restores)
    (end-body k t (rank_of x) (lapics + 1) (after-piece s last lapics x t h tt fits refl restores same)
    (omega (arith, same, count)))

titled-ends : Ending Titled
titled-ends =
    let s = opened 1 1 0 in
    let fits : IsOpenBody s 0 0 =
    record {
      bound = omega (arith, length-replicate 1 empty_apic);
      few = omega arith;
      missing = λ more. omega arith;
      before = omega arith;
    } in
    one-more Titled (Body s 0 0) (item_fields (Opening 1 (Some 1) 0)) (board-written 1 (Some 1) 0) (record {
      count = 1;
      pages = 1;
      ticket = 0;
      item = (item-reading (spaced (item_fields (Opening 1 (Some 1) 0))) (Opening 1 (Some 1) 0)).1
          (item-means (Opening 1 (Some 1) 0) (omega arith, omega arith, omega arith));
      sizes = record {
        some_processor = omega arith;
        processor_bound = omega arith;
        dense_bound = λ some. omega arith;
        page_bound = omega arith;
      };
      stage = refl;
    }) (end-body 1 s 0 0 fits (omega (arith, length-replicate 1 empty_apic)))

-- The lines that lead to an open stage are the first lines of an image.
pub can-end : (stage : Stage) → IsOpen stage → Ending stage
can-end Untitled h =
    one-more Untitled Titled (codes "image" ∷ codes "1" ∷ [])
    (written _ _ (plain_by (codes "image") refl, (plain_by (codes "1") refl, tt)) (omega arith))
    (refl, refl) titled-ends
can-end Titled h = titled-ends
can-end (Body s last lapics) h = by (processors s) refl
  where
    by : (n : ℕ) → n ≡ processors s → Ending (Body s last lapics)
    by n is = end-body (processors s - lapics) s last lapics h (omega (arith, h.few))
