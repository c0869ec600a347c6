-- What may come next in an image leads to one stage.
use Rattle.std.proofs.Common.{◌≡◌, ℕ, List, sym, ap, subst, ◌∙◌}
use Rattle.synic_board.specs.State.{State, opened}
use Rattle.synic_board.specs.Effects.{Outcome}
use Rattle.text_image.specs.declared.piece.Piece.{Piece}
use Rattle.text_image.specs.declared.piece.Piece.TheVariants as pieces
use Rattle.text_restore.specs.Restoring.{Stage, Untitled, Titled, Body, rank_of, lapics_after, Restores, Continues, Opens, Follows}

-- a piece restores one state
one-restored : (s : State) (x : Piece) (a b : State) → Restores s x a → Restores s x b → a ≡ b
one-restored s (pieces.Moment t) a b h k = h.2 ∙ sym k.2
one-restored s (pieces.Lapic p apic) a b h k = h.1 ∙ sym k.1
one-restored s (pieces.Control p value) a b h k = h.2 ∙ sym k.2
one-restored s (pieces.Overlay p kind value) a b h k = h.2 ∙ sym k.2
one-restored s (pieces.Source p i value) a b h k = ap (λ (o : Outcome). o.0) (h.2 ∙ sym k.2)
one-restored s (pieces.Guest n at bytes) a b h k = h.2 ∙ sym k.2
one-restored s (pieces.Own p kind at bytes) a b h k = h.3 ∙ sym k.3
one-restored s (pieces.Port n p i shape) a b h k = ap (λ (o : Outcome). o.0) (h ∙ sym k)
one-restored s (pieces.Timer p i config count due) a b h k = h.4 ∙ sym k.4
one-restored s (pieces.Queued p i m) a b h k = h.3 ∙ sym k.3
one-restored s (pieces.Slot p i ticket) a b h k = h.3 ∙ sym k.3
one-restored s pieces.End a b h k = h ∙ sym k

one-continued : (s : State) (last lapics : ℕ) (x : Piece) (a b : Stage) → Continues s last lapics x a
    → Continues s last lapics x b → a ≡ b
one-continued s last lapics x a b h k =
    h.stage ∙ ap (λ (t : State). Body t (rank_of x) (lapics_after lapics x))
    (one-restored s x h.next k.next h.restores k.restores) ∙ sym k.stage

one-opened : (line : List ℕ) (a b : Stage) → Opens line a → Opens line b → a ≡ b
one-opened line a b h k =
    let e = sym h.item ∙ k.item in
    let count : h.count ≡ k.count = cc in
    let pages : h.pages ≡ k.pages = cc in
    let ticket : h.ticket ≡ k.ticket = cc in
    h.stage ∙ (λ i. Body (opened (count i) (pages i) (ticket i)) 0 0) ∙ sym k.stage

pub one-next : (old : Stage) (line : List ℕ) (a b : Stage) → Follows old line a → Follows old line b → a ≡ b
one-next Untitled line a b h k = h.1 ∙ sym k.1
one-next Titled line a b h k = one-opened line a b h k
one-next (Body s last lapics) line a b h k =
    let e = sym h.1 ∙ k.1 in
    let same : h.0 ≡ k.0 = cc in
    one-continued s last lapics k.0 a b (subst (λ (x : Piece). Continues s last lapics x a) same h.2) k.2
