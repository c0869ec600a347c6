-- A text leads to one state.
use Rattle.std.proofs.Common.{◌≡◌, ℕ, List, [], ◌∷◌, ◌++◌, refl, sym, subst, ◌∙◌}
use Rattle.text_base.specs.Lines.{rest_of}
use Rattle.synic_board.specs.State.{State}
use Rattle.text_restore.specs.Restoring.{Stage, Untitled, IsComplete}
use Rattle.text_restore.specs.Images.{Leads, IsImage, IsStuck, FirstWrong}
use Rattle.text_restore.proofs.Unique.{one-next}

one-stage : (old : Stage) (lines : List (List ℕ)) (a b : Stage) → Leads old lines a → Leads old lines b → a ≡ b
one-stage old [] a b h k = h ∙ sym k
one-stage old (line ∷ lines) a b h k =
    one-stage k.0 lines a b (subst (λ (x : Stage). Leads x lines a) (one-next old line h.0 k.0 h.2 k.2) h.3) k.3

pub one-state : (text : List ℕ) (s t : State) → IsImage text s → IsImage text t → s ≡ t
one-state text s t h k =
    let e = sym h.complete.1 ∙ one-stage Untitled _ h.stage k.stage h.leads k.leads ∙ k.complete.1 in
    cc

-- the first of these lines lead to a stage, and the others from there
record SplitLeads (old : Stage) (first rest : List (List ℕ)) (new : Stage) : Type 0 where
  between : Stage
  before : Leads old first between
  after : Leads between rest new

leads-split : (old : Stage) (first rest : List (List ℕ)) (new : Stage) → Leads old (first ++ rest) new
    → SplitLeads old first rest new
leads-split old [] rest new h = record { between = old; before = refl; after = h }
leads-split old (line ∷ first) rest new h =
    let more = leads-split h.0 first rest new h.3 in
    record { between = more.between; before = (h.0, h.1, h.2, more.before); after = more.after }

-- an image is not stuck at any of its lines
not-stuck : (stage new : Stage) (left : List (List ℕ)) (rest : List ℕ) (s : State) → Leads stage left new
    → IsComplete new s → rest ≡ [] → IsStuck stage left rest → ⊥
not-stuck stage new [] rest s h complete whole stuck = stuck s (subst (λ (x : Stage). IsComplete x s) h complete) whole
not-stuck stage new (line ∷ left) rest s h complete whole stuck = stuck h.0 h.1 h.2

pub no-wrong-line : (text : List ℕ) (s : State) (k : ℕ) → IsImage text s → FirstWrong text k → ⊥
no-wrong-line text s k h w =
    let parts = leads-split Untitled w.lines w.left h.stage
    (subst (λ (ls : List (List ℕ)). Leads Untitled ls h.stage) w.split h.leads) in
    let same = one-stage Untitled w.lines parts.between w.stage parts.before w.leads in
    not-stuck w.stage h.stage w.left (rest_of text) s
    (subst (λ (x : Stage). Leads x w.left h.stage) same parts.after) h.complete h.whole w.stuck
