-- What is decided about the parts of a line.
use Rattle.std.specs.Prelude.{ℕ, List, Bool, true, false}
use Rattle.synic_board.specs.State.{State}
use Rattle.text_image.specs.declared.piece.Piece.{Piece}
use Rattle.text_restore.specs.Restoring.{Stage, Body, Opens, Restores, Continues}

-- the line opens no board
abbrev pub OpensNone : List ℕ → Type 0
OpensNone line = (new : Stage) → Opens line new → ⊥

-- a piece was taken, or leads nowhere
abbrev pub Tries : Bool → State → Piece → State → Type 0
Tries true s x new = Restores s x new
Tries false s x new = (t : State) → Restores s x t → ⊥

-- a piece came next, or may not
abbrev pub Takes : Bool → State → ℕ → ℕ → Piece → State → ℕ → ℕ → Type 0
Takes true s last lapics x s' last' lapics' = Continues s last lapics x (Body s' last' lapics')
Takes false s last lapics x s' last' lapics' = (new : Stage) → Continues s last lapics x new → ⊥
