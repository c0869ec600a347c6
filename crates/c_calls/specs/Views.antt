-- What a run loop acts on, and which of it has changed.
use Rattle.std.specs.Prelude.{◌≡◌, ◌≢◌, ◌↔◌, ◌<◌, ℕ, true, List, Option, slice_index_or}
use Rattle.std.specs.Int.{bit_at}
use Rattle.c_handles.specs.declared.any_board.AnyBoard.{AnyBoard}
use Rattle.c_calls.specs.Looks.{next_vector_of, earliest_of, owner_at}
use Rattle.c_calls.specs.declared.looks.COwner.{COwner}
use Rattle.c_calls.specs.declared.views.CView.{CView}
use Rattle.c_calls.specs.declared.views.CWideView.{CWideView}
use Rattle.c_calls.specs.declared.views.CChanges.{CChanges}

-- the next vector of a processor in a list, and the owner in a list of 64
abbrev pub vector_in : List ℕ → ℕ → ℕ
vector_in nexts p = slice_index_or nexts p 0

abbrev pub owner_in : List COwner → ℕ → COwner
owner_in owners page = slice_index_or owners page (record { kind = 0; vp = 0 })

-- the next vectors of the first n processors are those of a board
abbrev pub AreNexts : ℕ → Option AnyBoard → List ℕ → Type 0
AreNexts n board nexts = (p : ℕ) → p < n → vector_in nexts p ≡ next_vector_of board p

-- bit p of a word is set iff the next vector of processor p, of the first n, differs
abbrev pub MarkNexts : ℕ → ℕ → List ℕ → List ℕ → Type 0
MarkNexts n word old new = (p : ℕ) → p < n → bit_at word p ≡ 1 ↔ (vector_in old p ≢ vector_in new p)

-- the next vector of each processor, and the earliest deadline, are those of a board
pub record IsView (board : Option AnyBoard) (view : CView) : Type 0 where
  pub nexts : AreNexts 8 board view.next
  pub earliest : view.earliest ≡ earliest_of board

-- bit p of a word is set iff the next vector of processor p differs, bit 8 iff the earliest deadline does, and no
-- other bit
pub record MarksView (word : ℕ) (old new : CView) : Type 0 where
  pub nexts : MarkNexts 8 word old.next new.next
  pub earliest : bit_at word 8 ≡ 1 ↔ (old.earliest ≢ new.earliest)
  pub others : (i : ℕ) → 8 < i → i < 64 → bit_at word i ≡ 0

-- the same of 64 processors
pub record IsWideView (board : Option AnyBoard) (view : CWideView) : Type 0 where
  pub nexts : AreNexts 64 board view.next
  pub earliest : view.earliest ≡ earliest_of board

-- bit p of a word is set iff the next vector of processor p differs; and whether the earliest deadline does
pub record MarksWideView (changes : CChanges) (old new : CWideView) : Type 0 where
  pub nexts : MarkNexts 64 changes.next old.next new.next
  pub earliest : changes.earliest ≡ true ↔ (old.earliest ≢ new.earliest)

-- the owner of each page is that of a board
abbrev pub AreOwners : Option AnyBoard → List COwner → Type 0
AreOwners board owners = (page : ℕ) → page < 64 → owner_in owners page ≡ owner_at board page

-- bit i of a word is set iff the owner of page i differs
abbrev pub MarksOwners : ℕ → List COwner → List COwner → Type 0
MarksOwners word old new = (page : ℕ) → page < 64 → bit_at word page ≡ 1 ↔ (owner_in old page ≢ owner_in new page)
