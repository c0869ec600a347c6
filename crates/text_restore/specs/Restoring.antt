-- The lines of an image, one after another: which one may come next, and to which state of the board it leads.
use Rattle.std.specs.Prelude.{◌≡◌, ◌≢◌, ◌<◌, ◌≤◌, ◌+◌, ◌*◌, ◌%◌, ◌==◌, ◌&&◌, ℕ, false, List, [], length, replicate, Some, is_none, codes}
use Rattle.std.specs.Str.{bytes_eq}
use Rattle.board_terms.specs.declared.pages.Kind.{Kind}
use Rattle.board_terms.specs.declared.pages.Kind.TheVariants as kind
use Rattle.synic_regs.specs.Regs.{after_write, with_value, masked}
use Rattle.synic_regs.specs.declared.register.Register.TheVariants as register
use Rattle.synic_board.specs.declared.event.Reply.TheVariants.{Done}
use Rattle.synic_board.specs.State.{State, IsWithinLimits, opened, processors, regs_of, with_regs, with_slot_ticket}
use Rattle.synic_board.specs.Registers.{stored}
use Rattle.synic_board.specs.Posts.{opened_port}
use Rattle.synic_board.specs.Timers.{at_moment}
use Rattle.synic_board.specs.Restoring.{overlay_register, with_processor, with_saved_timer, with_own_bytes, with_guest_bytes, with_message, HasNoTickets, MayCount, MayJoin, MayOccupy}
use Rattle.text_lines.specs.Items.{Opening}
use Rattle.text_lines.specs.Reading.{item_at}
use Rattle.text_image.specs.declared.piece.Piece.{Piece}
use Rattle.text_image.specs.declared.piece.Piece.TheVariants as piece
use Rattle.text_image.specs.Parsing.{piece_at}

-- The rank of a piece in an image: its section, and in its section up to three numbers.
abbrev pub rank : ℕ → ℕ → ℕ → ℕ → ℕ
rank section a b c = ((section * 256 + a) * 256 + b) * 65536 + c

abbrev pub overlay_rank : Kind → ℕ
overlay_rank kind.Sief = 1
overlay_rank kind.Sim = 2

abbrev pub page_rank : Kind → ℕ
page_rank kind.Sim = 0
page_rank kind.Sief = 1

abbrev pub rank_of : Piece → ℕ
rank_of (piece.Moment t) = rank 1 0 0 0
rank_of (piece.Lapic p a) = rank 2 p 0 0
rank_of (piece.Control p value) = rank 3 p 0 0
rank_of (piece.Overlay p k value) = rank 3 p (overlay_rank k) 0
rank_of (piece.Source p i value) = rank 3 p (3 + i) 0
rank_of (piece.Guest n at bytes) = rank 4 n 0 at
rank_of (piece.Own p k at bytes) = rank 5 p (page_rank k) at
rank_of (piece.Port n p i shape) = rank 6 n 0 0
rank_of (piece.Timer p i config count due) = rank 7 p i 0
rank_of (piece.Queued p i m) = rank 8 p i 0
rank_of (piece.Slot p i ticket) = rank 9 p i 0
rank_of piece.End = rank 10 0 0 0

-- a piece comes after the last one; of messages, also one of the same queue
abbrev pub IsLater : ℕ → Piece → Type 0
IsLater last (piece.Queued p i m) = last ≤ rank_of (piece.Queued p i m)
IsLater last x = last < rank_of x

-- The local APICs of all n processors come one after another, after the present time and before everything else.
abbrev pub IsInTurn : ℕ → ℕ → Piece → Type 0
IsInTurn n lapics (piece.Moment t) = lapics ≡ 0
IsInTurn n lapics (piece.Lapic p a) = p ≡ lapics
IsInTurn n lapics x = lapics ≡ n

abbrev pub lapics_after : ℕ → Piece → ℕ
lapics_after lapics (piece.Lapic p a) = lapics + 1
lapics_after lapics x = lapics

-- a block begins at a multiple of its size, and is not all zeros
abbrev pub IsBlock : ℕ → List ℕ → Type 0
IsBlock at bytes = (at < 4096) × (at % 256 ≡ 0) × (bytes_eq bytes (replicate 256 0) ≡ false)

-- A piece states what differs from a newly opened board and what a board can have, and leads to this state.
abbrev pub Restores : State → Piece → State → Type 0
Restores s (piece.Moment t) new = (t ≢ 0) × (s.moment ≤ t) × (new ≡ at_moment s t)
Restores s (piece.Lapic p a) new = (p < processors s) × (new ≡ with_processor s p a)
Restores s (piece.Control p value) new =
    (p < processors s) × (value ≢ 0) × (new ≡ with_regs s p (with_value (regs_of s p) register.Control value))
Restores s (piece.Overlay p k value) new =
    (p < processors s) × (value ≢ 0) × (new ≡ with_regs s p (after_write (regs_of s p) (overlay_register k) value))
Restores s (piece.Source p i value) new =
    (p < processors s) × (value ≢ masked) × ((new, Done, []) ≡ stored s p (register.Source i) value)
Restores s (piece.Guest n at bytes) new =
    (n < length s.pages) × IsBlock at bytes.items × (new ≡ with_guest_bytes s n at bytes.items)
Restores s (piece.Own p k at bytes) new =
    (p < processors s) × HasNoTickets s p × IsBlock at bytes.items × (new ≡ with_own_bytes s p k at bytes.items)
Restores s (piece.Port n p i shape) new = (new, Done, []) ≡ opened_port s n p i shape
Restores s (piece.Timer p i config count due) new =
    (p < processors s) × (i < 4) × ((config == 0) && ((count == 0) && is_none due) ≡ false)
    × MayCount s (record { config = config; count = count; due = due })
    × (new ≡ with_saved_timer s (p, i) (record { config = config; count = count; due = due }))
Restores s (piece.Queued p i m) new = (p < processors s) × (i < 16) × MayJoin s p i m × (new ≡ with_message s p i m)
Restores s (piece.Slot p i ticket) new =
    (p < processors s) × (i < 16) × MayOccupy s p i ticket × (new ≡ with_slot_ticket s p i (Some ticket))
Restores s piece.End new = new ≡ s

-- What was read of an image.
pub data Stage : Type 0 where
  -- nothing
  Untitled : Stage
  -- the title
  Titled : Stage
  -- the board line and some pieces: the state to which they lead, the rank of the last one, and how many local APICs
  -- they have
  Body : State → ℕ → ℕ → Stage

-- A piece may come next, and leads to a stage.
pub record Continues (s : State) (last lapics : ℕ) (x : Piece) (new : Stage) : Type 0 where
  pub next : State
  pub later : IsLater last x
  pub turn : IsInTurn (processors s) lapics x
  pub restores : Restores s x next
  pub stage : new ≡ Body next (rank_of x) (lapics_after lapics x)

-- A board line with a number of pages opens a board; 0 pages open a sparse one.
pub record Opens (line : List ℕ) (new : Stage) : Type 0 where
  pub count : ℕ
  pub pages : ℕ
  pub ticket : ℕ
  pub item : item_at line ≡ Some (Opening count (Some pages) ticket)
  pub sizes : IsWithinLimits count pages
  pub stage : new ≡ Body (opened count pages ticket) 0 0

-- A line may come next, and leads to a stage.
abbrev pub Follows : Stage → List ℕ → Stage → Type 0
Follows Untitled line new = (line ≡ codes "image 1") × (new ≡ Titled)
Follows Titled line new = Opens line new
Follows (Body s last lapics) line new = (x : Piece) × (piece_at line ≡ Some x) × Continues s last lapics x new

-- the image is complete, and its board has this state
abbrev pub IsComplete : Stage → State → Type 0
IsComplete stage s = (lapics : ℕ) × (stage ≡ Body s (rank_of piece.End) lapics)
