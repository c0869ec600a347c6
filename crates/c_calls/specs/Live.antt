-- What a call does to a board with live pages, and what it returns.
use Rattle.std.specs.Prelude.{◌≡◌, ◌⊎◌, ◌<◌, ◌≤◌, ℕ, Bool, true, false, List, length, Option, Some, None}
use Rattle.board_terms.specs.declared.notices.Notice.{Notice}
use Rattle.board_terms.specs.declared.refusal.Refusal.TheVariants.{NoSuchProcessor}
use Rattle.c_handles.specs.declared.any_board.AnyBoard.{AnyBoard}
use Rattle.c_handles.specs.declared.any_board.AnyBoard.TheVariants.{Plain, Live}
use Rattle.c_handles.specs.Kinds.{eoms_in, IsMadeLive}
use Rattle.c_terms.specs.declared.reply.CReply.{CReply}
use Rattle.c_terms.specs.declared.reply.Fault.TheVariants.{Closed, NotLive}
use Rattle.c_terms.specs.Replies.{reply_to_c, fault_to_c}
use Rattle.live_board.specs.Live.{LiveModel}
use Rattle.synic_board.specs.declared.event.Reply.TheVariants.{Done, Refused}
use Rattle.synic_board.specs.State.{processors}

-- whether a board has live pages
abbrev pub is_live : Option AnyBoard → Bool
is_live (Some (Live board)) = true
is_live (Some (Plain board)) = false
is_live None = false

-- the board of a handle got live pages
abbrev pub GotPages : Option AnyBoard → Option AnyBoard → Type 0
GotPages (Some board) (Some after) = IsMadeLive board after
GotPages (Some board) None = ⊥
GotPages None after = ⊥

-- the processors of which the board of a handle performed an EOM after the last event
abbrev pub eoms_of : Option AnyBoard → ℕ
eoms_of None = 0
eoms_of (Some board) = eoms_in board

-- a call looks at live pages of a processor, by a relation of a board before and after it: without live pages or
-- without the processor nothing changes
abbrev pub IsLookedAt : (ℕ → LiveModel → LiveModel → List Notice → Type 0) → ℕ → Option AnyBoard → Option AnyBoard
    → CReply → Type 0
IsLookedAt Looks vp None after reply = (after ≡ None) × (reply ≡ fault_to_c Closed)
IsLookedAt Looks vp (Some (Plain board)) after reply = (after ≡ Some (Plain board)) × (reply ≡ fault_to_c NotLive)
IsLookedAt Looks vp (Some (Live board)) (Some (Live after)) reply =
    ((vp < processors board.live.board.state) × Looks vp board.live after.live after.notices × (after.eoms ≡ 0)
    × (reply ≡ reply_to_c Done (length after.notices)))
    ⊎ ((processors board.live.board.state ≤ vp) × (after ≡ board) × (reply ≡ reply_to_c (Refused NoSuchProcessor) 0))
IsLookedAt Looks vp (Some (Live board)) after reply = ⊥
