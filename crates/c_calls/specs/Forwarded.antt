-- What a processor forwards to a local APIC outside the board, for C.
use Rattle.std.specs.Prelude.{◌≡◌, ◌<◌, ◌≤◌, ◌⊎◌, ℕ, [], ◌∷◌, Option, None, Some}
use Rattle.board_terms.specs.declared.refusal.Refusal.TheVariants.{NoSuchProcessor}
use Rattle.synic_board.specs.declared.event.Reply.TheVariants.{Done, Refused}
use Rattle.synic_board.specs.State.{processors}
use Rattle.c_handles.specs.declared.any_board.AnyBoard.{AnyBoard}
use Rattle.c_handles.specs.declared.forwarding.Forwarded.{Forwarded}
use Rattle.c_handles.specs.Forwarding.{IsForwarded}
use Rattle.c_handles.specs.Kinds.{state_in, notices_in, eoms_in, pages_in}
use Rattle.c_terms.specs.declared.reply.CReply.{CReply}
use Rattle.c_terms.specs.declared.reply.Fault.TheVariants.{Closed}
use Rattle.c_terms.specs.Replies.{reply_to_c, fault_to_c}
use Rattle.c_calls.specs.declared.forwarding.CForwarded.{CForwarded}
use Rattle.c_calls.specs.Inspected.{words_of}

abbrev pub forwarded_to_c : Forwarded → CForwarded
forwarded_to_c forwarded = record { vectors = words_of forwarded.vectors; auto_eoi = words_of forwarded.auto_eoi }

abbrev pub no_forwarded : CForwarded
no_forwarded = record { vectors = 0 ∷ 0 ∷ 0 ∷ 0 ∷ []; auto_eoi = 0 ∷ 0 ∷ 0 ∷ 0 ∷ [] }

-- a processor of a board of either kind forwards its vectors, without a notice and without an access to a live page
pub record IsForwardedBy (vp : ℕ) (board after : AnyBoard) (forwarded : CForwarded) (reply : CReply) : Type 0 where
  pub on : vp < processors (state_in board)
  pub what : Forwarded
  pub forwards : IsForwarded (state_in board) vp (state_in after) what
  pub encoded : forwarded ≡ forwarded_to_c what
  pub replied : reply ≡ reply_to_c Done 0
  pub notices : notices_in after ≡ []
  pub eoms : eoms_in after ≡ 0
  pub pages : pages_in after ≡ pages_in board

-- a call forwards vectors: without a board or without the processor nothing changes, and nothing is forwarded
abbrev pub IsForwardedOn : ℕ → Option AnyBoard → Option AnyBoard → CForwarded → CReply → Type 0
IsForwardedOn vp None after forwarded reply = (after ≡ None) × (forwarded ≡ no_forwarded) × (reply ≡ fault_to_c Closed)
IsForwardedOn vp (Some board) (Some after) forwarded reply =
    IsForwardedBy vp board after forwarded reply
    ⊎ ((processors (state_in board) ≤ vp) × (after ≡ board) × (forwarded ≡ no_forwarded)
    × (reply ≡ reply_to_c (Refused NoSuchProcessor) 0))
IsForwardedOn vp (Some board) None forwarded reply = ⊥
