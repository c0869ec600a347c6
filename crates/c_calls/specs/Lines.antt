-- What a call does to the line that a handle owns, and what it returns.
use Rattle.std.specs.Prelude.{◌≡◌, ℕ, nat_lt, nat_eq, ◌&&◌, not, Bool, false, Option, Some, None, List, []}
use Rattle.board_terms.specs.declared.notices.Notice.{Notice}
use Rattle.c_handles.specs.declared.any_board.AnyBoard.{AnyBoard}
use Rattle.c_handles.specs.Kinds.{state_in, notices_in, eoms_in, pages_in}
use Rattle.c_handles.specs.Lines.{LineModel, line_model, new_line, with_step, with_one_split_off, IsSwept}
use Rattle.c_terms.specs.declared.reply.CReply.{CReply}
use Rattle.c_terms.specs.declared.reply.Fault.TheVariants.{Closed, NoLine}
use Rattle.c_terms.specs.Replies.{fault_to_c}
use Rattle.posted_words.specs.Words.{shared_words, raise_of}
use Rattle.synic_board.specs.declared.event.Event.TheVariants.{Absorb}
use Rattle.synic_board.specs.State.{State, processors}
use Rattle.synic_board.specs.Step.{step}
use Rattle.c_calls.specs.Performing.{outcome_to_c}

-- the first line of new words, which may split off 319
abbrev pub IsFirstLine : ℕ → Option LineModel → Type 0
IsFirstLine count (Some line) = line ≡ line_model (shared_words line.words.name count 64 256) [] 319
IsFirstLine count None = ⊥

-- a line has none left to split off
abbrev pub gives_none : Option LineModel → Bool
gives_none (Some line) = nat_eq line.spare 0
gives_none None = false

-- one line split off another
abbrev pub IsSplit : Option LineModel → Option LineModel → Option LineModel → Type 0
IsSplit (Some line) after other = (after ≡ Some (with_one_split_off line)) × (other ≡ Some (new_line line.words))
IsSplit None after other = ⊥

-- whether there is a line, and its words have a bit for that vector
abbrev pub has_bit : Option LineModel → ℕ → ℕ → Bool
has_bit (Some line) vp vector = nat_lt vp line.words.processors && not (nat_lt vector 16)
has_bit None vp vector = false

-- a line raised a vector, whose bit was clear or was not
abbrev pub IsRaised : Option LineModel → ℕ → ℕ → Bool → Option LineModel → Type 0
IsRaised (Some line) vp vector fresh after = after ≡ Some (with_step line (raise_of vp vector fresh))
IsRaised None vp vector fresh after = ⊥

-- a line swept a part of a processor for a board, and took those bits
abbrev pub HasSwept : AnyBoard → LineModel → ℕ → ℕ → ℕ → Option LineModel → Type 0
HasSwept board line vp part bits (Some after) = IsSwept (processors (state_in board)) line vp part bits after
HasSwept board line vp part bits None = ⊥

-- an outcome whose reply also has bits in `value`
abbrev pub with_bits : ℕ → State × CReply × List Notice → State × CReply × List Notice
with_bits bits (s, reply, notices) = (s, record reply { value = bits }, notices)

-- a board of either kind, and its notices, are those of an outcome, no live page was accessed, and no EOM performed
abbrev pub IsApart : State × CReply × List Notice → AnyBoard → Option AnyBoard → CReply → Type 0
IsApart outcome before (Some after) reply =
    ((state_in after, reply, notices_in after) ≡ outcome) × (pages_in after ≡ pages_in before)
    × (eoms_in after ≡ 0)
IsApart outcome before None reply = ⊥

-- the board absorbed what the line swept: without a board or without a line nothing changes
abbrev pub IsAbsorbed : ℕ → ℕ → Option AnyBoard → Option LineModel → Option AnyBoard → Option LineModel → CReply
    → Type 0
IsAbsorbed vp part (Some board) (Some line) board_after line_after reply =
    (bits : ℕ) × HasSwept board line vp part bits line_after
    × IsApart (with_bits bits (outcome_to_c (step (state_in board) (Absorb vp part bits)))) board board_after reply
IsAbsorbed vp part None line board_after line_after reply =
    (board_after ≡ None) × (line_after ≡ line) × (reply ≡ fault_to_c Closed)
IsAbsorbed vp part (Some board) None board_after line_after reply =
    (board_after ≡ Some board) × (line_after ≡ None) × (reply ≡ fault_to_c NoLine)
