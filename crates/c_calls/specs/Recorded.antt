-- What a call does to a board with its history, and what it returns.
use Rattle.std.specs.Prelude.{◌≡◌, ◌⊎◌, ℕ, List, length, map, Option, Some, None}
use Rattle.board_terms.specs.declared.notices.Notice.{Notice}
use Rattle.c_handles.specs.Histories.{HistoryModel, with_entry}
use Rattle.c_handles.specs.Lines.{LineModel, IsSwept}
use Rattle.c_handles.specs.Recorded.{Recorded}
use Rattle.c_terms.specs.declared.notice.CNotice.{CNotice}
use Rattle.c_terms.specs.declared.reply.CReply.{CReply}
use Rattle.c_terms.specs.declared.reply.Fault.{Fault}
use Rattle.c_terms.specs.declared.reply.Fault.TheVariants.{NoMemory, Closed, NoEvent, NoLine}
use Rattle.c_terms.specs.Entries.{trace_of}
use Rattle.c_terms.specs.Notices.{notice_to_c}
use Rattle.c_terms.specs.Replies.{fault_to_c}
use Rattle.c_terms.specs.Rooms.{Fronts}
use Rattle.c_calls.specs.Lines.{with_bits}
use Rattle.c_calls.specs.Performing.{outcome_to_c}
use Rattle.c_calls.specs.declared.recorded.CSettled.{CSettled}
use Rattle.synic_board.specs.declared.event.Event.{Event}
use Rattle.synic_board.specs.declared.event.Event.TheVariants.{Absorb}
use Rattle.synic_board.specs.State.{State, processors}
use Rattle.synic_board.specs.Step.{step}
use Rattle.text_history.specs.Trace.{IsTrace}

-- a caller's buffer of notices, before a call and after it
pub record Buffer : Type 0 where
  pub before : List CNotice
  pub after : List CNotice

abbrev pub buffer : List CNotice → List CNotice → Buffer
buffer before after = record { before = before; after = after }

-- the event was performed for an actor, with this outcome: its entry is the last one of the history, and its notices
-- are at the front of the buffer
pub record IsEntered (actor : ℕ) (event : Event) (outcome : State × CReply × List Notice) (old new : Recorded)
    (answer : CReply) (room : Buffer) : Type 0 where
  pub performed : (new.board.board.state, answer, new.board.notices) ≡ outcome
  pub entered : new.history ≡ with_entry old.history actor event (step old.board.board.state event).1
  pub copied : Fronts (map notice_to_c new.board.notices) room.before room.after

-- no event was performed, for this reason: nothing has changed
pub record IsNotEntered {A : Type 0} (fault : Fault) (old new : A) (answer : CReply) (room : Buffer) : Type 0 where
  pub unchanged : new ≡ old
  pub reason : answer ≡ fault_to_c fault
  pub kept : room.after ≡ room.before

-- a call performs an event for an actor: without a board, without an event, or without memory for its entry, nothing
-- changes
abbrev pub IsActed : ℕ → Option Event → Option Recorded → Option Recorded → CReply → Buffer → Type 0
IsActed actor event None new answer room = IsNotEntered Closed None new answer room
IsActed actor None (Some old) new answer room = IsNotEntered NoEvent (Some old) new answer room
IsActed actor (Some event) (Some old) None answer room = ⊥
IsActed actor (Some event) (Some old) (Some new) answer room =
    IsEntered actor event (outcome_to_c (step old.board.board.state event)) old new answer room
    ⊎ IsNotEntered NoMemory (Some old) (Some new) answer room

-- an absorb of a part of a processor, for an actor
pub record AbsorbCall : Type 0 where
  pub actor : ℕ
  pub vp : ℕ
  pub part : ℕ

abbrev pub absorb_by : ℕ → ℕ → ℕ → AbsorbCall
absorb_by actor vp part = record { actor = actor; vp = vp; part = part }

-- the line swept the part, and its bits were absorbed for the actor
pub record IsAbsorbEntered (call : AbsorbCall) (old : Recorded) (line : LineModel) (new : Recorded)
    (swept : LineModel) (answer : CReply) (room : Buffer) : Type 0 where
  pub bits : ℕ
  pub sweeps : IsSwept (processors old.board.board.state) line call.vp call.part bits swept
  pub entered : IsEntered call.actor (Absorb call.vp call.part bits)
      (with_bits bits (outcome_to_c (step old.board.board.state (Absorb call.vp call.part bits)))) old new answer room

-- a board with its history, and a line, if there are
abbrev pub Used : Type 0
Used = Option Recorded × Option LineModel

-- a call does that to them: without a board, without a line, or without memory for the entry, nothing changes
abbrev pub IsActedAbsorb : AbsorbCall → Used → Used → CReply → Buffer → Type 0
IsActedAbsorb call (None, line) after answer room = IsNotEntered {A = Used} Closed (None, line) after answer room
IsActedAbsorb call (Some old, None) after answer room =
    IsNotEntered {A = Used} NoLine (Some old, None) after answer room
IsActedAbsorb call (Some old, Some line) (Some new, Some swept) answer room =
    IsAbsorbEntered call old line new swept answer room
    ⊎ IsNotEntered {A = Used} NoMemory (Some old, Some line) (Some new, Some swept) answer room
IsActedAbsorb call (Some old, Some line) (Some new, None) answer room = ⊥
IsActedAbsorb call (Some old, Some line) (None, swept) answer room = ⊥

-- The trace of the whole history is at the front of the buffer, as much of it as fits. It is the trace of a legal
-- history.
pub record IsWritten (h : HistoryModel) (before after : List ℕ) (settled : CSettled) : Type 0 where
  pub kind : settled.kind ≡ 0
  pub line : settled.line ≡ 0
  pub entries : settled.entries ≡ length h.entries
  pub length : settled.length ≡ length (trace_of h)
  pub room : Fronts (trace_of h) before after
  pub legal : IsTrace (trace_of h) settled.entries

-- nothing was written, for this reason
pub record IsUnwritten (reason : ℕ) (before after : List ℕ) (settled : CSettled) : Type 0 where
  pub kind : settled.kind ≡ reason
  pub line : settled.line ≡ 0
  pub entries : settled.entries ≡ 0
  pub length : settled.length ≡ 0
  pub room : after ≡ before

-- the trace was written, or nothing, for lack of memory; nothing of a closed handle
abbrev pub IsSettledTrace : Option Recorded → List ℕ → List ℕ → CSettled → Type 0
IsSettledTrace None before after settled = IsUnwritten 4 before after settled
IsSettledTrace (Some recorded) before after settled =
    IsWritten recorded.history before after settled ⊎ IsUnwritten 2 before after settled
