-- The compact form of an entry: its numbers, and separately its bytes.
use Rattle.std.specs.Prelude.{ℕ, ◌+◌, ◌≤◌, List, [], ◌∷◌, take, drop}
use Rattle.synic_board.specs.declared.event.Event.{Event}
use Rattle.synic_board.specs.declared.event.Event.TheVariants.{OpenPort, ClosePort, Write, Read, Post, Signal, Assert, Absorb, Store, Load, Tick, Take, Suspend, Resume, Reset, Send}
use Rattle.synic_board.specs.declared.event.Reply.{Reply}
use Rattle.synic_board.specs.declared.event.Reply.TheVariants.{Done, Value, Bytes, Taken, Accepted, FlagWasClear, FlagWasSet, GeneralProtection, Refused}
use Rattle.synic_board.specs.declared.history.Entry.{Entry}
use Rattle.entry_log.specs.declared.compact.CompactEvent.{CompactEvent}
use Rattle.entry_log.specs.declared.compact.CompactEvent.TheVariants as event
use Rattle.entry_log.specs.declared.compact.CompactReply.{CompactReply}
use Rattle.entry_log.specs.declared.compact.CompactReply.TheVariants as reply
use Rattle.entry_log.specs.declared.compact.CompactEntry.{CompactEntry}

-- the bytes of an event, and of a reply
abbrev pub event_bytes : Event → List ℕ
event_bytes (Post port kind payload) = payload.items
event_bytes (Store address bytes) = bytes.items
event_bytes _ = []

abbrev pub reply_bytes : Reply → List ℕ
reply_bytes (Bytes bytes) = bytes.items
reply_bytes _ = []

-- how many bytes the numbers say there are
abbrev pub event_count : CompactEvent → ℕ
event_count (event.Post port count kind) = count
event_count (event.Store count address) = count
event_count _ = 0

abbrev pub reply_count : CompactReply → ℕ
reply_count (reply.Bytes count) = count
reply_count _ = 0

-- the greatest number of bytes of an event; a reply has at most 8
abbrev pub event_most : CompactEvent → ℕ
event_most (event.Post port count kind) = 240
event_most (event.Store count address) = 8
event_most _ = 0

-- the event and the reply with these numbers and these bytes
abbrev pub event_with : List ℕ → CompactEvent → Event
event_with own (event.OpenPort port p i shape) = OpenPort port p i shape
event_with own (event.ClosePort port) = ClosePort port
event_with own (event.Write p number value) = Write p number value
event_with own (event.Read p number) = Read p number
event_with own (event.Post port count kind) = Post port kind (record { items = own })
event_with own (event.Signal port flag) = Signal port flag
event_with own (event.Assert p v) = Assert p v
event_with own (event.Absorb p part bits) = Absorb p part bits
event_with own (event.Store count address) = Store address (record { items = own })
event_with own (event.Load count address) = Load address count
event_with own (event.Tick moment) = Tick moment
event_with own (event.Take p) = Take p
event_with own (event.Suspend p) = Suspend p
event_with own (event.Resume p) = Resume p
event_with own (event.Reset p) = Reset p
event_with own (event.Send v mask) = Send v mask

abbrev pub reply_with : List ℕ → CompactReply → Reply
reply_with own reply.Done = Done
reply_with own (reply.Value value) = Value value
reply_with own (reply.Bytes count) = Bytes (record { items = own })
reply_with own (reply.Taken vector) = Taken vector
reply_with own (reply.Accepted ticket) = Accepted ticket
reply_with own reply.FlagWasClear = FlagWasClear
reply_with own reply.FlagWasSet = FlagWasSet
reply_with own reply.GeneralProtection = GeneralProtection
reply_with own (reply.Refused refusal) = Refused refusal

-- the bytes of an entry fit their arrays
pub record Fits (e : CompactEntry) : Type 0 where
  pub event : event_count e.event ≤ event_most e.event
  pub reply : reply_count e.reply ≤ 8

abbrev pub size : CompactEntry → ℕ
size e = event_count e.event + reply_count e.reply

-- the entry whose bytes come first here: those of its event, then those of its reply
abbrev pub entry_with : List ℕ → CompactEntry → Entry
entry_with bytes e =
    record {
      actor = e.actor;
      event = event_with (take (event_count e.event) bytes) e.event;
      reply = reply_with (take (reply_count e.reply) (drop (event_count e.event) bytes)) e.reply;
    }

-- the entries whose bytes are stored one after another
abbrev pub entries_in : List ℕ → List CompactEntry → List Entry
entries_in bytes [] = []
entries_in bytes (e ∷ es) = entry_with bytes e ∷ entries_in (drop (size e) bytes) es
