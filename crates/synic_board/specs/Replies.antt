-- The size of a reply, and the replies that refuse an event.
use Rattle.std.specs.Prelude.{◌≤◌, length}
use Rattle.synic_board.specs.declared.event.Reply.{Reply}
use Rattle.synic_board.specs.declared.event.Reply.TheVariants.{Bytes, GeneralProtection, Refused}

-- at most 8 bytes are loaded
abbrev pub IsReply : Reply → Type 0
IsReply (Bytes bytes) = length bytes.items ≤ 8
IsReply _ = Unit {0}

-- the event is refused, or raises #GP
abbrev pub IsRefusal : Reply → Type 0
IsRefusal (Refused r) = Unit {0}
IsRefusal GeneralProtection = Unit {0}
IsRefusal reply = ⊥
