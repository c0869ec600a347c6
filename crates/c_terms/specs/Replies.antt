-- The plain struct that encodes a reply, and its inverse.
use Rattle.std.specs.Prelude.{ℕ, ◌≤◌, ◌-◌, ◌==◌, List, ◌++◌, length, replicate, Option, Some, None, if◌then◌else◌}
use Rattle.std.specs.Option.{option_map}
use Rattle.board_terms.specs.Numbers.{refusal_number}
use Rattle.board_terms.specs.declared.refusal.Refusal.{Refusal}
use Rattle.board_terms.specs.declared.refusal.Refusal.TheVariants.{UnknownPort, PortOpen, WrongKind, BadTarget, BadType, BadFlag, SynicOff, NoBuffers, TicketsSpent, ClockBack, OutsideSpace, CrossesPage, BadLength, NoSuchProcessor, AlreadySuspended, NotSuspended, Elsewhere}
use Rattle.synic_board.specs.declared.event.Reply.{Reply}
use Rattle.synic_board.specs.declared.event.Reply.TheVariants.{Done, Value, Bytes, Taken, Accepted, FlagWasClear, FlagWasSet, GeneralProtection, Refused}
use Rattle.c_terms.specs.declared.reply.CReply.{CReply}
use Rattle.c_terms.specs.declared.reply.Fault.{Fault}
use Rattle.c_terms.specs.declared.reply.Fault.TheVariants.{NoMemory, Closed, NoEvent, NoLine, IsLive, NotLive}
use Rattle.c_terms.specs.Events.{bytes_from_c, vector_from_c}

-- a kind, and how many notices there are; no other field used
abbrev pub empty_reply : ℕ → ℕ → CReply
empty_reply kind notices =
    record {
      kind = kind;
      fault = 0;
      refusal = 0;
      vector = 0;
      length = 0;
      notices = notices;
      value = 0;
      ticket = 0;
      bytes = replicate 8 0;
    }

-- the bytes, padded with zeros to eight
abbrev pub padded : List ℕ → List ℕ
padded bytes = bytes ++ replicate (8 - length bytes) 0

abbrev pub fault_to_c : Fault → CReply
fault_to_c NoMemory = record (empty_reply 0 0) { fault = 2 }
fault_to_c Closed = record (empty_reply 0 0) { fault = 4 }
fault_to_c NoEvent = record (empty_reply 0 0) { fault = 8 }
fault_to_c NoLine = record (empty_reply 0 0) { fault = 7 }
fault_to_c IsLive = record (empty_reply 0 0) { fault = 14 }
fault_to_c NotLive = record (empty_reply 0 0) { fault = 15 }

-- the encoding of a reply, with a number of notices
abbrev pub reply_to_c : Reply → ℕ → CReply
reply_to_c Done n = empty_reply 1 n
reply_to_c (Value value) n = record (empty_reply 2 n) { value = value }
reply_to_c (Bytes bytes) n = record (empty_reply 3 n) { length = length bytes.items; bytes = padded bytes.items }
reply_to_c (Taken (Some vector)) n = record (empty_reply 4 n) { vector = vector }
reply_to_c (Taken None) n = empty_reply 5 n
reply_to_c (Accepted ticket) n = record (empty_reply 6 n) { ticket = ticket }
reply_to_c FlagWasClear n = empty_reply 7 n
reply_to_c FlagWasSet n = empty_reply 8 n
reply_to_c GeneralProtection n = empty_reply 9 n
reply_to_c (Refused refusal) n = record (empty_reply 10 n) { refusal = refusal_number refusal }

-- the ranges of a reply's fields
abbrev pub IsReplyInRange : Reply → Type 0
IsReplyInRange (Bytes bytes) = length bytes.items ≤ 8
IsReplyInRange (Taken (Some vector)) = 16 ≤ vector
IsReplyInRange reply = Unit {0}

abbrev pub refusal_from_c : ℕ → Option Refusal
refusal_from_c number =
    if number == 1 then Some UnknownPort
    else if number == 2 then Some PortOpen
    else if number == 3 then Some WrongKind
    else if number == 4 then Some BadTarget
    else if number == 5 then Some BadType
    else if number == 6 then Some BadFlag
    else if number == 7 then Some SynicOff
    else if number == 8 then Some NoBuffers
    else if number == 9 then Some TicketsSpent
    else if number == 10 then Some ClockBack
    else if number == 11 then Some OutsideSpace
    else if number == 12 then Some CrossesPage
    else if number == 13 then Some BadLength
    else if number == 14 then Some NoSuchProcessor
    else if number == 15 then Some AlreadySuspended
    else if number == 16 then Some NotSuspended
    else if number == 17 then Some Elsewhere
    else None

-- the decoded reply, by the kind; none if no event was performed. Fields that the kind does not use are ignored.
abbrev pub reply_from_c : CReply → Option Reply
reply_from_c r =
    if r.kind == 1 then Some Done
    else if r.kind == 2 then Some (Value r.value)
    else if r.kind == 3 then option_map Bytes (bytes_from_c 8 r.bytes r.length)
    else if r.kind == 4 then option_map (λ (v : ℕ). Taken (Some v)) (vector_from_c r.vector)
    else if r.kind == 5 then Some (Taken None)
    else if r.kind == 6 then Some (Accepted r.ticket)
    else if r.kind == 7 then Some FlagWasClear
    else if r.kind == 8 then Some FlagWasSet
    else if r.kind == 9 then Some GeneralProtection
    else if r.kind == 10 then option_map Refused (refusal_from_c r.refusal)
    else None
