-- The text form of events: the fields of each.
use Rattle.std.specs.Prelude.{ℕ, ◌<◌, ◌≤◌, ◌^◌, List, [], ◌∷◌, length, codes, decimal}
use Rattle.text_base.specs.Numbers.{hex, two_digits, spelled, AreBytes}
use Rattle.board_terms.specs.Ranges.{IsVector}
use Rattle.board_terms.specs.declared.messages.PortShape.{PortShape}
use Rattle.board_terms.specs.declared.messages.PortShape.TheVariants.{Messages, Flags}
use Rattle.synic_board.specs.declared.event.Event.{Event}
use Rattle.synic_board.specs.declared.event.Event.TheVariants.{OpenPort, ClosePort, Write, Read, Post, Signal, Assert, Absorb, Store, Load, Tick, Take, Suspend, Resume, Reset, Send}

-- bytes as two digits each, or `-` for none
abbrev pub bytes_text : List ℕ → List ℕ
bytes_text [] = codes "-"
bytes_text (b ∷ bytes) = spelled (b ∷ bytes)

abbrev pub event_fields : Event → List (List ℕ)
event_fields (OpenPort port vp sint (Messages buffers)) =
    codes "open" ∷ decimal port ∷ codes "message" ∷ decimal vp ∷ decimal sint ∷ decimal buffers ∷ []
event_fields (OpenPort port vp sint (Flags base count)) =
    codes "open" ∷ decimal port ∷ codes "event" ∷ decimal vp ∷ decimal sint ∷ decimal base ∷ decimal count ∷ []
event_fields (ClosePort port) = codes "close" ∷ decimal port ∷ []
event_fields (Write vp register value) = codes "write" ∷ decimal vp ∷ hex register ∷ hex value ∷ []
event_fields (Read vp register) = codes "read" ∷ decimal vp ∷ hex register ∷ []
event_fields (Post port kind payload) = codes "post" ∷ decimal port ∷ hex kind ∷ bytes_text payload.items ∷ []
event_fields (Signal port flag) = codes "signal" ∷ decimal port ∷ decimal flag ∷ []
event_fields (Assert vp vector) = codes "assert" ∷ decimal vp ∷ two_digits vector ∷ []
event_fields (Absorb vp part bits) = codes "absorb" ∷ decimal vp ∷ decimal part ∷ hex bits ∷ []
event_fields (Store address bytes) = codes "store" ∷ hex address ∷ bytes_text bytes.items ∷ []
event_fields (Load address count) = codes "load" ∷ hex address ∷ decimal count ∷ []
event_fields (Tick moment) = codes "tick" ∷ decimal moment ∷ []
event_fields (Take vp) = codes "take" ∷ decimal vp ∷ []
event_fields (Suspend vp) = codes "suspend" ∷ decimal vp ∷ []
event_fields (Resume vp) = codes "resume" ∷ decimal vp ∷ []
event_fields (Reset vp) = codes "reset" ∷ decimal vp ∷ []
event_fields (Send vector mask) = codes "send" ∷ two_digits vector ∷ hex mask ∷ []

-- at most that many bytes
abbrev pub AtMostBytes : ℕ → List ℕ → Type 0
AtMostBytes most bytes = AreBytes bytes × (length bytes ≤ most)

abbrev pub IsShape : PortShape → Type 0
IsShape (Messages buffers) = buffers < 256
IsShape (Flags base count) = (base < 65536) × (count < 65536)

-- the ranges of an event's fields
abbrev pub IsEvent : Event → Type 0
IsEvent (OpenPort port vp sint shape) = (port < 256) × (vp < 256) × (sint < 256) × IsShape shape
IsEvent (ClosePort port) = port < 256
IsEvent (Write vp register value) = (vp < 256) × (register < 2 ^ 32) × (value < 2 ^ 64)
IsEvent (Read vp register) = (vp < 256) × (register < 2 ^ 32)
IsEvent (Post port kind payload) = (port < 256) × (kind < 2 ^ 32) × AtMostBytes 240 payload.items
IsEvent (Signal port flag) = (port < 256) × (flag < 65536)
IsEvent (Assert vp vector) = (vp < 256) × IsVector vector
IsEvent (Absorb vp part bits) = (vp < 256) × (part < 256) × (bits < 2 ^ 64)
IsEvent (Store address bytes) = (address < 2 ^ 64) × AtMostBytes 8 bytes.items
IsEvent (Load address count) = (address < 2 ^ 64) × (count < 256)
IsEvent (Tick moment) = moment < 2 ^ 64
IsEvent (Take vp) = vp < 256
IsEvent (Suspend vp) = vp < 256
IsEvent (Resume vp) = vp < 256
IsEvent (Reset vp) = vp < 256
IsEvent (Send vector mask) = IsVector vector × (mask < 2 ^ 64)
