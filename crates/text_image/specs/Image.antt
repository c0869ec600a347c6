-- The image of a board: how its state differs from that of a newly opened one, in lines. Numbers are as in all texts;
-- registers, words and offsets are hexadecimal.
use Rattle.std.specs.Prelude.{ℕ, zero, suc, ◌+◌, ◌*◌, ◌/◌, ◌%◌, ◌^◌, ◌==◌, ◌&&◌, Bool, List, [], ◌∷◌, ◌++◌, length, replicate, Option, None, Some, is_none, slice_index_or, slice_get, slice_range, codes, decimal, if◌then◌else◌}
use Rattle.std.specs.Option.{option_map_or}
use Rattle.std.specs.Str.{bytes_eq}
use Rattle.text_base.specs.Numbers.{hex, spelled}
use Rattle.board_terms.specs.Quantities.{Processor, Source, TimerId, Moment, Ticket}
use Rattle.board_terms.specs.Messages.{ticket_of}
use Rattle.board_terms.specs.declared.messages.Message.{Message}
use Rattle.board_terms.specs.declared.messages.Message.TheVariants.{FromPort, FromTimer}
use Rattle.board_terms.specs.declared.pages.Kind.{Kind}
use Rattle.board_terms.specs.declared.pages.Kind.TheVariants as kind
use Rattle.lapic_core.specs.Vectors.{Vectors, word_of}
use Rattle.lapic_core.specs.Apic.{Apic}
use Rattle.synic_regs.specs.Regs.{source_of, masked}
use Rattle.event_ports.specs.declared.ports.Port.{Port}
use Rattle.event_ports.specs.Ports.{port_at}
use Rattle.gpa_space.specs.Space.{own_page}
use Rattle.message_queues.specs.Queues.{queue_of}
use Rattle.stimer_bank.specs.Bank.{timer_in}
use Rattle.synic_board.specs.declared.event.Event.TheVariants.{OpenPort}
use Rattle.synic_board.specs.State.{State, processors, apic_of, regs_of, space_of, ports_of, bank_of, slot_of}
use Rattle.text_lines.specs.Events.{event_fields, bytes_text}
use Rattle.text_lines.specs.Items.{Opening, item_fields}
use Rattle.text_lines.specs.Printing.{text_of}
use Rattle.text_image.specs.declared.pages.PageName.{PageName}
use Rattle.text_image.specs.declared.pages.PageName.TheVariants.{Guest, Own}

-- lines as their fields
abbrev pub Lines : Type 0
Lines = List (List (List ℕ))

-- the lines of 0, of 1 and so on, below n
unfoldable pub each_below : ℕ → (ℕ → Lines) → Lines
each_below zero lines = []
each_below (suc n) lines = each_below n lines ++ lines n

abbrev pub moment_fields : Moment → List (List ℕ)
moment_fields moment = codes "moment" ∷ decimal moment ∷ []

abbrev pub moment_lines : Moment → Lines
moment_lines moment = if moment == 0 then [] else moment_fields moment ∷ []

-- the title, the board line with the next ticket, and the present time
abbrev pub head_lines : State → Lines
head_lines s =
    (codes "image" ∷ codes "1" ∷ []) ∷ item_fields
    (Opening (processors s) (Some (length s.pages)) s.next_ticket) ∷ moment_lines s.moment

-- a set of vectors, those from 0 on in the first word
abbrev pub words : Vectors → List (List ℕ)
words vectors =
    hex (word_of vectors 0) ∷ hex (word_of vectors 1) ∷ hex (word_of vectors 2) ∷ hex (word_of vectors 3) ∷ []

abbrev pub status_word : Bool → List ℕ
status_word suspended = if suspended then codes "suspended" else codes "running"

-- a local APIC: IRR, ISR, TPR, and whether the processor is suspended
abbrev pub lapic_line : Processor → Apic → List (List ℕ)
lapic_line p a =
    codes "lapic" ∷ decimal p ∷ words a.requested
    ++ (words a.in_service ++ (hex a.task_priority ∷ status_word a.suspended ∷ []))

abbrev pub lapic_lines : State → Processor → Lines
lapic_lines s p = lapic_line p (apic_of s p) ∷ []

abbrev pub register_fields : Processor → List ℕ → ℕ → List (List ℕ)
register_fields p name value = codes "register" ∷ decimal p ∷ name ∷ hex value ∷ []

-- a register, unless it has its first value
abbrev pub changed_line : Processor → List ℕ → ℕ → ℕ → Lines
changed_line p name value first = if value == first then [] else register_fields p name value ∷ []

abbrev pub source_name : Source → List ℕ
source_name i = codes "sint" ++ decimal i

abbrev pub source_lines : State → Processor → Source → Lines
source_lines s p i = changed_line p (source_name i) (source_of (regs_of s p) i) masked

abbrev pub register_lines : State → Processor → Lines
register_lines s p = changed_line p (codes "scontrol") (regs_of s p).control 0 ++
    (changed_line p (codes "siefp") (regs_of s p).sief 0
    ++ (changed_line p (codes "simp") (regs_of s p).sim 0 ++ each_below 16 (source_lines s p)))

abbrev pub kind_word : Kind → List ℕ
kind_word kind.Sim = codes "sim"
kind_word kind.Sief = codes "sief"

-- a guest page, or a page of a processor, visible or not
abbrev pub name_fields : PageName → List (List ℕ)
name_fields (Guest number) = codes "page" ∷ decimal number ∷ []
name_fields (Own p k) = codes "own" ∷ decimal p ∷ kind_word k ∷ []

-- bytes of a page from an offset on
abbrev pub block_fields : PageName → ℕ → List ℕ → List (List ℕ)
block_fields name at bytes = name_fields name ++ (hex at ∷ spelled bytes ∷ [])

-- the same, unless the bytes are zeros
abbrev pub block_line : PageName → ℕ → List ℕ → Lines
block_line name at bytes = if bytes_eq bytes (replicate 256 0) then [] else block_fields name at bytes ∷ []

-- a page in blocks of 256 bytes
abbrev pub block_lines : PageName → List ℕ → ℕ → Lines
block_lines name page n = block_line name (256 * n) (slice_range page (256 * n) (256 * n + 256))

abbrev pub page_lines : PageName → List ℕ → Lines
page_lines name page = each_below 16 (block_lines name page)

abbrev pub guest_lines : State → ℕ → Lines
guest_lines s number = page_lines (Guest number) (slice_index_or s.pages number [])

abbrev pub own_page_lines : State → Processor → Kind → Lines
own_page_lines s p k = page_lines (Own p k) (own_page (space_of s) p k)

abbrev pub own_lines : State → Processor → Lines
own_lines s p = own_page_lines s p kind.Sim ++ own_page_lines s p kind.Sief

-- an open port, as the event that opens it
abbrev pub port_line : ℕ → Port → List (List ℕ)
port_line number port = event_fields (OpenPort number port.vp port.sint port.shape)

abbrev pub port_lines : State → ℕ → Lines
port_lines s number = option_map_or (λ port. port_line number port ∷ []) (port_at (ports_of s) number) []

-- a deadline, by its high and its low 64 bits
abbrev pub due_fields : Option ℕ → List (List ℕ)
due_fields None = codes "stopped" ∷ []
due_fields (Some due) = codes "due" ∷ hex (due / 2 ^ 64) ∷ hex (due % 2 ^ 64) ∷ []

abbrev pub timer_fields : TimerId → ℕ → ℕ → Option ℕ → List (List ℕ)
timer_fields t config count due = codes "timer" ∷ decimal t.0 ∷ decimal t.1 ∷ hex config ∷ hex count ∷ due_fields due

-- a timer, unless it is idle
abbrev pub timer_line : TimerId → ℕ → ℕ → Option ℕ → Lines
timer_line t config count due =
    if (config == 0) && ((count == 0) && is_none due) then [] else timer_fields t config count due ∷ []

abbrev pub timer_lines : State → Processor → ℕ → Lines
timer_lines s p index = let x = timer_in (bank_of s) (p, index) in timer_line (p, index) x.config x.count x.due

abbrev pub timers_lines : State → Processor → Lines
timers_lines s p = each_below 4 (timer_lines s p)

abbrev pub posted_fields : ℕ → ℕ → List ℕ → List (List ℕ)
posted_fields port kind payload = codes "port" ∷ decimal port ∷ hex kind ∷ bytes_text payload ∷ []

abbrev pub expired_fields : TimerId → Moment → List (List ℕ)
expired_fields t expiration = codes "timer" ∷ decimal t.0 ∷ decimal t.1 ∷ decimal expiration ∷ []

-- where a message is from, and what it holds
abbrev pub origin_fields : Message → List (List ℕ)
origin_fields (FromPort ticket port kind payload) = posted_fields port kind payload.items
origin_fields (FromTimer ticket timer expiration) = expired_fields timer expiration

abbrev pub message_fields : Processor → Source → Message → List (List ℕ)
message_fields p i m = codes "message" ∷ decimal p ∷ decimal i ∷ decimal (ticket_of m) ∷ origin_fields m

-- a queue, front first
abbrev pub queued_lines : State → Processor → Source → ℕ → Lines
queued_lines s p i k = option_map_or (λ m. message_fields p i m ∷ []) (slice_get (queue_of s.queues p i) k) []

abbrev pub queue_lines : State → Processor → Source → Lines
queue_lines s p i = each_below (length (queue_of s.queues p i)) (queued_lines s p i)

abbrev pub queues_lines : State → Processor → Lines
queues_lines s p = each_below 16 (queue_lines s p)

abbrev pub slot_fields : Processor → Source → Ticket → List (List ℕ)
slot_fields p i ticket = codes "slot" ∷ decimal p ∷ decimal i ∷ decimal ticket ∷ []

abbrev pub slot_line : Processor → Source → Option Ticket → Lines
slot_line p i None = []
slot_line p i (Some ticket) = slot_fields p i ticket ∷ []

abbrev pub slot_lines : State → Processor → Source → Lines
slot_lines s p i = slot_line p i (slot_of s p i)

abbrev pub slots_lines : State → Processor → Lines
slots_lines s p = each_below 16 (slot_lines s p)

-- the sections, in this order
abbrev pub body_lines : State → Lines
body_lines s =
    each_below (processors s) (lapic_lines s)
    ++ (each_below (processors s) (register_lines s)
    ++ (each_below (length s.pages) (guest_lines s)
    ++ (each_below (processors s) (own_lines s)
    ++ (each_below (length s.ports) (port_lines s)
    ++ (each_below (processors s) (timers_lines s)
    ++ (each_below (processors s) (queues_lines s)
    ++ each_below (processors s) (slots_lines s)))))))

abbrev pub end_fields : List (List ℕ)
end_fields = codes "end" ∷ []

abbrev pub image_lines : State → Lines
image_lines s = head_lines s ++ (body_lines s ++ end_fields ∷ [])

unfoldable pub image : State → List ℕ
image s = text_of (image_lines s)
