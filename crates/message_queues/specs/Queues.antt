-- The message queues: one for each source of each processor (TLFS, "Messages").
use Rattle.std.specs.Prelude.{◌≡◌, ℕ, ◌+◌, ◌*◌, ◌/◌, ◌<◌, ◌==◌, ◌&&◌, Bool, true, false, not, List, [], ◌∷◌, ◌++◌, length, map, filter, drop, replicate, slice_index_or, slice_set, sum_by, count_by}
use Rattle.board_terms.specs.Quantities.{Processor, Source, PortNumber, Ticket}
use Rattle.board_terms.specs.declared.messages.Message.{Message}
use Rattle.board_terms.specs.declared.messages.Message.TheVariants.{FromPort, FromTimer}
use Rattle.board_terms.specs.Messages.{ticket_of}
use Rattle.board_terms.specs.Sources.{source_number}
use Rattle.event_ports.specs.Ports.{port_count}

-- all queues, those of processor 0 first; each has its front first
abbrev pub Queues : Type 0
Queues = List (List Message)

abbrev pub no_messages : ℕ → Queues
no_messages processors = replicate (16 * processors) []

-- the number of processors: each has 16 queues
abbrev pub processors_of : Queues → ℕ
processors_of qs = length qs / 16

-- the greatest number of ports of a board of n processors: as many as a sparse one has
abbrev pub most_ports : ℕ → ℕ
most_ports n = port_count n true

-- the greatest number of messages in all queues together: 16 of each port, and one of each timer, of which there are
-- four for each processor
abbrev pub most_messages : Queues → ℕ
most_messages qs = 16 * most_ports (processors_of qs) + 4 * processors_of qs

abbrev pub queue_of : Queues → Processor → Source → List Message
queue_of qs p i = slice_index_or qs (source_number p i) []

abbrev pub with_queue : Queues → Processor → Source → List Message → Queues
with_queue qs p i q = slice_set qs (source_number p i) q

-- the message is from that port, or from that timer
abbrev pub is_from_port : PortNumber → Message → Bool
is_from_port port (FromPort ticket n kind payload) = n == port
is_from_port port (FromTimer ticket timer expiration) = false

abbrev pub is_from_timer : ℕ × ℕ → Message → Bool
is_from_timer timer (FromPort ticket n kind payload) = false
is_from_timer timer (FromTimer ticket t expiration) = (t.0 == timer.0) && (t.1 == timer.1)

-- how many buffers of a port are in use: its messages over all queues
abbrev pub port_used : Queues → PortNumber → ℕ
port_used qs port = sum_by (count_by (is_from_port port)) qs

-- how many messages of a timer are queued; its one buffer is free if there is none
abbrev pub timer_used : Queues → ℕ × ℕ → ℕ
timer_used qs timer = sum_by (count_by (is_from_timer timer)) qs

abbrev pub is_timer_free : Queues → ℕ × ℕ → Bool
is_timer_free qs timer = timer_used qs timer == 0

-- there is a free buffer for the message: each of the ports has 16 of them, and a timer of a processor that has
-- queues has one
abbrev pub HasBuffer : Queues → Message → Type 0
HasBuffer qs (FromPort ticket port kind payload) = (port < most_ports (processors_of qs)) × (port_used qs port < 16)
HasBuffer qs (FromTimer ticket timer expiration) = (timer.0 < processors_of qs) × (is_timer_free qs timer ≡ true)

-- a message joins the end of a queue
abbrev pub appended : Queues → Processor → Source → Message → Queues
appended qs p i m = with_queue qs p i (queue_of qs p i ++ m ∷ [])

-- the head of a queue, if there is one, leaves it
abbrev pub after_place : Queues → Processor → Source → Queues
after_place qs p i = with_queue qs p i (drop 1 (queue_of qs p i))

-- the tickets of a port's messages in a queue, front first; and the other messages, in order
abbrev pub withdrawn_of : PortNumber → List Message → List Ticket
withdrawn_of port q = map ticket_of (filter (is_from_port port) q)

abbrev pub left_of : PortNumber → List Message → List Message
left_of port q = filter (λ m. not (is_from_port port m)) q

abbrev pub after_withdrawal : Queues → Processor → Source → PortNumber → Queues
after_withdrawal qs p i port = with_queue qs p i (left_of port (queue_of qs p i))
