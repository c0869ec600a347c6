use Rattle.std.proofs.Common.{◌≡◌, map, take, drop}
use Rattle.board_terms.specs.Messages.{ticket_of}
use Rattle.message_queues.specs.Queues.{queue_of, with_queue}
use Rattle.message_queues.proofs.queues.Queues.withdraw_front.Given as goal

abbrev pub invariant-loop : goal.invariant-loop
invariant-loop l =
    record {
      tickets : l.tickets.items ≡ map ticket_of (take l.counter (queue_of l.fn.self l.vp l.sint));
      rest : l.self ≡ with_queue l.fn.self l.vp l.sint (drop l.counter (queue_of l.fn.self l.vp l.sint));
    }
