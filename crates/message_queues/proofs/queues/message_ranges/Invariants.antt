use Rattle.std.proofs.Common.{take}
use Rattle.std.specs.List.{All}
use Rattle.board_terms.specs.Ranges.{HasMessageRanges}
use Rattle.message_queues.proofs.queues.message_ranges.Given as goal

abbrev pub invariant-loop-message : goal.invariant-loop-message
invariant-loop-message l = All HasMessageRanges (take l.message-index l.messages)
