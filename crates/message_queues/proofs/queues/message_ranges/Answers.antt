use Rattle.std.proofs.Common.{arith, subst}
use Rattle.std.proofs.lemmas.List.Elements.{All-more}
use Rattle.board_terms.specs.Ranges.{HasMessageRanges}
use Rattle.message_queues.proofs.queues.message_ranges.Goals as goal

pub loop-message-preserved : goal.loop-message-preserved
loop-message-preserved c =
    All-more HasMessageRanges c.args.messages.now c.loop-message.message-index c.message-item.result
    (omega arith) c.loop-message.invariant
    (subst HasMessageRanges c.message-item.is c.facts.ensures.ranges)
