use Rattle.std.proofs.Common.{subst}
use Rattle.std.specs.List.{All}
use Rattle.board_terms.specs.Ranges.{HasMessageRanges}
use Rattle.message_queues.specs.inside.View.{buffers_of}
use Rattle.message_queues.proofs.Ranges.{of-buffers, of-queues}
use Rattle.message_queues.proofs.queues.Queues.facts.Goals as goal

pub returns : goal.returns
returns c =
    let all = subst (All HasMessageRanges) c.as_slice.ensures.value c.message_ranges.ensures in
    let queues =
    of-queues (buffers_of c.self.inside)
    (of-buffers c.self.inside.neighbours c.self.inside.messages.items all) c.self.inside.chains.items in
    record { ranges = subst (All (All HasMessageRanges)) c.self.view_is queues }
