-- A step from a sound state, with few writes of the summary, is all that a call promises.
use Rattle.std.specs.Prelude.{◌≡◌, ◌≤◌, ◌+◌, List, length}
use Rattle.board_terms.specs.declared.notices.Notice.{Notice}
use Rattle.synic_board.specs.declared.event.Event.{Event}
use Rattle.synic_board.specs.declared.event.Reply.{Reply}
use Rattle.synic_board.specs.State.{BoardModel}
use Rattle.synic_board.specs.Step.{step}
use Rattle.synic_board.specs.Sound.{IsSound, PayloadFits}
use Rattle.synic_board.specs.Buffers.{HasBuffers}
use Rattle.synic_board.specs.Performing.{Performs}
use Rattle.synic_board.proofs.keeping.Steps.{conserves, tickets_monotone}
use Rattle.synic_board.proofs.keeping.Buffers.{bound-emitted}

pub performs : (old now : BoardModel) (event : Event) (reply : Reply) (notices : List Notice) → PayloadFits event
    → (now.state, reply, notices) ≡ step old.state event →
    IsSound old.state → HasBuffers old.state
    → old.writes ≤ now.writes → now.writes ≤ old.writes + (8 + length notices) → Performs old event now reply notices
performs old now event reply notices fits is sound buffers monotone bound = record {
  step = is;
  conserves = conserves _ _ _ _ _ fits is sound;
  tickets_monotone = tickets_monotone _ _ _ _ _ fits is sound;
  writes_monotone = monotone;
  writes_bound = bound;
  notices_bound = bound-emitted _ _ _ _ _ is buffers;
}
