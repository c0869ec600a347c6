-- An event leaves the number of processors.
use Rattle.std.proofs.Common.{◌≡◌, List, refl, ap, ◌∙◌}
use Rattle.board_terms.specs.declared.notices.Notice.{Notice}
use Rattle.synic_board.specs.declared.event.Event.{Event}
use Rattle.synic_board.specs.declared.event.Reply.{Reply}
use Rattle.synic_board.specs.State.{State, processors}
use Rattle.synic_board.specs.Effects.{Outcome}
use Rattle.synic_board.specs.Sound.{IsSound, PayloadFits}
use Rattle.synic_board.specs.Step.{step}
use Rattle.synic_board.proofs.keeping.Steps.{keeps-step}

pub stays : (s now : State) (e : Event) (reply : Reply) (notices : List Notice) → PayloadFits e → IsSound s
    → (now, reply, notices) ≡ step s e → processors now ≡ processors s
stays s now e reply notices fits sound is =
    ap (λ (o : Outcome). processors o.0) is
    ∙ (keeps-step (processors s) s e fits
    (record { count = refl; whole = sound.whole; empty = sound.empty })).kept.count
