use Rattle.std.proofs.Common.{ℕ, List, Option, None, Some, sym, subst, arith}
use Rattle.std.specs.Prelude.{is_some}
use Rattle.synic_board.specs.Summaries.{HasQueued}
use Rattle.synic_board.specs.inside.Waiting.{IsFirstWaiting}
use Rattle.synic_board.proofs.summary.Summary.has_queued.Goals as goal

has-queued : (queued : List ℕ) (p : ℕ) (o : Option ℕ) → IsFirstWaiting queued p 0 o → HasQueued queued p (is_some o)
has-queued queued p None none = λ i under. none i (omega arith) under
has-queued queued p (Some i) (le, under, some, before) = (i, under, some)

pub returns : goal.returns
returns c = subst (HasQueued c.args.self.now.values.queued c.args.vp) (sym c.is_some.ensures)
    (has-queued _ _ _ c.waiting_from.ensures)
