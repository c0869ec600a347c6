use Rattle.std.proofs.Common.{true, false, [], length, map, sym, ap, ◌∙◌, subst, arith}
use Rattle.std.proofs.lemmas.List.{nil_from_length}
use Rattle.std.proofs.Math.ListN.{get_or-map}
use Rattle.board_terms.specs.Sources.{source_number}
use Rattle.synic_board.specs.State.{State}
use Rattle.synic_board.specs.Summaries.{StoredSummary, HasQueued}
use Rattle.message_queues.specs.Queues.{queue_of}
use Rattle.live_board.proofs.probing.is_any_queued.Goals as goal

pub returns-clause-some : goal.returns-clause-some
returns-clause-some c some none =
    let s : State = c.args.board.now.state in
    let queued = ap (λ (k : StoredSummary). k.values.queued) c.summary.ensures.value in
    let one : HasQueued (map length s.queues) c.args.vp true =
    subst (HasQueued (map length s.queues) c.args.vp) some
    (subst (λ l. HasQueued l c.args.vp c.has_queued.result) queued c.has_queued.ensures) in
    omega (arith, one.2, get_or-map length s.queues (source_number c.args.vp one.0) [], ap length (none one.0 one.1))

pub returns-clause-none : goal.returns-clause-none
returns-clause-none c none i under =
    let s : State = c.args.board.now.state in
    let queued = ap (λ (k : StoredSummary). k.values.queued) c.summary.ensures.value in
    let counts : HasQueued (map length s.queues) c.args.vp false =
    subst (HasQueued (map length s.queues) c.args.vp) none
    (subst (λ l. HasQueued l c.args.vp c.has_queued.result) queued c.has_queued.ensures) in
    nil_from_length (queue_of s.queues c.args.vp i)
    (sym (get_or-map length s.queues (source_number c.args.vp i) []) ∙ counts i under)
