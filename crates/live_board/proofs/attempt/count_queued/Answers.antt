use Rattle.std.proofs.Common.{rules, ◌≡◌, ℕ, List, ◌<◌, length, get_or, arith, sym, ap, ◌∙◌}
use Rattle.std.proofs.lemmas.List.Sums.{count_by_more_yes, count_by_more_no}
use Rattle.std.proofs.lemmas.Option.{slice_get_within, get_or_from_slice_get}
use Rattle.board_terms.specs.declared.messages.Message.{Message}
use Rattle.message_queues.specs.Queues.{queue_of, is_from_port}
use Rattle.live_board.proofs.attempt.count_queued.Goals.{then-is_from_port, else-is_from_port}
use Rattle.live_board.proofs.attempt.count_queued.Goals as goal

pub loop-index-preserved : goal.loop-index-preserved
loop-index-preserved c =
    let q : List Message = queue_of c.args.board.now.state.queues c.args.vp c.args.sint in
    let i : ℕ = c.loop-index.index in
    let m : Message = c.in-Some.message.now in
    let below : i < length q = slice_get_within q i m (sym c.in-Some.ensures) in
    let is : get_or q i m ≡ m = get_or_from_slice_get q i m m (sym c.in-Some.ensures) in
    elim c.if-is_from_port.branch [
      | then-is_from_port w ↦ let more =
          count_by_more_yes (is_from_port c.args.number) q i m below
          (ap (is_from_port c.args.number) is ∙ search rules) in (
            omega (arith, more, c.loop-index.invariant.0, w.count-is),
            omega (arith, c.loop-index.invariant.1, w.count-is),
          )
      | else-is_from_port w ↦ let more =
          count_by_more_no (is_from_port c.args.number) q i m below
          (ap (is_from_port c.args.number) is ∙ search rules) in (
            omega (arith, more, c.loop-index.invariant.0, w.count-is),
            omega (arith, c.loop-index.invariant.1, w.count-is),
          )
    ]
