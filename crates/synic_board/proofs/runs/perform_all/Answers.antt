use Rattle.std.proofs.Common.{◌++◌, ◌∷◌, [], ap, ◌∙◌, arith, length, length-append}
use Rattle.synic_board.proofs.Progress.{behind_none, behind_more}
use Rattle.synic_board.proofs.runs.perform_all.Goals as goal

pub returns-in_default-clause-behind : goal.returns-in_default-clause-behind
returns-in_default-clause-behind c = behind_none _ _ _ _ c.requires.none

pub loop-done-init : goal.loop-done-init
loop-done-init c =
    record { behind = behind_none _ _ _ _ c.requires.none; writes_monotone = omega arith; bound = omega arith }

pub loop-done-preserved : goal.loop-done-preserved
loop-done-preserved c =
    let emitted =
    c.keep.ensures ∙ (ap (λ ns. ns ++ c.as_slice.result.now) c.reserve-else-is_err.ensures.items
    ∙ ap (λ ns. c.loop-done.notices.items ++ ns) c.as_slice.ensures.value) in
    record {
      behind = behind_more _ _ _ _ _ _ _ _ _ _ _ _ _
          (omega arith) c.index-events-done.is c.loop-done.invariant.behind c.perform-reply.ensures.performs.step
          c.perform-reply.ensures.performs.conserves c.perform-reply.ensures.performs.tickets_monotone
          (c.push_reserved.ensures.items ∙ ap (λ rs. rs ++ c.perform-reply.result ∷ []) c.reserve.ensures.items)
          emitted;
      writes_monotone = omega (arith, c.perform-reply.ensures.performs.writes_monotone);
      bound = omega (
        arith,
        c.perform-reply.ensures.performs.writes_bound,
        ap length emitted,
        length-append c.loop-done.notices.items c.perform-reply.new.notices,
      );
    }
