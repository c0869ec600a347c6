use Rattle.std.proofs.Common.{arith}
use Rattle.std.proofs.lemmas.List.{take_rest}
use Rattle.c_terms.proofs.Batching.{next_none, done_none, done_more}
use Rattle.c_terms.proofs.Rooms.{put_rest}
use Rattle.c_terms.proofs.batches.perform_batch.Goals as goal

pub loop-done-init : goal.loop-done-init
loop-done-init c = done_none _ _ _

pub returns-in_default-clause-none : goal.returns-in_default-clause-none
returns-in_default-clause-none c =
    λ _. next_none _ _ _ c.loop-done-test.true (rw c.in_default.is at c.perform_c.ensures.none)

pub loop-done-preserved : goal.loop-done-preserved
loop-done-preserved c =
    let put = rw (c.as_slice-given.ensures.value, take_rest c.loop-done.notices c.loop-done.emitted) at
    c.put_plain.ensures in
    let bound = rw c.in-Some.is at c.perform_c.ensures.bound in
    rw (
      c.reply_to_c.ensures,
      c.as_slice-given.ensures.value,
      put_rest c.loop-done.notices c.put_plain.new.room c.loop-done.emitted,
    )
    (done_more _ _ _ _ (c.perform_c.new.board.state, c.in-Some.reply, c.perform_c.new.notices) _ _ _ _ _ _ _
    c.loop-done.invariant
    (omega arith) (rw c.in-Some.is at c.perform_c.ensures.step) (omega arith) (omega (arith, bound)) put)
