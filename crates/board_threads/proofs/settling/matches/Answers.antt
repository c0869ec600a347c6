use Rattle.std.proofs.Common.{rules, ◌≡◌, Bool, true, false, not, refl, take, ap, sym, ◌∙◌, arith}
use Rattle.synic_board.proofs.Same.{same-event}
use Rattle.actor_calls.proofs.Taking.{taken-on}
use Rattle.board_threads.proofs.Matching.{matched, skipped}
use Rattle.board_threads.proofs.settling.matches.Goals.{then-entry-actor+else-next-calls+else-ne+else-ne-2, else-entry-actor}
use Rattle.board_threads.proofs.settling.matches.Goals as goal

holds : (b : Bool) → not b ≡ false → b ≡ true
holds true e = refl
holds false e = absurd (cc)

pub loop-entry-preserved : goal.loop-entry-preserved
loop-entry-preserved c =
    let was = c.loop-entry.invariant.1 in
    let calls = c.as_slice-calls.result.now in
    let i = c.loop-entry.entry-index in
    let more = taken-on c.args.history.now i c.entry-item.result c.loop-entry-test.true c.entry-item.is in
    elim c.if-entry-actor.branch [
      | then-entry-actor+else-next-calls+else-ne+else-ne-2 w ↦ (
        omega (arith, w.next-is, w.if-next-calls.false),
        (let call = w.index-calls-next.result in
            let event : c.entry-item.result.event ≡ call.0 =
            same-event c.entry-item.result.event call.0 (holds _ (sym w.ne.ensures ∙ w.if-ne.false)) in
            let reply : c.entry-item.result.reply ≡ call.1 = search rules in
            let longer =
            ap (λ n. take n calls) w.next-is
            ∙ taken-on calls c.loop-entry.next call (omega (arith, w.if-next-calls.false)) w.index-calls-next.is in
            matched _ _ _ _ _ c.entry-item.result call.0 call.1 more was w.if-entry-actor.true longer event reply),
      )
      | else-entry-actor w ↦ (
        omega (arith, w.next-is, c.loop-entry.invariant.0),
        skipped _ _ _ _ c.entry-item.result more was w.if-entry-actor.false ∙ ap (λ n. take n calls) (sym w.next-is),
      )
    ]
