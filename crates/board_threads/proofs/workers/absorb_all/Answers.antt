use Rattle.std.proofs.Common.{ap, ◌∙◌}
use Rattle.board_threads.specs.Sharing.{Acting}
use Rattle.board_threads.proofs.Following.{absorbed}
use Rattle.board_threads.proofs.workers.absorb_all.Goals as goal

pub loop-place-preserved : goal.loop-place-preserved
loop-place-preserved g c =
    let i = c.loop-place.invariant in
    let goes = c.in_ok-absorb.ensures.ok.1 in
    let t = absorbed c.loop-place.place c.args.actor c.loop-place.actor _ c.args.actor.calls i.2 _ _ _ i.3 i.4 goes
    c.in_ok-absorb.ensures.refused in
    (ap (λ (a : Acting). a.of) goes ∙ i.0, ap (λ (a : Acting). a.number) goes ∙ i.1, _, t.0, t.1)
