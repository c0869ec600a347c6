use Rattle.board_threads.proofs.Crewing.{all-of, all-lines-of, all-only-raise}
use Rattle.board_threads.proofs.Ending.{finishes}
use Rattle.board_threads.proofs.working.finish.Goals as goal

pub settle-requires-clause-actors : goal.settle-requires-clause-actors
settle-requires-clause-actors g c κs within = λ k d lt. all-of _ _ _ _ _ _ c.requires.worked k d lt

pub settle-requires-clause-lines : goal.settle-requires-clause-lines
settle-requires-clause-lines g c κs within = λ k d lt. all-lines-of _ _ _ _ _ _ c.requires.worked k d lt

pub settle-requires-clause-raises : goal.settle-requires-clause-raises
settle-requires-clause-raises g c κs within = λ k d lt. all-only-raise _ _ _ _ _ _ c.requires.worked k d lt

pub returns : goal.returns
returns g c =
    finishes g.S.Origin.start c.args.board.name c.args.setup.now c.args.scripts.now c.args.worked.actors.items
    c.args.worked.lines.items c.args.worked.raised c.requires.worked
    c.in_ok-ended.ended c.in_ok-ended.ensures.settled c.in_ok-ended.ensures.actors c.args.board.processors
    c.requires.processors c.in_ok-ended.ensures.raises
    c.crew_end.result c.crew_end.ensures.ended c.crew_end.ensures.raised c.crew_end.ensures.placed
    c.crew_end.ensures.clear
