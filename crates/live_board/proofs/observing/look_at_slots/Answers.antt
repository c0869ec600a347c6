use Rattle.std.proofs.Common.{rules}
use Rattle.live_board.specs.inside.Parts.{IsOther}
use Rattle.live_board.proofs.observing.look_at_slots.Goals as goal

pub look_on-requires-clause-other : goal.look_on-requires-clause-other
look_on-requires-clause-other c =
    let o : IsOther c.args.board.now.state c.args.vp c.in-Some.other c.in-Some.found c.args.page.now.log
    c.look_until_other.new.page.log = search rules in
    (c.args.page.now.log, o)

pub returns-in-Some-clause-looks : goal.returns-in-Some-clause-looks
returns-in-Some-clause-looks c =
    let o : IsOther c.args.board.now.state c.args.vp c.in-Some.other c.in-Some.found c.args.page.now.log
    c.look_until_other.new.page.log = search rules in
    c.look_on.ensures.looks c.args.page.now.log o
