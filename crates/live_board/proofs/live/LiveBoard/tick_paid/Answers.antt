use Rattle.std.proofs.Common.{subst}
use Rattle.live_board.specs.Acting.{ArePaid}
use Rattle.live_board.proofs.live.LiveBoard.tick_paid.Goals as goal

pub returns-clause-ticked : goal.returns-clause-ticked
returns-clause-ticked c =
    let paid = c.pay_all.ensures.paid in
    record {
      mid = c.tick_any-reply.new.self;
      first = c.tick_any-reply.new.notices;
      last = paid.0;
      ticked = c.tick_any-reply.ensures.ticked;
      paid = subst (λ n. ArePaid c.tick_any-reply.result.1 n c.tick_any-reply.new.self c.pay_all.new.self paid.0)
          c.tick_any-reply.ensures.processors paid.1;
      joined = paid.2;
    }
