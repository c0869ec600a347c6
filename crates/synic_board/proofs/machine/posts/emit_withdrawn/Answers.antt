use Rattle.std.proofs.Common.{arith}
use Rattle.board_terms.specs.declared.notices.Notice.TheVariants.{Withdrawn}
use Rattle.synic_board.proofs.Telling.{told_none, told_more, told_all, emitted-room}
use Rattle.synic_board.proofs.machine.posts.emit_withdrawn.Goals as goal

pub loop-ticket-init : goal.loop-ticket-init
loop-ticket-init c = told_none (λ t. Withdrawn c.args.vp c.args.sint t) c.args.notices.now c.args.tickets.now

pub push-requires : goal.push-requires
push-requires c = emitted-room _ _ _ _ _ c.loop-ticket-test.true c.loop-ticket.invariant c.requires

pub loop-ticket-preserved : goal.loop-ticket-preserved
loop-ticket-preserved c = told_more _ _ _ _ _ _ c.loop-ticket-test.true c.loop-ticket.invariant c.push.ensures

pub returns : goal.returns
returns c = told_all _ _ _ _ _ (omega arith) c.loop-ticket.invariant
