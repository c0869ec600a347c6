use Rattle.board_terms.specs.declared.notices.Notice.TheVariants.{Withdrawn}
use Rattle.synic_board.proofs.Telling.{Told}
use Rattle.synic_board.proofs.machine.posts.emit_withdrawn.Given as goal

abbrev pub invariant-loop-ticket : goal.invariant-loop-ticket
invariant-loop-ticket l = Told (λ t. Withdrawn l.vp l.sint t) l.fn.notices l.tickets l.ticket-index l.notices
