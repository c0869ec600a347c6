use Rattle.std.proofs.Common.{ap, ◌∙◌, map}
use Rattle.std.proofs.lemmas.List.{take_all, drop_all}
use Rattle.board_terms.specs.Messages.{ticket_of}
use Rattle.message_queues.specs.Queues.{queue_of, with_queue}
use Rattle.synic_board.proofs.machine.resetting.withdraw_all.Goals as goal

pub returns-clause-tickets : goal.returns-clause-tickets
returns-clause-tickets c =
    c.withdraw_front.ensures.tickets
    ∙ ap (map ticket_of) (take_all 320 (queue_of c.args.queues.now c.args.vp c.args.sint) c.requires.few)

pub returns-clause-rest : goal.returns-clause-rest
returns-clause-rest c =
    c.withdraw_front.ensures.rest
    ∙ ap (with_queue c.args.queues.now c.args.vp c.args.sint)
    (drop_all 320 (queue_of c.args.queues.now c.args.vp c.args.sint) c.requires.few)
