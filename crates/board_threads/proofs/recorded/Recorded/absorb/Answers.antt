use Rattle.std.proofs.Common.{sym, ap, ◌∙◌}
use Rattle.posted_words.specs.Words.{token}
use Rattle.actor_calls.proofs.Sweeping.{absorb-sweeps, refused-absorb}
use Rattle.board_threads.proofs.recorded.Recorded.absorb.Goals as goal

pub returns-clause-swept : goal.returns-clause-swept
returns-clause-swept g c =
    c.sweep_if_there-bits.ensures.swept
    ∙ ap (token c.args.sweeper.now.of)
    (sym (absorb-sweeps _ _ c.args.vp c.args.part c.sweep_if_there-bits.result c.perform-reply.result
    c.args.sweeper.now.actions c.perform-reply.ensures.reply
    (c.make_room.new.self.count ∙ sym c.requires.processors)))

pub returns-clause-refused : goal.returns-clause-refused
returns-clause-refused g c h =
    c.sweep_if_there-bits.ensures.none
    (refused-absorb _ _ c.args.vp c.args.part c.sweep_if_there-bits.result c.perform-reply.result
    c.perform-reply.ensures.reply (c.make_room.new.self.count ∙ sym c.requires.processors) h)
