use Rattle.std.proofs.Common.{sym, ap, ◌∙◌}
use Rattle.posted_words.specs.Words.{token}
use Rattle.synic_board.specs.Effects.{Outcome}
use Rattle.actor_calls.proofs.Sweeping.{absorb-sweeps, refused-absorb}
use Rattle.shared_board.proofs.locked.LockedBoard.absorb.Goals as goal

pub returns-clause-swept : goal.returns-clause-swept
returns-clause-swept g c =
    let many = c.board.ensures.count ∙ sym c.requires.processors in
    c.sweep_if_there-bits.ensures.swept
    ∙ ap (token c.args.sweeper.now.of)
    (sym (absorb-sweeps c.args.self.now.board.state c.args.words.now.processors c.args.vp c.args.part
    c.sweep_if_there-bits.result c.perform-reply.result c.args.sweeper.now.actions
    (ap (λ (o : Outcome). o.1) c.perform-reply.ensures.performs.step) many))

pub returns-clause-refused : goal.returns-clause-refused
returns-clause-refused g c h =
    let many = c.board.ensures.count ∙ sym c.requires.processors in
    c.sweep_if_there-bits.ensures.none
    (refused-absorb c.args.self.now.board.state c.args.words.now.processors c.args.vp c.args.part
    c.sweep_if_there-bits.result c.perform-reply.result
    (ap (λ (o : Outcome). o.1) c.perform-reply.ensures.performs.step) many h)
