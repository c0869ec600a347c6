use Rattle.std.proofs.Common.{subst, arith}
use Rattle.synic_board.specs.declared.event.Event.TheVariants.{Post}
use Rattle.synic_board.specs.State.{BoardModel}
use Rattle.synic_board.specs.Performing.{Performs}
use Rattle.synic_board.proofs.Performing.{performs}
use Rattle.synic_board.proofs.keeping.Steps.{sound}
use Rattle.synic_board.proofs.keeping.Buffers.{buffered}
use Rattle.synic_board.proofs.keeping.Settled.{settled}
use Rattle.synic_board.proofs.board.Board.post.Goals as goal

pub invariant_of-self : goal.invariant_of-self
invariant_of-self c = (
  sound _ _ _ _ _ c.requires c.perform_post.ensures.step c.self.invariant.0,
  buffered _ _ _ _ _ c.perform_post.ensures.step c.self.invariant.1,
  settled _ _ _ _ _ c.perform_post.ensures.step c.self.invariant.2,
)

pub returns-clause-performs : goal.returns-clause-performs
returns-clause-performs c =
    subst (λ (h : BoardModel). Performs h
    (Post c.args.port c.args.kind (record { items = c.args.payload.now })) c.perform_post.new.self
    c.perform_post.result c.perform_post.new.notices) c.self.view_is
    (performs _ _ _ _ _ c.requires c.perform_post.ensures.step c.self.invariant.0 c.self.invariant.1
    (omega (arith, c.perform_post.ensures)) (omega (arith, c.perform_post.ensures)))
