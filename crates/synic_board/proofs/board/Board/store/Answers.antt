use Rattle.std.proofs.Common.{subst, arith}
use Rattle.synic_board.specs.declared.event.Event.TheVariants.{Store}
use Rattle.synic_board.specs.State.{BoardModel}
use Rattle.synic_board.specs.Performing.{Performs}
use Rattle.synic_board.proofs.Performing.{performs}
use Rattle.synic_board.proofs.keeping.Steps.{sound}
use Rattle.synic_board.proofs.keeping.Buffers.{buffered}
use Rattle.synic_board.proofs.keeping.Settled.{settled}
use Rattle.synic_board.proofs.board.Board.store.Goals as goal

pub invariant_of-self : goal.invariant_of-self
invariant_of-self c = (
  sound _ _ _ _ _ tt c.perform_store.ensures.step c.self.invariant.0,
  buffered _ _ _ _ _ c.perform_store.ensures.step c.self.invariant.1,
  settled _ _ _ _ _ c.perform_store.ensures.step c.self.invariant.2,
)

pub returns-clause-performs : goal.returns-clause-performs
returns-clause-performs c =
    subst (λ (h : BoardModel). Performs h
    (Store c.args.address (record { items = c.args.bytes.now })) c.perform_store.new.self c.perform_store.result
    c.perform_store.new.notices) c.self.view_is
    (performs _ _ _ _ _ tt c.perform_store.ensures.step c.self.invariant.0 c.self.invariant.1
    (omega (arith, c.perform_store.ensures)) (omega (arith, c.perform_store.ensures)))
