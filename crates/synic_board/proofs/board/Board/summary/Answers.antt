use Rattle.std.proofs.Common.{◌≡◌, length, sym, ap, ◌∙◌, subst}
use Rattle.synic_board.specs.State.{BoardModel, processors}
use Rattle.synic_board.specs.Summaries.{Values, HasSizes}
use Rattle.synic_board.specs.declared.board.Board.TheInside.{Inside}
use Rattle.synic_board.specs.inside.View.{model_of, state_of}
use Rattle.synic_board.proofs.Sizes.{has_sizes}
use Rattle.synic_board.proofs.board.Board.summary.Goals as goal

pub returns-clause-sizes : goal.returns-clause-sizes
returns-clause-sizes c =
    let machine = c.self-inside.inside.0.0 in
    let state = state_of machine in
    let sized =
    subst (λ (v : Values). HasSizes (processors state) (length state.pages) v) (sym c.self-inside.invariant.summary)
    (has_sizes machine c.self-inside.invariant) in
    let same : model_of machine ≡ c.args.self.now =
    ap (λ (i : Inside). i.machine) c.self-inside.view_is ∙ c.self.view_is in
    subst (λ (m : BoardModel). HasSizes (processors m.state) (length m.state.pages) machine.summary.values) same sized
