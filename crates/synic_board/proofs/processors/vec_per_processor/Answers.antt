use Rattle.std.proofs.Common.{◌++◌, ◌∙◌, ap, take}
use lib.Seq.{take-nil}
use Rattle.synic_board.proofs.processors.vec_per_processor.Goals as goal

pub returns-clause-made : goal.returns-clause-made
returns-clause-made g c =
    let made = (c.in_ok-resize_with.ensures {u = tt}).items in (
      made.0,
      made.1,
      made.2 ∙ ap (λ old. take c.args.processors old ++ made.0) c.new-list.ensures.items
          ∙ ap (λ old. old ++ made.0) (take-nil c.args.processors),
      made.3,
    )
