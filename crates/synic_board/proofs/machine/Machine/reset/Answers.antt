use Rattle.std.proofs.Common.{ap, ◌∙◌, arith}
use Rattle.synic_board.specs.State.{processors}
use Rattle.synic_board.specs.Effects.{Effect}
use Rattle.synic_board.proofs.Emptying.{same_left}
use Rattle.synic_board.proofs.machine.Machine.reset.Goals as goal

pub clear-requires : goal.clear-requires
clear-requires c =
    let same = ap (λ (x : Effect). processors x.0) c.empty.ensures.effect
    ∙ same_left c.args.self.now.state c.args.vp 16 in
    omega (arith, same, c.requires.on)
