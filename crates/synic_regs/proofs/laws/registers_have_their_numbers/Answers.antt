use Rattle.synic_regs.proofs.Numbers.{have_their_numbers}
use Rattle.synic_regs.proofs.laws.registers_have_their_numbers.Goals as goal

pub returns : goal.returns
returns c = have_their_numbers
