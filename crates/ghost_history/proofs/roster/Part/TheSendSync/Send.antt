use denote.Param.Send.{IsSend}
use Rattle.ghost_history.proofs.Tokens.{part_send}
use Rattle.ghost_history.specs.contracts.roster.Part.{the_row}

pub send : IsSend the_row
send = part_send
