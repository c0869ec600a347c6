use denote.Param.Send.{IsSend}
use Rattle.ghost_history.proofs.Tokens.{roster_send}
use Rattle.ghost_history.specs.contracts.roster.Roster.{the_row}

pub send : IsSend the_row
send = roster_send
