-- A log is `Send`: it has no bytes, and its ghost value does not depend on the thread.
use denote.Param.Send.{IsSend}
use Rattle.ghost_history.specs.contracts.history.History.{the_row}

pub send : IsSend the_row
send = record { owned = λ n vs. ((λ vss. (tt, ((λ uss. (tt, tt)), tt))), tt); leaving = λ k d w. tt }
