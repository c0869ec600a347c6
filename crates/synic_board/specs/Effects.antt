-- The effects of events: an effect is a state and notices, an outcome also has a reply.
use Rattle.std.specs.Prelude.{nat_lt, List, [], ◌++◌, if◌then◌else◌}
use Rattle.board_terms.specs.Quantities.{Processor}
use Rattle.board_terms.specs.declared.notices.Notice.{Notice}
use Rattle.board_terms.specs.declared.refusal.Refusal.{Refusal}
use Rattle.board_terms.specs.declared.refusal.Refusal.TheVariants.{NoSuchProcessor}
use Rattle.synic_board.specs.declared.event.Reply.{Reply}
use Rattle.synic_board.specs.declared.event.Reply.TheVariants.{Refused}
use Rattle.synic_board.specs.State.{State, processors}

-- a state, and the notices emitted before it is reached
abbrev pub Effect : Type 0
Effect = State × List Notice

-- nothing happens
abbrev pub nothing : State → Effect
nothing s = (s, [])

-- one effect after another
abbrev pub after : Effect → Effect → Effect
after e f = (f.0, e.1 ++ f.1)

-- the state after an event, the reply and the notices
abbrev pub Outcome : Type 0
Outcome = State × Reply × List Notice

abbrev pub answered : Reply → Effect → Outcome
answered reply e = (e.0, reply, e.1)

-- a reply without a change of the state and without notices
abbrev pub unchanged : State → Reply → Outcome
unchanged s reply = (s, reply, [])

abbrev pub refused : State → Refusal → Outcome
refused s r = unchanged s (Refused r)

-- the outcome of an event of processor p; refused if p is not on the board
abbrev pub at_processor : State → Processor → Outcome → Outcome
at_processor s p outcome = if nat_lt p (processors s) then outcome else refused s NoSuchProcessor
