-- The ticket of a message.
use Rattle.std.specs.Prelude.{ℕ}
use Rattle.board_terms.specs.declared.messages.Message.{Message}
use Rattle.board_terms.specs.declared.messages.Message.TheVariants.{FromPort, FromTimer}

abbrev pub ticket_of : Message → ℕ
ticket_of (FromPort ticket port kind payload) = ticket
ticket_of (FromTimer ticket timer expiration) = ticket
