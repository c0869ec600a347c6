use Rattle.synic_board.proofs.keeping.Steps.{slot-left, ticket-left}
use Rattle.law_board.proofs.an_occupied_slot_is_left_to_the_guest.Goals as goal

pub returns-clause-occupied : goal.returns-clause-occupied
returns-clause-occupied c = slot-left

pub returns-clause-held : goal.returns-clause-held
returns-clause-held c = ticket-left
