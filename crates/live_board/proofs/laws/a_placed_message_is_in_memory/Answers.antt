use Rattle.live_board.proofs.InMemory.{known-in-memory, placed-in-memory}
use Rattle.live_board.proofs.laws.a_placed_message_is_in_memory.Goals as goal

pub returns-clause-word : goal.returns-clause-word
returns-clause-word c = known-in-memory

pub returns-clause-slot : goal.returns-clause-slot
returns-clause-slot c = placed-in-memory
