use Rattle.gpa_space.proofs.Loads.{stored_are_loaded}
use Rattle.gpa_space.proofs.laws.stored_bytes_are_loaded.Goals as goal

pub returns : goal.returns
returns c = stored_are_loaded
