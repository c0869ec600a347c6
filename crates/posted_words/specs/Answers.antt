-- The results of raises.
use Rattle.std.specs.Prelude.{Bool, true, false}
use Rattle.posted_words.specs.declared.line.Raised.{Raised}
use Rattle.posted_words.specs.declared.line.Raised.TheVariants.{Fresh, Already}

abbrev pub is_fresh : Raised → Bool
is_fresh Fresh = true
is_fresh Already = false
