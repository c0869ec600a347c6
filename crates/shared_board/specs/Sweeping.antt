-- What the calls of an actor have to do with the posted words.
use Rattle.std.specs.Prelude.{◌≡◌, List, map, true}
use Rattle.posted_words.specs.declared.rule.Action.{Action}
use Rattle.posted_words.specs.Words.{Token}
use Rattle.actor_calls.specs.Absorbed.{only_raises}
use Rattle.actor_calls.specs.Sweeps.{sweeps_of}
use Rattle.shared_board.specs.Calling.{Calling, call_in}

-- the sweeps of an actor's absorbs, the last one first
abbrev pub swept_by : Calling → List Action
swept_by a = sweeps_of (map call_in a.calls)

-- a line sweeps nothing
abbrev pub OnlyRaises : Token → Type 0
OnlyRaises t = only_raises t.actions ≡ true
