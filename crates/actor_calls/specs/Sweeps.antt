-- The sweeps of the absorbs among an actor's calls, as the log of its sweeper.
use Rattle.std.specs.Prelude.{ℕ, Bool, true, false, List, [], ◌∷◌, if◌then◌else◌, reverse}
use Rattle.std.specs.List.{flat_map, sum_by}
use Rattle.synic_board.specs.declared.event.Event.{Event}
use Rattle.synic_board.specs.declared.event.Event.TheVariants.{Absorb}
use Rattle.synic_board.specs.declared.event.Reply.{Reply}
use Rattle.synic_board.specs.declared.event.Reply.TheVariants.{Refused}
use Rattle.synic_board.specs.declared.history.Entry.{Entry}
use Rattle.posted_words.specs.declared.rule.Action.{Action}
use Rattle.posted_words.specs.Action.{times_taken}
use Rattle.posted_words.specs.Words.{sweep_of}
use Rattle.actor_calls.specs.Calls.{Call}

abbrev pub is_absorb : Event → Bool
is_absorb (Absorb vp part bits) = true
is_absorb _ = false

abbrev pub is_refusal : Reply → Bool
is_refusal (Refused refusal) = true
is_refusal _ = false

-- an absorb swept its word, unless it was refused
abbrev pub sweep_in : Event → Reply → List Action
sweep_in (Absorb vp part bits) reply = if is_refusal reply then [] else sweep_of vp part bits ∷ []
sweep_in _ reply = []

-- the sweeps among calls, the last first
abbrev pub sweeps_of : List Call → List Action
sweeps_of calls = flat_map (λ (c : Call). sweep_in c.0 c.1) (reverse calls)

-- how often the bit b of the word w was absorbed: the absorbs with that bit that were not refused
abbrev pub times_absorbed : ℕ → ℕ → List Entry → ℕ
times_absorbed w b history = sum_by (λ (e : Entry). times_taken w b (sweep_in e.event e.reply)) history
