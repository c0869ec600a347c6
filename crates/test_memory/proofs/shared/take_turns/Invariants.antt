use Rattle.std.proofs.Common.{◌≡◌, true}
use Rattle.posted_words.specs.Words.{IsOf}
use Rattle.actor_calls.specs.Absorbed.{only_raises}
use Rattle.test_memory.proofs.shared.take_turns.Given as goal

abbrev pub invariant-loop-turn : goal.invariant-loop-turn
invariant-loop-turn g l =
    (l.actor.of ≡ l.initial.actor.of) × IsOf l.board.name l.line × (only_raises l.line.actions ≡ true)
