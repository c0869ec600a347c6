use Rattle.std.proofs.Common.{◌≡◌, All, map}
use Rattle.posted_words.specs.Words.{token}
use Rattle.board_threads.specs.Sharing.{Acting}
use Rattle.board_threads.specs.Settling.{calls_held, calls_given}
use Rattle.actor_calls.specs.Sweeps.{sweeps_of}
use Rattle.board_threads.proofs.settling.split_all.Given as goal

abbrev pub invariant-loop-actor : goal.invariant-loop-actor
invariant-loop-actor l =
    (l.sweepers.items ≡ map (λ (a : Acting). token a.of a.actions) l.yielded)
    × (map calls_given l.ended.items ≡ map calls_held l.yielded)
    × All (λ (a : Acting). a.actions ≡ sweeps_of a.calls) l.yielded
