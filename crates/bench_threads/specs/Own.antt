-- Ownership by a board.
use Rattle.std.specs.Prelude.{◌≡◌, true}
use Rattle.board_threads.specs.Sharing.{Acting}
use Rattle.actor_calls.specs.Absorbed.{only_raises}
use Rattle.posted_words.specs.Words.{Words, Token}
use Rattle.bench_threads.specs.declared.worker.Worker.{Worker}

-- an actor of this board
abbrev pub IsOwnActor : Words → Acting → Type 0
IsOwnActor board a = a.of ≡ board.name

-- a line of this board that has swept nothing
abbrev pub IsOwnLine : Words → Token → Type 0
IsOwnLine board l = (l.of ≡ board.name) × (only_raises l.actions ≡ true)

-- a worker of this board
abbrev pub IsOwn : Words → Worker → Type 0
IsOwn board w = IsOwnActor board w.actor × IsOwnLine board w.line
