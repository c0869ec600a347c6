use Rattle.std.proofs.Common.{◌≡◌, map, Vec, Global}
use Rattle.posted_words.specs.Words.{Token}
use Rattle.posted_words.specs.declared.line.Raised.{Raised}
use Rattle.board_threads.proofs.working.split_lines.Given as goal

abbrev pub invariant-loop-line : goal.invariant-loop-line
invariant-loop-line l =
    (l.lines.items ≡ map (λ (x : Token × Vec Raised Global). x.0) l.yielded)
    × (l.answers.items ≡ map (λ (x : Token × Vec Raised Global). x.1) l.yielded)
