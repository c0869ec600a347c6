use Rattle.std.proofs.Common.{◌≡◌, ℕ, ◌<◌, ◌+◌, ◌*◌, length, get_or}
use Rattle.live_board.specs.Words.{word_of}
use Rattle.live_board.proofs.filling.slot_words.Given as goal

abbrev pub invariant-loop-k : goal.invariant-loop-k
invariant-loop-k l =
    (length l.words ≡ 32) × ((j : ℕ) → j < l.k
    → get_or l.words j 0 ≡ word_of l.board.state (2 * l.fn.vp) (32 * l.fn.sint + j))
