use Rattle.std.proofs.Common.{◌≡◌, ℕ, ◌<◌, ◌*◌, length, get_or}
use Rattle.live_board.specs.Words.{word_of}
use Rattle.live_board.proofs.publishing.page_words.Given as goal

abbrev pub invariant-loop-word : goal.invariant-loop-word
invariant-loop-word l =
    (length l.words ≡ 512) × ((x : ℕ) → x < l.word → get_or l.words x 0 ≡ word_of l.board.state (2 * l.fn.vp) x)
