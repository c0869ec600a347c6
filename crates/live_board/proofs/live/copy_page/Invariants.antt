use Rattle.std.proofs.Common.{◌≡◌, ℕ, ◌<◌, ◌*◌, []}
use Rattle.live_pages.specs.Page.{guest_of}
use Rattle.live_pages.specs.Words.{known}
use Rattle.live_board.specs.Words.{word_at}
use Rattle.live_board.proofs.live.copy_page.Given as goal

abbrev pub invariant-loop-word : goal.invariant-loop-word
invariant-loop-word l =
    ((x : ℕ) → x < l.word → known l.page.log x ≡ word_at l.own (8 * x)) × (l.guest ≡ guest_of l.page.name [])
