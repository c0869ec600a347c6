use Rattle.std.proofs.Common.{◌≡◌}
use Rattle.live_board.specs.inside.Parts.{IsLoads}
use Rattle.live_board.proofs.refreshing.load_words.Given as goal

abbrev pub invariant-loop-word : goal.invariant-loop-word
invariant-loop-word l =
    IsLoads l.fn.board.state l.fn.vp l.fn.kind l.fn.page.log l.board.state l.page.log l.fn.notices l.notices l.word
    × (l.page.name ≡ l.fn.page.name)
