use Rattle.std.proofs.Common.{◌≡◌, rules}
use Rattle.gpa_space.specs.Space.{overlay_of}
use Rattle.live_board.specs.Words.{word_of}
use Rattle.live_board.proofs.Passed.{passed-equal}
use Rattle.live_board.proofs.passing.pass.Goals as goal

pub returns-else-own_word-value : goal.returns-else-own_word-value
returns-else-own_word-value c =
    let same : c.args.value ≡ word_of c.args.board.now.state (overlay_of c.args.vp c.args.kind) c.args.word =
    search rules in
    passed-equal _ _ _ _ _ _ same
