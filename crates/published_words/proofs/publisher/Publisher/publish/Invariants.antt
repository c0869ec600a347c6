use Rattle.std.proofs.Common.{◌≡◌}
use Rattle.published_words.proofs.Storing.{IsStoredBelow}
use Rattle.published_words.proofs.publisher.Publisher.publish.Given as goal

abbrev pub invariant-loop-number : goal.invariant-loop-number
invariant-loop-number l =
    (l.self.of ≡ l.fn.self.of) × IsStoredBelow l.words.start l.history.entries l.number l.fn.self.logs l.self.logs
