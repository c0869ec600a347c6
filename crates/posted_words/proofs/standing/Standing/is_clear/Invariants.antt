use Rattle.std.proofs.Common.{◌≡◌, All, take}
use Rattle.posted_words.proofs.standing.Standing.is_clear.Given as goal

abbrev pub invariant-loop-word : goal.invariant-loop-word
invariant-loop-word l = All (λ word. word ≡ 0) (take l.word-index l.words)
