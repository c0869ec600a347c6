use Rattle.std.proofs.Common.{List, ℕ, drop, sym, ◌∙◌, arith}
use Rattle.text_base.proofs.DigitLemmas.{decimal-last, decimal-whole}
use Rattle.text_base.proofs.fronts.digit_before.Goals as goal

pub returns-clause-written : goal.returns-clause-written
returns-clause-written c =
    let after : List ℕ = drop c.args.at c.args.room.now in
    c.text_before.ensures.written ∙ sym (decimal-last 64 c.args.n after (omega arith) c.requires.digit)
    ∙ decimal-whole c.args.n after
