use Rattle.std.proofs.Common.{◌<◌, List, sym, subst, arith}
use mathlib.Core.List.{IsPrefix}
use Rattle.synic_board.specs.declared.history.Entry.{Entry}
use Rattle.published_words.specs.Values.{word_count}
use Rattle.published_words.proofs.publisher.Publisher.publish.Goals as goal

pub store-requires-clause-later : goal.store-requires-clause-later
store-requires-clause-later c =
    let n = c.loop-number.number in
    let there : n < word_count c.args.words.now.start =
    omega (arith, c.loop-number-test.true, c.processors-processors.ensures.count) in
    subst (λ (l : List Entry). IsPrefix l c.args.history.now.entries)
    (sym (c.loop-number.invariant.1.above n (omega arith))) (c.requires.continued.later n there)
