use Rattle.std.proofs.Common.{◌≡◌, ℕ, ◌*◌, ◌<◌, List, [], length, get_or, arith, sym, ap, ◌∙◌, length-set}
use Rattle.std.proofs.lemmas.Option.{get_or_from_slice_get}
use Rattle.live_board.specs.Words.{word_at, word_of}
use Rattle.live_board.proofs.Filled.{extended}
use Rattle.live_board.proofs.publishing.page_words.Goals as goal

pub loop-word-preserved : goal.loop-word-preserved
loop-word-preserved c =
    let own : List (List ℕ) = c.args.board.now.state.own in
    let page : get_or own (2 * c.args.vp) [] ≡ c.in-Some.page.now =
    get_or_from_slice_get own (2 * c.args.vp) c.in-Some.page.now [] (sym c.in-Some.ensures.value) in
    let long : c.loop-word.word < length c.loop-word.words =
    omega (arith, c.loop-word.invariant.0, c.loop-word-test.true) in
    let here : c.word_at.result ≡ word_of c.args.board.now.state (2 * c.args.vp) c.loop-word.word =
    c.word_at.ensures ∙ ap (λ l. word_at l (8 * c.loop-word.word)) (sym page) in (
      length-set c.loop-word.words c.loop-word.word c.word_at.result ∙ c.loop-word.invariant.0,
      extended c.loop-word.words c.loop-word.word c.word_at.result
          (word_of c.args.board.now.state (2 * c.args.vp)) long here c.loop-word.invariant.1,
    )
