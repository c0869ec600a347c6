use Rattle.std.proofs.Common.{rules, ◌≡◌, ℕ, ◌+◌, ◌*◌, ◌<◌, List, [], length, get_or, arith, sym, ◌∙◌, length-set}
use Rattle.std.proofs.lemmas.Option.{get_or_from_slice_get}
use Rattle.live_board.specs.Words.{word_at, word_of}
use Rattle.live_board.proofs.Filled.{extended}
use Rattle.live_board.proofs.filling.slot_words.Goals as goal

pub loop-k-preserved : goal.loop-k-preserved
loop-k-preserved c =
    let k : ℕ = c.loop-k.k in
    let v : ℕ = c.word_at.result in
    let own : List (List ℕ) = c.args.board.now.state.own in
    let page : get_or own (2 * c.args.vp) [] ≡ c.in-Some.page.now =
    get_or_from_slice_get own (2 * c.args.vp) c.in-Some.page.now [] (sym c.in-Some.ensures.value) in
    let slot : c.from-slot.result ≡ c.args.sint = search rules in
    let long : k < length c.loop-k.words = omega (arith, c.loop-k.invariant.0, c.loop-k-test.true) in
    let here : v ≡ word_of c.args.board.now.state (2 * c.args.vp) (32 * c.args.sint + k) =
    c.word_at.ensures ∙ (λ i. word_at (sym page i) (8 * (32 * slot i + k))) in (
      length-set c.loop-k.words k v ∙ c.loop-k.invariant.0,
      extended c.loop-k.words k v
          (λ j. word_of c.args.board.now.state (2 * c.args.vp) (32 * c.args.sint + j)) long here c.loop-k.invariant.1,
    )
