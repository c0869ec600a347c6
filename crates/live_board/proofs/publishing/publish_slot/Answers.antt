use Rattle.std.proofs.Common.{rules, ◌≡◌, ◌*◌, ◌<◌, get_or, sym, ap, ◌∙◌, arith}
use Rattle.live_board.specs.Words.{word_of}
use Rattle.live_board.proofs.Published.{filled-kept}
use Rattle.live_board.proofs.publishing.publish_slot.Goals as goal

pub returns-then-own_word-words-clause-slot : goal.returns-then-own_word-words-clause-slot
returns-then-own_word-words-clause-slot c =
    let sint : c.from-slot.result ≡ c.args.sint = search rules in
    let place : 32 * c.from-slot.result ≡ 32 * c.args.sint = ap (λ n. 32 * n) sint in
    let under : c.args.sint < 16 = omega (arith, c.number.ensures.range) in
    let head : get_or c.args.words.now (32 * c.args.sint) 0
    ≡ word_of c.args.board.now.state (2 * c.args.vp) (32 * c.args.sint) =
    ap (λ n. get_or c.args.words.now n 0) (sym place) ∙ sym c.if-own_word-words.true ∙ c.own_word.ensures
    ∙ ap (word_of c.args.board.now.state (2 * c.args.vp)) place in
    filled-kept _ _ _ _ _ (sym head) (λ k low. c.requires.known k low ∙ c.requires.kept c.args.sint under head k low)
