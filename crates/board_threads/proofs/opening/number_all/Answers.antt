use Rattle.std.proofs.Common.{rules, ◌≡◌, ◌+◌, ◌-◌, [], ◌∷◌, ◌++◌, ap, sym, ◌∙◌, arith}
use Rattle.std.proofs.lemmas.List.FromFn.{map-range_with_len_more}
use Rattle.posted_words.specs.Words.{Token, token}
use Rattle.board_threads.specs.Sharing.{acting, new_actor}
use Rattle.board_threads.proofs.Numbering.{popped}
use Rattle.board_threads.proofs.opening.number_all.Goals as goal

pub loop-number-preserved : goal.loop-number-preserved
loop-number-preserved c = λ t all.
    let i = c.loop-number.invariant t all in
    let p = popped _ _ c.in-Some.sweeper (token t []) (c.args.count - c.loop-number.number)
    (c.args.count - (c.loop-number.number + 1)) c.in-Some.ensures.items i.0
    (omega (arith, c.loop-number-test.true)) in
    let made = c.new.ensures ∙ ap (λ (s : Token). acting s.of c.loop-number.number [] []) p.1 in
    let now : c.push_reserved.new.self.items ≡ c.loop-number.actors.items ++ c.new.result ∷ [] = search rules in (
      p.0,
      now ∙ (λ j. i.1 j ++ made j ∷ [])
          ∙ sym (map-range_with_len_more (new_actor t) 0 c.loop-number.number c.loop-number.number (omega arith)),
    )
