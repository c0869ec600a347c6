use Rattle.std.proofs.Common.{rules, ◌≡◌, ◌+◌, [], ◌++◌, replicate, length, sym, ap, ◌∙◌, arith}
use Rattle.std.specs.Arc.{arc_value}
use Rattle.std.specs.Prelude.{vec_len}
use Rattle.posted_words.specs.Words.{Words, Token, token}
use Rattle.c_handles.proofs.Dealt.{kept, as-many}
use Rattle.c_handles.proofs.line.OwnedLine.open.Goals as goal

pub invariant_of-result : goal.invariant_of-result
invariant_of-result c =
    let same : arc_value c.in-Ok.words ≡ c.in_ok-words.words = c.in-Ok.ensures.ok in
    let joined : c.append.new.self.items ≡ c.in_ok-words.spare.items ++ c.pop.new.self.items = search rules in
    let len : length c.append.new.self.items ≡ vec_len c.append.new.self = search rules in
    let k = kept c.in_ok-words.spare.items c.in_ok-words.lines.items c.pop.new.self.items c.append.new.self.items
    c.in-Some.line (token c.in_ok-words.words.name []) 64 255 256
    c.in_ok-words.ensures.sweepers c.in_ok-words.ensures.lines (omega arith) c.in-Some.ensures.items joined in
    let all = as-many c.append.new.self.items (token c.in_ok-words.words.name []) (64 + 255) k.0 in (
      ap (λ (t : Token). t.of) k.1 ∙ ap (λ (w : Words). w.name) (sym same),
      all ∙ ap (λ n. replicate n (token c.in_ok-words.words.name [])) len
          ∙ ap (λ (w : Words). replicate (vec_len c.append.new.self) (token w.name [])) (sym same),
    )
