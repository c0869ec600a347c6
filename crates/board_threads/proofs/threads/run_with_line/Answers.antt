use Rattle.std.proofs.Common.{All, length, drop, sym, subst, ◌∙◌, arith}
use Rattle.std.proofs.lemmas.List.Elements.{All-head, All-tail}
use Rattle.board_threads.specs.inside.Work.{IsNewLine}
use Rattle.board_threads.proofs.Crewing.{split-first}
use Rattle.board_threads.proofs.threads.run_with_line.Goals as goal

pub raise_beside-requires-clause-new_first : goal.raise_beside-requires-clause-new_first
raise_beside-requires-clause-new_first g c κs within =
    let name = c.args.board.now.name in
    let parts = split-first c.args.lines.items c.pop.new.self.items c.in-Some.first (length c.args.raises.now)
    (omega (arith, c.requires.each, c.args.lines.ok.0))
    (sym c.in-Ok.ensures.items ∙ c.in-Some.ensures.items) in
    All-head (IsNewLine name) c.in-Some.first (drop 1 c.args.lines.items)
    (subst (All (IsNewLine name)) parts.1 c.requires.new)

pub raise_beside-requires-clause-new_others : goal.raise_beside-requires-clause-new_others
raise_beside-requires-clause-new_others g c κs within =
    let name = c.args.board.now.name in
    let parts = split-first c.args.lines.items c.pop.new.self.items c.in-Some.first (length c.args.raises.now)
    (omega (arith, c.requires.each, c.args.lines.ok.0))
    (sym c.in-Ok.ensures.items ∙ c.in-Some.ensures.items) in
    λ k d lt. subst (All (IsNewLine name)) (sym c.in-Ok.ensures.tail)
    (All-tail (IsNewLine name) c.in-Some.first (drop 1 c.args.lines.items)
    (subst (All (IsNewLine name)) parts.1 c.requires.new)) k d lt
