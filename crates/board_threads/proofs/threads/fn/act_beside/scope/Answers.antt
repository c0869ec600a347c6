use Rattle.std.proofs.Common.{rules, ◌≡◌, List, subst, ◌∙◌}
use Rattle.board_threads.specs.inside.Work.{HasActed}
use Rattle.board_threads.specs.declared.script.Step.{Step}
use Rattle.board_threads.proofs.Started.{pair, given, numbers-kept, acted, raised}
use Rattle.board_threads.proofs.threads.fn.act_beside.scope.Goals as goal

pub returns : goal.returns
returns g c =
    let acting = c.in_ok-acting.acting.items in
    let raising = c.in_ok-raising.raising.items in
    let others = c.in_ok-others.others.items in
    let lines = c.in_ok-lines.lines.items in
    let name = c.captures.board.now.name in
    let same : c.as_slice.result.now ≡ c.captures.own.now.items = search rules in (
      subst (λ (l : List Step). HasActed name c.captures.first.number l c.in_ok-first.first) same c.in_ok-first.ensures,
      record {
        numbers = numbers-kept _ (λ h. h.promise.number) (λ a. a.number)
            (λ h a kept. kept.same) acting others c.in_ok-others.ensures ∙ c.in_ok-acting.ensures.numbers;
        acted = given _ _ (λ h. pair h.promise.board.now.name h.promise.script.now) (λ s. pair name s.items)
            (λ h s a is kept. acted name h.promise.board.now.name h.promise.number h.promise.script.now s a is kept)
            acting c.captures.acts.now others
            c.in_ok-acting.ensures.scripts c.in_ok-others.ensures;
        raised = given _ _ (λ h. pair h.promise.board.now.name h.promise.script.now) (λ s. pair name s.items)
            (λ h s x is kept. raised name h.promise.board.now.name h.promise.script.now s x is kept) raising
            c.captures.raises.now lines c.in_ok-raising.ensures.scripts c.in_ok-lines.ensures;
      },
    )
