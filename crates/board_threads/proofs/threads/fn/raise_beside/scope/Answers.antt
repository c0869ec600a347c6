use Rattle.std.proofs.Common.{rules, ◌≡◌, List, ℕ, subst}
use Rattle.board_threads.specs.inside.Work.{HasRaised}
use Rattle.board_threads.proofs.Started.{pair, given, raised}
use Rattle.board_threads.proofs.threads.fn.raise_beside.scope.Goals as goal

pub returns : goal.returns
returns g c =
    let raising = c.in_ok-raising.raising.items in
    let others = c.in_ok-others.others.items in
    let first = c.in_ok-first.first in
    let name = c.captures.board.now.name in
    let same : c.as_slice.result.now ≡ c.captures.own.now.items = search rules in (
      subst (λ (l : List (ℕ × ℕ)). HasRaised name l first.0 first.1.items) same c.in_ok-first.ensures,
      given _ _ (λ h. pair h.promise.board.now.name h.promise.script.now) (λ s. pair name s.items)
          (λ h s x is kept. raised name h.promise.board.now.name h.promise.script.now s x is kept) raising
          c.captures.raises.now others c.in_ok-raising.ensures.scripts c.in_ok-others.ensures,
    )
