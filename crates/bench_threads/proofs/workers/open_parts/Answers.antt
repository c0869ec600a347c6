use Rattle.std.proofs.Common.{◌≡◌, List, All, subst, sym}
use Rattle.std.specs.List.{range_with_len}
use Rattle.board_threads.specs.Sharing.{Acting}
use Rattle.bench_threads.proofs.Opening.{all-of}
use Rattle.bench_threads.proofs.workers.open_parts.Goals as goal

pub returns-in-Ok-clause-actors : goal.returns-in-Ok-clause-actors
returns-in-Ok-clause-actors c =
    let name = c.in-Ok.opened.0.name in
    subst (λ (l : List Acting). All (λ (a : Acting). a.of ≡ name) l) (sym c.in-Ok.ensures.actors)
    (all-of name (range_with_len 0 c.args.count))
