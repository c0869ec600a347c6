use Rattle.std.proofs.Common.{◌≡◌, List, ◌∷◌, ℕ, Vec, Global, length, take, drop, ◌-◌, subst}
use Rattle.std.specs.Result.{IfOk}
use Rattle.std.specs.List.{AllZip}
use Rattle.posted_words.specs.Words.{Token}
use Rattle.posted_words.specs.declared.line.Raised.{Raised}
use Rattle.board_threads.specs.inside.Work.{HasRaised}
use Rattle.actor_calls.proofs.Taking.{front-and-rest}
use Rattle.board_threads.proofs.threads.run_lines.Goals as goal

pub returns-in-len1-up : goal.returns-in-len1-up
returns-in-len1-up g c =
    let scripts = c.args.scripts.now in
    let whole : c.own-item.result ∷ take (length scripts - 1) (drop 1 scripts) ≡ scripts =
    front-and-rest scripts c.own-item.result c.in-len1-up.len_at_least c.own-item.is in
    subst (λ (ss : List (Vec (ℕ × ℕ) Global)). IfOk c.run_with_line.result
    (λ v. AllZip (λ (s : Vec (ℕ × ℕ) Global)
    (x : Token × Vec Raised Global). HasRaised c.args.board.now.name s.items x.0
    x.1.items) ss v.items)) whole c.run_with_line.ensures
