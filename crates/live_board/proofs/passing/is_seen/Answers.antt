use Rattle.std.proofs.Common.{rules, ◌≡◌, sym, ap, ◌∙◌, get_or}
use Rattle.board_terms.specs.declared.pages.Owner.TheVariants.{Nothing}
use Rattle.gpa_space.specs.Space.{Space}
use Rattle.synic_board.specs.State.{space_of}
use Rattle.synic_board.specs.Summaries.{StoredSummary, owners_of}
use Rattle.live_board.proofs.Shown.{seen-owner}
use Rattle.live_board.proofs.passing.is_seen.Goals as goal

pub returns-then-eq : goal.returns-then-eq
returns-then-eq c =
    let space : Space = space_of c.args.board.now.state in
    let same : c.owner.result ≡ c.args.owner = search rules in
    let owners = ap (λ (k : StoredSummary). k.values.owners) c.summary.ensures.value in
    let there : get_or (owners_of space) c.args.page Nothing ≡ c.args.owner =
    ap (λ os. get_or os c.args.page Nothing) (sym owners) ∙ sym c.owner.ensures ∙ same in
    ((λ _. seen-owner space c.args.page c.args.owner there c.requires), (λ _. c.if-eq.true))
