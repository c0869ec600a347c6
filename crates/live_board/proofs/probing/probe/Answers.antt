use Rattle.std.proofs.Common.{rules, ◌≡◌, ◌≢◌, inl, inr, ◌*◌, true, false, subst}
use Rattle.board_terms.specs.declared.pages.Kind.TheVariants.{Sim}
use Rattle.live_pages.specs.Words.{type_of, is_pending}
use Rattle.live_board.specs.inside.Parts.{IsLook, IsMark}
use Rattle.live_board.proofs.Probed.{probed-one, probed-two}
use Rattle.live_board.proofs.probing.probe.Goals.{then-is_empty-via-then-is_empty, then-is_empty-via-else-is_empty+then-is_pending}
use Rattle.live_board.proofs.probing.probe.Goals as goal

pub returns-clause-probed : goal.returns-clause-probed
returns-clause-probed c =
    let slot : 32 * c.from-slot.result ≡ 32 * c.args.sint = search rules in
    let look = subst
    (λ w. IsLook c.args.board.now.state c.args.vp Sim w c.args.page.now.log c.look-found.new.board.state
    c.look-found.new.page.log c.look-found.result c.args.notices.now
    c.look-found.new.notices) slot c.look-found.ensures.look in
    let mark = subst
    (λ w. IsMark c.look-found.new.board.state c.args.vp Sim w 1099511627776 c.look-found.new.page.log
    c.mark.new.board.state c.mark.new.page.log c.mark.result c.look-found.new.notices
    c.mark.new.notices) slot c.mark.ensures.mark in
    let full : type_of c.look-found.result ≢ 0 = search rules in
    let clear : is_pending c.look-found.result ≡ false = search rules in
    probed-two _ _ _ _ _ _ _ _ _ _ _ _ _ look full clear mark

pub returns-then-is_empty-clause-probed : goal.returns-then-is_empty-clause-probed
returns-then-is_empty-clause-probed c =
    let slot : 32 * c.from-slot.result ≡ 32 * c.args.sint = search rules in
    let look = subst
    (λ w. IsLook c.args.board.now.state c.args.vp Sim w c.args.page.now.log c.look-found.new.board.state
    c.look-found.new.page.log c.look-found.result c.args.notices.now
    c.look-found.new.notices) slot c.look-found.ensures.look in
    elim c.then-is_empty.branch [
      | then-is_empty-via-then-is_empty w ↦
          (let empty : type_of c.look-found.result ≡ 0 = search rules in probed-one _ _ _ _ _ _ _ _ _ look (inl empty))
      | then-is_empty-via-else-is_empty+then-is_pending w ↦
          (let set : is_pending c.look-found.result ≡ true = search rules in
          probed-one _ _ _ _ _ _ _ _ _ look (inr set))
    ]
