use Rattle.std.proofs.Common.{rules, ◌≡◌, inl, inr, ◌*◌, ◌<◌, true, false, subst}
use Rattle.board_terms.specs.declared.pages.Kind.TheVariants.{Sim}
use Rattle.live_pages.specs.Words.{type_of, is_pending}
use Rattle.live_board.specs.inside.Parts.{IsLook, IsMark, is_attempted}
use Rattle.live_board.proofs.Found.{found-one, found-two}
use Rattle.live_board.proofs.posting.find_header.Goals.{then-is_empty-via-then-is_empty, then-is_empty-via-else-is_empty+then-is_pending, then-is_empty-via-else-is_empty+else-is_pending+then-not-is_attempted}
use Rattle.live_board.proofs.posting.find_header.Goals as goal

pub returns-clause-found : goal.returns-clause-found
returns-clause-found c =
    let slot : 32 * c.from-slot.result ≡ 32 * c.args.port.now.sint = search rules in
    let look = subst
    (λ w. IsLook c.args.board.now.state c.args.port.now.vp Sim w c.args.page.now.log c.look-found.new.board.state
    c.look-found.new.page.log c.look-found.result c.args.notices.now
    c.look-found.new.notices) slot c.look-found.ensures.look in
    let mark = subst
    (λ w. IsMark c.look-found.new.board.state c.args.port.now.vp Sim w 1099511627776 c.look-found.new.page.log
    c.mark-header.new.board.state c.mark-header.new.page.log c.mark-header.result c.look-found.new.notices
    c.mark-header.new.notices) slot c.mark-header.ensures.mark in
    let made : is_attempted c.look-found.new.board.state c.args.number c.args.kind c.args.port.now ≡ true =
    search rules in
    found-two _ _ _ _ _ _ _ _ _ _ _ _ _ _ c.requires.shadow look mark made

pub returns-then-is_empty-clause-found : goal.returns-then-is_empty-clause-found
returns-then-is_empty-clause-found c =
    let slot : 32 * c.from-slot.result ≡ 32 * c.args.port.now.sint = search rules in
    let under : c.args.port.now.sint < 16 = search rules in
    let look = subst
    (λ w. IsLook c.args.board.now.state c.args.port.now.vp Sim w c.args.page.now.log c.look-found.new.board.state
    c.look-found.new.page.log c.look-found.result c.args.notices.now
    c.look-found.new.notices) slot c.look-found.ensures.look in
    elim c.then-is_empty.branch [
      | then-is_empty-via-then-is_empty w ↦
          (let empty : type_of c.look-found.result ≡ 0 = search rules in
          found-one _ c.args.number c.args.kind c.args.port.now _ _ _ _ _ _ under c.requires.shadow look (inl empty))
      | then-is_empty-via-else-is_empty+then-is_pending w ↦
          (let set : is_pending c.look-found.result ≡ true = search rules in
          found-one _ c.args.number c.args.kind c.args.port.now _ _ _ _ _ _ under c.requires.shadow look
          (inr (inl set)))
      | then-is_empty-via-else-is_empty+else-is_pending+then-not-is_attempted w ↦ (
          let none : is_attempted c.look-found.new.board.state c.args.number c.args.kind c.args.port.now ≡ false =
          search rules in
          found-one _ c.args.number c.args.kind c.args.port.now _ _ _ _ _ _ under c.requires.shadow look
          (inr (inr none)))
    ]
