use Rattle.std.proofs.Common.{rules, ◌≡◌, ◌≢◌, ◌*◌, ◌^◌, ◌<◌, ◌∷◌, sym, ap, ◌∙◌, subst, arith}
use Rattle.std.specs.Prelude.{bit_or}
use Rattle.board_terms.specs.declared.pages.Kind.TheVariants.{Sim}
use Rattle.live_pages.specs.Words.{type_of}
use Rattle.live_pages.specs.declared.access.Access.TheVariants.{FetchOr}
use Rattle.live_board.specs.Words.{word_of}
use Rattle.live_board.specs.inside.Parts.{IsPassedOn, IsMarked}
use Rattle.live_board.proofs.Marked.{marked-none, marked-one, known-empty, known-still, known-marked}
use Rattle.live_board.proofs.marking.mark_slot.Goals.{then-is_empty-via-then-is_empty, then-is_empty-via-else-is_empty+then-own_word-was}
use Rattle.live_board.proofs.Named.{logged}
use Rattle.live_board.proofs.marking.mark_slot.Goals as goal

pub returns-then-is_empty-clause-marked : goal.returns-then-is_empty-clause-marked
returns-then-is_empty-clause-marked c =
    let slot : 32 * c.from-slot.result ≡ 32 * c.args.sint = search rules in
    elim c.then-is_empty.branch [
      | then-is_empty-via-then-is_empty w ↦ (
          let empty : type_of c.args.was ≡ 0 = search rules in
          marked-none _ _ _ _ _ (known-empty _ _ _ c.requires.header empty))
      | then-is_empty-via-else-is_empty+then-own_word-was w ↦ (
          let still : c.args.was ≡ w.own_word.result = search rules in
          let header =
          ap (word_of c.args.board.now.state (2 * c.args.vp)) (sym slot) ∙ sym w.own_word.ensures ∙ sym still in
          marked-none _ _ _ _ _ (known-still _ _ _ c.requires.header c.requires.known header))
    ]

pub returns-clause-marked : goal.returns-clause-marked
returns-clause-marked c =
    let s = c.args.board.now.state in
    let slot : 32 * c.from-slot.result ≡ 32 * c.args.sint = search rules in
    let full : type_of c.args.was ≢ 0 = search rules in
    let under : c.args.sint < 16 = omega arith in
    let other : c.own_word.result ≢ c.args.was = search rules in
    let header = ap (word_of s (2 * c.args.vp)) (sym slot) ∙ sym c.own_word.ensures in
    let set = known-marked _ _ _ c.requires.header c.requires.known full (λ e. other (sym header ∙ e)) in
    let on = subst (λ w. IsPassedOn s c.args.vp Sim w
    (bit_or c.fetch_or-found.result (2 ^ 40)) c.pass.new.board.state c.args.notices.now
    c.pass.new.notices) slot c.pass.ensures in
    let page = (logged c.fetch_or-found.ensures) ∙ ap (λ w. FetchOr w (2 ^ 40) c.fetch_or-found.result ∷
    c.args.page.now.log) slot in
    subst (λ b. IsMarked s c.args.vp c.args.sint c.args.page.now.log c.pass.new.board.state
    c.fetch_or-found.new.self.log b
    c.args.notices.now c.pass.new.notices) (sym c.is_empty-2.ensures)
    (marked-one _ _ _ _ _ _ _ _ _ under page set on)
