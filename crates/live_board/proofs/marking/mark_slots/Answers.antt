use Rattle.std.proofs.Common.{rules, ◌≡◌, ◌+◌, true, false, arith, subst, sym, ap, ◌∙◌, refl}
use Rattle.std.specs.Prelude.{◌||◌}
use Rattle.live_board.specs.inside.Parts.{IsMarked, IsMarking}
use Rattle.live_board.proofs.Marked.{marking-start, marking-more}
use Rattle.live_board.proofs.marking.mark_slots.Goals.{then-is_empty, else-is_empty}
use Rattle.live_board.proofs.marking.mark_slots.Goals as goal

pub loop-number-init : goal.loop-number-init
loop-number-init c = (marking-start _ _ _ _ _ c.requires.payload c.requires.known c.requires.headers, refl)

pub loop-number-preserved : goal.loop-number-preserved
loop-number-preserved c =
    let number : c.in-Some.sint ≡ c.loop-number.number = search rules in
    let owed = c.mark_slot-is_empty.result in
    let one = subst
    (λ n. IsMarked c.loop-number.board.state c.args.vp n c.loop-number.page.log c.mark_slot-is_empty.new.board.state
    c.mark_slot-is_empty.new.page.log owed c.loop-number.notices
    c.mark_slot-is_empty.new.notices) number c.mark_slot-is_empty.ensures.marked in
    let more = marking-more _ _ _ _ _ _ _ _ _ _ _ _ _ _ c.loop-number-test.true c.loop-number.invariant.0 one in
    let is : c.if-is_empty.owed ≡ (owed || c.loop-number.owed) =
    elim c.if-is_empty.branch as (λ _. c.if-is_empty.owed ≡ (owed || c.loop-number.owed)) [
      | then-is_empty w ↦
          (let found : owed ≡ true = search rules in w.owed-is ∙ found ∙ ap (λ b. b || c.loop-number.owed) (sym found))
      | else-is_empty w ↦
          (let none : owed ≡ false = search rules in w.owed-is ∙ ap (λ b. b || c.loop-number.owed) (sym none))
    ] in (
      subst (λ b. IsMarking c.args.board.now.state c.args.vp c.args.words.now c.args.page.now.log
          c.mark_slot-is_empty.new.board.state c.mark_slot-is_empty.new.page.log b c.args.notices.now
          c.mark_slot-is_empty.new.notices (c.loop-number.number + 1)) (sym is) more,
      c.mark_slot-is_empty.ensures.name ∙ c.loop-number.invariant.1,
    )

pub returns-clause-marking : goal.returns-clause-marking
returns-clause-marking c = let end : c.loop-number.number
    ≡ 16 = omega (arith, c.loop-number.auto.number-end, c.loop-number-test.false) in
    subst (λ n. IsMarking c.args.board.now.state c.args.vp c.args.words.now c.args.page.now.log
    c.loop-number.board.state
    c.loop-number.page.log c.loop-number.owed c.args.notices.now c.loop-number.notices n) end c.loop-number.invariant.0
