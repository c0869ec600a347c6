use Rattle.std.proofs.Common.{rules, ◌≡◌, ◌≢◌, ◌⊎◌, inl, inr, ◌+◌, ◌*◌, get_or, false, true, arith, subst, sym, refl, ◌∙◌}
use Rattle.live_pages.specs.Words.{type_of}
use Rattle.live_pages.specs.Page.{Page}
use Rattle.live_board.specs.inside.Parts.{IsFilledFrom, IsPublished}
use Rattle.live_board.proofs.Published.{publish-start, publish-skip, publish-more}
use Rattle.live_board.proofs.publishing.publish.Goals.{then-not-is_shown, then-not-is_shown-via-then-not-is_shown, then-not-is_shown-via-else-not-is_shown+then-is_empty, else-not-is_shown+else-is_empty}
use Rattle.live_board.proofs.publishing.publish.Goals as goal

pub loop-number-init : goal.loop-number-init
loop-number-init c = (publish-start _ _ _ _ _, refl)

pub loop-number-preserved : goal.loop-number-preserved
loop-number-preserved c =
    let number : c.in-Some.sint ≡ c.loop-number.number = search rules in
    let at = λ (page : Page). IsPublished c.args.board.now.state c.args.vp c.args.is_shown c.args.words.now
    (c.loop-number.number + 1) c.args.page.now.log page.log × (page.name ≡ c.args.page.now.name) in
    elim c.if-not-is_shown.branch [
      | then-not-is_shown w ↦ (
          let filled =
          subst (λ n. IsFilledFrom c.args.board.now.state c.args.vp n
          (get_or c.args.words.now (32 * n) 0) c.loop-number.page.log
          w.publish_slot.new.page.log) number w.publish_slot.ensures.slot in
          let free : (c.args.is_shown ≡ false) ⊎ (type_of (get_or c.args.words.now (32 * c.loop-number.number) 0) ≡ 0) =
          elim w.then-not-is_shown.branch as
          (λ _. (c.args.is_shown ≡ false) ⊎ (type_of (get_or c.args.words.now (32 * c.loop-number.number) 0) ≡ 0)) [
            | then-not-is_shown-via-then-not-is_shown v ↦ inl (search rules)
            | then-not-is_shown-via-else-not-is_shown+then-is_empty v ↦ inr (search rules)
          ] in
          subst at (sym w.page-is) (
            publish-more _ _ _ _ _ _ _ _ c.loop-number-test.true c.loop-number.invariant.0 filled free,
            w.publish_slot.ensures.name ∙ c.loop-number.invariant.1,
          ))
      | else-not-is_shown+else-is_empty w ↦ (
          let seen : c.args.is_shown ≡ true = search rules in
          let full : type_of (get_or c.args.words.now (32 * c.loop-number.number) 0) ≢ 0 = search rules in
          subst at (sym w.page-is) (
            publish-skip _ _ _ _ _ _ _ c.loop-number.invariant.0 seen full,
            c.loop-number.invariant.1,
          ))
    ]

pub returns-clause-published : goal.returns-clause-published
returns-clause-published c = let end : c.loop-number.number
    ≡ 16 = omega (arith, c.loop-number.auto.number-end, c.loop-number-test.false) in
    subst (λ n. IsPublished c.args.board.now.state c.args.vp c.args.is_shown c.args.words.now n c.args.page.now.log
    c.loop-number.page.log) end c.loop-number.invariant.0
