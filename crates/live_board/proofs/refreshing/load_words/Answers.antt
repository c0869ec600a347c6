use Rattle.std.proofs.Common.{◌≡◌, ◌<◌, arith, subst, sym, ap, length, length-append, refl, ◌∙◌}
use Rattle.synic_board.specs.State.{processors}
use Rattle.live_board.specs.inside.Parts.{IsLoads}
use Rattle.live_board.proofs.Joined.{rest-shown}
use Rattle.live_board.proofs.Refreshed.{loads-start, loads-more}
use Rattle.live_board.proofs.refreshing.load_words.Goals as goal

pub look-requires-clause-capacity : goal.look-requires-clause-capacity
look-requires-clause-capacity c =
    omega (
      arith,
      c.requires.capacity,
      c.loop-word-test.true,
      c.loop-word.invariant.0.few,
      ap length c.loop-word.invariant.0.notices,
      length-append c.args.notices.now c.loop-word.invariant.0.emitted,
    )

pub loop-word-init : goal.loop-word-init
loop-word-init c = (loads-start _ _ _ _ _ c.requires.shadow, refl)

pub loop-word-preserved : goal.loop-word-preserved
loop-word-preserved c =
    let rest = c.loop-word.invariant.0.watched.rest in
    let on : c.args.vp < processors c.loop-word.board.state =
    subst (λ n. c.args.vp < n) (sym (ap processors rest)) c.requires.on in
    let shown = rest-shown c.args.board.now.state c.loop-word.board.state c.args.vp c.args.kind rest c.requires.shown
    in (
      loads-more _ _ _ _ _ _ _ _ _ _ _ _ _ c.facts.ensures.sound on c.loop-word-test.true shown c.loop-word.invariant.0
          c.look.ensures.look,
      c.look.ensures.name ∙ c.loop-word.invariant.1,
    )

pub returns-clause-loads : goal.returns-clause-loads
returns-clause-loads c = let end : c.loop-word.word ≡ 512 = omega (
  arith,
  c.loop-word.auto.word-end,
  c.loop-word-test.false,
) in
    subst (λ n. IsLoads c.args.board.now.state c.args.vp c.args.kind c.args.page.now.log c.loop-word.board.state
    c.loop-word.page.log c.args.notices.now c.loop-word.notices n) end c.loop-word.invariant.0
