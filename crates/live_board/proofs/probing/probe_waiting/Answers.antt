use Rattle.std.proofs.Common.{rules, ◌≡◌, ◌*◌, true, false, set, arith, subst, sym, ap, ◌∙◌, refl}
use Rattle.live_pages.specs.Page.{Page}
use Rattle.live_board.specs.Live.{is_waiting}
use Rattle.live_board.specs.inside.Parts.{IsProbed, IsProbing}
use Rattle.live_board.proofs.Probed.{probing-start, probing-skip, probing-more, probing-at}
use Rattle.live_board.proofs.Named.{logged}
use Rattle.live_board.proofs.probing.probe_waiting.Goals.{then-is_waiting, else-is_waiting}
use Rattle.live_board.proofs.probing.probe_waiting.Goals as goal

pub loop-number-init : goal.loop-number-init
loop-number-init c = (
  probing-start _ _ _ _ _ c.requires.empty c.requires.shadow c.page_words-words.ensures.count
      c.page_words-words.ensures.words,
  refl,
)

pub loop-number-preserved : goal.loop-number-preserved
loop-number-preserved c =
    let number : c.in-Some.sint ≡ c.loop-number.number = search rules in
    let state = c.loop-number.board.state in
    let waits = ap (is_waiting state c.args.vp) (sym number) ∙ sym c.is_waiting.ensures in
    elim c.if-is_waiting.branch [
      | then-is_waiting w ↦ (
          let busy : c.is_waiting.result ≡ true = search rules in
          let place : 32 * w.from.result ≡ 32 * c.loop-number.number = search rules in
          let one = subst
          (λ n. IsProbed state c.args.vp n c.loop-number.page.log w.probe.new.board.state w.probe.new.page.log
          w.probe.result c.loop-number.notices w.probe.new.notices) number w.probe.ensures.probed in (
            probing-at _ _ _ _ _ _ _ _ _ _ _ _ (ap (λ b. b.state) w.board-is) (logged w.page-is)
                (w.words-is ∙ ap (λ n. set c.loop-number.words n w.probe.result) place) w.notices-is
                (probing-more _ _ _ _ _ _ _ _ _ _ _ _ c.loop-number-test.true c.loop-number.invariant.0 (waits
                ∙ busy) one),
            ap (λ (p : Page). p.name) w.page-is ∙ w.probe.ensures.name ∙ c.loop-number.invariant.1,
          ))
      | else-is_waiting w ↦ (
          let idle : c.is_waiting.result ≡ false = search rules in (
            probing-at _ _ _ _ _ _ _ _ _ _ _ _ (ap (λ b. b.state) w.board-is) (logged w.page-is) w.words-is w.notices-is
                (probing-skip _ _ _ _ _ _ _ _ c.loop-number-test.true c.loop-number.invariant.0 (waits ∙ idle)),
            ap (λ (p : Page). p.name) w.page-is ∙ c.loop-number.invariant.1,
          ))
    ]

pub returns-clause-probing : goal.returns-clause-probing
returns-clause-probing c = let end : c.loop-number.number
    ≡ 16 = omega (arith, c.loop-number.auto.number-end, c.loop-number-test.false) in
    subst (λ n. IsProbing c.args.board.now.state c.args.vp c.args.page.now.log c.loop-number.board.state
    c.loop-number.page.log c.loop-number.words c.loop-number.notices n) end c.loop-number.invariant.0
