use Rattle.std.proofs.Common.{rules, ◌≡◌, ◌+◌, true, false, List, [], ◌++◌, refl, sym, ap, ◌∙◌, subst, arith, append_assoc, append-nil, length-append}
use Rattle.board_terms.specs.declared.notices.Notice.{Notice}
use Rattle.synic_board.specs.State.{processors}
use Rattle.live_board.specs.Acting.{IsPaid, ArePaid}
use Rattle.live_board.specs.Live.{LiveModel, has_processor}
use Rattle.live_board.proofs.Paid.{paid-more}
use Rattle.live_board.proofs.live.LiveBoard.pay_all.Goals.{then-has_processor+in-Some, else-has_processor}
use Rattle.live_board.proofs.live.LiveBoard.pay_all.Goals as goal

pub loop-number-preserved : goal.loop-number-preserved
loop-number-preserved c = elim c.if-has_processor.branch [
  | then-has_processor+in-Some w ↦
      let i = c.loop-number.invariant in
      let same : w.in-Some.vp ≡ c.loop-number.number = search rules in
      let owed : true ≡ has_processor c.args.owed c.loop-number.number =
      sym w.if-has_processor.true ∙ c.has_processor.ensures in
      let paid = w.pay.ensures.paid in
      let one = subst (λ b. IsPaid b c.loop-number.number c.loop-number.self w.pay.new.self paid.0) owed
      (subst (λ n. IsPaid true n c.loop-number.self w.pay.new.self paid.0) same paid.1) in (
        i.0 ++ paid.0,
        subst (λ (m : LiveModel). ArePaid c.args.owed (c.loop-number.number + 1) c.args.self.now m (i.0 ++ paid.0))
            (sym w.self-is) (paid-more c.args.owed c.loop-number.number _ _ _ i.0 paid.0 i.1 one),
        w.notices-is ∙ paid.2 ∙ ap (λ (l : List Notice). l ++ paid.0) i.2
            ∙ append_assoc c.args.notices.now i.0 paid.0,
        omega (arith, length-append i.0 paid.0, i.3, paid.3),
        ap (λ (m : LiveModel). processors m.board.state) w.self-is ∙ w.pay.ensures.processors ∙ i.4,
        w.part-is ∙ w.pay.ensures.empty,
      )
  | else-has_processor w ↦
      let i = c.loop-number.invariant in
      let owed : false ≡ has_processor c.args.owed c.loop-number.number =
      sym w.if-has_processor.false ∙ c.has_processor.ensures in
      let one = subst (λ b. IsPaid b c.loop-number.number c.loop-number.self c.loop-number.self []) owed (refl, refl) in
      let more = paid-more c.args.owed c.loop-number.number _ _ _ i.0 [] i.1 one in (
        i.0,
        subst (λ (m : LiveModel). ArePaid c.args.owed (c.loop-number.number + 1) c.args.self.now m i.0) (sym w.self-is)
            (subst (λ (l : List Notice). ArePaid c.args.owed (c.loop-number.number + 1) c.args.self.now
            c.loop-number.self l) (append-nil i.0) more),
        w.notices-is ∙ i.2,
        omega (arith, i.3),
        ap (λ (m : LiveModel). processors m.board.state) w.self-is ∙ i.4,
        w.part-is ∙ i.5,
      )
]
