use Rattle.std.proofs.Common.{arith, length, length-set, ap, ◌∙◌, subst}
use Rattle.synic_board.specs.declared.event.Event.TheVariants.{Write}
use Rattle.synic_board.specs.declared.event.Reply.{Reply}
use Rattle.live_board.specs.Acting.{IsEnded, eom_by}
use Rattle.live_board.proofs.Paid.{eom-done}
use Rattle.live_board.proofs.live.LiveBoard.pay.Goals as goal

pub returns-clause-paid : goal.returns-clause-paid
returns-clause-paid c =
    let ended = subst (λ n. IsEnded n c.args.self.now (Write n 0x40000084 0) c.end_message.new.self
    c.end_message.result c.end_message.new.notices) c.number.ensures.value c.end_message.ensures in
    let done = eom-done c.args.self.now c.end_message.new.self c.args.vp c.end_message.result _ c.facts.ensures.sound
    c.requires.on ended.0 in (
      c.end_message.new.notices,
      subst (λ (r : Reply). IsEnded c.args.vp c.args.self.now (eom_by c.args.vp) c.end_message.new.self r
          c.end_message.new.notices) done ended,
      c.move_all.ensures.moved,
      c.move_all.ensures.few,
    )

pub returns-clause-processors : goal.returns-clause-processors
returns-clause-processors c =
    let live = c.end_message.ensures.0 in
    let size = ap length live.pages ∙ length-set c.args.self.now.pages _ _ in
    omega (
      arith,
      size,
      c.facts.ensures.shadows.count,
      c.facts.ensures.shape.overlays,
      c.facts-2.ensures.shadows.count,
      c.facts-2.ensures.shape.overlays,
    )
