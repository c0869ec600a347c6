use Rattle.std.proofs.Common.{false, ℕ, List, length, ap, sym, ◌∙◌, arith}
use Rattle.message_queues.specs.Image.{header}
use Rattle.gpa_space.specs.Page.{message_bytes}
use Rattle.synic_board.specs.Effects.{Effect, after}
use Rattle.synic_board.specs.inside.Effected.{preceded}
use Rattle.synic_board.specs.Interrupts.{raised}
use Rattle.synic_board.specs.inside.Steps.{posted_message}
use Rattle.synic_board.specs.inside.AtOnce.{filled_at_once}
use Rattle.synic_board.proofs.AtOnce.{at-once, post-image}
use Rattle.synic_board.proofs.Folds.{chained}
use Rattle.synic_board.proofs.machine.Machine.deliver_post.Goals as goal

pub returns-then-delivers_at_once : goal.returns-then-delivers_at_once
returns-then-delivers_at_once c =
    let s = c.args.self.now.state in
    let p = c.args.vp in
    let i = c.args.sint in
    let payload = c.args.payload.now in
    let bytes = message_bytes (header c.args.kind (length payload) false c.args.port) payload in
    let filled : List ℕ → Effect = λ b. filled_at_once s p i b s.next_ticket in
    let first = c.post_at_once.ensures in
    let second = c.raise.ensures in
    let image = sym (post-image s.next_ticket c.args.port c.args.kind s.moment payload false) in
    let once = at-once s p i (posted_message s c.args.port c.args.kind payload)
    (sym c.delivers_at_once.ensures.answer ∙ c.if-delivers_at_once.true) c.delivers_at_once.ensures.queue in
    record {
      effect = chained _ _ _ _ _ (filled bytes) (λ t. raised t p i) first.effect second.effect
          ∙ ap (λ b. preceded c.args.notices.now (after (filled b) (raised (filled b).0 p i))) image
          ∙ ap (preceded c.args.notices.now) (sym once);
      writes_monotone = omega (arith, first.writes_monotone, second.writes_monotone);
      bound = omega (arith, first.bound, second.bound);
    }
