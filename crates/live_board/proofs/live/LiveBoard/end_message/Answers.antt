use Rattle.std.proofs.Common.{rules, ◌≡◌, ◌<◌, true, subst}
use Rattle.synic_board.specs.State.{BoardModel, processors}
use Rattle.live_board.specs.Live.{NoneQueued}
use Rattle.live_board.proofs.Idle.{idle-written}
use Rattle.live_board.proofs.live.LiveBoard.end_message.Goals as goal

pub returns-then-is_idle : goal.returns-then-is_idle
returns-then-is_idle c =
    let idle : c.is_idle.result ≡ true = search rules in
    let h = c.is_idle.ensures.idle idle in
    let on = subst (λ (b : BoardModel). c.args.vp < processors b.state) c.board.ensures h.0 in
    let none = subst (λ (b : BoardModel). NoneQueued b.state c.args.vp) c.board.ensures h.1 in
    idle-written c.args.self.now c.args.vp c.args.value c.clear.new.self c.clear.ensures on none
