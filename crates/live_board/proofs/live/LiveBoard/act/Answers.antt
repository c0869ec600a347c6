use Rattle.std.proofs.Common.{rules, ◌≡◌, false, nat_lt, ℕ, List, refl, sym, subst}
use Rattle.synic_board.specs.declared.event.Event.{Event}
use Rattle.synic_board.specs.declared.event.Event.TheVariants.{Post}
use Rattle.synic_board.specs.State.{processors}
use Rattle.synic_board.specs.Step.{step}
use Rattle.live_board.specs.Live.{LiveModel, IsLive}
use Rattle.live_board.specs.Acting.{Acts}
use Rattle.live_board.proofs.Calm.{same-own, not-reset}
use Rattle.live_board.proofs.live.LiveBoard.act.Goals as goal

pub perform_apart-requires : goal.perform_apart-requires
perform_apart-requires c =
    let off : nat_lt c.in-Reset.vp (processors c.args.self.now.board.state) ≡ false = search rules in
    subst (λ (e : Event). (step c.args.self.now.board.state e).0.own ≡ c.args.self.now.board.state.own)
    (sym c.in-Reset.is) (not-reset _ _ off)

pub perform_apart-requires-in_default : goal.perform_apart-requires-in_default
perform_apart-requires-in_default c = same-own _ _ (search rules)

pub returns-in-Post : goal.returns-in-Post
returns-in-Post c =
    let old : LiveModel = c.args.self.now in let now : LiveModel = c.post_in.new.self in
    let live = subst (λ (bytes : List ℕ). IsLive old
    (Post c.in-Post.port c.in-Post.kind (record { items = bytes })) now c.post_in.result
    c.post_in.new.notices) c.as_slice.ensures.value c.post_in.ensures.live in
    subst (λ (e : Event). Acts old e now c.post_in.result 0 c.post_in.new.notices)
    (sym c.in-Post.is) (live, c.post_in.ensures.looked, c.post_in.ensures.placed, c.post_in.ensures.only, refl)
