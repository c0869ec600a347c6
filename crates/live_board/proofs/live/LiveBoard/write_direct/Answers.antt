use Rattle.std.proofs.Common.{rules, ◌≡◌, ◌<◌, true, nat_lt, refl, subst, arith}
use Rattle.std.proofs.lemmas.Bool.Decides.{nat_tests}
use Rattle.synic_board.specs.State.{State, processors}
use Rattle.synic_board.specs.declared.event.Event.{Event}
use Rattle.synic_board.specs.declared.event.Event.TheVariants.{Write}
use Rattle.synic_board.specs.declared.event.Reply.{Reply}
use Rattle.synic_board.specs.Performing.{Performs}
use Rattle.live_board.specs.Live.{LiveModel}
use Rattle.live_board.specs.Timers.{is_direct_write}
use Rattle.live_board.specs.inside.Parts.{IsTimerOf}
use Rattle.live_board.proofs.Direct.{own-direct, direct-of}
use Rattle.live_board.proofs.TimedPart.{timer-done}
use Rattle.live_board.proofs.Shadowed.{same-shadows}
use Rattle.live_board.proofs.Named.{same-at, quietly-named}
use Rattle.live_board.proofs.live.LiveBoard.write_direct.Goals as goal

pub invariant_of-self-2 : goal.invariant_of-self-2
invariant_of-self-2 c =
    let s : State = c.self.inside.board.state in
    let there : nat_lt c.args.number (processors s) ≡ true = search rules in
    let below : c.args.number < processors s = grind (arith, nat_tests) in
    let direct = direct-of s c.in-Some.vp c.args.number c.args.register c.args.value (search rules) (search rules) in
    same-shadows _ _ _ (own-direct s _ c.args.number (Write c.args.number c.args.register c.args.value) _ _
    (below, refl, c.requires.1) direct c.perform.ensures.performs.step c.facts.ensures.sizes.processor_bound
    c.facts.ensures.shape) c.self.invariant

pub returns-clause-done : goal.returns-clause-done
returns-clause-done c _ =
    let s : State = c.self.inside.board.state in
    let event : Event = Write c.args.number c.args.register c.args.value in
    let there : nat_lt c.args.number (processors s) ≡ true = search rules in
    let below : c.args.number < processors s = grind (arith, nat_tests) in
    let timer : IsTimerOf s c.args.number event = (below, refl, c.requires.1) in
    let direct = direct-of s c.in-Some.vp c.args.number c.args.register c.args.value (search rules) (search rules) in
    let done = timer-done s _ c.args.number event _ _ timer c.perform.ensures.performs.step in
    let performs = subst (λ (r : Reply). Performs c.self.inside.board event c.perform.new.self r c.perform.new.notices)
    done c.perform.ensures.performs in (
      subst (λ (m : LiveModel). nat_lt c.args.number (processors m.board.state) ≡ true) c.self.view_is there,
      subst (λ (m : LiveModel). is_direct_write m.board.state event ≡ true) c.self.view_is direct,
      same-at (quietly-named _ _ _) c.self.inside.board c.perform.new.self c.self.inside.pages.items _ c.self.view_is
          (record { pages = refl; names = refl; performs = performs }),
    )
