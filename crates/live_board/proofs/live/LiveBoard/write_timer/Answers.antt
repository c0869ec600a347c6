use Rattle.std.proofs.Common.{rules, ◌≡◌, inr, Bool, true, false, nat_lt, ℕ, List, ◌++◌, refl, sym, ap, ◌∙◌, subst, append-nil}
use Rattle.std.specs.Prelude.{Some}
use Rattle.board_terms.specs.declared.notices.Notice.{Notice}
use Rattle.synic_board.specs.declared.event.Event.{Event}
use Rattle.synic_board.specs.declared.event.Event.TheVariants.{Write}
use Rattle.synic_board.specs.declared.event.Reply.TheVariants.{Done}
use Rattle.synic_board.specs.State.{processors}
use Rattle.live_board.specs.Acting.{IsTimedWrite}
use Rattle.live_board.specs.Live.{LiveModel}
use Rattle.live_board.specs.Timers.{timer_of, is_direct_write}
use Rattle.live_board.proofs.live.LiveBoard.write_timer.Goals as goal

pub returns-then-write_direct-clause-written : goal.returns-then-write_direct-clause-written
returns-then-write_direct-clause-written c =
    let yes : c.write_direct.result ≡ true = search rules in
    let done = c.write_direct.ensures.done yes in
    let event : Event = Write c.args.vp c.args.register c.args.value in
    let few : List Notice = c.write_direct.new.notices in
    subst (λ (ns : List Notice). IsTimedWrite (nat_lt c.args.vp (processors c.args.self.now.board.state))
    (is_direct_write c.args.self.now.board.state event) c.args.vp c.args.self.now event c.write_direct.new.self Done 0
    ns)
    (sym (append-nil few) ∙ ap (λ l. few ++ l) (sym c.requires.empty))
    (subst (λ (b : Bool). IsTimedWrite b (is_direct_write c.args.self.now.board.state event) c.args.vp c.args.self.now
    event c.write_direct.new.self Done 0 few) (sym done.0)
    (subst (λ (b : Bool). IsTimedWrite true b c.args.vp c.args.self.now
    event c.write_direct.new.self Done 0 few) (sym done.1) (done.2, refl)))

pub returns-then-write_direct-clause-one : goal.returns-then-write_direct-clause-one
returns-then-write_direct-clause-one c = inr c.requires.empty

pub returns-clause-written : goal.returns-clause-written
returns-clause-written c =
    let no : c.write_direct.result ≡ false = search rules in
    let event : Event = Write c.args.vp c.args.register c.args.value in
    subst (λ (m : LiveModel). IsTimedWrite (nat_lt c.args.vp (processors m.board.state))
    (is_direct_write m.board.state event) c.args.vp m
    event c.write_timer_of.new.self c.write_timer_of.result.0
    c.write_timer_of.result.1 (c.write_timer_of.new.few ++ c.write_timer_of.new.many))
    (c.write_direct.ensures.left no) c.write_timer_of.ensures.written

pub write_timer_of-requires-clause-posted : goal.write_timer_of-requires-clause-posted
write_timer_of-requires-clause-posted c =
    let no : c.write_direct.result ≡ false = search rules in
    let event : Event = Write c.args.vp c.args.register c.args.value in
    subst (λ (m : LiveModel). (p : ℕ) → timer_of m.board.state event ≡ Some p
    → is_direct_write m.board.state event ≡ false) (sym (c.write_direct.ensures.left no))
    (c.write_direct.ensures.posted no)
