use Rattle.std.proofs.Common.{rules, ◌≡◌, ◌<◌, ◌*◌, inl, inr, Bool, true, false, nat_lt, List, [], ◌++◌, length, length-set, refl, sym, ap, ◌∙◌, subst, arith, append-nil}
use Rattle.std.proofs.lemmas.Bool.Decides.{nat_tests}
use Rattle.board_terms.specs.declared.notices.Notice.{Notice}
use Rattle.synic_board.specs.declared.event.Event.{Event}
use Rattle.synic_board.specs.declared.event.Event.TheVariants.{Write}
use Rattle.synic_board.specs.State.{State, processors}
use Rattle.live_board.specs.Acting.{IsTimedWrite, IsPaid}
use Rattle.live_board.specs.Live.{has_processor, IsTimed}
use Rattle.live_board.specs.Timers.{is_direct_write}
use Rattle.live_board.proofs.Calm.{timer-there, timer-none}
use Rattle.live_board.proofs.Ticked.{none-owed}
use Rattle.live_board.proofs.live.LiveBoard.write_timer_of.Goals as goal

pub returns-in_default-clause-written : goal.returns-in_default-clause-written
returns-in_default-clause-written c =
    let s : State = c.args.self.now.board.state in
    let event : Event = Write c.args.vp c.args.register c.args.value in
    let off : nat_lt c.args.vp (processors s) ≡ false = search rules in
    let few : List Notice = c.write_posted-reply.new.notices in
    let refused = c.write_posted-reply.ensures.refused (timer-none s c.args.vp event c.requires.timer off) in
    subst (λ (b : Bool). IsTimedWrite b (is_direct_write s event) c.args.vp c.args.self.now event
    c.write_posted-reply.new.self c.write_posted-reply.result.0 0 (few ++ c.args.many.now)) (sym off)
    (subst (λ (ns : List Notice). IsTimedWrite false (is_direct_write s event) c.args.vp c.args.self.now event
    c.write_posted-reply.new.self c.write_posted-reply.result.0 0 ns)
    (sym (append-nil few) ∙ ap (λ l. few ++ l) (sym c.requires.empty)) (refused.0, refl))

pub returns-in_default-clause-one : goal.returns-in_default-clause-one
returns-in_default-clause-one c = inr c.requires.empty

pub returns-then-not-is_owed-clause-written : goal.returns-then-not-is_owed-clause-written
returns-then-not-is_owed-clause-written c =
    let s : State = c.args.self.now.board.state in
    let event : Event = Write c.args.vp c.args.register c.args.value in
    let on : nat_lt c.args.vp (processors s) ≡ true = search rules in
    let few : List Notice = c.write_posted-reply.new.notices in
    let there = timer-there s c.args.vp event c.requires.timer on in
    let posted = c.requires.posted c.args.vp there in
    let owed : c.write_posted-reply.result.1 ≡ false = search rules in
    subst (λ (b : Bool). IsTimedWrite b (is_direct_write s event) c.args.vp c.args.self.now event
    c.write_posted-reply.new.self c.write_posted-reply.result.0 0 (few ++ c.args.many.now)) (sym on)
    (subst (λ (b : Bool). IsTimedWrite true b c.args.vp c.args.self.now event
    c.write_posted-reply.new.self c.write_posted-reply.result.0 0 (few ++ c.args.many.now)) (sym posted)
    (record {
      mid = c.write_posted-reply.new.self;
      first = few;
      last = [];
      timed = subst (λ b. IsTimed c.args.vp c.args.self.now event c.write_posted-reply.new.self
          c.write_posted-reply.result.0 b few) (owed ∙ sym (none-owed c.args.vp))
          (c.write_posted-reply.ensures.timed c.args.vp there);
      paid = subst (λ b. IsPaid b c.args.vp c.write_posted-reply.new.self c.write_posted-reply.new.self [])
          (sym (none-owed c.args.vp)) (refl, refl);
      unowed = λ q _. none-owed q;
      joined = ap (λ (l : List Notice). few ++ l) c.requires.empty;
    }))

pub returns-then-not-is_owed-clause-one : goal.returns-then-not-is_owed-clause-one
returns-then-not-is_owed-clause-one c = inr c.requires.empty

pub move_all-requires : goal.move_all-requires
move_all-requires c = omega (arith, ap length c.requires.empty)

pub pay-requires-clause-on : goal.pay-requires-clause-on
pay-requires-clause-on c =
    let s : State = c.args.self.now.board.state in
    let event : Event = Write c.args.vp c.args.register c.args.value in
    let on : nat_lt c.args.vp (processors s) ≡ true = search rules in
    let same : c.in-Some.vp ≡ c.args.vp = search rules in
    let below : c.args.vp < processors s = grind (arith, nat_tests) in
    let timed = c.write_posted-reply.ensures.timed c.args.vp (timer-there s c.args.vp event c.requires.timer on) in
    omega (
      arith,
      same,
      below,
      ap length timed.pages ∙ length-set c.args.self.now.pages (2 * c.args.vp) _,
      c.facts.ensures.shadows.count,
      c.facts.ensures.shape.overlays,
      c.facts-2.ensures.shadows.count,
      c.facts-2.ensures.shape.overlays,
    )

pub pay-requires-clause-capacity : goal.pay-requires-clause-capacity
pay-requires-clause-capacity c =
    omega (
      arith,
      ap length (c.move_all.ensures.moved ∙ ap (λ (l : List Notice). l ++ c.write_posted-reply.new.notices)
          c.requires.empty),
      c.move_all.ensures.few,
    )

pub returns-clause-written : goal.returns-clause-written
returns-clause-written c =
    let s : State = c.args.self.now.board.state in
    let event : Event = Write c.args.vp c.args.register c.args.value in
    let on : nat_lt c.args.vp (processors s) ≡ true = search rules in
    let same : c.in-Some.vp ≡ c.args.vp = search rules in
    let few : List Notice = c.write_posted-reply.new.notices in
    let there = timer-there s c.args.vp event c.requires.timer on in
    let posted = c.requires.posted c.args.vp there in
    let owed : c.write_posted-reply.result.1 ≡ true = search rules in
    let here : has_processor c.with_owed.result c.args.vp ≡ true =
    ap (has_processor c.with_owed.result) (sym same) ∙ c.with_owed.ensures.here in
    let paid = c.pay.ensures.paid in
    subst (λ (b : Bool). IsTimedWrite b (is_direct_write s event) c.args.vp c.args.self.now event c.pay.new.self
    c.write_posted-reply.result.0 c.with_owed.result (c.pay.new.part ++ c.pay.new.notices)) (sym on)
    (subst (λ (b : Bool). IsTimedWrite true b c.args.vp c.args.self.now event c.pay.new.self
    c.write_posted-reply.result.0 c.with_owed.result (c.pay.new.part ++ c.pay.new.notices)) (sym posted)
    (record {
      mid = c.write_posted-reply.new.self;
      first = few;
      last = paid.0;
      timed = subst (λ b. IsTimed c.args.vp c.args.self.now event c.write_posted-reply.new.self
          c.write_posted-reply.result.0 b few) (owed ∙ sym here)
          (c.write_posted-reply.ensures.timed c.args.vp there);
      paid = subst (λ b. IsPaid b c.args.vp c.write_posted-reply.new.self c.pay.new.self paid.0) (sym here)
          (subst (λ n. IsPaid true n c.write_posted-reply.new.self c.pay.new.self paid.0) same paid.1);
      unowed = λ q ne. c.with_owed.ensures.others q (λ e. ne (e ∙ same)) ∙ none-owed q;
      joined = ap (λ (l : List Notice). l ++ c.pay.new.notices) c.pay.ensures.empty ∙ paid.2
          ∙ ap (λ (l : List Notice). l ++ paid.0)
          (c.move_all.ensures.moved ∙ ap (λ (l : List Notice). l ++ few) c.requires.empty);
    }))

pub returns-clause-one : goal.returns-clause-one
returns-clause-one c = inl c.pay.ensures.empty

pub with_owed-requires : goal.with_owed-requires
with_owed-requires c = none-owed c.in-Some.vp
