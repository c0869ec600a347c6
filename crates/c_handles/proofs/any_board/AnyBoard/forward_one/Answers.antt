use Rattle.std.proofs.Common.{◌<◌, refl, sym, ap, subst, ◌∙◌}
use Rattle.std.specs.FinSet as set
use Rattle.lapic_core.specs.Apic.{Apic}
use Rattle.synic_board.specs.State.{State, BoardModel, processors, apic_of}
use Rattle.synic_board.specs.Effects.{Outcome}
use Rattle.c_handles.specs.Kinds.{state_in}
use Rattle.c_handles.proofs.Taken.{was-asked, still-on, take-quiet, end-quiet-of, forwards-ended, forwards-auto}
use Rattle.c_handles.proofs.any_board.AnyBoard.forward_one.Goals as goal

pub lapic-requires-2 : goal.lapic-requires-2
lapic-requires-2 c =
    let is = was-asked c.args.vp c.board.ensures c.lapic.ensures (c.in-Some.ensures {u = tt}) in
    let mid = sym (ap (λ (o : Outcome). o.0) c.take.ensures.performs.step)
    ∙ sym (ap (λ (b : BoardModel). b.state) c.board-2.ensures) in
    subst (λ (s : State). c.args.vp < processors s) mid
    (still-on (state_in c.args.self.now) c.args.vp c.in-Some.vector c.requires.on is)

pub returns-then-contains-clause-one : goal.returns-then-contains-clause-one
returns-then-contains-clause-one c =
    let is = was-asked c.args.vp c.board.ensures c.lapic.ensures (c.in-Some.ensures {u = tt}) in
    let mid = ap (λ (o : Outcome). o.0) c.take.ensures.performs.step in
    let held = ap (λ (b : BoardModel). set.contains (apic_of b.state c.args.vp).in_service c.in-Some.vector)
    (sym c.board-2.ensures)
    ∙ ap (λ (a : Apic). set.contains a.in_service c.in-Some.vector) (sym c.lapic-2.ensures)
    ∙ ap (λ vs. set.contains vs c.in-Some.vector) (sym c.in_service.ensures)
    ∙ sym c.contains.ensures ∙ c.if-contains.true in (
      c.in-Some.vector,
      forwards-ended (state_in c.args.self.now) c.args.vp c.in-Some.vector c.requires.on is c.args.forwarded.now _
          c.insert.ensures
          (state_in c.take.new.self) (state_in c.end.new.self) mid held
          (ap (λ (o : Outcome). o.0) c.end.ensures.performs.step) refl,
    )

pub returns-then-contains-clause-notices : goal.returns-then-contains-clause-notices
returns-then-contains-clause-notices c =
    let is = was-asked c.args.vp c.board.ensures c.lapic.ensures (c.in-Some.ensures {u = tt}) in
    let mid = ap (λ (o : Outcome). o.0) c.take.ensures.performs.step in
    ap (λ (o : Outcome). o.2) c.end.ensures.performs.step
    ∙ end-quiet-of (state_in c.args.self.now) c.args.vp c.in-Some.vector c.requires.on is
    (state_in c.take.new.self) mid

pub returns-else-contains-clause-one : goal.returns-else-contains-clause-one
returns-else-contains-clause-one c =
    let is = was-asked c.args.vp c.board.ensures c.lapic.ensures (c.in-Some.ensures {u = tt}) in
    let mid = ap (λ (o : Outcome). o.0) c.take.ensures.performs.step in
    let none = ap (λ (b : BoardModel). set.contains (apic_of b.state c.args.vp).in_service c.in-Some.vector)
    (sym c.board-2.ensures)
    ∙ ap (λ (a : Apic). set.contains a.in_service c.in-Some.vector) (sym c.lapic-2.ensures)
    ∙ ap (λ vs. set.contains vs c.in-Some.vector) (sym c.in_service.ensures)
    ∙ sym c.contains.ensures ∙ c.if-contains.false in (
      c.in-Some.vector,
      forwards-auto (state_in c.args.self.now) c.args.vp c.in-Some.vector c.requires.on is c.args.forwarded.now _
          c.insert.ensures
          (state_in c.take.new.self) mid none c.insert-else-contains.ensures,
    )

pub returns-else-contains-clause-notices : goal.returns-else-contains-clause-notices
returns-else-contains-clause-notices c =
    let is = was-asked c.args.vp c.board.ensures c.lapic.ensures (c.in-Some.ensures {u = tt}) in
    ap (λ (o : Outcome). o.2) c.take.ensures.performs.step
    ∙ take-quiet (state_in c.args.self.now) c.args.vp c.in-Some.vector c.requires.on is
