use Rattle.std.proofs.Common.{◌≡◌, ap, sym, subst, ◌∙◌}
use Rattle.gpa_space.specs.Space.{store_answer, after_store}
use Rattle.synic_board.specs.State.{BoardModel, State, space_of, with_space}
use Rattle.synic_board.specs.Stores.{stored_bytes}
use Rattle.synic_board.specs.Sound.{IsSound}
use Rattle.synic_board.specs.inside.Touches.{OthersFree}
use Rattle.synic_board.specs.inside.View.{state_of}
use Rattle.synic_board.proofs.Storing.{stored_is, kept-stored}
use Rattle.synic_board.proofs.Touching.{others-free}
use Rattle.synic_board.proofs.machine.Machine.store_bytes.Goals as goal

pub consume_in-requires-clause-others : goal.consume_in-requires-clause-others
consume_in-requires-clause-others c =
    let s : State = state_of c.self.inside in
    let address = c.args.address in
    let bytes = c.args.bytes.now in
    let space : c.self.inside.space ≡ space_of s =
    (λ i. record {
      pages = c.self.inside.space.pages;
      registers = c.self.invariant.overlays i;
      own = c.self.inside.space.own;
    }) in
    let sound = subst (λ (h : BoardModel). IsSound h.state) (sym c.self.view_is) c.requires.sound in
    let answer = sym c.in-Ok.is ∙ c.store_slice.ensures.answer ∙ ap (λ x. store_answer x address bytes) space in
    let after = c.store_slice.ensures.after ∙ ap (λ x. after_store x address bytes) space in
    subst (OthersFree (with_space s c.store_slice.new.self) c.in-Ok.owner) (sym c.touched-slot.ensures.value)
    (others-free s address bytes c.store_slice.new.self c.in-Ok.owner sound answer after)

pub returns-clause-step : goal.returns-clause-step
returns-clause-step c =
    let s : State = state_of c.self.inside in
    let space : c.self.inside.space ≡ space_of s =
    (λ i. record {
      pages = c.self.inside.space.pages;
      registers = c.self.invariant.overlays i;
      own = c.self.inside.space.own;
    }) in
    stored_is s c.consume_in.new.self.state c.args.address c.args.bytes.now c.self.inside.space c.store_slice.new.self
    c.in-Ok.owner c.args.notices.now c.consume_in.new.notices
    space (sym c.in-Ok.is ∙ c.store_slice.ensures.answer) c.store_slice.ensures.after c.requires.none
    c.consume_in.ensures.effect
    ∙ ap (λ (h : BoardModel). stored_bytes h.state c.args.address c.args.bytes.now) c.self.view_is

pub invariant_of-self-2 : goal.invariant_of-self-2
invariant_of-self-2 c =
    kept-stored c.self.inside c.store_slice.new.self c.args.address c.args.bytes.now c.self.invariant
    c.store_slice.ensures.after
