use Rattle.std.proofs.Common.{◌≡◌, ◌*◌, arith, ap, subst, refl, ◌∙◌}
use Rattle.board_terms.specs.declared.pages.Kind.TheVariants.{Sim}
use Rattle.synic_board.specs.State.{processors}
use Rattle.live_board.specs.inside.Parts.{IsLooks, IsPassedOn}
use Rattle.live_board.proofs.Joined.{look-more, rest-shown}
use Rattle.live_board.proofs.Watched.{look-is}
use Rattle.live_board.proofs.observing.look_on.Goals as goal

pub pass-requires-clause-word : goal.pass-requires-clause-word
pass-requires-clause-word c = omega (arith, c.requires.other.1.below)

pub loop-slot-init : goal.loop-slot-init
loop-slot-init c = (
  (λ log o.
      let s = c.args.board.now.state in
      let on = subst (λ ns. IsPassedOn s c.args.vp Sim
      (32 * c.args.other) c.args.found c.pass.new.board.state ns c.pass.new.notices) c.requires.empty c.pass.ensures
      in
      look-more _ _ _ _ _ _ _ _ _ _ _ o.looks
      (look-is _ _ _ _ _ _ _ _ _ _ (omega (arith, o.below)) c.requires.shown
      (o.looks.shadow (32 * c.args.other) (omega (arith, o.below))) o.page on)),
  refl,
)

pub look-requires-clause-on : goal.look-requires-clause-on
look-requires-clause-on c =
    let h =
    c.loop-slot.invariant.0 c.requires.other.0 c.requires.other.1 in
    omega (arith, c.requires.on, ap processors h.watched.rest)

pub look-requires-clause-shown : goal.look-requires-clause-shown
look-requires-clause-shown c =
    let h =
    c.loop-slot.invariant.0 c.requires.other.0 c.requires.other.1 in
    rest-shown c.args.board.now.state _ c.args.vp Sim h.watched.rest c.requires.shown

pub look-requires-clause-known : goal.look-requires-clause-known
look-requires-clause-known c =
    let h =
    c.loop-slot.invariant.0 c.requires.other.0 c.requires.other.1 in
    h.shadow (32 * c.loop-slot.slot) (omega (arith, c.loop-slot-test.true))

pub look-requires-clause-capacity : goal.look-requires-clause-capacity
look-requires-clause-capacity c =
    let h = c.loop-slot.invariant.0 c.requires.other.0 c.requires.other.1 in omega (arith, h.few, c.loop-slot-test.true)

pub loop-slot-preserved : goal.loop-slot-preserved
loop-slot-preserved c = (
  (λ log o. look-more _ _ _ _ _ _ _ _ _ _ _ (c.loop-slot.invariant.0 log o) c.look.ensures.look),
  c.look.ensures.name ∙ c.loop-slot.invariant.1,
)

pub returns-clause-looks : goal.returns-clause-looks
returns-clause-looks c log o =
    let end : c.loop-slot.slot ≡ 16 = omega (arith, c.loop-slot.auto.slot-end, c.loop-slot-test.false, o.below) in
    subst (λ n. IsLooks c.args.board.now.state c.args.vp log c.loop-slot.board.state c.loop-slot.page.log
    c.loop-slot.notices n) end (c.loop-slot.invariant.0 log o)
