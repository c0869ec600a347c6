use Rattle.std.proofs.Common.{◌≡◌, ℕ, length, length-append, ap, subst, ◌∙◌, arith}
use Rattle.std.specs.Prelude.{Option, Some, IfSome}
use Rattle.message_queues.specs.Queues.{queue_of}
use Rattle.synic_board.specs.State.{State, processors}
use Rattle.synic_board.specs.Effects.{Effect}
use Rattle.synic_board.specs.Resetting.{slot_emptied, emptied_below}
use Rattle.synic_board.specs.inside.Effected.{preceded}
use Rattle.synic_board.proofs.Emptying.{emptied_none, emptied_more, same_left, slot-same}
use Rattle.synic_board.proofs.keeping.Emptied.{slot-fits, queue-fits}
use Rattle.synic_board.proofs.machine.Machine.empty.Goals as goal

-- the source with a number is that number
numbered : (o : Option ℕ) (v n : ℕ) → o ≡ Some v → IfSome o (λ x. x ≡ n) → v ≡ n
numbered o v n is value = subst (λ x. IfSome x (λ y. y ≡ n)) is value

pub loop-number-init : goal.loop-number-init
loop-number-init c =
    record {
      bound = omega arith;
      so_far = record { effect = emptied_none _ _ _; writes_monotone = omega arith; bound = omega arith };
    }

pub empty_slot-requires-clause-on : goal.empty_slot-requires-clause-on
empty_slot-requires-clause-on c =
    let same = ap (λ (x : Effect). processors x.0) c.loop-number.invariant.so_far.effect
    ∙ same_left c.args.self.now.state c.args.vp c.loop-number.number in
    omega (arith, same, c.requires.on)

pub empty_slot-requires-clause-room : goal.empty_slot-requires-clause-room
empty_slot-requires-clause-room c =
    let e : Effect = emptied_below c.args.self.now.state c.args.vp c.loop-number.number in
    omega (
      arith,
      ap (λ (x : Effect). length x.1) c.loop-number.invariant.so_far.effect,
      length-append c.args.notices.now e.1,
      ap length c.requires.none,
      slot-fits c.args.self.now.state c.args.vp c.loop-number.number c.loop-number-test.true c.requires.buffers,
    )

pub empty_queue-requires-clause-on : goal.empty_queue-requires-clause-on
empty_queue-requires-clause-on c =
    let same = ap (λ (x : Effect). processors x.0) c.loop-number.invariant.so_far.effect
    ∙ same_left c.args.self.now.state c.args.vp c.loop-number.number in
    let slot = ap (λ (x : Effect). processors x.0) c.empty_slot.ensures.effect
    ∙ slot-same c.loop-number.self.state c.args.vp c.unwrap-sint.result in
    omega (arith, same, slot, c.requires.on)

pub empty_queue-requires-clause-room : goal.empty_queue-requires-clause-room
empty_queue-requires-clause-room c =
    let s : State = c.args.self.now.state in
    let n = c.loop-number.number in
    let v = c.unwrap-sint.result in
    let e : Effect = emptied_below s c.args.vp n in
    let is : v ≡ n = numbered _ v n c.unwrap-sint.ensures c.new.ensures.value in
    let was : c.loop-number.self.state ≡ e.0 = ap (λ (x : Effect). x.0) c.loop-number.invariant.so_far.effect in
    let emitted = ap (λ (x : Effect). length x.1) c.loop-number.invariant.so_far.effect in
    let slot : (c.empty_slot.new.self.state, c.empty_slot.new.notices)
    ≡ preceded c.loop-number.notices (slot_emptied e.0 c.args.vp n) = c.empty_slot.ensures.effect
    ∙ (λ i. preceded c.loop-number.notices (slot_emptied (was i) c.args.vp (is i))) in
    let queued : length (queue_of c.empty_slot.new.self.state.queues c.args.vp v)
    ≡ length (queue_of (slot_emptied e.0 c.args.vp n).0.queues c.args.vp n) =
    λ i. length (queue_of (slot i).0.queues c.args.vp (is i)) in
    omega (
      arith,
      emitted,
      queued,
      ap (λ (x : Effect). length x.1) slot,
      length-append c.args.notices.now e.1,
      ap length c.requires.none,
      length-append c.loop-number.notices (slot_emptied e.0 c.args.vp n).1,
      queue-fits s c.args.vp n c.loop-number-test.true c.requires.buffers,
    )

pub loop-number-preserved : goal.loop-number-preserved
loop-number-preserved c =
    let s : State = c.args.self.now.state in
    let n = c.loop-number.number in
    let v = c.unwrap-sint.result in
    let e : Effect = emptied_below s c.args.vp n in
    let more = ap (λ (x : Effect). length x.1) c.empty_slot.ensures.effect in
    let longer = length-append c.loop-number.notices (slot_emptied c.loop-number.self.state c.args.vp v).1 in
    record {
      bound = omega (arith, c.loop-number-test.true);
      so_far = record {
        effect = emptied_more s c.loop-number.self.state c.empty_slot.new.self.state c.empty_queue.new.self.state
            c.args.vp n v c.args.notices.now c.loop-number.notices
            c.empty_slot.new.notices c.empty_queue.new.notices
            c.loop-number.invariant.so_far.effect
            (numbered _ v n c.unwrap-sint.ensures c.new.ensures.value) c.empty_slot.ensures.effect
            c.empty_queue.ensures.effect;
        writes_monotone =
            omega (
              arith,
              c.loop-number.invariant.so_far.writes_monotone,
              c.empty_slot.ensures.writes,
              c.empty_queue.ensures.writes_monotone,
            );
        bound = omega (
          arith,
          c.loop-number.invariant.so_far.bound,
          c.empty_slot.ensures.writes,
          c.empty_queue.ensures.bound,
          more,
          longer,
        );
      };
    }
