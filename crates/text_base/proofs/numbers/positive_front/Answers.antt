use Rattle.std.proofs.Common.{arith}
use Rattle.text_base.proofs.NumberLemmas.{front-room, so_far-more}
use Rattle.text_base.proofs.numbers.positive_front.Goals as goal

pub overflow_mul-n : goal.overflow_mul-n
overflow_mul-n c =
    let l = c.loop-count in
    let room = front-room c.args.base l.count c.args.digits l.n 0 c.requires.low
    (omega (arith, c.loop-count-test.true)) c.requires.bound l.invariant.2
    (omega (arith, c.requires.low)) in
    omega (arith, room.1)

pub overflow_add-n : goal.overflow_add-n
overflow_add-n c =
    let l = c.loop-count in
    let room = front-room c.args.base l.count c.args.digits l.n c.from-digit.result c.requires.low
    (omega (arith, c.loop-count-test.true)) c.requires.bound l.invariant.2 c.if-digit-base.false in
    omega (arith, room.1)

pub loop-count-preserved : goal.loop-count-preserved
loop-count-preserved c =
    let l = c.loop-count in
    let room = front-room c.args.base l.count c.args.digits l.n c.from-digit.result c.requires.low
    (omega (arith, c.loop-count-test.true)) c.requires.bound l.invariant.2 c.if-digit-base.false in
    let digit = c.in-Some.ensures.1 in (
      omega (arith, c.loop-count-test.true),
      omega (arith, c.loop-count-test.true),
      room.0,
      so_far-more c.args.base c.args.text.now l.count l.n c.from-digit.result c.requires.low c.requires.high
          (omega (arith, c.loop-count-test.true)) c.requires.first c.if-digit-base.false room.1
          (rw c.from-digit.ensures digit) l.invariant.3,
    )
