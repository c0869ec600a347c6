use Rattle.std.proofs.Common.{ℕ, ◌/◌, ◌^◌, arith, refl, sym, ap, ◌∙◌}
use Rattle.std.specs.Int.{trailing_zeros, w64}
use Rattle.synic_board.specs.State.{processors}
use Rattle.synic_board.proofs.Words.{halved, next-bit}
use Rattle.synic_board.proofs.Sending.{sent_none, sent_more, sent_whole}
use Rattle.synic_board.proofs.keeping.Bounds.{within-sent_below, told_within, same_within}
use Rattle.synic_board.proofs.machine.Machine.send_to_each.Goals as goal

pub loop-left-init : goal.loop-left-init
loop-left-init c =
    record {
      few_bits = omega arith;
      left = omega arith;
      so_far = record { effect = sent_none _ _ _ _; writes_monotone = omega arith; bound = omega arith };
    }

pub send_to-requires : goal.send_to-requires
send_to-requires c =
    let next = next-bit w64 64 c.args.mask c.loop-left.left c.loop-left.behind c.ranges.mask.fits
    c.loop-left.invariant.left (omega arith) c.loop-left.auto.left-fits.fits in
    let on = next-bit w64 (processors c.args.self.now.state) c.args.mask c.loop-left.left c.loop-left.behind
    c.requires.on c.loop-left.invariant.left (omega arith) c.loop-left.auto.left-fits.fits in
    let below = within-sent_below c.args.self.now.state c.args.vector c.args.mask c.loop-left.behind in
    record {
      on = omega (arith, on.inside, same_within _ below c.loop-left.invariant.so_far);
      room = omega (arith, c.requires.room, next.inside, told_within _ below c.loop-left.invariant.so_far);
    }

pub loop-left-preserved : goal.loop-left-preserved
loop-left-preserved c =
    let next = next-bit w64 64 c.args.mask c.loop-left.left c.loop-left.behind c.ranges.mask.fits
    c.loop-left.invariant.left (omega arith) c.loop-left.auto.left-fits.fits in
    let skipped : ℕ = trailing_zeros w64 c.loop-left.left in
    record {
      few_bits = omega (arith, next.inside);
      left = ap (λ n. n / 2 ^ skipped / 2) c.loop-left.invariant.left ∙ halved c.args.mask c.loop-left.behind skipped;
      so_far = record {
        effect = sent_more _ _ _ _ _ _ _ _ _ _ _ _ next refl c.loop-left.invariant.so_far.effect
            c.send_to.ensures.effect;
        writes_monotone =
            omega (arith, c.loop-left.invariant.so_far.writes_monotone, c.send_to.ensures.writes_monotone);
        bound = omega (arith, c.loop-left.invariant.so_far.bound, c.send_to.ensures.bound);
      };
    }

pub returns : goal.returns
returns c =
    let none = sym c.loop-left-test.false ∙ c.loop-left.invariant.left in
    let so_far = c.loop-left.invariant.so_far in
    record {
      effect = sent_whole _ _ _ _ _ _ _ c.loop-left.invariant.few_bits none so_far.effect;
      writes_monotone = so_far.writes_monotone;
      bound = so_far.bound;
    }
