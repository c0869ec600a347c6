use Rattle.std.proofs.Common.{ap, arith}
use Rattle.std.specs.Prelude.{vec_len}
use Rattle.std.specs.List.{sum_by}
use Rattle.board_threads.proofs.script.are_script_sizes.Goals as goal

pub returns-then-len-room : goal.returns-then-len-room
returns-then-len-room c = (
  λ yes. record {
    actors = omega (arith, c.if-len-gt15.false, c.len.ensures);
    lines = omega (arith, c.if-len-gt16.false, c.len-else-len-gt15.ensures);
    entries = let fits = c.fit.ensures.0 yes in omega (
      arith,
      fits,
      ap (sum_by (λ s. vec_len s)) c.as_slice.ensures.value,
      c.if-len-room.true,
      c.len-2.ensures,
      c.len-then-len-room.ensures,
      c.from.ensures,
    );
  },
  λ sized. c.fit.ensures.1
      (omega (
        arith,
        sized.entries,
        ap (sum_by (λ s. vec_len s)) c.as_slice.ensures.value,
        c.if-len-room.true,
        c.len-2.ensures,
        c.len-then-len-room.ensures,
        c.from.ensures,
      )),
)
