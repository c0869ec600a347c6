use Rattle.std.proofs.Common.{◌≡◌, replicate, vec_len, vec_capacity}
use Rattle.gpa_space.specs.Page.{zero_page}
use Rattle.gpa_space.proofs.space.zero_pages.Given as goal

abbrev pub invariant-loop : goal.invariant-loop
invariant-loop l =
    record {
      items : l.pages.items ≡ replicate l.counter zero_page;
      room : vec_capacity l.pages ≡ l.count;
      len : vec_len l.pages ≡ l.counter;
    }
