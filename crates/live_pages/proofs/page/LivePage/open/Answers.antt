use Rattle.std.proofs.Common.{rules, [], ap}
use Rattle.atomic_table.specs.Table.{Me}
use Rattle.live_pages.specs.declared.page.View.{View}
use Rattle.live_pages.proofs.Seats.{parts}
use Rattle.live_pages.proofs.Tracing.{opens, is_both}
use Rattle.live_pages.proofs.page.LivePage.open.Goals as goal

pub of_words-requires : goal.of_words-requires
of_words-requires c = opens 0

pub split_seat-other-requires : goal.split_seat-other-requires
split_seat-other-requires c = (
  search rules,
  search rules,
  parts _ _ _ (is_both _ [] []
      (ap (λ (m : Me (Unit {0}) View). m.0) (c.in_ok-table.ensures.4))),
)
