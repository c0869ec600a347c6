use Rattle.std.proofs.Common.{rules, ap, ◌∙◌}
use Rattle.atomic_table.specs.Table.{Me}
use Rattle.live_pages.specs.declared.page.View.{View}
use Rattle.live_pages.specs.inside.Open.{both_view}
use Rattle.live_pages.proofs.Seats.{parts, meets}
use Rattle.live_pages.proofs.Tracing.{guest_looks, tells_load, is_both}
use Rattle.live_pages.proofs.page.LivePage.guest_load.Goals as goal

abbrev view : Me (Unit {0}) View → View
view m = m.0

pub join_seat-requires : goal.join_seat-requires
join_seat-requires c = (
  c.self.invariant.1,
  search rules,
  search rules,
  search rules,
  meets _ _ _ _ _ (ap view c.self.invariant.2) (ap view c.guest.invariant),
)

pub load-found-requires : goal.load-found-requires
load-found-requires c =
    (search rules, search rules, guest_looks _ _ _ _ _ c.requires.word (is_both _ _ _ (ap view c.join_seat.ensures.2)))

pub split_seat-other-requires : goal.split_seat-other-requires
split_seat-other-requires c =
    (search rules, search rules, parts _ _ _ (is_both _ _ _ c.load-found.ensures.2.1))

pub returns-clause-seen : goal.returns-clause-seen
returns-clause-seen c =
    tells_load c.self.inside.table.shared.table_id.slots c.args.word _ _ c.join_seat.new.seat.me
    c.load-found.new.seat.me
    c.split_seat-other.result.me _
    (ap view c.join_seat.ensures.2 ∙ (λ j. both_view (c.self.view_is j).log (c.guest.view_is j).seen))
    c.load-found.ensures.2 (ap view c.split_seat-other.ensures.4)
