-- The values of a page and of a guest as their parts, by which proofs distinguish values.
use Rattle.std.specs.Prelude.{List, refl}
use Rattle.std.specs.Coded.{Coded, code_by, coded×, coded_list}
use Rattle.atomic_table.specs.Seated.{TableId, table_id_coded}
use Rattle.live_pages.specs.declared.access.Access.{Access}
use Rattle.live_pages.specs.declared.access.Turn.{Turn}
use Rattle.live_pages.specs.contracts.access.Access as access
use Rattle.live_pages.specs.contracts.access.Turn as turn
use Rattle.live_pages.specs.Page.{Page, GuestModel}

abbrev pub page_code : Coded Page
page_code = code_by (TableId × List Access) (coded× table_id_coded (coded_list access.the_row.coded))
    (λ p. (p.name, p.log)) (λ r. record { name = r.0; log = r.1 }) (λ _. refl)

abbrev pub guest_code : Coded GuestModel
guest_code = code_by (TableId × List Turn) (coded× table_id_coded (coded_list turn.the_row.coded))
    (λ g. (g.of, g.seen)) (λ r. record { of = r.0; seen = r.1 }) (λ _. refl)
