-- A live board's value as its parts, by which proofs distinguish values.
use Rattle.std.specs.Prelude.{List, refl}
use Rattle.std.specs.Coded.{Coded, code_by, coded×, coded_list}
use Rattle.atomic_table.specs.Seated.{TableId, table_id_coded}
use Rattle.synic_board.specs.State.{BoardModel}
use Rattle.synic_board.specs.inside.Codes.{model_code}
use Rattle.live_pages.specs.declared.access.Access.{Access}
use Rattle.live_pages.specs.contracts.access.Access as access
use Rattle.live_board.specs.Live.{LiveModel}

abbrev pub live_code : Coded LiveModel
live_code = code_by (BoardModel × (List (List Access) × List TableId))
    (coded× model_code (coded× (coded_list (coded_list access.the_row.coded)) (coded_list table_id_coded)))
    (λ m. (m.board, (m.pages, m.names))) (λ p. record { board = p.0; pages = p.1.0; names = p.1.1 }) (λ _. refl)
