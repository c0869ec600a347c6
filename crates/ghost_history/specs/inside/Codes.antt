-- How rows are encoded in the logic.
use Rattle.std.specs.Prelude.{List, refl}
use Rattle.std.specs.Coded.{Coded, code_by, coded×, coded_ℕ, coded_list}
use Rattle.board_terms.specs.contracts.notices.Notice as notice_row
use Rattle.synic_board.specs.contracts.event.Event as event_row
use Rattle.synic_board.specs.contracts.event.Reply as reply_row
use Rattle.board_terms.specs.declared.notices.Notice.{Notice}
use Rattle.synic_board.specs.declared.event.Event.{Event}
use Rattle.synic_board.specs.declared.event.Reply.{Reply}
use Rattle.ghost_history.specs.Rows.{Answer, answer, Row}

abbrev pub answer_coded : Coded Answer
answer_coded =
    code_by (Event × (Reply × List Notice))
    (coded× event_row.the_row.coded (coded× reply_row.the_row.coded (coded_list notice_row.the_row.coded)))
    (λ x. (x.event, (x.reply, x.notices))) (λ p. answer p.0 p.1.0 p.1.1) (λ _. refl)

abbrev pub row_coded : Coded Row
row_coded = coded× coded_ℕ (coded_list answer_coded)

abbrev pub rows_coded : Coded (List Row)
rows_coded = coded_list row_coded
