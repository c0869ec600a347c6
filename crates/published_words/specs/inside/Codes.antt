-- How contracts encode the values of this crate.
use Rattle.std.specs.Prelude.{ℕ, List, refl}
use Rattle.std.specs.Coded.{Coded, code_by, coded×, coded_ℕ, coded_list}
use Rattle.atomic_table.specs.Seated.{TableId, table_id_coded}
use Rattle.synic_board.specs.State.{State}
use Rattle.synic_board.specs.contracts.history.Entry as entries
use Rattle.synic_board.specs.declared.history.Entry.{Entry}
use Rattle.synic_board.specs.inside.Codes.{state_code}
use Rattle.published_words.specs.Words.{Words, Logs, Published, Watching}

abbrev pub log_code : Coded (List Entry)
log_code = coded_list entries.the_row.coded

abbrev pub words_code : Coded Words
words_code =
    code_by (TableId × State) (coded× table_id_coded state_code) (λ w. (w.name, w.start))
    (λ p. record { name = p.0; start = p.1 }) (λ _. refl)

abbrev pub published_code : Coded Published
published_code =
    code_by (Words × Logs) (coded× words_code (coded_list log_code)) (λ p. (p.of, p.logs))
    (λ p. record { of = p.0; logs = p.1 }) (λ _. refl)

abbrev pub watching_code : Coded Watching
watching_code =
    code_by (Words × (ℕ × (List Entry × List Entry))) (coded× words_code (coded× coded_ℕ (coded× log_code log_code)))
    (λ w. (w.of, (w.word, (w.seen, w.floor))))
    (λ p. record { of = p.0; word = p.1.0; seen = p.1.1.0; floor = p.1.1.1 }) (λ _. refl)
