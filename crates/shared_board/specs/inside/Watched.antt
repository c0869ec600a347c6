-- The code of what the lock of a watched board shows.
use Rattle.std.specs.Prelude.{refl}
use Rattle.std.specs.Coded.{Coded, code_by, coded×, coded_list}
use Rattle.published_words.specs.Words.{Logs}
use Rattle.published_words.specs.inside.Codes.{log_code}
use Rattle.shared_board.specs.Publishing.{Publishing}
use Rattle.shared_board.specs.Witnessed.{Witnessed}
use Rattle.shared_board.specs.inside.Rostered.{witnessed_code}

abbrev pub publishing_code : Coded Publishing
publishing_code =
    code_by (Witnessed × Logs) (coded× witnessed_code (coded_list log_code)) (λ p. (p.shared, p.logs))
    (λ p. record { shared = p.0; logs = p.1 }) (λ _. refl)
