-- The Requested notices of an event (SDM volume 3, "Interrupt Acceptance for Fixed Interrupts").
use Rattle.std.specs.Prelude.{◌≡◌, ℕ, Bool, false, ◌==◌, ◌&&◌, List, Some}
use Rattle.std.specs.List.{list_any}
use Rattle.board_terms.specs.declared.notices.Notice.{Notice}
use Rattle.board_terms.specs.declared.notices.Notice.TheVariants.{Requested}
use Rattle.synic_board.specs.declared.event.Event.TheVariants.{Take}
use Rattle.synic_board.specs.declared.event.Reply.TheVariants.{Taken}
use Rattle.synic_board.specs.State.{State}
use Rattle.synic_board.specs.Step.{step}

abbrev pub is_request_notice : ℕ → ℕ → Notice → Bool
is_request_notice p v (Requested q w) = p == q && v == w
is_request_notice p v notice = false

-- one of the notices is a Requested of that vector
abbrev pub has_request_notice : ℕ → ℕ → List Notice → Bool
has_request_notice p v notices = list_any (is_request_notice p v) notices

-- `take` of processor p takes v
abbrev pub Takes : State → ℕ → ℕ → Type 0
Takes s p v = (step s (Take p)).1 ≡ Taken (Some v)
