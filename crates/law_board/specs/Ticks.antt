-- A tick without a limit (TLFS, "Synthetic Timers").
use Rattle.std.specs.Prelude.{nat_lt, ◌==◌, List, [], ◌∷◌, if◌then◌else◌}
use Rattle.board_terms.specs.Quantities.{TimerId, Moment}
use Rattle.board_terms.specs.declared.refusal.Refusal.TheVariants.{ClockBack}
use Rattle.stimer_bank.specs.Bank.{dues, due_list}
use Rattle.synic_board.specs.declared.event.Reply.TheVariants.{Done}
use Rattle.synic_board.specs.State.{State, bank_of}
use Rattle.synic_board.specs.Effects.{Effect, Outcome, nothing, after, answered, unchanged, refused}
use Rattle.synic_board.specs.Timers.{attempted, at_moment}

-- attempts of several timers in order; readiness is evaluated at each
unfoldable pub attempted_all : State → List TimerId → Effect
attempted_all s [] = nothing s
attempted_all s (t ∷ ts) = after (attempted s t) (attempted_all (attempted s t).0 ts)

-- each timer that is due is tried
abbrev pub ticked_all : State → Moment → Outcome
ticked_all s moment =
    if nat_lt moment s.moment then refused s ClockBack
    else if moment == s.moment then unchanged s Done
    else answered Done (attempted_all (at_moment s moment) (due_list (dues (bank_of s)) moment))
