-- The ranges that the type of a timer ensures.
use Rattle.std.specs.Prelude.{◌<◌, ◌^◌, IfSome}
use Rattle.stimer_bank.specs.declared.timer.Timer.{Timer}

-- the registers of a timer, and its deadline
abbrev pub IsTimer : Timer → Type 0
IsTimer x = (x.config < 2 ^ 64) × (x.count < 2 ^ 64) × IfSome x.due (λ d. d < 2 ^ 128)
