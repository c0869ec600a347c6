-- The ranges that the types of a board's parts ensure.
use Rattle.std.specs.Prelude.{◌<◌, ◌^◌}
use Rattle.std.specs.List.{All}
use Rattle.board_terms.specs.Ranges.{AreBytes, HasMessageRanges}
use Rattle.lapic_core.specs.Ranges.{IsApic}
use Rattle.synic_regs.specs.Ranges.{AreRegs}
use Rattle.stimer_bank.specs.Ranges.{IsTimer}
use Rattle.synic_board.specs.State.{State}

pub record HasRanges (s : State) : Type 0 where
  pub moment : s.moment < 2 ^ 64
  pub next_ticket : s.next_ticket < 2 ^ 64
  pub apics : All IsApic s.apics
  pub regs : All AreRegs s.regs
  pub pages : All AreBytes s.pages
  pub own : All AreBytes s.own
  pub timers : All IsTimer s.timers
  pub queues : All (All HasMessageRanges) s.queues
