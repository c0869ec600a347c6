-- Events that concern two processors, each alone, and leave what is shared: their order is of no consequence.
use Rattle.std.specs.Prelude.{◌≡◌, ℕ}
use Rattle.board_terms.specs.Quantities.{Processor}
use Rattle.gpa_space.specs.Space.{visible}
use Rattle.synic_board.specs.declared.event.Event.{Event}
use Rattle.synic_board.specs.Buffers.{HasBuffers}
use Rattle.synic_board.specs.Paired.{HasPairedTimers}
use Rattle.synic_board.specs.Sound.{IsSound, PayloadFits}
use Rattle.synic_board.specs.State.{State, space_of}
use Rattle.synic_board.specs.Step.{step}
use Rattle.law_processors.specs.Isolation.{Keeps}
use Rattle.law_processors.specs.Influence.{ConcernsAlone}

-- the clock, the next ticket, the ports, the guest pages and which overlay is visible where are as before
pub record LeavesShared (s now : State) : Type 0 where
  pub moment : now.moment ≡ s.moment
  pub tickets : now.next_ticket ≡ s.next_ticket
  pub ports : now.ports ≡ s.ports
  pub pages : now.pages ≡ s.pages
  pub visible : (page : ℕ) → visible (space_of now) page ≡ visible (space_of s) page

-- an event concerns processor q alone, and leaves what is shared
pub record IsConfined (q : Processor) (s : State) (event : Event) : Type 0 where
  pub alone : ConcernsAlone s event q
  pub shared : LeavesShared s (step s event).0

-- what every state of a board is
pub record IsOfBoard (s : State) : Type 0 where
  pub sound : IsSound s
  pub buffers : HasBuffers s
  pub paired : HasPairedTimers s

-- an event of processor p and one of processor q, each within its processor in either order
pub record AreConfined (p q : Processor) (s : State) (e f : Event) : Type 0 where
  pub board : IsOfBoard s
  pub payloads : PayloadFits e × PayloadFits f
  pub first : IsConfined p s e
  pub second : IsConfined q s f
  pub first_after : IsConfined p (step s f).0 e
  pub second_after : IsConfined q (step s e).0 f

-- in either order each has the same reply and notices, and all processors and what is shared end the same
pub record EndAlike (s : State) (e f : Event) : Type 0 where
  pub first : (step (step s f).0 e).1 ≡ (step s e).1
  pub first_notices : (step (step s f).0 e).2 ≡ (step s e).2
  pub second : (step (step s e).0 f).1 ≡ (step s f).1
  pub second_notices : (step (step s e).0 f).2 ≡ (step s f).2
  pub has : (r : Processor) → Keeps r (step (step s f).0 e).0 (step (step s e).0 f).0
  pub shared : LeavesShared (step (step s f).0 e).0 (step (step s e).0 f).0
