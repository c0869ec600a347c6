-- Events that concern one processor: what they do depends on that processor and on what processors share.
use Rattle.std.specs.Prelude.{◌≡◌, ◌≢◌, ℕ, ◌/◌, ◌==◌, Bool, false}
use Rattle.board_terms.specs.Quantities.{Processor}
use Rattle.gpa_space.specs.Space.{owner_of, visible}
use Rattle.synic_board.specs.declared.event.Event.{Event}
use Rattle.synic_board.specs.declared.event.Event.TheVariants.{Read, Load}
use Rattle.synic_board.specs.Buffers.{HasBuffers}
use Rattle.synic_board.specs.Paired.{HasPairedTimers}
use Rattle.synic_board.specs.Sound.{IsSound}
use Rattle.synic_board.specs.State.{State, processors, space_of}
use Rattle.synic_board.specs.Step.{step}
use Rattle.law_processors.specs.Isolation.{Keeps, is_overlay_of, touches}

-- two boards of the same size agree in all that processor q has and in what processors share; of the registers of the
-- others, only which overlay is visible where is the same
pub record Agree (q : Processor) (s t : State) : Type 0 where
  pub sound : IsSound s × IsSound t
  pub buffers : HasBuffers s × HasBuffers t
  pub paired : HasPairedTimers s × HasPairedTimers t
  pub count : processors t ≡ processors s
  pub has : Keeps q s t
  pub moment : t.moment ≡ s.moment
  pub tickets : t.next_ticket ≡ s.next_ticket
  pub ports : t.ports ≡ s.ports
  pub pages : t.pages ≡ s.pages
  pub visible : (page : ℕ) → visible (space_of t) page ≡ visible (space_of s) page

-- the processors that an event touches, that it reads, or whose overlay it loads from
abbrev pub concerns : State → Event → Processor → Bool
concerns s (Read p number) q = p == q
concerns s (Load address count) q = is_overlay_of q (owner_of (space_of s) (address / 4096))
concerns s event q = touches s event q

-- it concerns no processor but q
abbrev pub ConcernsAlone : State → Event → Processor → Type 0
ConcernsAlone s event q = (p : ℕ) → p ≢ q → concerns s event p ≡ false

-- the event has the same reply and notices in both states, and leaves the same of processor q
pub record ActsAlike (q : Processor) (s t : State) (event : Event) : Type 0 where
  pub reply : (step t event).1 ≡ (step s event).1
  pub notices : (step t event).2 ≡ (step s event).2
  pub has : Keeps q (step s event).0 (step t event).0
