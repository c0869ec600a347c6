-- What an image holds of a state: a part unchanged, or its elements that differ from those of a newly opened board,
-- with their numbers.
use Rattle.std.specs.Prelude.{◌*◌, ℕ, suc, Bool, true, false, ◌==◌, List, [], ◌∷◌, Option, None, is_none, length, map, replicate, slice_set, if◌then◌else◌}
use Rattle.std.specs.List.{list_all}
use Rattle.board_terms.specs.Quantities.{Moment, Ticket}
use Rattle.board_terms.specs.declared.messages.Message.{Message}
use Rattle.lapic_core.specs.Apic.{Apic}
use Rattle.synic_regs.specs.Regs.{Regs}
use Rattle.event_ports.specs.declared.ports.Port.{Port}
use Rattle.event_ports.specs.Ports.{no_ports}
use Rattle.gpa_space.specs.Page.{zero_page}
use Rattle.stimer_bank.specs.declared.timer.Timer.{Timer}
use Rattle.stimer_bank.specs.Bank.{idle_timer}
use Rattle.synic_board.specs.State.{State}

-- the elements that differ from the first one, numbered from k on
abbrev pub changed : {A : Type 0} → (A → Bool) → ℕ → List A → List (ℕ × A)
changed is_first k [] = []
changed is_first k (x ∷ xs) = if is_first x then changed is_first (suc k) xs else (k, x) ∷ changed is_first (suc k) xs

-- a list with some elements replaced, by their numbers
abbrev pub put_back : {A : Type 0} → List A → List (ℕ × A) → List A
put_back xs [] = xs
put_back xs (p ∷ ps) = put_back (slice_set xs p.0 p.1) ps

abbrev pub is_zero_page : List ℕ → Bool
is_zero_page page = list_all (λ b. b == 0) page

abbrev pub is_idle : Timer → Bool
is_idle x = if x.config == 0 then (if x.count == 0 then is_none x.due else false) else false

abbrev pub is_empty : List Message → Bool
is_empty [] = true
is_empty (m ∷ q) = false

pub record Saved : Type 0 where
  pub moment : Moment
  pub next_ticket : Ticket
  pub apics : List Apic
  pub regs : List Regs
  -- the number of guest pages, and those that are not zero
  pub page_count : ℕ
  pub pages : List (ℕ × List ℕ)
  pub own : List (ℕ × List ℕ)
  pub ports : List (ℕ × Option Port)
  pub timers : List (ℕ × Timer)
  pub queues : List (ℕ × List Message)
  pub slots : List (ℕ × Option Ticket)

abbrev pub saved : State → Saved
saved s =
    record {
      moment = s.moment;
      next_ticket = s.next_ticket;
      apics = s.apics;
      regs = s.regs;
      page_count = length s.pages;
      pages = changed is_zero_page 0 s.pages;
      own = changed is_zero_page 0 s.own;
      ports = changed is_none 0 s.ports;
      timers = changed is_idle 0 s.timers;
      queues = changed is_empty 0 s.queues;
      slots = changed is_none 0 s.slots;
    }

-- a newly opened board with all of that put back; the timers of each processor are suspended iff its local APIC is
abbrev pub restored : Saved → State
restored v =
    let n = length v.apics in
    record {
      moment = v.moment;
      next_ticket = v.next_ticket;
      apics = v.apics;
      regs = v.regs;
      pages = put_back (replicate v.page_count zero_page) v.pages;
      own = put_back (replicate (2 * n) zero_page) v.own;
      ports = put_back (no_ports n (v.page_count == 0)).ports v.ports;
      queues = put_back (replicate (16 * n) []) v.queues;
      slots = put_back (replicate (16 * n) None) v.slots;
      timers = put_back (replicate (4 * n) idle_timer) v.timers;
      suspended = map (λ (a : Apic). a.suspended) v.apics;
    }
