-- The summary of a state, computed from scratch.
use Rattle.std.specs.Prelude.{◌≡◌, ◌*◌, ◌<◌, ℕ, Bool, true, false, List, Option, map, length, slice_index_or}
use Rattle.std.specs.List.{range_with_len}
use Rattle.lapic_core.specs.Vectors.{Vectors}
use Rattle.lapic_core.specs.Apic.{next}
use Rattle.synic_regs.specs.Regs.{auto_vectors}
use Rattle.board_terms.specs.declared.pages.Owner.{Owner}
use Rattle.gpa_space.specs.Space.{Space, owner_of}
use Rattle.board_terms.specs.Dues.{least}
use Rattle.board_terms.specs.Sources.{source_number}
use Rattle.stimer_bank.specs.Bank.{dues}
use Rattle.synic_board.specs.State.{State, space_of, bank_of}

-- the values of a summary
pub record Values : Type 0 where
  -- the next vector of each processor
  pub nexts : List (Option ℕ)
  -- the auto-EOI vectors of each processor
  pub autos : List Vectors
  -- which page a guest sees at each page number
  pub owners : List Owner
  -- how many messages are queued for each source
  pub queued : List ℕ
  -- the earliest timer, with its deadline
  pub earliest : Option (ℕ × (ℕ × ℕ))

-- a message is queued for some source of processor p, or for none
abbrev pub HasQueued : List ℕ → ℕ → Bool → Type 0
HasQueued queued p true = (i : ℕ) × (i < 16) × (0 < slice_index_or queued (source_number p i) 0)
HasQueued queued p false = (i : ℕ) → i < 16 → slice_index_or queued (source_number p i) 0 ≡ 0

-- the owner of each page
abbrev pub owners_of : Space → List Owner
owners_of s = map (owner_of s) (range_with_len 0 (length s.pages))

abbrev pub summary_of : State → Values
summary_of s =
    record {
      nexts = map next s.apics;
      autos = map auto_vectors s.regs;
      owners = owners_of (space_of s);
      queued = map length s.queues;
      earliest = least (dues (bank_of s));
    }

-- a summary for that many processors and pages
pub record HasSizes (processors pages : ℕ) (values : Values) : Type 0 where
  pub nexts : length values.nexts ≡ processors
  pub autos : length values.autos ≡ processors
  pub owners : length values.owners ≡ pages
  pub queued : length values.queued ≡ 16 * processors

-- a cached summary, and how often it was written
pub record StoredSummary : Type 0 where
  pub values : Values
  pub writes : ℕ

abbrev pub stored_summary : Values → ℕ → StoredSummary
stored_summary v n = record { values = v; writes = n }
