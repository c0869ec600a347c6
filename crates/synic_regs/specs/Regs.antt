-- What the registers of the synthetic interrupt controller store (TLFS, "SCONTROL Register", "SIEFP
-- Register", "SIMP Register" and "SINTx Registers").
use Rattle.std.specs.Prelude.{ℕ, Bool, true, false, ◌==◌, ◌%◌, ◌&&◌, ◌||◌, not, nat_lt, bit_and, List, Option, None, Some, if◌then◌else◌, replicate, slice_index_or, slice_set}
use Rattle.std.specs.List.{list_any}
use Rattle.lapic_core.specs.Vectors.{Vectors, numbers_where}
use Rattle.synic_regs.specs.declared.register.Register.{Register}
use Rattle.synic_regs.specs.declared.register.Register.TheVariants.{Control, Sief, Sim, Source}
use Rattle.synic_regs.specs.declared.regs.Outcome.{Outcome}
use Rattle.synic_regs.specs.declared.regs.Outcome.TheVariants.{Stored, GeneralProtection}

-- SCONTROL, SIEFP, SIMP and the sixteen sources
pub record Regs : Type 0 where
  pub control : ℕ
  pub sief : ℕ
  pub sim : ℕ
  pub sints : List ℕ

-- the bits: enable of SCONTROL, SIEFP and SIMP; masked, AutoEOI and polling of a source
abbrev pub enable : ℕ
enable = 0x1

abbrev pub masked : ℕ
masked = 0x10000

abbrev pub auto_eoi : ℕ
auto_eoi = 0x20000

abbrev pub polling : ℕ
polling = 0x40000

-- the word has the bit
abbrev pub has : ℕ → ℕ → Bool
has word bit = bit_and word bit == bit

-- the vector of a source
abbrev pub vector_of : ℕ → ℕ
vector_of word = word % 256

-- a source that is masked or polling raises nothing (profile)
abbrev pub is_silent : ℕ → Bool
is_silent word = has word masked || has word polling

-- after reset every source is masked, and all else is 0
abbrev pub reset_regs : Regs
reset_regs = record { control = 0; sief = 0; sim = 0; sints = replicate 16 masked }

-- the registers that store a written value here
abbrev pub stores : Register → Bool
stores Control = true
stores Sief = true
stores Sim = true
stores (Source _) = true
stores _ = false

-- a source with a vector below 16 has to be masked (profile)
abbrev pub is_legal : ℕ → Bool
is_legal word = not (nat_lt (vector_of word) 16) || has word masked

-- a write of an illegal value to a source is refused, and no other write
abbrev pub is_refused : Register → ℕ → Bool
is_refused (Source _) value = not (is_legal value)
is_refused _ value = false

abbrev pub outcome_of : Register → ℕ → Outcome
outcome_of register value = if is_refused register value then GeneralProtection else Stored

-- a register stores a value
abbrev pub with_value : Regs → Register → ℕ → Regs
with_value r Control value = record r { control = value }
with_value r Sief value = record r { sief = value }
with_value r Sim value = record r { sim = value }
with_value r (Source n) value = record r { sints = slice_set r.sints n value }
with_value r _ value = r

-- after a write: a refused one changes nothing
abbrev pub after_write : Regs → Register → ℕ → Regs
after_write r register value = if is_refused register value then r else with_value r register value

-- the word of a source
abbrev pub source_of : Regs → ℕ → ℕ
source_of r n = slice_index_or r.sints n 0

-- what a register stores
abbrev pub value_of : Regs → Register → ℕ
value_of r Control = r.control
value_of r Sief = r.sief
value_of r Sim = r.sim
value_of r (Source n) = source_of r n
value_of r _ = 0

-- the vector that a source raises
abbrev pub raised_by_word : ℕ → Option ℕ
raised_by_word word = if is_silent word then None else Some (vector_of word)

abbrev pub raised_by : Regs → ℕ → Option ℕ
raised_by r n = raised_by_word (source_of r n)

-- a source makes a vector auto-EOI: it has the AutoEOI bit, is neither masked nor polling, and has that vector
abbrev pub is_auto_source : ℕ → ℕ → Bool
is_auto_source v word = has word auto_eoi && not (is_silent word) && (vector_of word == v)

-- the vectors that some of these sources make auto-EOI
unfoldable pub auto_eoi_of : List ℕ → Vectors
auto_eoi_of sints = numbers_where (λ v. list_any (is_auto_source v) sints) 256

-- the auto-EOI vectors
abbrev pub auto_vectors : Regs → Vectors
auto_vectors r = auto_eoi_of r.sints
