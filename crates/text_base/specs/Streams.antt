-- What a source took from its reader, and what it left.
use Rattle.std.specs.Prelude.{◌≡◌, ℕ, ◌+◌, ◌≤◌, List, [], ◌∷◌, ◌++◌, length, take, Option}
use Rattle.std.specs.Io.KnownBytes.{Consumes}
use Rattle.text_base.specs.Lines.{IsOneLine}
use Rattle.text_base.specs.Buffered.{Buffered}
use Rattle.text_base.specs.Outputs.{Written, IsWritten}
use Rattle.text_base.specs.declared.source.NextLine.{NextLine}
use Rattle.text_base.specs.declared.source.NextLine.TheVariants as ends

-- the buffered bytes grew by those that were read
abbrev pub Grows : Buffered → Buffered → List ℕ → Type 0
Grows old new came = (new.waiting ≡ old.waiting ++ came) × (length came + new.budget ≡ old.budget)

-- A line of at most 640 bytes and its line feed were taken, and the buffered rest fits the memory; or 641 bytes
-- without a line feed are buffered, and
-- fit the memory; or the input is at its end, and its rest is the line; or a read or a flush failed. One byte beyond
-- the budget may be read, to
-- detect that it exists.
abbrev pub Finds : NextLine → Type 0 → Buffered → Buffered → List ℕ → Type 0
Finds ends.Whole at_end old new came =
    (old.waiting ++ came ≡ new.line ++ 10 ∷ new.waiting) × IsOneLine new.line × (length new.line ≤ 640)
    × (length came + new.budget ≡ old.budget) × (length new.waiting ≤ 65536)
Finds ends.Long at_end old new came =
    Grows old new came × IsOneLine (take 641 new.waiting) × (641 ≤ length new.waiting) × (length new.waiting ≤ 65536)
Finds ends.Last at_end old new came =
    (old.waiting ++ came ≡ new.line) × (new.waiting ≡ []) × at_end × IsOneLine new.line × (length new.line ≤ 640)
    × (length came + new.budget ≡ old.budget)
Finds ends.ReadFailed at_end old new came = length came ≤ old.budget + 1
Finds ends.FlushFailed at_end old new came = Grows old new came

-- before a read that failed, all of the output was written
abbrev pub IsWrittenFirst : NextLine → Written → Type 0
IsWrittenFirst ends.ReadFailed output = IsWritten output
IsWrittenFirst found output = Unit {0}

-- at most that many bytes were read
abbrev pub ReadsUpTo : ℕ → Option (List ℕ) → Option (List ℕ) → Type 0
ReadsUpTo most r0 r1 = (taken : List ℕ) × Consumes r0 r1 taken × (length taken ≤ most)
