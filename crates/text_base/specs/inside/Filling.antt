-- Filling the buffer of a source, and finding a line in it.
use Rattle.std.specs.Prelude.{◌≡◌, ℕ, ◌+◌, ◌≤◌, ◌<◌, List, [], ◌∷◌, ◌++◌, length, take, Option, None, Some}
use Rattle.text_base.specs.Lines.{IsOneLine}
use Rattle.text_base.specs.Buffered.{Buffered}
use Rattle.text_base.specs.declared.source.Fill.{Fill}
use Rattle.text_base.specs.declared.source.Fill.TheVariants as fills
use Rattle.text_base.specs.declared.source.Scan.{Scan}
use Rattle.text_base.specs.declared.source.Scan.TheVariants as scans
use Rattle.text_base.specs.Outputs.{Written, IsWritten}
use Rattle.text_base.specs.Streams.{Grows}

-- the bytes read follow those at the front
abbrev pub Refills : Option ℕ → Type 0 → ℕ → List ℕ → List ℕ → List ℕ → Type 0
Refills None at_end room front bytes came = (came ≡ []) × (take (length front) bytes ≡ front)
Refills (Some n) at_end room front bytes came =
    (length came ≡ n) × (n ≤ room) × (n ≡ 0 → 0 < room → at_end) × (take (length front + n) bytes ≡ front ++ came)

-- one read: bytes were read, or the input is at its end
abbrev pub Fills : Fill → Type 0 → Buffered → Buffered → List ℕ → Type 0
Fills fills.More at_end old new came = Grows old new came × (0 < length came)
Fills fills.End at_end old new came = Grows old new came × (came ≡ []) × at_end
Fills fills.ReadFailed at_end old new came = (new.waiting ≡ old.waiting) × (length came ≤ old.budget + 1)
Fills fills.FlushFailed at_end old new came = (came ≡ []) × Grows old new came

-- before a read that failed, all of the output was written
abbrev pub FillsAfter : Fill → Written → Type 0
FillsAfter fills.ReadFailed output = IsWritten output
FillsAfter fill output = Unit {0}

-- the line among the buffered bytes
abbrev pub Scans : Scan → Buffered → Buffered → Type 0
Scans scans.Whole old new =
    (old.waiting ≡ new.line ++ 10 ∷ new.waiting) × IsOneLine new.line × (length new.line ≤ 640)
    × (new.budget ≡ old.budget) × (length new.waiting ≤ 65536)
Scans scans.Long old new =
    IsOneLine (take 641 old.waiting) × (641 ≤ length old.waiting) × (length old.waiting ≤ 65536) × (new ≡ old)
Scans scans.Short old new = IsOneLine old.waiting × (length old.waiting ≤ 640) × (new ≡ old)
