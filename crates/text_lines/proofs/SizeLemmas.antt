-- Sizes within the limits.
use Rattle.std.proofs.Common.{◌↔◌, ◌≤◌, ◌&&◌, Decides, ℕ, Option, None, Some, nat_le, leb-true, le-leb}
use Rattle.std.specs.Bool.{IsTrue}
use Rattle.std.proofs.lemmas.Bool.Decides.{Decides-and}
use Rattle.text_lines.specs.Sizes.{AreBoardSizes, are_sizes}

-- between two numbers, as a Boolean test and as two inequalities
between : (low n high : ℕ) → Decides (nat_le low n && nat_le n high) ((low ≤ n) × (n ≤ high))
between low n high = Decides-and _ _ (leb-true low n, le-leb low n) (leb-true n high, le-leb n high)

pub sizes-are : (processors : ℕ) (pages : Option ℕ)
    → IsTrue (are_sizes processors pages) ↔ AreBoardSizes processors pages
sizes-are processors None = let within = between 1 processors 64 in (
  λ e. let h = within.0 e in record { some = h.0; bound = h.1 },
  λ h. within.1 (h.some, h.bound),
)
sizes-are processors (Some pages) = let within = Decides-and _ _ (between 1 processors 8) (between 1 pages 64) in (
  λ e. let h =
      within.0 e in record { some_processor = h.0.0; processor_bound = h.0.1; some_page = h.1.0; page_bound = h.1.1 },
  λ h. within.1 ((h.some_processor, h.processor_bound), (h.some_page, h.page_bound)),
)
