-- The abstract view of the fields, and their invariant.
use Rattle.std.specs.Prelude.{◌≡◌, ◌≢◌, ◌≤◌, length}
use Rattle.gpa_space.specs.Space.{Space}
use Rattle.gpa_space.specs.inside.OverlaysAt.{own_word, low_bits, AreOverlaysAt}
use Rattle.gpa_space.specs.declared.space.Space.TheInside.{Inside}

abbrev pub space_of : Inside → Space
space_of s = record { pages = s.pages.items; registers = s.registers.items; own = s.own.items }

pub record SpaceInvariant (s : Inside) : Type 0 where
  -- there are at most 64 processors, with two overlays each
  pub bound : length s.registers.items ≤ 128
  -- and at most eight if the space holds guest pages, since the word of a page has 16 bits
  pub dense : length s.pages.items ≢ 0 → length s.registers.items ≤ 16
  -- each overlay has its own page
  pub own : length s.own.items ≡ length s.registers.items
  -- there is a word for each guest page
  pub each : length s.mapped.words.items ≡ length s.pages.items
  pub mapped : AreOverlaysAt own_word 16 s.registers.items s.mapped.words.items
  -- if there are no guest pages, there is a word for each value of the low eight bits of a page number
  pub candidates : length s.pages.items ≡ 0 → length s.candidates.words.items ≡ 256
  pub marked : length s.pages.items ≡ 0 → AreOverlaysAt low_bits 128 s.registers.items s.candidates.words.items
