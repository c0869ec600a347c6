-- A caller's buffer to which items are copied.
use Rattle.std.specs.Prelude.{◌≡◌, ℕ, ◌<◌, nat_lt, List, length, slice_get, if◌then◌else◌}

-- the items are at the front of the buffer, as many as fit, and the rest of it is unchanged
pub record Fronts {A : Type 0} (items before after : List A) : Type 0 where
  pub many : length after ≡ length before
  pub each : (i : ℕ) → i < length before
      → slice_get after i ≡ (if nat_lt i (length items) then slice_get items i else slice_get before i)
