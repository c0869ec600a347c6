-- The sizes of a board that a line opens, and its state.
use Rattle.std.specs.Prelude.{ℕ, ◌&&◌, Bool, nat_le, Option, None, Some}
use Rattle.synic_board.specs.State.{State, AreSizes, IsCount, opened}

-- the sizes that a board may be opened with; without pages it is sparse
abbrev pub AreBoardSizes : ℕ → Option ℕ → Type 0
AreBoardSizes processors None = IsCount processors
AreBoardSizes processors (Some pages) = AreSizes processors pages

-- the same as a Boolean test
abbrev pub are_sizes : ℕ → Option ℕ → Bool
are_sizes processors None = nat_le 1 processors && nat_le processors 64
are_sizes processors (Some pages) = (nat_le 1 processors && nat_le processors 8) && (nat_le 1 pages && nat_le pages 64)

-- a sparse board holds no guest pages
abbrev pub pages_held : Option ℕ → ℕ
pages_held None = 0
pages_held (Some pages) = pages

-- the state of the board that a board line opens
abbrev pub opened_by : ℕ → Option ℕ → ℕ → State
opened_by processors pages ticket = opened processors (pages_held pages) ticket
