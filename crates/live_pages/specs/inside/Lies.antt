-- What a step of the host may not record: what it made up, and what it has not done.
use Rattle.std.specs.Prelude.{◌≡◌, ℕ, ◌==◌, []}
use prog.Atomic.{either}
use Rattle.atomic_table.specs.Table.{Allows}
use Rattle.live_pages.specs.declared.access.Access.{Access}
use Rattle.live_pages.specs.declared.access.Access.TheVariants.{Load, FetchOr, Store}
use Rattle.live_pages.specs.inside.Open.{IsOpen, Records, host_view}

-- a step of the host that makes f of the word 0, and records an access
abbrev pub Allowed : ℕ → (ℕ → ℕ) → Access → Type 0
Allowed key f a = Allows (IsOpen key) 0 0 (host_view [], []) 0 f (λ found after. Records (host_view [], []) a after)

abbrev pub exchanged : ℕ → ℕ → ℕ
exchanged value n = either (n == value) value n

-- a load of 0 that did not look, an or that found 0 and was none, and a store that was none
pub record LiesAreRefused (key : ℕ) : Type 0 where
  pub load : Allowed key (λ n. n) (Load 0 0) → ⊥
  pub or : (mask : ℕ) → Allowed key (exchanged mask) (FetchOr 0 mask 0) → ⊥
  pub store : (value : ℕ) → (value ≡ 1 → ⊥) → Allowed key (exchanged value) (Store 0 value) → ⊥
