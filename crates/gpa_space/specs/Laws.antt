-- Consequences for a guest.
use Rattle.std.specs.Prelude.{◌≡◌, ℕ, List, All, None, Ok, length}
use Rattle.board_terms.specs.declared.pages.Kind.TheVariants as kind
use Rattle.board_terms.specs.declared.pages.Owner.TheVariants.{Guest, Sim, Sief, Nothing}
use Rattle.gpa_space.specs.Space.{Space, opened, with_register, owner_of, refusal_of, loaded, after_store}

-- the SIM page of processor 1 and the SIEF page of processor 0 are both mapped at page 2 of four
abbrev pub stacked : Space
stacked = with_register (with_register (opened 2 4) 1 kind.Sim 0x2001) 0 kind.Sief 0x2001

-- the first is visible, and the next one if it is disabled or moves; outside the space none is
pub record OverlaysLieInOrder : Type 0 where
  pub none : owner_of (opened 2 4) 2 ≡ Guest
  pub first : owner_of stacked 2 ≡ Sief 0
  pub disabled : owner_of (with_register stacked 0 kind.Sief 0x2000) 2 ≡ Sim 1
  pub moved : owner_of (with_register stacked 0 kind.Sief 0x3001) 2 ≡ Sim 1
  pub moved_here : owner_of (with_register stacked 0 kind.Sief 0x3001) 3 ≡ Sief 0
  pub outside : owner_of (with_register stacked 0 kind.Sief 0x4001) 4 ≡ Nothing

-- all pages have 4096 bytes, and each overlay has its own page
pub record IsWholeSpace (s : Space) : Type 0 where
  pub pages : All (λ page. length page ≡ 4096) s.pages
  pub own : All (λ page. length page ≡ 4096) s.own
  pub each : length s.own ≡ length s.registers

-- a guest loads the bytes that it stored
abbrev pub StoredBytesAreLoaded : Type 0
StoredBytesAreLoaded =
    (s : Space) (address : ℕ) (bytes : List ℕ) → IsWholeSpace s → refusal_of s address (length bytes) ≡ None →
    loaded (after_store s address bytes) address (length bytes) ≡ Ok (record { items = bytes })
