-- The abstract state of a page, and of its guest.
use Rattle.std.specs.Prelude.{List, ◌∷◌}
use Rattle.atomic_table.specs.Seated.{TableId}
use Rattle.live_pages.specs.declared.access.Access.{Access}
use Rattle.live_pages.specs.declared.access.Turn.{Turn}

-- the identity of a page, and the accesses of the host, the last one first
pub record Page : Type 0 where
  pub name : TableId
  pub log : List Access

abbrev pub page_of : TableId → List Access → Page
page_of name log = record { name = name; log = log }

abbrev pub with_access : Page → Access → Page
with_access p a = page_of p.name (a ∷ p.log)

-- the page of a guest, and all turns up to its last one, the last turn first
pub record GuestModel : Type 0 where
  pub of : TableId
  pub seen : List Turn

abbrev pub guest_of : TableId → List Turn → GuestModel
guest_of name seen = record { of = name; seen = seen }
