-- The items that lines denote: a line denotes an item iff its fields, separated by single spaces, are the item's.
use Rattle.std.specs.Prelude.{◌≡◌, ℕ, ◌<◌, ◌^◌, List, [], ◌∷◌, Option, None, Some, codes, decimal}
use Rattle.text_base.specs.Fields.{fields_of}
use Rattle.synic_board.specs.declared.event.Event.{Event}
use Rattle.text_lines.specs.Events.{event_fields, IsEvent}

-- what a line of a script denotes
pub data Item : Type 0 where
  -- a board line: processors, guest pages that the board holds (none: a sparse board), first ticket
  Opening : ℕ → Option ℕ → ℕ → Item
  -- an event
  Performs : Event → Item
  -- a summary
  Summary : Item

-- a number of pages, or the word of a sparse board
abbrev pub pages_field : Option ℕ → List ℕ
pages_field None = codes "sparse"
pages_field (Some pages) = decimal pages

abbrev pub item_fields : Item → List (List ℕ)
item_fields (Opening processors pages ticket) =
    codes "board" ∷ decimal processors ∷ pages_field pages ∷ decimal ticket ∷ []
item_fields (Performs event) = event_fields event
item_fields Summary = codes "summary" ∷ []

abbrev pub ArePages : Option ℕ → Type 0
ArePages None = Unit {0}
ArePages (Some pages) = pages < 256

-- the ranges of an item's fields
abbrev pub IsItem : Item → Type 0
IsItem (Opening processors pages ticket) = (processors < 256) × ArePages pages × (ticket < 2 ^ 64)
IsItem (Performs event) = IsEvent event
IsItem Summary = Unit {0}

pub record Denotes (line : List ℕ) (item : Item) : Type 0 where
  pub fields : fields_of line ≡ item_fields item
  pub fits : IsItem item
