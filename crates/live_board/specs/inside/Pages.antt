-- The live pages of a board: the accesses to each, and its name.
use Rattle.std.specs.Prelude.{List, map}
use Rattle.atomic_table.specs.Seated.{TableId}
use Rattle.live_pages.specs.Page.{Page}
use Rattle.live_pages.specs.declared.access.Access.{Access}

abbrev pub logs_of : List Page → List (List Access)
logs_of pages = map (λ (page : Page). page.log) pages

abbrev pub names_of : List Page → List TableId
names_of pages = map (λ (page : Page). page.name) pages
