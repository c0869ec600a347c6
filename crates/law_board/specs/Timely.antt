-- When timers expire (TLFS, "Synthetic Timers").
use Rattle.std.specs.Prelude.{ℕ, ◌≤◌, List, [], ◌∷◌}
use Rattle.board_terms.specs.declared.notices.Notice.{Notice}
use Rattle.board_terms.specs.declared.notices.Notice.TheVariants.{Expired}

-- an expiry that is emitted at a time was due by then
abbrev pub IsTimely : ℕ → Notice → Type 0
IsTimely moment (Expired p i due) = due ≤ moment
IsTimely moment notice = Unit {0}

abbrev pub AreTimely : ℕ → List Notice → Type 0
AreTimely moment [] = Unit {0}
AreTimely moment (notice ∷ notices) = IsTimely moment notice × AreTimely moment notices
