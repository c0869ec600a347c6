-- A write of SIMP or SIEFP, which may hide live pages: that of the processor itself, and the one that the guest saw at
-- the new page number. Both are refreshed first, so that what the guest stored in them is not lost.
use Rattle.std.specs.Prelude.{◌≡◌, ◌≢◌, ℕ, Some, nat_lt, Bool, true, false, List, [], ◌++◌}
use Rattle.board_terms.specs.declared.notices.Notice.{Notice}
use Rattle.board_terms.specs.declared.pages.Kind.{Kind}
use Rattle.board_terms.specs.declared.pages.Owner.{Owner}
use Rattle.board_terms.specs.declared.pages.Owner.TheVariants.{Guest, Sim, Sief, Nothing}
use Rattle.gpa_space.specs.Space.{Space, owner_of, overlay_of, page_of, visible, with_register}
use Rattle.synic_board.specs.declared.event.Event.{Event}
use Rattle.synic_board.specs.declared.event.Reply.{Reply}
use Rattle.synic_board.specs.State.{processors, space_of}
use Rattle.synic_board.specs.Step.{step}
use Rattle.live_board.specs.Live.{LiveModel}
use Rattle.live_board.specs.Refreshing.{IsRefreshed}

-- the live pages of a processor are refreshed, if it is on the board
abbrev pub IsRefreshedIf : Bool → ℕ → LiveModel → LiveModel → List Notice → Type 0
IsRefreshedIf true p old now notices = IsRefreshed p old now notices
IsRefreshedIf false p old now notices = (now ≡ old) × (notices ≡ [])

-- the live pages of the processor whose page the guest sees somewhere are refreshed
abbrev pub IsRefreshedUnder : Owner → LiveModel → LiveModel → List Notice → Type 0
IsRefreshedUnder (Sim p) old now notices = IsRefreshedIf (nat_lt p (processors old.board.state)) p old now notices
IsRefreshedUnder (Sief p) old now notices = IsRefreshedIf (nat_lt p (processors old.board.state)) p old now notices
IsRefreshedUnder Guest old now notices = (now ≡ old) × (notices ≡ [])
IsRefreshedUnder Nothing old now notices = (now ≡ old) × (notices ≡ [])

-- both are refreshed, and then the reference model performs the event
pub record IsHiding (p value : ℕ) (old : LiveModel) (event : Event) (now : LiveModel) (reply : Reply)
    (notices : List Notice) : Type 0 where
  pub own : LiveModel
  pub under : LiveModel
  pub first : List Notice
  pub second : List Notice
  pub last : List Notice
  pub refreshed : IsRefreshedIf (nat_lt p (processors old.board.state)) p old own first
  pub refreshed_under : IsRefreshedUnder (owner_of (space_of own.board.state) (page_of value)) own under second
  pub pages : now.pages ≡ under.pages
  pub names : now.names ≡ under.names
  pub performs : (now.board.state, reply, last) ≡ step under.board.state event
  pub told : notices ≡ (first ++ second) ++ last

-- an overlay that the guest sees at a page stays visible there when a register of an overlay is written, unless it is
-- that overlay, or the page is the one of the new value
abbrev pub HidesOnlyWhatWasRefreshed : Type 0
HidesOnlyWhatWasRefreshed =
    (s : Space) (p : ℕ) (k : Kind) (value page overlay : ℕ) → visible s page ≡ Some overlay → overlay ≢ overlay_of p k
    → page ≢ page_of value → visible (with_register s p k value) page ≡ Some overlay
