-- Live pages before an image of the board is saved: each word is loaded.
use Rattle.std.specs.Prelude.{◌≡◌, ℕ, zero, suc, ◌+◌, ◌*◌, ◌≤◌, List, ◌∷◌, [], ◌++◌, length, slice_set}
use Rattle.board_terms.specs.declared.notices.Notice.{Notice}
use Rattle.board_terms.specs.declared.pages.Kind.{Kind}
use Rattle.board_terms.specs.declared.pages.Kind.TheVariants.{Sim, Sief}
use Rattle.synic_board.specs.State.{State, processors}
use Rattle.synic_board.specs.Run.{run_of}
use Rattle.live_pages.specs.declared.access.Access.{Access}
use Rattle.live_pages.specs.declared.access.Access.TheVariants.{Load}
use Rattle.live_board.specs.Live.{LiveModel, IsShown, log_of, explained, all_done}

-- loads of the words below n, in order
abbrev pub AreLoads : ℕ → List Access → Type 0
AreLoads zero news = news ≡ []
AreLoads (suc n) news = (found : ℕ) × (rest : List Access) × (news ≡ Load n found ∷ rest) × AreLoads n rest

-- all words of an own page are loaded if the guest sees it, and none if not
pub record AreAllLoads (s : State) (p : ℕ) (k : Kind) (news : List Access) : Type 0 where
  pub shown : IsShown s p k → AreLoads 512 news
  pub hidden : (IsShown s p k → ⊥) → news ≡ []

-- a live board loads all words of both pages of a processor that the guest sees, the message page first, and the
-- reference model performs the guest's stores that these show
pub record IsRefreshed (p : ℕ) (old : LiveModel) (now : LiveModel) (notices : List Notice) : Type 0 where
  pub few : length notices ≤ 32
  pub messages : List Access
  pub flags : List Access
  pub are_messages : AreAllLoads old.board.state p Sim messages
  pub are_flags : AreAllLoads old.board.state p Sief flags
  pub pages : now.pages ≡ slice_set (slice_set old.pages (2 * p) (messages ++ log_of old p Sim)) (2 * p + 1)
      (flags ++ log_of old p Sief)
  pub names : now.names ≡ old.names
  pub run : run_of old.board.state
      (explained old.board.state p Sim messages (log_of old p Sim)
      ++ explained old.board.state p Sief flags (log_of old p Sief))
      ≡ (
        now.board.state,
        all_done
            (explained old.board.state p Sim messages (log_of old p Sim)
            ++ explained old.board.state p Sief flags (log_of old p Sief)),
        notices,
      )

-- the processors below n are refreshed, in order
abbrev pub AreRefreshed : ℕ → LiveModel → LiveModel → List Notice → Type 0
AreRefreshed zero old now notices = (now ≡ old) × (notices ≡ [])
AreRefreshed (suc n) old now notices =
    (mid : LiveModel) × (first : List Notice) × (last : List Notice) × AreRefreshed n old mid first
    × IsRefreshed n mid now last × (notices ≡ first ++ last)

-- all processors are
abbrev pub AreAllRefreshed : LiveModel → LiveModel → List Notice → Type 0
AreAllRefreshed old now notices = AreRefreshed (processors old.board.state) old now notices
