-- What a call on a board with live pages leaves alone, whatever its guests have stored in their pages.
use Rattle.std.specs.Prelude.{◌≡◌, ◌≢◌, ◌<◌, ℕ, ◌==◌, ◌&&◌, ◌||◌, Bool, true, false, List, [], ◌∷◌, length}
use Rattle.std.specs.List.{All}
use Rattle.std.specs.Option.{option_map_or}
use Rattle.board_terms.specs.Quantities.{Processor}
use Rattle.board_terms.specs.declared.notices.Notice.{Notice}
use Rattle.board_terms.specs.declared.pages.Kind.{Kind}
use Rattle.gpa_space.specs.Space.{owner_of, page_of}
use Rattle.stimer_bank.specs.Bank.{timer_in}
use Rattle.stimer_bank.specs.Timer.{is_due}
use Rattle.synic_regs.specs.declared.register.Register.{Register}
use Rattle.synic_regs.specs.declared.register.Register.TheVariants.{Sim, Sief}
use Rattle.synic_regs.specs.Registers.{register_of}
use Rattle.synic_board.specs.declared.event.Event.{Event}
use Rattle.synic_board.specs.declared.event.Event.TheVariants.{Write, Tick}
use Rattle.synic_board.specs.declared.event.Reply.{Reply}
use Rattle.synic_board.specs.Sound.{IsSound, HasShape, PayloadFits}
use Rattle.synic_board.specs.State.{State, processors, space_of, bank_of}
use Rattle.live_board.specs.Acting.{Acts}
use Rattle.live_board.specs.Live.{LiveModel, Shadows, log_of}
use Rattle.live_board.specs.Runs.{Call, notices_of}
use Rattle.law_processors.specs.Isolation.{Keeps, is_overlay_of, processor_of, touches}

-- the registers of a processor's pages
abbrev pub is_page_register : Register → Bool
is_page_register Sim = true
is_page_register Sief = true
is_page_register _ = false

-- a timer of a processor is due at a time, or late
abbrev pub has_due_timer : State → ℕ → Processor → Bool
has_due_timer s moment q =
    is_due (timer_in (bank_of s) (q, 0)) moment || is_due (timer_in (bank_of s) (q, 1)) moment
    || is_due (timer_in (bank_of s) (q, 2)) moment || is_due (timer_in (bank_of s) (q, 3)) moment

-- What a call may touch of processor q: what its event touches on any board; and where it looks first. A write of SIMP
-- or SIEFP looks at the pages of the processor that is seen at the new page number, and a tick at those of a processor
-- with a timer that is due
abbrev pub may_touch : State → Event → Processor → Bool
may_touch s (Write p number value) q =
    (p == q)
    || (option_map_or is_page_register (register_of number) false
    && is_overlay_of q (owner_of (space_of s) (page_of value)))
may_touch s (Tick moment) q = has_due_timer s moment q
may_touch s event q = touches s event q

-- all that processor q has stays, no notice names it, and no word of its live pages is accessed
pub record IsLeftAlone (q : Processor) (old now : LiveModel) (notices : List Notice) : Type 0 where
  pub state : Keeps q old.board.state now.board.state
  pub silent : All (λ notice. processor_of notice ≢ q) notices
  pub pages : (kind : Kind) → log_of now q kind ≡ log_of old q kind
  pub count : length now.pages ≡ length old.pages

-- what holds between calls, and a processor on the board
pub record IsReady (q : Processor) (m : LiveModel) : Type 0 where
  pub sound : IsSound m.board.state
  pub shape : HasShape m.board.state
  pub shadows : Shadows m.board.state m.pages
  pub on : q < processors m.board.state

abbrev pub CallsLeaveAlone : Type 0
CallsLeaveAlone =
    (q : Processor) (old now : LiveModel) (event : Event) (reply : Reply) (owed : ℕ) (notices : List Notice)
    → IsReady q old → PayloadFits event → Acts old event now reply owed notices
    → may_touch old.board.state event q ≡ false → IsLeftAlone q old now notices

-- calls one after another, none of which may touch processor q
abbrev pub AreCallsApart : Processor → LiveModel → List Call → LiveModel → Type 0
AreCallsApart q old [] now = now ≡ old
AreCallsApart q old (c ∷ calls) now =
    (mid : LiveModel) × Acts old c.event mid c.reply c.owed c.notices × PayloadFits c.event
    × (may_touch old.board.state c.event q ≡ false) × AreCallsApart q mid calls now

abbrev pub RunsLeaveAlone : Type 0
RunsLeaveAlone =
    (q : Processor) (old now : LiveModel) (calls : List Call) → IsReady q old → AreCallsApart q old calls now
    → IsLeftAlone q old now (notices_of calls)
