-- The same for a write of a timer with the EOM that its processor is owed.
use Rattle.std.proofs.Common.{◌≡◌, ℕ, ◌*◌, ◌<◌, Bool, true, false, List, [], ◌++◌, length, get_or, refl, sym, ap, ◌∙◌, subst, arith, append_assoc, length-set}
use Rattle.std.proofs.lemmas.List.{get_or-set_same}
use Rattle.board_terms.specs.declared.notices.Notice.{Notice}
use Rattle.board_terms.specs.declared.pages.Kind.TheVariants.{Sim}
use Rattle.synic_board.specs.declared.event.Event.TheVariants.{Write}
use Rattle.synic_board.specs.declared.event.Reply.{Reply}
use Rattle.synic_board.specs.declared.event.Reply.TheVariants.{Done}
use Rattle.synic_board.specs.State.{processors}
use Rattle.synic_board.specs.Ranges.{HasRanges}
use Rattle.synic_board.specs.Sound.{IsSound, HasShape}
use Rattle.live_pages.specs.Words.{header}
use Rattle.live_pages.specs.declared.access.Access.{Access}
use Rattle.live_board.specs.Acting.{IsPaid, IsTimedPaid}
use Rattle.live_board.specs.Live.{LiveModel, Shadows, IsTimed, has_processor, log_of}
use Rattle.live_board.specs.Timers.{is_timer_write}
use Rattle.live_board.specs.Waking.{IsLeftMarked, LeavesNewMarked}
use Rattle.live_board.proofs.Guests.{timer-conserves}
use Rattle.live_board.proofs.Woken.{accessed-left, eom-marked, still-on}
use Rattle.live_board.proofs.WokenTimers.{timed-shown, timer-marked}

-- more accesses of the same call before
pub marked-longer : (i : ℕ) (first log mid now : List Access) → mid ≡ first ++ log → IsLeftMarked i mid now
    → IsLeftMarked i log now
marked-longer i first log mid now is h = record {
  news = h.news ++ first;
  page = h.page ∙ ap (λ l. h.news ++ l) is ∙ sym (append_assoc h.news first log);
  accessed = accessed-left (header i) h.news first h.accessed;
  occupied = h.occupied;
  pending = h.pending;
}

pub timer-paid-marked : (old now : LiveModel) (p i number value : ℕ) (reply : Reply) (owed : ℕ) (notices : List Notice)
    → IsSound old.board.state → HasShape now.board.state → HasRanges now.board.state → Shadows now.board.state now.pages
    → p < processors old.board.state → i < 16 → is_timer_write (Write p number value) ≡ true
    → IsTimedPaid p old (Write p number value) now reply owed notices → LeavesNewMarked p i old now
timer-paid-marked old now p i number value reply owed notices sound shape ranges shadows on under timer h other shown
    waits = by (has_processor owed p) refl
  where
    -- the EOM, after the write
    paid : IsPaid true p h.mid now h.last → IsTimed p old (Write p number value) h.mid reply true h.first
        → IsLeftMarked i (log_of old p Sim) (log_of now p Sim)
    paid ended timed =
        let mid = timed-shown old h.mid p number value reply true h.first sound on timer shown timed in
        let mid-sound = (timer-conserves p old h.mid (Write p number value) reply true h.first sound tt timed).0 in
        let now-on = still-on h.mid now p 0x40000084 0 Done h.last mid-sound mid.0 ended.0 in
        let count = ap length ended.0.pages ∙ length-set h.mid.pages _ _ ∙ ap length timed.pages
        ∙ length-set old.pages _ _ in
        let size : 2 * p < length old.pages = omega (arith, count, shadows.count, shape.overlays, now-on) in
        let news : List Access = timed.marks ++ (timed.stores ++ timed.looks) in
        let page : log_of h.mid p Sim ≡ news ++ log_of old p Sim =
        ap (λ l. get_or l (2 * p) []) timed.pages ∙ get_or-set_same old.pages (2 * p) _ [] size
        ∙ sym (append_assoc timed.marks (timed.stores ++ timed.looks) (log_of old p Sim)
        ∙ ap (λ l. timed.marks ++ l) (append_assoc timed.stores timed.looks (log_of old p Sim))) in
        marked-longer i news (log_of old p Sim) (log_of h.mid p Sim) (log_of now p Sim) page
        (eom-marked h.mid now p i 0x40000084 0 Done h.last mid-sound shape ranges shadows mid.0 under refl ended.0
        ended.1 mid.1 waits)

    by : (b : Bool) → has_processor owed p ≡ b → IsLeftMarked i (log_of old p Sim) (log_of now p Sim)
    by true is =
        paid (subst (λ b. IsPaid b p h.mid now h.last) is h.paid)
        (subst (λ b. IsTimed p old (Write p number value) h.mid reply b h.first) is h.timed)
    by false is =
        let none = subst (λ b. IsPaid b p h.mid now h.last) is h.paid in
        timer-marked old now p i number value reply false h.first sound shape ranges shadows on under timer
        (subst (λ m. IsTimed p old (Write p number value) m reply false h.first) (sym none.0)
        (subst (λ b. IsTimed p old (Write p number value) h.mid reply b h.first) is h.timed)) refl other shown waits
