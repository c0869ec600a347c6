-- EOMs that the board performs for processors that are owed one.
use Rattle.std.proofs.Common.{◌≡◌, ◌+◌, ℕ, zero, suc, ◌<◌, true, nat_lt, List, [], ◌∷◌, ◌++◌, refl, sym, ap, ◌∙◌, subst, arith, All}
use Rattle.std.proofs.lemmas.Bool.Decides.{nat_tests}
use Rattle.std.proofs.lemmas.List.Elements.{All-head, All-tail}
use Rattle.board_terms.specs.declared.notices.Notice.{Notice}
use Rattle.synic_board.specs.declared.event.Event.{Event}
use Rattle.synic_board.specs.declared.event.Reply.{Reply}
use Rattle.synic_board.specs.declared.event.Reply.TheVariants.{Done}
use Rattle.synic_board.specs.State.{State, processors}
use Rattle.synic_board.specs.Effects.{answered}
use Rattle.synic_board.specs.Delivery.{tried_below}
use Rattle.synic_board.specs.Run.{Run, run_of}
use Rattle.synic_board.specs.Sound.{IsSound, PayloadFits}
use Rattle.synic_board.specs.Step.{step}
use Rattle.live_board.specs.Acting.{IsPaid, ArePaid, eom_by}
use Rattle.live_board.specs.Live.{LiveModel, IsLive, log_of, explained, has_processor}
use Rattle.live_board.proofs.Guests.{guest-stores, fits-all}
use Rattle.live_board.proofs.Joined.{run-append}
use Rattle.live_board.proofs.Staying.{stays}
use Rattle.live_board.proofs.Ticked.{none-owed}
use Rattle.live_board.proofs.WokenTimers.{after-sound}

-- no processor is owed one
pub none-paid : (n : ℕ) (m : LiveModel) → ArePaid 0 n m m []
none-paid zero m = (refl, refl)
none-paid (suc n) m =
    (m, [], [], none-paid n m, subst (λ b. IsPaid b n m m []) (sym (none-owed n)) (refl, refl), refl)

-- the last of some replies
last : Reply → List Reply → Reply
last d [] = d
last d (r ∷ rs) = last r rs

last-append : (d r : Reply) (rs : List Reply) → last d (rs ++ r ∷ []) ≡ r
unfolding last
last-append d r [] = refl
last-append d r (one ∷ rs) = last-append one r rs

-- a run leaves the number of processors
pub run-stays : (es : List Event) (s : State) → All PayloadFits es → IsSound s
    → (processors (run_of s es).0 ≡ processors s) × IsSound (run_of s es).0
unfolding run_of
run-stays [] s fits h = (refl, h)
run-stays (e ∷ es) s fits h =
    let first = All-head PayloadFits e es fits in
    let rest = run-stays es (step s e).0 (All-tail PayloadFits e es fits) (after-sound s e first h) in
    (rest.0 ∙ stays s (step s e).0 e (step s e).1 (step s e).2 first h refl, rest.1)

eom-answer : (s : State) (p : ℕ) → p < processors s → (step s (eom_by p)).1 ≡ Done
unfolding step
eom-answer s p on =
    let there : nat_lt p (processors s) ≡ true = grind (arith, nat_tests) in
    let state : step s (eom_by p) ≡ answered Done (tried_below s p 16) = rw there refl in
    ap (λ o. o.1) state

-- an EOM of a processor on the board is done
pub eom-done : (old now : LiveModel) (p : ℕ) (reply : Reply) (notices : List Notice) → IsSound old.board.state
    → p < processors old.board.state → IsLive old (eom_by p) now reply notices → reply ≡ Done
unfolding run_of
eom-done old now p reply notices sound on h =
    sym (last-append Done reply _)
    ∙ ap (λ (r : Run). last Done r.1) (sym h.run ∙ run-append s es (eom_by p ∷ []))
    ∙ last-append Done (step mid (eom_by p)).1 (run_of s es).1
    ∙ eom-answer mid p (omega (arith, on, kept.0))
  where
    s : State
    s = old.board.state

    es : List Event
    es = explained s h.vp h.kind h.news (log_of old h.vp h.kind)

    mid : State
    mid = (run_of s es).0

    kept : (processors mid ≡ processors s) × IsSound mid
    kept = run-stays es s (fits-all s h.vp h.kind es (guest-stores s h.vp h.kind h.news (log_of old h.vp h.kind)))
        sound

-- one processor more
pub paid-more : (owed n : ℕ) (old mid now : LiveModel) (first more : List Notice) → ArePaid owed n old mid first
    → IsPaid (has_processor owed n) n mid now more → ArePaid owed (n + 1) old now (first ++ more)
paid-more owed n old mid now first more before one =
    subst (λ k. ArePaid owed k old now (first ++ more)) (let next : suc n ≡ n + 1 = omega arith in next)
    (mid, first, more, before, one, refl)
