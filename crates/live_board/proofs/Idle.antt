-- An EOM of a processor with no queued message changes nothing.
use Rattle.std.proofs.Common.{◌≡◌, ℕ, zero, suc, ◌<◌, true, false, nat_lt, List, [], refl, sym, ap, ◌∙◌, arith}
use Rattle.std.specs.Prelude.{if◌then◌else◌}
use Rattle.std.proofs.lemmas.Bool.Decides.{nat_tests}
use Rattle.board_terms.specs.declared.notices.Notice.{Notice}
use Rattle.synic_board.specs.declared.event.Event.TheVariants.{Write}
use Rattle.synic_board.specs.declared.event.Reply.TheVariants.{Done}
use Rattle.synic_board.specs.State.{State, processors}
use Rattle.synic_board.specs.Effects.{Effect, nothing, after, answered}
use Rattle.synic_board.specs.Interrupts.{raised}
use Rattle.synic_board.specs.Delivery.{is_slot_empty, placed, marked, tried, tried_below}
use Rattle.synic_board.specs.Step.{step}
use Rattle.live_board.specs.Acting.{IsEnded}
use Rattle.live_board.specs.Live.{LiveModel, NoneQueued, is_waiting}
use Rattle.live_board.proofs.Placed.{placed-empty}
use Rattle.live_board.proofs.EndedPart.{none-waiting, probes-none}
use Rattle.live_board.proofs.Shadowed.{untouched-live}
use Rattle.live_board.proofs.Named.{live-named}

tried-idle : (s : State) (p i : ℕ) → is_waiting s p i ≡ false → tried s p i ≡ nothing s
unfolding tried
tried-idle s p i idle =
    ap (λ b. if b then (if is_slot_empty s p i then after (placed s p i) (raised (placed s p i).0 p i)
    else marked s p i) else nothing s) idle

below-idle : (s : State) (p n : ℕ) → ((i : ℕ) → i < n → is_waiting s p i ≡ false) → tried_below s p n ≡ nothing s
unfolding tried_below
below-idle s p zero idle = refl
below-idle s p (suc n) idle =
    ap (λ (e : Effect). after e (tried e.0 p n)) (below-idle s p n (λ i low. idle i (omega (arith, low))))
    ∙ ap (λ (e : Effect). after (nothing s) e) (tried-idle s p n (idle n (omega arith)))

eom-idle : (s : State) (p value : ℕ) → p < processors s → NoneQueued s p
    → step s (Write p 0x40000084 value) ≡ (s, Done, [])
unfolding step
eom-idle s p value on none =
    let there : nat_lt p (processors s) ≡ true = grind (arith, nat_tests) in
    let state : step s (Write p 0x40000084 value) ≡ answered Done (tried_below s p 16) = rw there refl in
    state ∙ ap (answered Done) (below-idle s p 16 (none-waiting s p none))

pub idle-written : (m : LiveModel) (p value : ℕ) (notices : List Notice) → notices ≡ [] → p < processors m.board.state
    → NoneQueued m.board.state p → IsEnded p m (Write p 0x40000084 value) m Done notices
idle-written m p value notices empty on none = (
  (live-named (Write p 0x40000084 value) Done notices).named m m refl
      (untouched-live m.board m.board m.pages (Write p 0x40000084 value) Done notices
      (ap (λ ns. (m.board.state, Done, ns)) empty ∙ sym (eom-idle m.board.state p value on none))),
  (λ _ _. (
    [],
    [],
    refl,
    tt,
    probes-none m.board.state p 16 (none-waiting m.board.state p none),
    placed-empty 16 _,
  )),
  (λ _. refl),
  (λ _ _. refl),
)
