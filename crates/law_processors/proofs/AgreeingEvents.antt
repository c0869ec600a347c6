-- States that agree in what processor q has, and in what processors share: each event that concerns q alone.
use Rattle.std.proofs.Common.{ℕ, refl, sym, subst}
use Rattle.synic_board.specs.declared.event.Event.{Event}
use Rattle.synic_board.specs.declared.event.Event.TheVariants.{OpenPort, ClosePort, Write, Read, Post, Signal, Assert, Absorb, Store, Load, Tick, Take, Suspend, Resume, Reset, Send}
use Rattle.synic_board.specs.declared.event.Reply.TheVariants as replies
use Rattle.synic_board.specs.State.{State}
use Rattle.synic_board.specs.Effects.{answered, unchanged, at_processor}
use Rattle.synic_board.specs.Interrupts.{requested, taken}
use Rattle.synic_board.specs.Absorbing.{absorbed}
use Rattle.synic_board.specs.Registers.{written, read}
use Rattle.synic_board.specs.Resetting.{reset}
use Rattle.synic_board.specs.Stores.{read_bytes}
use Rattle.synic_board.specs.Suspending.{suspended, resumed}
use Rattle.synic_board.specs.Step.{step}
use Rattle.law_processors.specs.Influence.{Agree, ConcernsAlone, ActsAlike}
use Rattle.law_processors.proofs.Agreeing.{keeps-same, both-requested}
use Rattle.law_processors.proofs.AgreeingSteps.{BothIn, same-agree, both-answered, is-own, both-at, both-unchanged, both-absorbed, both-taken, both-suspended, both-resumed, both-reset, both-written, read-is}
use Rattle.law_processors.proofs.AgreeingPorts.{both-opened, both-closed, both-signalled, both-sent, both-posted}
use Rattle.law_processors.proofs.AgreeingSpace.{both-stored_bytes, read_bytes-is, both-ticked}

-- each event
both-event : (q : ℕ) (s t : State) → Agree q s t → (event : Event) → ConcernsAlone s event q → ConcernsAlone t event q
    → BothIn q (step s event) (step t event)
unfolding step
both-event q s t h (OpenPort port p i shape) alone there = both-opened q s t h port p i shape
both-event q s t h (ClosePort port) alone there =
    both-closed q s t h port (λ i x is. (h.sound.0.whole.ports i x is).1) alone
both-event q s t h (Write p number value) alone there =
    subst (λ p. BothIn q (at_processor s p (written s p number value)) (at_processor t p (written t p number value)))
    (sym (is-own q p alone)) (both-at q s t h (written s q number value) (written t q number value)
    (both-written q s t h number value))
both-event q s t h (Read p number) alone there =
    subst (λ p. BothIn q (at_processor s p (unchanged s (read s p number)))
    (at_processor t p (unchanged t (read t p number)))) (sym (is-own q p alone))
    (both-at q s t h (unchanged s (read s q number)) (unchanged t (read t q number))
    (both-unchanged q s t h (read s q number) (read t q number) (read-is q s t h number)))
both-event q s t h (Post port kind payload) alone there =
    both-posted q s t h port kind payload (λ i x is. (h.sound.0.whole.ports i x is).1) alone
both-event q s t h (Signal port flag) alone there = both-signalled q s t h port flag alone
both-event q s t h (Assert p v) alone there =
    subst (λ p. BothIn q (at_processor s p (answered replies.Done (requested s p v)))
    (at_processor t p (answered replies.Done (requested t p v)))) (sym (is-own q p alone))
    (both-at q s t h (answered replies.Done (requested s q v)) (answered replies.Done (requested t q v))
    (both-answered q (requested s q v) (requested t q v) replies.Done replies.Done refl
    (both-requested q s t (same-agree q s t h) v)))
both-event q s t h (Absorb p part bits) alone there =
    subst (λ p. BothIn q (at_processor s p (absorbed s p part bits)) (at_processor t p (absorbed t p part bits)))
    (sym (is-own q p alone)) (both-at q s t h (absorbed s q part bits) (absorbed t q part bits)
    (both-absorbed q s t h part bits))
both-event q s t h (Store address bytes) alone there = both-stored_bytes q s t h address bytes.items alone
both-event q s t h (Load address count) alone there =
    both-unchanged q s t h (read_bytes s address count) (read_bytes t address count)
    (read_bytes-is q s t h address count alone)
both-event q s t h (Tick moment) alone there = both-ticked q s t h moment alone there
both-event q s t h (Take p) alone there =
    subst (λ p. BothIn q (at_processor s p (taken s p)) (at_processor t p (taken t p))) (sym (is-own q p alone))
    (both-at q s t h (taken s q) (taken t q) (both-taken q s t h))
both-event q s t h (Suspend p) alone there =
    subst (λ p. BothIn q (at_processor s p (suspended s p)) (at_processor t p (suspended t p)))
    (sym (is-own q p alone)) (both-at q s t h (suspended s q) (suspended t q) (both-suspended q s t h))
both-event q s t h (Resume p) alone there =
    subst (λ p. BothIn q (at_processor s p (resumed s p)) (at_processor t p (resumed t p)))
    (sym (is-own q p alone)) (both-at q s t h (resumed s q) (resumed t q) (both-resumed q s t h))
both-event q s t h (Reset p) alone there =
    subst (λ p. BothIn q (at_processor s p (reset s p)) (at_processor t p (reset t p))) (sym (is-own q p alone))
    (both-at q s t h (reset s q) (reset t q) (both-reset q s t h))
both-event q s t h (Send v mask) alone there = both-sent q s t h v mask alone

pub acts-alike : (q : ℕ) (s t : State) (event : Event) → Agree q s t → ConcernsAlone s event q
    → ConcernsAlone t event q → ActsAlike q s t event
acts-alike q s t event h alone there =
    let all = both-event q s t h event alone there in
    record { reply = all.1; notices = all.2; has = keeps-same q (step s event).0 (step t event).0 all.0 }
