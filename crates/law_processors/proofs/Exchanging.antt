-- Events of two processors, each within its own, end alike in either order.
use Rattle.std.proofs.Common.{◌≡◌, ◌≢◌, ℕ, ◌==◌, Bool, true, false, refl, sym, ◌∙◌, subst, arith}
use Rattle.std.proofs.lemmas.Bool.Decides.{nat_tests}
use Rattle.synic_board.specs.declared.event.Event.{Event}
use Rattle.synic_board.specs.declared.event.Event.TheVariants.{OpenPort, ClosePort, Write, Read, Post, Signal, Assert, Absorb, Store, Load, Tick, Take, Suspend, Resume, Reset, Send}
use Rattle.synic_board.specs.Sound.{PayloadFits}
use Rattle.synic_board.specs.State.{State, processors}
use Rattle.synic_board.specs.Step.{step}
use Rattle.synic_board.proofs.keeping.Buffers.{buffers-step}
use Rattle.synic_board.proofs.keeping.Settled.{settled-step}
use Rattle.synic_board.proofs.keeping.Steps.{keeps-step, sound as sound-after}
use Rattle.synic_board.proofs.keeping.Wholes.{kept_from_sound}
use Rattle.law_processors.specs.Isolation.{Keeps, touches}
use Rattle.law_processors.specs.Influence.{concerns, ActsAlike}
use Rattle.law_processors.specs.Exchange.{LeavesShared, IsConfined, IsOfBoard, AreConfined, EndAlike}
use Rattle.law_processors.proofs.Isolated.{keeps-then}
use Rattle.law_processors.proofs.Isolating.{leaves-alone}
use Rattle.law_processors.proofs.AgreeingEvents.{acts-alike}

keeps-sym : (q : ℕ) (s t : State) → Keeps q s t → Keeps q t s
keeps-sym q s t h =
    record {
      apic = sym h.apic;
      regs = sym h.regs;
      suspended = sym h.suspended;
      pages = λ kind. sym (h.pages kind);
      queues = λ i low. sym (h.queues i low);
      slots = λ i low. sym (h.slots i low);
      timers = λ n low. sym (h.timers n low);
    }

-- an event touches no processor that it does not concern
untouched : (s : State) (event : Event) (r : ℕ) → concerns s event r ≡ false → touches s event r ≡ false
untouched s (OpenPort port p i shape) r h = h
untouched s (ClosePort port) r h = h
untouched s (Write p number value) r h = h
untouched s (Read p number) r h = refl
untouched s (Post port kind payload) r h = h
untouched s (Signal port flag) r h = h
untouched s (Assert p v) r h = h
untouched s (Absorb p part bits) r h = h
untouched s (Store address bytes) r h = h
untouched s (Load address count) r h = refl
untouched s (Tick moment) r h = h
untouched s (Take p) r h = h
untouched s (Suspend p) r h = h
untouched s (Resume p) r h = h
untouched s (Reset p) r h = h
untouched s (Send v mask) r h = h

-- a state after an event is that of a board, with as many processors
boards-step : (s : State) (event : Event) → PayloadFits event → IsOfBoard s → IsOfBoard (step s event).0
boards-step s event fits h =
    record {
      sound = sound-after s (step s event).0 event (step s event).1 (step s event).2 fits refl h.sound;
      buffers = buffers-step s event h.buffers;
      paired = settled-step s event h.paired;
    }

count-step : (s : State) (event : Event) → PayloadFits event → IsOfBoard s → processors (step s event).0 ≡ processors s
count-step s event fits h = (keeps-step (processors s) s event fits (kept_from_sound s h.sound)).kept.count

-- an event within p leaves each other processor
left : (p r : ℕ) → r ≢ p → (s : State) (event : Event) → IsOfBoard s → IsConfined p s event → Keeps r s (step s event).0
left p r apart s event board within =
    (leaves-alone s event r board.sound (untouched s event r (within.alone r apart))).state

-- and what another processor does then is what it does without it
after-other : (p q : ℕ) → q ≢ p → (s : State) (e f : Event) → PayloadFits e → IsOfBoard s → IsConfined p s e
    → IsConfined q s f → IsConfined q (step s e).0 f → ActsAlike q s (step s e).0 f
after-other p q apart s e f fits board first second later =
    let now : State = (step s e).0 in
    let then = boards-step s e fits board in
    acts-alike q s now f
    record {
      sound = (board.sound, then.sound);
      buffers = (board.buffers, then.buffers);
      paired = (board.paired, then.paired);
      count = count-step s e fits board;
      has = left p q apart s e board first;
      moment = first.shared.moment;
      tickets = first.shared.tickets;
      ports = first.shared.ports;
      pages = first.shared.pages;
      visible = first.shared.visible;
    } second.alone later.alone

shared-then : (s t u : State) → LeavesShared s t → LeavesShared t u → LeavesShared s u
shared-then s t u h k =
    record {
      moment = k.moment ∙ h.moment;
      tickets = k.tickets ∙ h.tickets;
      ports = k.ports ∙ h.ports;
      pages = k.pages ∙ h.pages;
      visible = λ page. k.visible page ∙ h.visible page;
    }

shared-sym : (s t : State) → LeavesShared s t → LeavesShared t s
shared-sym s t h =
    record {
      moment = sym h.moment;
      tickets = sym h.tickets;
      ports = sym h.ports;
      pages = sym h.pages;
      visible = λ page. sym (h.visible page);
    }

pub end-alike : (p q : ℕ) (s : State) (e f : Event) → p ≢ q → AreConfined p q s e f → EndAlike s e f
end-alike p q s e f apart h =
    let a : State = (step s e).0 in
    let b : State = (step s f).0 in
    let u : State = (step a f).0 in
    let w : State = (step b e).0 in
    let back : q ≢ p = λ is. apart (sym is) in
    let board-a = boards-step s e h.payloads.0 h.board in
    let board-b = boards-step s f h.payloads.1 h.board in
    let of-f = after-other p q back s e f h.payloads.0 h.board h.first h.second h.second_after in
    let of-e = after-other q p apart s f e h.payloads.1 h.board h.second h.first h.first_after in
    record {
      first = of-e.reply;
      first_notices = of-e.notices;
      second = of-f.reply;
      second_notices = of-f.notices;
      has = λ r. ends r (r == p) refl (r == q) refl;
      shared = shared-then w s u (shared-sym s w (shared-then s b w h.second.shared h.first_after.shared))
          (shared-then s a u h.first.shared h.second_after.shared);
    }
  where
    ends : (r : ℕ) (is-p : Bool) → (r == p) ≡ is-p → (is-q : Bool) → (r == q) ≡ is-q
        → Keeps r (step (step s f).0 e).0 (step (step s e).0 f).0
    ends r true at is-q at-q =
        let is : p ≡ r = grind (arith, nat_tests) in
        let a : State = (step s e).0 in
        let b : State = (step s f).0 in
        subst (λ r. Keeps r (step b e).0 (step a f).0) is
        (keeps-then p (step b e).0 a (step a f).0
        (keeps-sym p a (step b e).0
        (after-other q p apart s f e h.payloads.1 h.board h.second h.first h.first_after).has)
        (left q p apart a f (boards-step s e h.payloads.0 h.board) h.second_after))
    ends r false other true at =
        let is : q ≡ r = grind (arith, nat_tests) in
        let a : State = (step s e).0 in
        let b : State = (step s f).0 in
        let back : q ≢ p = λ is. apart (sym is) in
        subst (λ r. Keeps r (step b e).0 (step a f).0) is
        (keeps-then q (step b e).0 b (step a f).0
        (keeps-sym q b (step b e).0 (left p q back b e (boards-step s f h.payloads.1 h.board) h.first_after))
        (after-other p q back s e f h.payloads.0 h.board h.first h.second h.second_after).has)
    ends r false other-p false other-q =
        let no-p : r ≢ p = grind (arith, nat_tests) in
        let no-q : r ≢ q = grind (arith, nat_tests) in
        let a : State = (step s e).0 in
        let b : State = (step s f).0 in
        keeps-then r (step b e).0 s (step a f).0
        (keeps-sym r s (step b e).0
        (keeps-then r s b (step b e).0 (left q r no-q s f h.board h.second)
        (left p r no-p b e (boards-step s f h.payloads.1 h.board) h.first_after)))
        (keeps-then r s a (step a f).0 (left p r no-p s e h.board h.first)
        (left q r no-q a f (boards-step s e h.payloads.0 h.board) h.second_after))
