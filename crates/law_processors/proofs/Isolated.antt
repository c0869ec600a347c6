-- An event leaves the processors alone that it does not touch: the parts of effects.
use Rattle.std.proofs.Common.{◌≢◌, ℕ, ◌<◌, Bool, false, List, [], ◌∷◌, Option, None, Some, set, refl, sym, ◌∙◌, arith}
use Rattle.std.specs.List.{All}
use Rattle.std.specs.Option.{option_map_or}
use Rattle.std.proofs.lemmas.List.{get_or-set_other}
use Rattle.std.proofs.lemmas.List.Elements.{All-append, All-cons, All-nil}
use Rattle.board_terms.specs.Sources.{source_number}
use Rattle.board_terms.specs.Dues.{number_of}
use Rattle.board_terms.specs.declared.messages.Message.{Message}
use Rattle.board_terms.specs.declared.notices.Notice.{Notice}
use Rattle.board_terms.specs.declared.notices.Notice.TheVariants.{Requested}
use Rattle.board_terms.specs.declared.pages.Kind.{Kind}
use Rattle.board_terms.specs.declared.pages.Kind.TheVariants as kind
use Rattle.lapic_core.specs.Apic.{Apic, empty_apic, request}
use Rattle.synic_regs.specs.Regs.{Regs, reset_regs, raised_by}
use Rattle.message_queues.specs.Queues.{with_queue}
use Rattle.stimer_bank.specs.declared.timer.Timer.{Timer}
use Rattle.stimer_bank.specs.Bank.{idle_timer, with_timer}
use Rattle.gpa_space.specs.Space.{overlay_of}
use Rattle.synic_board.specs.State.{State, apic_of, regs_of, bank_of, with_apic, with_regs, with_bank, with_slot_ticket}
use Rattle.synic_board.specs.Effects.{Effect, nothing, after}
use Rattle.synic_board.specs.Interrupts.{is_requested, requested, raised}
use Rattle.synic_board.proofs.keeping.Requests.{either}
use Rattle.law_processors.specs.Isolation.{Keeps, processor_of}

pub keeps-itself : (q : ℕ) (s : State) → Keeps q s s
keeps-itself q s =
    record {
      apic = refl;
      regs = refl;
      suspended = refl;
      pages = λ k. refl;
      queues = λ i _. refl;
      slots = λ i _. refl;
      timers = λ n _. refl;
    }

pub keeps-then : (q : ℕ) (s t u : State) → Keeps q s t → Keeps q t u → Keeps q s u
keeps-then q s t u h k =
    record {
      apic = k.apic ∙ h.apic;
      regs = k.regs ∙ h.regs;
      suspended = k.suspended ∙ h.suspended;
      pages = λ kind. k.pages kind ∙ h.pages kind;
      queues = λ i low. k.queues i low ∙ h.queues i low;
      slots = λ i low. k.slots i low ∙ h.slots i low;
      timers = λ n low. k.timers n low ∙ h.timers n low;
    }

-- an effect that leaves q alone
abbrev pub Alone : ℕ → State → Effect → Type 0
Alone q s e = Keeps q s e.0 × All (λ notice. processor_of notice ≢ q) e.1

pub alone-nothing : (q : ℕ) (s : State) → Alone q s (nothing s)
alone-nothing q s = (keeps-itself q s, All-nil (λ notice. processor_of notice ≢ q))

pub alone-after : (q : ℕ) (s : State) (e f : Effect) → Alone q s e → Alone q e.0 f → Alone q s (after e f)
alone-after q s e f h k =
    (keeps-then q s e.0 f.0 h.0 k.0, All-append (λ notice. processor_of notice ≢ q) e.1 f.1 h.1 k.1)

pub alone-one : (q : ℕ) (s now : State) (notice : Notice) → Keeps q s now → processor_of notice ≢ q
    → Alone q s (now, notice ∷ [])
alone-one q s now notice h other =
    (h, All-cons (λ notice. processor_of notice ≢ q) notice [] other (All-nil (λ notice. processor_of notice ≢ q)))

-- parts of another processor
module _ (q p : ℕ) (apart : p ≢ q) where
  flip : q ≢ p
  flip e = apart (sym e)

  pub source-apart : (i j : ℕ) → i < 16 → j < 16 → source_number q j ≢ source_number p i
  source-apart i j low under same = flip (omega arith)

  pub timer-apart : (i j : ℕ) → i < 4 → j < 4 → number_of (q, j) ≢ number_of (p, i)
  timer-apart i j low under same = flip (omega arith)

  overlay-apart : (k j : Kind) → overlay_of q j ≢ overlay_of p k
  overlay-apart kind.Sim kind.Sim same = flip (omega arith)
  overlay-apart kind.Sim kind.Sief same = absurd (omega arith)
  overlay-apart kind.Sief kind.Sim same = absurd (omega arith)
  overlay-apart kind.Sief kind.Sief same = flip (omega arith)

  pub keeps-apic : (s : State) (a : Apic) → Keeps q s (with_apic s p a)
  keeps-apic s a =
      record {
        apic = get_or-set_other s.apics p q a empty_apic flip;
        regs = refl;
        suspended = refl;
        pages = λ k. refl;
        queues = λ i _. refl;
        slots = λ i _. refl;
        timers = λ n _. refl;
      }

  pub keeps-regs : (s : State) (r : Regs) → Keeps q s (with_regs s p r)
  keeps-regs s r =
      record {
        apic = refl;
        regs = get_or-set_other s.regs p q r reset_regs flip;
        suspended = refl;
        pages = λ k. refl;
        queues = λ i _. refl;
        slots = λ i _. refl;
        timers = λ n _. refl;
      }

  pub keeps-mark : (s : State) (mark : Bool) → Keeps q s (record s { suspended = set s.suspended p mark })
  keeps-mark s mark =
      record {
        apic = refl;
        regs = refl;
        suspended = get_or-set_other s.suspended p q mark false flip;
        pages = λ k. refl;
        queues = λ i _. refl;
        slots = λ i _. refl;
        timers = λ n _. refl;
      }

  pub keeps-own : (s : State) (k : Kind) (page : List ℕ)
      → Keeps q s (record s { own = set s.own (overlay_of p k) page })
  keeps-own s k page =
      record {
        apic = refl;
        regs = refl;
        suspended = refl;
        pages = λ j. get_or-set_other s.own (overlay_of p k) (overlay_of q j) page [] (overlay-apart k j);
        queues = λ i _. refl;
        slots = λ i _. refl;
        timers = λ n _. refl;
      }

  pub keeps-queue : (s : State) (i : ℕ) (messages : List Message) → i < 16
      → Keeps q s (record s { queues = with_queue s.queues p i messages })
  keeps-queue s i messages low =
      record {
        apic = refl;
        regs = refl;
        suspended = refl;
        pages = λ k. refl;
        queues = λ j under. get_or-set_other s.queues (source_number p i) (source_number q j) messages []
            (source-apart i j low under);
        slots = λ i _. refl;
        timers = λ n _. refl;
      }

  pub keeps-slot : (s : State) (i : ℕ) (o : Option ℕ) → i < 16 → Keeps q s (with_slot_ticket s p i o)
  keeps-slot s i o low =
      record {
        apic = refl;
        regs = refl;
        suspended = refl;
        pages = λ k. refl;
        queues = λ i _. refl;
        slots = λ j under. get_or-set_other s.slots (source_number p i) (source_number q j) o None
            (source-apart i j low under);
        timers = λ n _. refl;
      }

  pub keeps-timer : (s : State) (n : ℕ) (x : Timer) → n < 4 → Keeps q s (with_bank s (with_timer (bank_of s) (p, n) x))
  keeps-timer s n x low =
      record {
        apic = refl;
        regs = refl;
        suspended = refl;
        pages = λ k. refl;
        queues = λ i _. refl;
        slots = λ i _. refl;
        timers = λ j under. get_or-set_other s.timers (number_of (p, n)) (number_of (q, j)) x idle_timer
            (timer-apart n j low under);
      }

  pub alone-requested : (s : State) (v : ℕ) → Alone q s (requested s p v)
  alone-requested s v =
      either (Alone q s) (is_requested s p v) _ _ (λ _. alone-nothing q s)
      (λ _. alone-one q s (with_apic s p (request (apic_of s p) v)) (Requested p v)
      (keeps-apic s (request (apic_of s p) v)) apart)

  pub alone-raised : (s : State) (i : ℕ) → Alone q s (raised s p i)
  alone-raised s i =
      elim (raised_by (regs_of s p) i) as
      (λ o. Alone q s (option_map_or (requested s p) o (nothing s))) [
        | None ↦ alone-nothing q s
        | Some v ↦ alone-requested s v
      ]
