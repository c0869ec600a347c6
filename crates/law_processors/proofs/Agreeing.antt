-- States that agree in what processor q has: the parts of effects.
use Rattle.std.proofs.Common.{◌≡◌, ℕ, zero, suc, ◌+◌, ◌*◌, ◌/◌, Bool, true, false, List, [], ◌∷◌, ◌++◌, length, Option, None, Some, set, get_or, refl, sym, ap, ◌∙◌, subst, arith}
use Rattle.std.specs.Prelude.{if◌then◌else◌}
use Rattle.std.specs.Option.{option_map_or}
use Rattle.std.specs.FinSet as finset
use Rattle.std.proofs.lemmas.List.{length-set}
use Rattle.board_terms.specs.declared.messages.Message.{Message}
use Rattle.board_terms.specs.declared.notices.Notice.{Notice}
use Rattle.board_terms.specs.declared.notices.Notice.TheVariants.{Requested}
use Rattle.board_terms.specs.declared.pages.Kind.{Kind}
use Rattle.board_terms.specs.declared.pages.Kind.TheVariants as kind
use Rattle.lapic_core.specs.Apic.{Apic, empty_apic, request}
use Rattle.synic_regs.specs.Regs.{Regs, reset_regs, raised_by}
use Rattle.event_ports.specs.declared.ports.Port.{Port}
use Rattle.message_queues.specs.Queues.{with_queue}
use Rattle.stimer_bank.specs.declared.timer.Timer.{Timer}
use Rattle.stimer_bank.specs.Bank.{idle_timer, with_timer}
use Rattle.gpa_space.specs.Space.{overlay_of}
use Rattle.synic_board.specs.State.{State, apic_of, regs_of, bank_of, with_apic, with_regs, with_bank, with_slot_ticket}
use Rattle.synic_board.specs.Effects.{Effect, nothing, after}
use Rattle.synic_board.specs.Interrupts.{is_requested, requested, raised}
use Rattle.law_processors.specs.Isolation.{Keeps}

-- two lists of the same length have the same at these places
abbrev pub Alike : {X : Type 0} → (ℕ → Type 0) → X → List X → List X → Type 0
Alike P d xs ys = (length ys ≡ length xs) × ((m : ℕ) → P m → get_or ys m d ≡ get_or xs m d)

set-alike : {X : Type 0} (xs ys : List X) (n m : ℕ) (a b d : X) → length ys ≡ length xs → b ≡ a
    → get_or ys m d ≡ get_or xs m d → get_or (set ys n b) m d ≡ get_or (set xs n a) m d
set-alike [] [] n m a b d long e h = h
set-alike [] (y ∷ ys) n m a b d long e h = absurd (cc)
set-alike (x ∷ xs) [] n m a b d long e h = absurd (cc)
set-alike (x ∷ xs) (y ∷ ys) zero zero a b d long e h = e
set-alike (x ∷ xs) (y ∷ ys) zero (suc m) a b d long e h = h
set-alike (x ∷ xs) (y ∷ ys) (suc n) zero a b d long e h = h
set-alike (x ∷ xs) (y ∷ ys) (suc n) (suc m) a b d long e h = set-alike xs ys n m a b d (cc) e h

alike-set : {X : Type 0} (P : ℕ → Type 0) (d : X) (xs ys : List X) (n : ℕ) (a b : X) → Alike P d xs ys → b ≡ a
    → Alike P d (set xs n a) (set ys n b)
alike-set P d xs ys n a b h e = (
  length-set ys n b ∙ h.0 ∙ sym (length-set xs n a),
  λ m at. set-alike xs ys n m a b d h.0 e (h.1 m at),
)

-- two states agree in what q has, and in the time
pub record Same (q : ℕ) (s t : State) : Type 0 where
  pub apics : Alike (λ m. m ≡ q) empty_apic s.apics t.apics
  pub regs : Alike (λ m. m ≡ q) reset_regs s.regs t.regs
  pub marks : Alike (λ m. m ≡ q) false s.suspended t.suspended
  pub own : Alike (λ m. m / 2 ≡ q) [] s.own t.own
  pub queues : Alike (λ m. m / 16 ≡ q) [] s.queues t.queues
  pub slots : Alike (λ m. m / 16 ≡ q) None s.slots t.slots
  pub timers : Alike (λ m. m / 4 ≡ q) idle_timer s.timers t.timers
  pub moment : t.moment ≡ s.moment

-- the same of two effects, which emit the same notices
abbrev pub Both : ℕ → Effect → Effect → Type 0
Both q e f = Same q e.0 f.0 × (f.1 ≡ e.1)

pub twice : {X Y : Type 0} (P : X → Y → Type 0) (a b : Bool) (x y : X) (z w : Y) → b ≡ a → (a ≡ true → P x z)
    → (a ≡ false → P y w) → P (if a then x else y) (if b then z else w)
twice P true true x y z w e p q = p refl
twice P false false x y z w e p q = q refl
twice P true false x y z w e p q = absurd (cc)
twice P false true x y z w e p q = absurd (cc)

pub both-after : (q : ℕ) (e f g h : Effect) → Both q e g → Both q f h → Both q (after e f) (after g h)
both-after q e f g h x y = (y.0, ap (λ (n : List Notice). n ++ h.1) x.1 ∙ ap (λ (n : List Notice). e.1 ++ n) y.1)

-- what two states that agree have in common
pub own-same : (q : ℕ) (s t : State) → Same q s t → (k : Kind)
    → get_or t.own (overlay_of q k) [] ≡ get_or s.own (overlay_of q k) []
own-same q s t h kind.Sim = h.own.1 (2 * q) (omega arith)
own-same q s t h kind.Sief = h.own.1 (2 * q + 1) (omega arith)

pub keeps-same : (q : ℕ) (s t : State) → Same q s t → Keeps q s t
keeps-same q s t h =
    record {
      apic = h.apics.1 q refl;
      regs = h.regs.1 q refl;
      suspended = h.marks.1 q refl;
      pages = own-same q s t h;
      queues = λ i low. h.queues.1 (16 * q + i) (omega arith);
      slots = λ i low. h.slots.1 (16 * q + i) (omega arith);
      timers = λ n low. h.timers.1 (4 * q + n) (omega arith);
    }

module _ (q : ℕ) (s t : State) (h : Same q s t) where
  pub same-apic : (a b : Apic) → b ≡ a → Same q (with_apic s q a) (with_apic t q b)
  same-apic a b e =
      record {
        apics = alike-set (λ m. m ≡ q) empty_apic s.apics t.apics q a b h.apics e;
        regs = h.regs;
        marks = h.marks;
        own = h.own;
        queues = h.queues;
        slots = h.slots;
        timers = h.timers;
        moment = h.moment;
      }

  pub same-regs : (a b : Regs) → b ≡ a → Same q (with_regs s q a) (with_regs t q b)
  same-regs a b e =
      record {
        apics = h.apics;
        regs = alike-set (λ m. m ≡ q) reset_regs s.regs t.regs q a b h.regs e;
        marks = h.marks;
        own = h.own;
        queues = h.queues;
        slots = h.slots;
        timers = h.timers;
        moment = h.moment;
      }

  pub same-mark : (mark : Bool)
      → Same q (record s { suspended = set s.suspended q mark }) (record t { suspended = set t.suspended q mark })
  same-mark mark =
      record {
        apics = h.apics;
        regs = h.regs;
        marks = alike-set (λ m. m ≡ q) false s.suspended t.suspended q mark mark h.marks refl;
        own = h.own;
        queues = h.queues;
        slots = h.slots;
        timers = h.timers;
        moment = h.moment;
      }

  pub same-own : (n : ℕ) (a b : List ℕ) → b ≡ a
      → Same q (record s { own = set s.own n a }) (record t { own = set t.own n b })
  same-own n a b e =
      record {
        apics = h.apics;
        regs = h.regs;
        marks = h.marks;
        own = alike-set (λ m. m / 2 ≡ q) [] s.own t.own n a b h.own e;
        queues = h.queues;
        slots = h.slots;
        timers = h.timers;
        moment = h.moment;
      }

  pub same-queue : (i : ℕ) (a b : List Message) → b ≡ a
      → Same q (record s { queues = with_queue s.queues q i a }) (record t { queues = with_queue t.queues q i b })
  same-queue i a b e =
      record {
        apics = h.apics;
        regs = h.regs;
        marks = h.marks;
        own = h.own;
        queues = alike-set (λ m. m / 16 ≡ q) [] s.queues t.queues (16 * q + i) a b h.queues e;
        slots = h.slots;
        timers = h.timers;
        moment = h.moment;
      }

  pub same-slot : (i : ℕ) (o : Option ℕ) → Same q (with_slot_ticket s q i o) (with_slot_ticket t q i o)
  same-slot i o =
      record {
        apics = h.apics;
        regs = h.regs;
        marks = h.marks;
        own = h.own;
        queues = h.queues;
        slots = alike-set (λ m. m / 16 ≡ q) None s.slots t.slots (16 * q + i) o o h.slots refl;
        timers = h.timers;
        moment = h.moment;
      }

  pub same-timer : (n : ℕ) (a b : Timer) → b ≡ a
      → Same q (with_bank s (with_timer (bank_of s) (q, n) a)) (with_bank t (with_timer (bank_of t) (q, n) b))
  same-timer n a b e =
      record {
        apics = h.apics;
        regs = h.regs;
        marks = h.marks;
        own = h.own;
        queues = h.queues;
        slots = h.slots;
        timers = alike-set (λ m. m / 4 ≡ q) idle_timer s.timers t.timers (4 * q + n) a b h.timers e;
        moment = h.moment;
      }

  pub same-moment : (moment : ℕ) → Same q (record s { moment = moment }) (record t { moment = moment })
  same-moment moment =
      record {
        apics = h.apics;
        regs = h.regs;
        marks = h.marks;
        own = h.own;
        queues = h.queues;
        slots = h.slots;
        timers = h.timers;
        moment = refl;
      }

  -- what processors share, apart from the time
  pub same-shared : (m n : ℕ) (a b : List (Option Port)) (c d : List (List ℕ))
      → Same q (record s { next_ticket = m; ports = a; pages = c }) (record t { next_ticket = n; ports = b; pages = d })
  same-shared m n a b c d =
      record {
        apics = h.apics;
        regs = h.regs;
        marks = h.marks;
        own = h.own;
        queues = h.queues;
        slots = h.slots;
        timers = h.timers;
        moment = h.moment;
      }

  pub both-requested : (v : ℕ) → Both q (requested s q v) (requested t q v)
  both-requested v =
      let e = h.apics.1 q refl in
      twice (Both q) (is_requested s q v) (is_requested t q v) (nothing s)
      (with_apic s q (request (apic_of s q) v), Requested q v ∷ []) (nothing t)
      (with_apic t q (request (apic_of t q) v), Requested q v ∷ [])
      (ap (λ (a : Apic). finset.contains a.requested v) e)
      (λ _. (h, refl))
      (λ _. (same-apic (request (apic_of s q) v) (request (apic_of t q) v) (ap (λ (a : Apic). request a v) e), refl))

  pub both-raised : (i : ℕ) → Both q (raised s q i) (raised t q i)
  both-raised i =
      subst (λ (o : Option ℕ). Both q (raised s q i) (option_map_or (requested t q) o (nothing t)))
      (sym (ap (λ (r : Regs). raised_by r i) (h.regs.1 q refl))) (by (raised_by (regs_of s q) i))
    where
      by : (o : Option ℕ)
          → Both q (option_map_or (requested s q) o (nothing s)) (option_map_or (requested t q) o (nothing t))
      by None = (h, refl)
      by (Some v) = both-requested v
