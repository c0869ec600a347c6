-- Requesting vectors, and raising them from sources.
use Rattle.std.proofs.Common.{◌≡◌, ℕ, ◌+◌, ◌*◌, zero, suc, Bool, true, false, [], ◌∷◌, refl}
use Rattle.std.specs.Prelude.{None, Some, ◌==◌, if◌then◌else◌}
use Rattle.std.specs.Option.{option_map_or}
use Rattle.std.specs.FinSet as set
use Rattle.std.specs.Int.{bit_at}
use Rattle.board_terms.specs.declared.notices.Notice.TheVariants.{Requested}
use Rattle.lapic_core.specs.Apic.{Apic, request}
use Rattle.synic_regs.specs.Regs.{raised_by}
use Rattle.synic_board.specs.State.{State, apic_of, regs_of, with_apic}
use Rattle.synic_board.specs.Effects.{nothing}
use Rattle.synic_board.specs.Interrupts.{requested, raised}
use Rattle.synic_board.specs.Absorbing.{is_posted, absorbed_bit, absorbed_below}
use Rattle.synic_board.specs.Sending.{sent_to, sent_below}
use Rattle.synic_board.proofs.keeping.Left.{Leaves, leaves-same}
use Rattle.synic_board.proofs.keeping.Wholes.{IsIntact, Keeps, AreStill, keeps-still, keeps-nothing, keeps-after, kept-apic}

-- a property of a choice, from both cases
pub either : {X : Type 0} (P : X → Type 0) (b : Bool) (x y : X) → (b ≡ true → P x) → (b ≡ false → P y)
    → P (if b then x else y)
either P true x y p q = p refl
either P false x y p q = q refl

pub still-apic : (s : State) (p : ℕ) (a : Apic) → AreStill s (with_apic s p a)
still-apic s p a = record { queues = refl; slots = refl; next = refl }

pub leaves-apic : (n : ℕ) (s : State) (p : ℕ) (a : Apic) → Leaves n s (with_apic s p a)
leaves-apic n s p a = leaves-same n s (with_apic s p a) refl refl

pub keeps-requested : (n : ℕ) (s : State) (p v : ℕ) → IsIntact n s → Keeps n s (requested s p v)
keeps-requested n s p v h =
    either (Keeps n s) (set.contains (apic_of s p).requested v) _ _
    (λ _. keeps-nothing n s h)
    (λ _. keeps-still n s (with_apic s p (request (apic_of s p) v), Requested p v ∷ [])
    (kept-apic n s p (request (apic_of s p) v) h)
    (still-apic s p (request (apic_of s p) v)) (leaves-apic n s p (request (apic_of s p) v)) (λ t. refl))

pub keeps-raised : (n : ℕ) (s : State) (p i : ℕ) → IsIntact n s → Keeps n s (raised s p i)
keeps-raised n s p i h =
    elim (raised_by (regs_of s p) i) as
    (λ o. Keeps n s (option_map_or (requested s p) o (nothing s))) [
      | None ↦ keeps-nothing n s h
      | Some v ↦
          keeps-requested n s p v h
    ]

-- posted vectors
keeps-absorbed_bit : (n : ℕ) (s : State) (p part bits i : ℕ) → IsIntact n s → Keeps n s (absorbed_bit s p part bits i)
keeps-absorbed_bit n s p part bits i h =
    either (Keeps n s) (is_posted part bits i) _ _ (λ _. keeps-requested n s p (64 * part + i) h)
    (λ _. keeps-nothing n s h)

pub keeps-absorbed_below : (n : ℕ) (s : State) (p part bits i : ℕ) → IsIntact n s
    → Keeps n s (absorbed_below s p part bits i)
unfolding absorbed_below
keeps-absorbed_below n s p part bits zero h = keeps-nothing n s h
keeps-absorbed_below n s p part bits (suc i) h =
    let first = keeps-absorbed_below n s p part bits i h in
    keeps-after n s (absorbed_below s p part bits i)
    (absorbed_bit (absorbed_below s p part bits i).0 p part bits i) first
    (keeps-absorbed_bit n (absorbed_below s p part bits i).0 p part bits i first.kept)

-- several processors
keeps-sent_to : (n : ℕ) (s : State) (v mask p : ℕ) → IsIntact n s → Keeps n s (sent_to s v mask p)
keeps-sent_to n s v mask p h =
    either (Keeps n s) (bit_at mask p == 1) _ _ (λ _. keeps-requested n s p v h) (λ _. keeps-nothing n s h)

pub keeps-sent_below : (n : ℕ) (s : State) (v mask k : ℕ) → IsIntact n s → Keeps n s (sent_below s v mask k)
unfolding sent_below
keeps-sent_below n s v mask zero h = keeps-nothing n s h
keeps-sent_below n s v mask (suc p) h =
    let first = keeps-sent_below n s v mask p h in
    keeps-after n s (sent_below s v mask p) (sent_to (sent_below s v mask p).0 v mask p) first
    (keeps-sent_to n (sent_below s v mask p).0 v mask p first.kept)
