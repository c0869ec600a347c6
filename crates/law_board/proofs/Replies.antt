-- No reply has more than 8 bytes.
use Rattle.std.proofs.Common.{◌≡◌, ℕ, ◌≤◌, List, take, drop, Option, None, Some, Ok, Err, refl, arith, cond, Bool, true, false, nat_lt, ◌/◌, ◌%◌, ◌==◌, ◌||◌}
use Rattle.std.specs.Option.{option_map_or}
use Rattle.std.proofs.lemmas.Bool.{ltb-false}
use Rattle.std.proofs.lemmas.List.{length-take}
use Rattle.board_terms.specs.declared.refusal.Refusal.{Refusal}
use Rattle.board_terms.specs.declared.refusal.Refusal.TheVariants.{BadLength}
use Rattle.gpa_space.specs.Space.{refusal_of, visible_page}
use Rattle.synic_regs.specs.Registers.{register_of}
use Rattle.synic_regs.specs.declared.register.Register.{Register}
use Rattle.synic_regs.specs.declared.register.Register.TheVariants.{ReferenceCounter, Eoi, Tpr, Control, Version, Sief, Sim, Eom, Source, TimerConfig, TimerCount}
use Rattle.synic_board.specs.declared.event.Event.{Event}
use Rattle.synic_board.specs.declared.event.Reply.TheVariants as replies
use Rattle.synic_board.specs.State.{State, space_of}
use Rattle.synic_board.specs.Effects.{Outcome}
use Rattle.synic_board.specs.Registers.{read_register, read}
use Rattle.synic_board.specs.Stores.{load_reply, read_bytes}
use Rattle.synic_board.specs.Step.{step}
use Rattle.synic_board.specs.Replies.{IsReply}
use Rattle.synic_board.proofs.Throughout.{Any, any, throughout}

-- the reply of an outcome
record Fits (s : State) (event : Event) (outcome : Outcome) : Type 0 where
  pub reply : IsReply outcome.1

fits-register : (s : State) (p : ℕ) (r : Register) → IsReply (read_register s p r)
fits-register s p ReferenceCounter = tt
fits-register s p Eoi = tt
fits-register s p Tpr = tt
fits-register s p Control = tt
fits-register s p Version = tt
fits-register s p Sief = tt
fits-register s p Sim = tt
fits-register s p Eom = tt
fits-register s p (Source n) = tt
fits-register s p (TimerConfig n) = tt
fits-register s p (TimerCount n) = tt

fits-read : (s : State) (p number : ℕ) → IsReply (read s p number)
fits-read s p number = by (register_of number)
  where
    by : (r : Option Register) → IsReply (option_map_or (read_register s p) r replies.GeneralProtection)
    by None = tt
    by (Some r) = fits-register s p r

-- a load of more than 8 bytes is refused
fits-load : (s : State) (address count : ℕ) → IsReply (read_bytes s address count)
fits-load s address count = long (nat_lt 8 count) refl
  where
    bytes : List ℕ
    bytes = take count (drop (address % 4096) (visible_page (space_of s) (address / 4096)))

    answered : (r : Option Refusal) → count ≤ 8
        → IsReply (load_reply (option_map_or (λ r. Err r) r (Ok (record { items = bytes }))))
    answered None bound =
        let h =
        length-take count (drop (address % 4096) (visible_page (space_of s) (address / 4096))) in
        omega (arith, bound, h)
    answered (Some r) bound = tt

    long : (t : Bool) → nat_lt 8 count ≡ t → IsReply (read_bytes s address count)
    long true is = by ((count == 0) || nat_lt 8 count) _ (rw is (either_true (count == 0)))
      where
        either_true : (b : Bool) → (b || true) ≡ true
        either_true true = refl
        either_true false = refl

        by : (t : Bool) (other : Option Refusal) → t ≡ true
            → IsReply
            (load_reply (option_map_or (λ r. Err r) (cond t (Some BadLength) other) (Ok (record { items = bytes }))))
        by true other e = tt
        by false other e = cc
    long false is = answered (refusal_of (space_of s) address count) (ltb-false 8 count is)

pub step_fits : (s : State) (event : Event) → IsReply (step s event).1
step_fits s event = (throughout Any Fits any (record {
  refuses = λ s event r. record { reply = tt };
  faults = λ s event. record { reply = tt };
  reads = λ s p number. record { reply = fits-read s p number };
  loads = λ s address count. record { reply = fits-load s address count };
  acts = λ s event reply _ _ _ e is _. record { reply = is.1 };
  eases = λ s event reply p a is _ _. record { reply = is.1 };
  stores = λ s address bytes e _. record { reply = tt };
  configures = λ s p n number value e _ _ _. record { reply = tt };
  counts = λ s p n number value e _ _ _. record { reply = tt };
  repeats = λ s port flag p i f _ _. record { reply = tt };
  signals = λ s port flag p i f _ _ _. record { reply = tt };
  pauses = λ s event p mark is _. record { reply = is.1 };
  resets = λ s p _ _. record { reply = tt };
}) s event).reply
