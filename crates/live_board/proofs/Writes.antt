-- The registers of the timers, and their numbers, which no other register has.
use Rattle.std.proofs.Common.{◌≡◌, ◌≢◌, ◌⊎◌, inl, inr, ℕ, ◌-◌, ◌/◌, ◌%◌, ◌<◌, ◌≤◌, Bool, true, false, nat_lt, List, refl, ap, arith}
use Rattle.std.specs.Prelude.{Option, Some}
use Rattle.std.specs.Option.{option_map_or}
use Rattle.std.proofs.lemmas.Bool.{cases_eq}
use Rattle.board_terms.specs.declared.notices.Notice.{Notice}
use Rattle.synic_regs.specs.declared.register.Register.{Register}
use Rattle.synic_regs.specs.declared.register.Register.TheVariants.{TimerConfig, TimerCount}
use Rattle.synic_regs.specs.Registers.{register_of}
use Rattle.synic_regs.proofs.Numbers.{have_their_numbers}
use Rattle.synic_board.specs.declared.event.Event.{Event}
use Rattle.synic_board.specs.declared.event.Reply.{Reply}
use Rattle.synic_board.specs.State.{processors}
use Rattle.live_board.specs.Acting.{IsRegisterWrite, IsTimedWrite}
use Rattle.live_board.specs.Live.{LiveModel}
use Rattle.live_board.specs.Timers.{is_timer_register, is_direct_write}

-- the registers of the timers, in alternation
pub timer-config : (n : ℕ) → 0x400000b0 ≤ n → n ≤ 0x400000b7 → (n - 0x400000b0) % 2 ≡ 0
    → register_of n ≡ Some (TimerConfig ((n - 0x400000b0) / 2))
timer-config n low high even =
    (have_their_numbers n (TimerConfig ((n - 0x400000b0) / 2))).1 (omega (arith, low, high), omega (arith, low, even))

pub timer-count : (n : ℕ) → 0x400000b0 ≤ n → n ≤ 0x400000b7 → (n - 0x400000b0) % 2 ≢ 0
    → register_of n ≡ Some (TimerCount ((n - 0x400000b0) / 2))
timer-count n low high odd =
    (have_their_numbers n (TimerCount ((n - 0x400000b0) / 2))).1 (omega (arith, low, high), omega (arith, low, odd))

pub timer-inside : (n : ℕ) → 0x400000b0 ≤ n → n ≤ 0x400000b7
    → option_map_or is_timer_register (register_of n) false ≡ true
timer-inside n low high = by (cases_eq ((n - 0x400000b0) % 2) 0)
  where
    by : ((n - 0x400000b0) % 2 ≡ 0) ⊎ ((n - 0x400000b0) % 2 ≢ 0)
        → option_map_or is_timer_register (register_of n) false ≡ true
    by (inl even) = ap (λ o. option_map_or is_timer_register o false) (timer-config n low high even)
    by (inr odd) = ap (λ o. option_map_or is_timer_register o false) (timer-count n low high odd)

pub timer-range : (n : ℕ) → option_map_or is_timer_register (register_of n) false ≡ true → (0x400000b0 ≤ n)
    × (n ≤ 0x400000b7)
timer-range n timer = by (register_of n) refl timer
  where
    by : (o : Option Register) → register_of n ≡ o → option_map_or is_timer_register o false ≡ true → (0x400000b0 ≤ n)
        × (n ≤ 0x400000b7)
    by (Some (TimerConfig k)) is t =
        let has = (have_their_numbers n (TimerConfig k)).0 is in (omega (arith, has), omega (arith, has))
    by (Some (TimerCount k)) is t =
        let has = (have_their_numbers n (TimerCount k)).0 is in (omega (arith, has), omega (arith, has))
    by o is t = absurd (cc)

pub timer-outside : (n : ℕ) → (n < 0x400000b0) ⊎ (0x400000b7 < n)
    → option_map_or is_timer_register (register_of n) false ≡ false
timer-outside n out = by (option_map_or is_timer_register (register_of n) false) refl
  where
    no : (n < 0x400000b0) ⊎ (0x400000b7 < n) → (0x400000b0 ≤ n) × (n ≤ 0x400000b7) → ⊥
    no (inl low) within = omega (arith, low, within)
    no (inr high) within = omega (arith, high, within)

    by : (b : Bool) → option_map_or is_timer_register (register_of n) false ≡ b
        → option_map_or is_timer_register (register_of n) false ≡ false
    by true is = absurd (no out (timer-range n is))
    by false is = is

-- what a write of a timer is
pub timer-written : (o : Option Register) (p : ℕ) (old : LiveModel) (event : Event) (now : LiveModel) (reply : Reply)
    (owed : ℕ) (notices : List Notice) → option_map_or is_timer_register o false ≡ true
    → IsTimedWrite (nat_lt p (processors old.board.state)) (is_direct_write old.board.state event) p old event now reply
    owed notices
    → IsRegisterWrite o p old event now reply owed notices
timer-written (Some (TimerConfig k)) p old event now reply owed notices timer h = h
timer-written (Some (TimerCount k)) p old event now reply owed notices timer h = h
timer-written o p old event now reply owed notices timer h = absurd (cc)
