-- A signal of a flag that is set, or that is not.
use Rattle.std.proofs.Common.{◌≡◌, ℕ, ◌+◌, ◌*◌, ◌/◌, ◌%◌, ◌^◌, ◌<◌, Bool, true, false, ◌&&◌, List, [], get_or, set, None, Some, Ok, Err, refl, sym, ap, ◌∙◌, arith, nat_lt, append-nil}
use Rattle.std.specs.Prelude.{◌==◌, not, bit_or, if◌then◌else◌}
use Rattle.std.specs.Int.{bit_at}
use Rattle.std.specs.Option.{option_map_or}
use Rattle.std.proofs.lemmas.Bool.Decides.{nat_tests}
use Rattle.std.proofs.lemmas.List.{set-get_or}
use Rattle.board_terms.specs.declared.messages.PortShape.{PortShape}
use Rattle.board_terms.specs.declared.messages.PortShape.TheVariants.{Messages, Flags}
use Rattle.board_terms.specs.declared.notices.Notice.{Notice}
use Rattle.board_terms.specs.declared.refusal.Refusal.TheVariants.{UnknownPort, SynicOff, BadFlag}
use Rattle.event_ports.specs.declared.ports.Port.{Port}
use Rattle.event_ports.specs.Ports.{port_at, flag_place_at}
use Rattle.gpa_space.specs.Page.{with_bit, flag_place}
use Rattle.gpa_space.specs.Space.{is_flag_set}
use Rattle.synic_regs.specs.Regs.{has, enable}
use Rattle.synic_board.specs.declared.event.Event.TheVariants.{Signal}
use Rattle.synic_board.specs.declared.event.Reply.{Reply}
use Rattle.synic_board.specs.declared.event.Reply.TheVariants.{FlagWasSet, FlagWasClear}
use Rattle.synic_board.specs.Ranges.{HasRanges}
use Rattle.synic_board.specs.Sound.{HasShape}
use Rattle.synic_board.specs.State.{State, processors, regs_of, space_of, ports_of}
use Rattle.synic_board.specs.Effects.{Outcome, after, answered, unchanged, refused}
use Rattle.synic_board.specs.Interrupts.{raised}
use Rattle.synic_board.specs.Posts.{with_flag, flagged, signalled_place, signalled_at, signalled}
use Rattle.synic_board.specs.Step.{step}
use Rattle.live_board.specs.Words.{word_of}
use Rattle.live_board.specs.inside.Parts.{IsStep}
use Rattle.live_board.specs.Signals.{signalled_flag, flag_by}
use Rattle.live_board.proofs.Bytes.{or-one, bit-of}
use Rattle.live_board.proofs.Signalled.{flags_of, flag-bytes}

-- whether the SynIC of a processor and its event flags page are enabled
abbrev is_enabled : State → ℕ → Bool
is_enabled s p = has (regs_of s p).control enable && has (regs_of s p).sief enable

placed-at : (s : State) (number flag place : ℕ) (port : Port) → port_at (ports_of s) number ≡ Some port
    → signalled_flag s flag port ≡ Some place
    → (signalled s number flag ≡ signalled_place s (port.vp, port.sint, place)) × (is_enabled s port.vp ≡ true)
placed-at s number flag place port there is =
    let h = shaped port.shape is in
    (ap (λ o. signalled_at s (option_map_or (λ q. flag_place_at flag q q.shape) o (Err UnknownPort))) there ∙ h.0, h.1)
  where
    p : ℕ
    p = port.vp

    i : ℕ
    i = port.sint

    shaped : (shape : PortShape) → flag_by s p flag shape ≡ Some place
        → (signalled_at s (flag_place_at flag (record { vp = p; sint = i; shape = shape }) shape)
        ≡ signalled_place s (p, i, place)) × (is_enabled s p ≡ true)
    shaped (Messages buffers) none = absurd (cc)
    shaped (Flags base count) some = valid (nat_lt flag count) (is_enabled s p) refl some
      where
        valid : (a b : Bool) → is_enabled s p ≡ b → (if a && b then Some (base + flag) else None) ≡ Some place
            → (signalled_at s (if a then Ok (p, i, base + flag) else Err BadFlag) ≡ signalled_place s (p, i, place))
            × (is_enabled s p ≡ true)
        valid true true e h = let same : base + flag ≡ place = cc in (ap (λ f. signalled_place s (p, i, f)) same, e)
        valid true false e h = absurd (cc)
        valid false b e h = absurd (cc)

-- a bit that is set again
or-same : (n k : ℕ) → bit_at n k ≡ 1 → bit_or n (2 ^ k) ≡ n
or-same n k is = omega (arith, or-one n k, ap (λ b. b * 2 ^ k) is)

same-bit : (page : List ℕ) (at k : ℕ) → bit_at (get_or page at 0) k ≡ 1 → with_bit page at k ≡ page
same-bit page at k is = ap (set page at) (or-same (get_or page at 0) k is) ∙ set-get_or page at 0

same-flag : (s : State) (p i f : ℕ) → is_flag_set (space_of s) p i f ≡ true → with_flag s p i f ≡ s
same-flag s p i f is =
    let bit : bit_at (get_or (flags_of s p) (flag_place i f) 0) (f % 8) ≡ 1 = grind (arith, nat_tests) in
    ap (λ own. record s { own = own })
    (ap (set s.own (2 * p + 1)) (same-bit (flags_of s p) (flag_place i f) (f % 8) bit)
    ∙ set-get_or s.own (2 * p + 1) [])

placed-by : (s : State) (p i f : ℕ) (b : Bool) → is_enabled s p ≡ true → is_flag_set (space_of s) p i f ≡ b
    → signalled_place s (p, i, f)
    ≡ (if b then unchanged (with_flag s p i f) FlagWasSet
    else answered FlagWasClear (after (flagged s p i f) (raised (with_flag s p i f) p i)))
placed-by s p i f b on is =
    ap (λ e. if not e then refused s SynicOff else if is_flag_set (space_of s) p i f
    then unchanged (with_flag s p i f) FlagWasSet
    else answered FlagWasClear (after (flagged s p i f) (raised (with_flag s p i f) p i))) on
    ∙ ap (λ e. if e then unchanged (with_flag s p i f) FlagWasSet
    else answered FlagWasClear (after (flagged s p i f) (raised (with_flag s p i f) p i))) is

-- a signal of a flag that is set changes nothing
pub set-again : (s : State) (number flag place : ℕ) (port : Port) (notices : List Notice)
    → port_at (ports_of s) number ≡ Some port → signalled_flag s flag port ≡ Some place
    → is_flag_set (space_of s) port.vp port.sint place ≡ true
    → IsStep s (Signal number flag) s FlagWasSet notices notices
unfolding step
set-again s number flag place port notices there is set = record {
  emitted = [];
  notices = sym (append-nil notices);
  step = sym (at.0 ∙ placed-by s port.vp port.sint place true at.1 set
      ∙ ap (λ t. unchanged t FlagWasSet) (same-flag s port.vp port.sint place set));
  bound = omega arith;
}
  where
    at : (signalled s number flag ≡ signalled_place s (port.vp, port.sint, place)) × (is_enabled s port.vp ≡ true)
    at = placed-at s number flag place port there is

-- the reply where it is not set
pub set-anew : (s now : State) (number flag place : ℕ) (port : Port) (reply : Reply) (notices : List Notice)
    → port_at (ports_of s) number ≡ Some port → signalled_flag s flag port ≡ Some place
    → is_flag_set (space_of s) port.vp port.sint place ≡ false → (now, reply, notices) ≡ step s (Signal number flag)
    → reply ≡ FlagWasClear
unfolding step
set-anew s now number flag place port reply notices there is clear step-is =
    let at = placed-at s number flag place port there is in
    ap (λ (o : Outcome). o.1) (step-is ∙ at.0 ∙ placed-by s port.vp port.sint place false at.1 clear)

-- a flag in the word that has it
pub flag-seen : (s : State) (p i f found bit : ℕ) → word_of s (2 * p + 1) (32 * i + f / 64) ≡ found → bit ≡ f % 64
    → HasShape s → HasRanges s → p < processors s → i < 16 → f < 2048
    → is_flag_set (space_of s) p i f ≡ (bit_at found bit == 1)
flag-seen s p i f found bit is at shape ranges on under low =
    let w : ℕ = 32 * i + f / 64 in
    let place : flag_place i f ≡ 8 * w + f / 8 % 8 = omega arith in
    let low-bit : 8 * (f / 8 % 8) + f % 8 ≡ bit = omega (arith, at) in
    ap (λ n. bit_at (get_or (flags_of s p) n 0) (f % 8) == 1) place
    ∙ ap (λ n. n == 1)
    (sym (bit-of (flags_of s p) w (f / 8 % 8) (f % 8) (omega arith) (omega arith)
    (flag-bytes s p i f shape ranges on under low)) ∙ ap (bit_at (word_of s (2 * p + 1) w)) low-bit
    ∙ ap (λ n. bit_at n bit) is)
