-- A FlagSet notice is emitted iff a signal sets the flag.
use Rattle.std.proofs.Common.{◌≡◌, ℕ, ◌+◌, ◌*◌, ◌%◌, ◌^◌, ◌<◌, ◌&&◌, ◌||◌, get_or, set, max, Bool, true, false, not, nat_lt, List, [], ◌∷◌, ◌++◌, length, map, refl, sym, ap, subst, ◌∙◌, arith, Ok}
use Rattle.std.specs.Prelude.{Option, None, Some, ◌==◌, bit_or}
use Rattle.std.specs.Int.{bit_at}
use Rattle.std.specs.Option.{option_map_or}
use Rattle.std.specs.FinSet as members
use Rattle.std.proofs.lemmas.Bool.Decides.{nat_tests}
use Rattle.std.proofs.lemmas.List.{get_or-set_same}
use Rattle.std.proofs.Math.Nat.{max-eq_right}
use Rattle.std.proofs.lemmas.Nat.Bits.{bit_at_or, bit_at-pow_same, bit_at-lt}
use Rattle.board_terms.specs.Messages.{ticket_of}
use Rattle.board_terms.specs.declared.notices.Notice.{Notice}
use Rattle.board_terms.specs.declared.notices.Notice.TheVariants.{Placed, Pending, Withdrawn, Skipped}
use Rattle.board_terms.specs.declared.refusal.Refusal.{Refusal}
use Rattle.board_terms.specs.declared.pages.Kind.TheVariants.{Sief}
use Rattle.event_ports.specs.Ports.{flag_place_of}
use Rattle.synic_regs.specs.Regs.{raised_by}
use Rattle.message_queues.specs.Queues.{queue_of, withdrawn_of}
use Rattle.gpa_space.specs.Page.{is_set, with_bit, flag_place}
use Rattle.gpa_space.specs.Space.{is_pending, is_flag_set, own_page}
use Rattle.synic_board.specs.declared.event.Event.{Event}
use Rattle.synic_board.specs.declared.event.Event.TheVariants.{Write, Read, Signal, Store, Load, Reset}
use Rattle.synic_board.specs.declared.event.Reply.{Reply}
use Rattle.synic_board.specs.declared.event.Reply.TheVariants as replies
use Rattle.synic_board.specs.State.{State, processors, apic_of, with_apic, regs_of, space_of, ports_of}
use Rattle.synic_board.specs.Effects.{Effect, Outcome, nothing, after, unchanged, answered, refused}
use Rattle.synic_board.specs.Interrupts.{requested, raised}
use Rattle.synic_board.specs.Posts.{with_flag, flagged}
use Rattle.synic_board.specs.Timers.{expired_notices, skipped_notices, expiry_notices, expiry_at}
use Rattle.synic_board.specs.Sound.{IsSound}
use Rattle.synic_board.specs.Suspending.{with_suspension}
use Rattle.synic_board.specs.Resetting.{emptied, cleared}
use Rattle.synic_board.specs.Step.{step}
use Rattle.law_board.specs.Flags.{is_flag_notice, has_flag_notice, is_place, signals_flag, is_performed, found_clear}
use Rattle.synic_board.proofs.keeping.Requests.{either}
use Rattle.synic_board.proofs.Throughout.{OfEffects, IsNoSignal, request_made, throughout}

-- notices without a FlagSet
abbrev TellNone : List Notice → Type 0
TellNone notices = (p i flag : ℕ) → has_flag_notice p i flag notices ≡ false

record IsMute (s : State) (e : Effect) : Type 0 where
  pub none : TellNone e.1

neither : {a b : Bool} → a ≡ false → b ≡ false → (a || b) ≡ false
neither {a} {b} h k = ap (λ x. x || b) h ∙ k

none-joined : (xs ys : List Notice) → TellNone xs → TellNone ys → TellNone (xs ++ ys)
none-joined xs ys h k p i flag = joined xs ∙ neither (h p i flag) (k p i flag)
  where
    or-assoc : (a b c : Bool) → (a || (b || c)) ≡ ((a || b) || c)
    or-assoc true b c = refl
    or-assoc false b c = refl

    joined : (zs : List Notice)
        → has_flag_notice p i flag (zs ++ ys) ≡ (has_flag_notice p i flag zs || has_flag_notice p i flag ys)
    joined [] = refl
    joined (z ∷ zs) =
        ap (λ b. is_flag_notice p i flag z || b) (joined zs)
        ∙ or-assoc (is_flag_notice p i flag z) (has_flag_notice p i flag zs) (has_flag_notice p i flag ys)

none-withdrawn : (q j : ℕ) (tickets : List ℕ) → TellNone (map (λ t. Withdrawn q j t) tickets)
none-withdrawn q j [] p i flag = refl
none-withdrawn q j (t ∷ tickets) p i flag = none-withdrawn q j tickets p i flag

none-expired : (t : ℕ × ℕ) (signal : Option ℕ) (skipped : ℕ) → TellNone (expiry_notices t signal skipped)
none-expired t signal skipped = none-joined (expired_notices t signal) (skipped_notices t skipped) (first signal)
    (either TellNone (skipped == 0) [] (Skipped t.0 t.1 skipped ∷ []) (λ _ _ _ _. refl) (λ _ _ _ _. refl))
  where
    first : (o : Option ℕ) → TellNone (expired_notices t o)
    first None p i flag = refl
    first (Some d) p i flag = refl

mute : OfEffects IsMute
mute = record {
  stays = λ s. record { none = λ _ _ _. refl };
  joins = λ s e f a b. record { none = none-joined e.1 f.1 a.none b.none };
  requests = λ s p v _. record { none = λ _ _ _. refl };
  accepts = λ s p i m. record { none = λ _ _ _. refl };
  locations = λ s p i m rest _ _.
      record {
        none = either (λ ns. TellNone (Placed p i (ticket_of m) ∷ ns)) (nat_lt 0 (length rest))
            (Pending p i ∷ []) [] (λ _ _ _ _. refl) (λ _ _ _ _. refl);
      };
  marks = λ s p i.
      record {
        none = either TellNone (is_pending (space_of s) p i) [] (Pending p i ∷ []) (λ _ _ _ _. refl)
            (λ _ _ _ _. refl);
      };
  consumes = λ s p i t _. record { none = λ _ _ _. refl };
  withdraws = λ s p i port. record { none = none-withdrawn p i (withdrawn_of port (queue_of s.queues p i)) };
  frees = λ s p i t. record { none = λ _ _ _. refl };
  empties = λ s p i. record { none = none-withdrawn p i (map ticket_of (queue_of s.queues p i)) };
  expires = λ s t _. record { none = none-expired t (expiry_at s t).signal (expiry_at s t).skipped };
}

-- an event emits FlagSet iff it is a signal that found the flag clear, and then the flag is set
record IsFlagged (s : State) (event : Event) (outcome : Outcome) : Type 0 where
  pub emitted : (p i flag : ℕ) → has_flag_notice p i flag outcome.2 ≡ found_clear s p i flag event outcome.1
  pub stands : (p i flag : ℕ) → IsSound s → p < processors s → i < 16 → flag < 2048
      → has_flag_notice p i flag outcome.2 ≡ true → is_flag_set (space_of outcome.0) p i flag ≡ true

silent : (s : State) (event : Event) (outcome : Outcome) → TellNone outcome.2
    → ((p i flag : ℕ) → found_clear s p i flag event outcome.1 ≡ false) → IsFlagged s event outcome
silent s event outcome none never = record {
  emitted = λ p i flag. none p i flag ∙ sym (never p i flag);
  stands = λ p i flag _ _ _ _ emitted. let no : true ≡ false = sym emitted ∙ none p i flag in absurd (cc);
}

refusing : (a b : Bool) → (a && false && b) ≡ false
refusing true b = refl
refusing false b = refl

refuses : (s : State) (event : Event) (r : Refusal) → IsFlagged s event (refused s r)
refuses s event r =
    silent s event (refused s r) (λ _ _ _. refl)
    (λ p i flag. refusing (signals_flag s p i flag event) (not (is_flag_set (space_of s) p i flag)))

faults : (s : State) (event : Event) → IsFlagged s event (unchanged s replies.GeneralProtection)
faults s event =
    silent s event (unchanged s replies.GeneralProtection) (λ _ _ _. refl)
    (λ p i flag. refusing (signals_flag s p i flag event) (not (is_flag_set (space_of s) p i flag)))

no-signal : (s : State) (p i flag : ℕ) (event : Event) → IsNoSignal event → signals_flag s p i flag event ≡ false
no-signal s p i flag (Signal port number) is = absurd is
no-signal s p i flag event is = refl

-- the effect of an event that is no signal
other : (s : State) (event : Event) (reply : Reply) (e : Effect) → IsNoSignal event → TellNone e.1
    → IsFlagged s event (answered reply e)
other s event reply e is none =
    silent s event (answered reply e) none
    (λ p i flag. ap (λ b. b && is_performed reply && not (is_flag_set (space_of s) p i flag))
    (no-signal s p i flag event is))

-- the same flag
here : (s : State) (p i flag q j lit : ℕ) → (p == q && i == j && flag == lit) ≡ true
    → is_flag_set (space_of s) p i flag ≡ is_flag_set (space_of s) q j lit
here s p i flag q j lit e =
    let same_p : p ≡ q = grind (arith, nat_tests) in
    let same_i : i ≡ j = grind (arith, nat_tests) in
    let same_flag : flag ≡ lit = grind (arith, nat_tests) in
    λ k. is_flag_set (space_of s) (same_p k) (same_i k) (same_flag k)

repeated : (test set : Bool) → (test ≡ true → set ≡ true) → (test && true && not set) ≡ false
repeated true set h = ap not (h refl)
repeated false set h = refl

repeats : (s : State) (port number q j lit : ℕ) → flag_place_of (ports_of s) port number ≡ Ok (q, j, lit)
    → is_flag_set (space_of s) q j lit ≡ true →
    IsFlagged s (Signal port number) (unchanged (with_flag s q j lit) replies.FlagWasSet)
repeats s port number q j lit place stands =
    silent s (Signal port number) (unchanged (with_flag s q j lit) replies.FlagWasSet) (λ _ _ _. refl) (λ p i flag.
    ap (λ r. is_place p i flag r && true && not (is_flag_set (space_of s) p i flag)) place
    ∙ repeated (p == q && i == j && flag == lit) (is_flag_set (space_of s) p i flag)
    (λ e. here s p i flag q j lit e ∙ stands))

-- a flag that was set is set afterwards
flag-stands : (s : State) (p i flag : ℕ) → IsSound s → p < processors s → i < 16 → flag < 2048
    → is_flag_set (space_of (with_flag s p i flag)) p i flag ≡ true
flag-stands s p i flag h below inside bound =
    let page : List ℕ = own_page (space_of s) p Sief in
    let at : ℕ = flag_place i flag in
    let byte : ℕ = get_or page at 0 in
    let new : List ℕ = with_bit page at (flag % 8) in
    let within : 2 * p + 1 < length s.own = omega (arith, h.whole.own, below) in
    let long : length page ≡ 4096 = h.whole.pages (2 * p + 1) [] within in
    let bit : bit_at (bit_or byte (2 ^ (flag % 8))) (flag % 8) ≡ 1 = bit_at_or byte (2 ^ (flag % 8)) (flag % 8)
    ∙ ap (max (bit_at byte (flag % 8))) (bit_at-pow_same (flag % 8))
    ∙ max-eq_right (omega (arith, bit_at-lt byte (flag % 8))) in
    ap (λ (l : List ℕ). is_set l at (flag % 8)) (get_or-set_same s.own (2 * p + 1) new [] within)
    ∙ ap (λ b. bit_at b (flag % 8) == 1)
    (get_or-set_same page at (bit_or byte (2 ^ (flag % 8))) 0 (omega (arith, long, inside, bound)))
    ∙ ap (λ b. b == 1) bit

raised-own : (s : State) (p i : ℕ) → (raised s p i).0.own ≡ s.own
raised-own s p i =
    elim (raised_by (regs_of s p) i) as (λ o. (option_map_or (requested s p) o (nothing s)).0.own ≡ s.own) [
      | None ↦ refl
      | Some v ↦ either (λ (e : Effect). e.0.own ≡ s.own) (members.contains (apic_of s p).requested v) (nothing s)
          (request_made s p v) (λ _. refl) (λ _. refl)
    ]

-- a signal that finds a flag clear
found : (test rest set : Bool) → rest ≡ false → (test ≡ true → set ≡ false) → (test || rest) ≡ (test && true && not set)
found true rest set none clear = sym (ap not (clear refl))
found false rest set none clear = none

test-emitted : (test rest : Bool) → rest ≡ false → (test || rest) ≡ true → test ≡ true
test-emitted true rest none e = refl
test-emitted false rest none e = let no : true ≡ false = sym e ∙ none in absurd (cc)

signals : (s : State) (port number q j lit : ℕ) → flag_place_of (ports_of s) port number ≡ Ok (q, j, lit)
    → is_flag_set (space_of s) q j lit ≡ false →
    IsMute (with_flag s q j lit) (raised (with_flag s q j lit) q j)
    → IsFlagged s (Signal port number)
    (answered replies.FlagWasClear (after (flagged s q j lit) (raised (with_flag s q j lit) q j)))
signals s port number q j lit place clear h = record {
  emitted = λ p i flag.
      found (p == q && i == j && flag == lit) (has_flag_notice p i flag (raised (with_flag s q j lit) q j).1)
      (is_flag_set (space_of s) p i flag) (h.none p i flag)
      (λ e. here s p i flag q j lit e ∙ clear)
      ∙ sym (ap (λ r. is_place p i flag r && true && not (is_flag_set (space_of s) p i flag)) place);
  stands = λ p i flag sound below inside bound emitted.
      let e : (p == q && i == j && flag == lit) ≡ true =
      test-emitted (p == q && i == j && flag == lit)
      (has_flag_notice p i flag (raised (with_flag s q j lit) q j).1) (h.none p i flag) emitted in
      let same_p : p ≡ q = grind (arith, nat_tests) in
      let same_i : i ≡ j = grind (arith, nat_tests) in
      let same_flag : flag ≡ lit = grind (arith, nat_tests) in
      here (raised (with_flag s q j lit) q j).0 p i flag q j lit e
      ∙ ap (λ (own : List (List ℕ)). is_set (get_or own (2 * q + 1) []) (flag_place j lit) (lit % 8))
      (raised-own (with_flag s q j lit) q j)
      ∙ flag-stands s q j lit sound (subst (λ n. n < processors s) same_p below) (subst (λ n. n < 16) same_i inside)
      (subst (λ n. n < 2048) same_flag bound);
}

flags : (s : State) (event : Event) → IsFlagged s event (step s event)
flags = throughout IsMute IsFlagged mute (record {
  refuses = refuses;
  faults = faults;
  reads = λ s p number. other s (Read p number) _ (nothing s) tt (λ _ _ _. refl);
  loads = λ s address count. other s (Load address count) _ (nothing s) tt (λ _ _ _. refl);
  acts = λ s event reply moment ports regs e is h. other s event reply e is.2 h.none;
  eases = λ s event reply p a is _ _. other s event reply (nothing (with_apic s p a)) is.2 (λ _ _ _. refl);
  stores = λ s address bytes e h. other s (Store address bytes) _ e tt h.none;
  configures = λ s p n number value e _ _ h. other s (Write p number value) _ e tt h.none;
  counts = λ s p n number value e _ _ h. other s (Write p number value) _ e tt h.none;
  repeats = repeats;
  signals = signals;
  pauses = λ s event p mark is _. other s event _ (nothing (with_suspension s p mark)) is.2 (λ _ _ _. refl);
  resets = λ s p _ h. let e : Effect = emptied s p in
      other s (Reset p) _ (after e (cleared e.0 p, [])) tt (none-joined e.1 [] h.none (λ _ _ _. refl));
})

pub emitted_flag : (s : State) (event : Event) (p i flag : ℕ)
    → has_flag_notice p i flag (step s event).2 ≡ found_clear s p i flag event (step s event).1
emitted_flag s event = (flags s event).emitted

pub flag_set : (s : State) (event : Event) (p i flag : ℕ) → IsSound s → p < processors s → i < 16 → flag < 2048
    → has_flag_notice p i flag (step s event).2 ≡ true →
    is_flag_set (space_of (step s event).0) p i flag ≡ true
flag_set s event = (flags s event).stands
