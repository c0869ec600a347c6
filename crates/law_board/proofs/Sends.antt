-- A send is an assert at each processor of its mask.
use Rattle.std.proofs.Common.{◌≡◌, ℕ, zero, suc, ◌^◌, ◌<◌, ◌≤◌, ◌⊎◌, inl, inr, Bool, true, false, ◌==◌, nat_lt, List, [], ◌∷◌, ◌++◌, append_assoc, append-nil, refl, sym, ap, ◌∙◌, arith}
use Rattle.std.specs.Prelude.{if◌then◌else◌}
use Rattle.std.specs.Int.{bit_at}
use Rattle.std.proofs.lemmas.Bool.{cases_lt}
use Rattle.std.proofs.lemmas.Bool.Decides.{nat_tests}
use Rattle.std.proofs.lemmas.Nat.Bits.{bit_at_above}
use Rattle.board_terms.specs.declared.notices.Notice.{Notice}
use Rattle.synic_board.specs.declared.event.Event.{Event}
use Rattle.synic_board.specs.declared.event.Event.TheVariants.{Assert}
use Rattle.synic_board.specs.declared.event.Reply.TheVariants.{Done}
use Rattle.synic_board.specs.State.{State, processors}
use Rattle.synic_board.specs.Effects.{Effect, Outcome, nothing, after, answered}
use Rattle.synic_board.specs.Interrupts.{requested}
use Rattle.synic_board.specs.Sending.{sent_below}
use Rattle.synic_board.specs.Step.{step}
use Rattle.synic_board.specs.Run.{Run, run_of}
use Rattle.synic_board.proofs.keeping.Bounds.{within-sent_below}
use Rattle.law_board.specs.Sends.{asserts_below, SendsAlike}

-- the state and the notices of a run
abbrev effect_of : Run → Effect
effect_of r = (r.0, r.2)

run-more : (s : State) (es : List Event) (e : Event) → effect_of (run_of s (es ++ e ∷ [])) ≡
    after (effect_of (run_of s es)) ((step (run_of s es).0 e).0, (step (run_of s es).0 e).2)
unfolding run_of
run-more s [] e = ap (λ (ns : List Notice). ((step s e).0, ns)) (append-nil (step s e).2)
run-more s (first ∷ es) e =
    let now : State = (step s first).0 in
    let last : Outcome = step (run_of now es).0 e in
    ap (λ (x : Effect). (x.0, (step s first).2 ++ x.1)) (run-more now es e)
    ∙ ap (λ (ns : List Notice). (last.0, ns)) (sym (append_assoc (step s first).2 (run_of now es).2 last.2))

-- an assert at a processor on the board requests the vector there
asserted : (s : State) (p v : ℕ) → p < processors s → step s (Assert p v) ≡ answered Done (requested s p v)
unfolding step
asserted s p v on = let is : nat_lt p (processors s) ≡ true = grind (arith, nat_tests) in rw is refl

-- one processor more
one-more : (s : State) (v mask p : ℕ) (so_far : effect_of (run_of s (asserts_below v mask p)) ≡ sent_below s v mask p)
    → (bit_at mask p ≡ 1 → p < processors s) →
    effect_of (run_of s (asserts_below v mask (suc p))) ≡ sent_below s v mask (suc p)
unfolding sent_below
one-more s v mask p so_far on = by (bit_at mask p == 1) refl
  where
    es : List Event
    es = asserts_below v mask p

    e : Effect
    e = sent_below s v mask p

    by : (b : Bool) → (bit_at mask p == 1) ≡ b →
        effect_of (run_of s (es ++ (if b then Assert p v ∷ [] else [])))
        ≡ after e (if b then requested e.0 p v else nothing e.0)
    by true is =
        let set : bit_at mask p ≡ 1 = grind (arith, nat_tests) in
        let same : processors e.0 ≡ processors s = (within-sent_below s v mask p).same in
        let there : p < processors e.0 = let below = on set in omega (arith, below, same) in
        run-more s es (Assert p v)
        ∙ ap (λ (x : Effect). after x ((step x.0 (Assert p v)).0, (step x.0 (Assert p v)).2)) so_far
        ∙ ap (λ (o : Outcome). after e (o.0, o.2)) (asserted e.0 p v there)
    by false is =
        ap (λ (l : List Event). effect_of (run_of s l)) (append-nil es) ∙ so_far
        ∙ ap (λ (ns : List Notice). (e.0, ns)) (sym (append-nil e.1))

each : (s : State) (v mask n : ℕ) → ((p : ℕ) → bit_at mask p ≡ 1 → p < processors s)
    → effect_of (run_of s (asserts_below v mask n)) ≡ sent_below s v mask n
unfolding run_of sent_below
each s v mask zero on = refl
each s v mask (suc p) on = one-more s v mask p (each s v mask p on) (on p)

on-board : (s : State) (mask p : ℕ) → mask < 2 ^ processors s → bit_at mask p ≡ 1 → p < processors s
on-board s mask p fits set = by (cases_lt p (processors s))
  where
    by : (p < processors s) ⊎ (processors s ≤ p) → p < processors s
    by (inl below) = below
    by (inr above) = let clear = bit_at_above mask (processors s) p fits above in absurd (omega (arith, set, clear))

pub sends_alike : (s : State) (v mask : ℕ) → mask < 2 ^ processors s → SendsAlike s v mask (asserts_below v mask 64)
unfolding step
sends_alike s v mask fits =
    let is : nat_lt mask (2 ^ processors s) ≡ true = grind (arith, nat_tests) in
    let all = each s v mask 64 (λ p set. on-board s mask p fits set) in
    record {
      state = rw is (ap (λ (x : Effect). x.0) (sym all));
      notices = rw is (ap (λ (x : Effect). x.1) (sym all));
    }
