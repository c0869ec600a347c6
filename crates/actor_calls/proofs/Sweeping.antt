-- The steps of a sweeper are the absorbs among its actor's calls.
use Rattle.std.proofs.Common.{◌≡◌, ℕ, Bool, true, false, List, [], ◌∷◌, ◌++◌, refl, sym, ap, ◌∙◌}
use Rattle.std.specs.Prelude.{if◌then◌else◌, nat_lt, nat_le, ◌&&◌}
use Rattle.std.specs.List.{flat_map}
use Rattle.std.proofs.lemmas.List.{reverse-append}
use Rattle.board_terms.specs.declared.refusal.Refusal.TheVariants.{BadTarget, NoSuchProcessor}
use Rattle.synic_board.specs.State.{State, processors}
use Rattle.synic_board.specs.Effects.{Effect, answered, refused}
use Rattle.synic_board.specs.Absorbing.{absorbed_below}
use Rattle.synic_board.specs.Step.{step}
use Rattle.synic_board.specs.declared.event.Event.{Event}
use Rattle.synic_board.specs.declared.event.Event.TheVariants.{Absorb}
use Rattle.synic_board.specs.declared.event.Reply.{Reply}
use Rattle.synic_board.specs.declared.event.Reply.TheVariants.{Done}
use Rattle.posted_words.specs.declared.rule.Action.{Action}
use Rattle.posted_words.specs.Words.{sweep_of}
use Rattle.actor_calls.specs.Calls.{Call}
use Rattle.actor_calls.specs.Sweeps.{is_absorb, is_refusal, sweep_in, sweeps_of}

sweeps-push : (calls : List Call) (e : Event) (r : Reply)
    → sweeps_of (calls ++ (e, r) ∷ []) ≡ sweep_in e r ++ sweeps_of calls
sweeps-push calls e r = ap (flat_map (λ (c : Call). sweep_in c.0 c.1)) (reverse-append calls ((e, r) ∷ []))

-- an event other than an absorb sweeps nothing
none-swept : (e : Event) (r : Reply) → is_absorb e ≡ false → sweep_in e r ≡ []
none-swept (Absorb p part bits) r h = absurd (cc)
none-swept e r h = refl

pub perform-pushes : (old new : List Call) (e : Event) (r : Reply) (actions : List Action) → actions ≡ sweeps_of old
    → is_absorb e ≡ false → new ≡ old ++ (e, r) ∷ [] → actions ≡ sweeps_of new
perform-pushes old new e r actions was other is =
    was ∙ sym (ap (λ ds. ds ++ sweeps_of old) (none-swept e r other)) ∙ sym (sweeps-push old e r)
    ∙ ap sweeps_of (sym is)

by-cases : (s : State) (a b : Bool) (e : Effect) (vp part bits : ℕ) (ds : List Action)
    → sweep_in (Absorb vp part bits)
    (if a then (if b then answered Done e else refused s BadTarget) else refused s NoSuchProcessor).1 ++ ds
    ≡ (if a && b then sweep_of vp part bits ∷ ds else ds)
by-cases s true true e vp part bits ds = refl
by-cases s true false e vp part bits ds = refl
by-cases s false b e vp part bits ds = refl

-- an absorb is refused iff no word is swept
pub absorb-sweeps : (s : State) (n vp part bits : ℕ) (r : Reply) (ds : List Action)
    → r ≡ (step s (Absorb vp part bits)).1 → processors s ≡ n
    → sweep_in (Absorb vp part bits) r ++ ds ≡ (if nat_lt vp n && nat_le part 3 then sweep_of vp part bits ∷ ds else ds)
unfolding step
absorb-sweeps s n vp part bits r ds is many =
    ap (λ x. sweep_in (Absorb vp part bits) x ++ ds) is
    ∙ by-cases s (nat_lt vp (processors s)) (nat_le part 3) (absorbed_below s vp part bits 64) vp part bits ds
    ∙ ap (λ m. if nat_lt vp m && nat_le part 3 then sweep_of vp part bits ∷ ds else ds) many

refused-by-cases : (s : State) (a b : Bool) (e : Effect)
    → is_refusal (if a then (if b then answered Done e else refused s BadTarget) else refused s NoSuchProcessor).1
    ≡ true → (a && b) ≡ false
refused-by-cases s true true e h = absurd (cc)
refused-by-cases s true false e h = refl
refused-by-cases s false b e h = refl

-- the word of a refused absorb does not exist
pub refused-absorb : (s : State) (n vp part bits : ℕ) (r : Reply) → r ≡ (step s (Absorb vp part bits)).1
    → processors s ≡ n
    → is_refusal r ≡ true → (nat_lt vp n && nat_le part 3) ≡ false
unfolding step
refused-absorb s n vp part bits r is many h =
    ap (λ m. nat_lt vp m && nat_le part 3) (sym many)
    ∙ refused-by-cases s (nat_lt vp (processors s)) (nat_le part 3) (absorbed_below s vp part bits 64)
    (ap is_refusal (sym is) ∙ h)
