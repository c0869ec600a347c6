-- The result of a crew, once its board is settled.
use Rattle.std.proofs.Common.{ℕ, suc, List, ◌≡◌, ◌+◌, ◌*◌, ◌∷◌, All, length, map, Vec, Global, vec_len, Result, Ok, Err, IfOk, ap, sym, subst, ◌∙◌, arith}
use Rattle.std.specs.List.{AllZip, range_with_len, sum_by}
use Rattle.std.proofs.lemmas.List.Elements.{All-head, All-tail}
use Rattle.std.proofs.lemmas.List.Sums.{sum_by-cons}
use Rattle.atomic_table.specs.Seated.{TableId}
use Rattle.synic_board.specs.State.{State}
use Rattle.posted_words.specs.declared.line.Raised.{Raised}
use Rattle.posted_words.specs.Words.{Token, actions_of}
use Rattle.actor_calls.specs.Calls.{calls_by}
use Rattle.board_threads.specs.Sharing.{Acting}
use Rattle.actor_calls.specs.Absorbed.{AreAbsorbed}
use Rattle.board_threads.specs.Settling.{IsSettled, calls_held, calls_given}
use Rattle.board_threads.specs.Crew.{EachFollows, IsCrewHistory, HasEach, IsCrewEnd, lists, logs_of}
use Rattle.board_threads.specs.inside.Work.{InPlace, HaveWorked}
use Rattle.board_threads.specs.declared.crew.CrewEnd.{CrewEnd}
use Rattle.board_threads.specs.declared.fault.WorkFault.{WorkFault}
use Rattle.board_threads.specs.declared.script.Step.{Step}
use Rattle.board_threads.specs.declared.script.Setup.{Setup}
use Rattle.board_threads.specs.declared.script.Scripts.{Scripts}
use Rattle.board_threads.specs.declared.settling.ActorCalls.{ActorCalls}
use Rattle.board_threads.specs.declared.settling.Ended.{Ended}
use Rattle.board_threads.proofs.Placing.{crewed, stand, each-stands, numbers-are, calls-add-up, steps-add-up, StandsIn}
use Rattle.board_threads.proofs.Crewing.{logs-are, each-answered}

-- a consequence of four facts about a value, if there is one
of-four : {A F : Type 0} (P Q R C S : A → Type 0) → ((a : A) → P a → Q a → R a → C a → S a) → (r : Result A F)
    → IfOk r P → IfOk r Q → IfOk r R → IfOk r C → IfOk r S
of-four P Q R C S f (Ok a) p q r c = f a p q r c
of-four P Q R C S f (Err e) p q r c = tt

-- no bit is left
abbrev pub IsClear : List ℕ → Type 0
IsClear words = All (λ (word : ℕ). word ≡ 0) words

-- actors and lines that worked, and what settling promises of them
module _ (begun : State) (name : TableId) (setup : Setup) (scripts : Scripts) (actors : List Acting)
    (lines : List Token) (raised : Vec (Vec Raised Global) Global)
    (w : HaveWorked name setup scripts actors lines raised.items) (e : Ended) (settled : IsSettled begun e)
    (given : map calls_given e.actors.items ≡ map calls_held actors)
    (place : InPlace (length setup.events.items) (4 * setup.processors) e.history.items)
    (empty : IsClear e.standing) where
  history : IsCrewHistory setup.processors setup.events.items (lists scripts.actors.items) e.history.items
  history =
      let h = e.history.items in
      let all = stand h _ actors given settled.actors.own in
      let own = subst (All (StandsIn h)) w.actors_are all in
      let main = ap (λ n. calls_by n h) (sym w.served.number) ∙ All-head (StandsIn h) w.main w.others own in
      let others : EachFollows 1 (lists scripts.actors.items) h =
      each-stands name 1 scripts.actors.items w.others h w.numbers w.acted
      (All-tail (StandsIn h) w.main w.others own) in
      let together = calls-add-up e.actors.items actors given
      ∙ ap (sum_by (λ (a : Acting). length a.calls)) w.actors_are
      ∙ sum_by-cons (λ (a : Acting). length a.calls) w.main w.others in
      let many : length h ≡ length w.main.calls + sum_by (λ (s : List Step). length s) (lists scripts.actors.items) =
      omega
      (arith, settled.actors.all, together, steps-add-up name scripts.actors.items w.others w.acted) in
      crewed name setup.processors setup.events.items
      (lists scripts.actors.items) h w.main place w.served main others many

  crew-ends : (n : ℕ) → n ≡ setup.processors → AreAbsorbed (4 * n) (map actions_of lines) e.history.items e.standing
      → (c : CrewEnd) → c.ended ≡ e → c.raised ≡ raised →
      IsCrewEnd begun setup scripts c
  crew-ends n same absorbed c is answers =
      let many : suc (length scripts.actors.items) ≡ vec_len scripts.actors + 1 = omega (arith, scripts.actors.ok.0) in
      record {
        settled = subst (IsSettled begun) (sym is) settled;
        numbers = ap (λ (x : Ended). map (λ (a : ActorCalls). a.number) x.actors.items) is ∙ numbers-are _ _ given
            ∙ ap (map (λ (a : Acting). a.number)) w.actors_are
            ∙ (λ i. w.served.number i ∷ w.numbers i) ∙ ap (λ n. range_with_len 0 n) many;
        crewed = subst (λ (x : Ended). IsCrewHistory setup.processors setup.events.items
            (lists scripts.actors.items) x.history.items) (sym is) history;
        each = subst (λ (v : Vec (Vec Raised Global) Global). AllZip HasEach (lists scripts.lines.items)
            (lists v.items)) (sym answers) (each-answered _ _ _ _ _ _ w);
        raises = subst (λ (v : Vec (Vec Raised Global) Global). AreAbsorbed (4 * setup.processors)
            (logs_of (lists scripts.lines.items) (lists v.items)) c.ended.history.items c.ended.standing)
            (sym answers)
            (subst (λ (x : Ended). AreAbsorbed (4 * setup.processors)
            (logs_of (lists scripts.lines.items) (lists raised.items)) x.history.items x.standing) (sym is)
            (subst (λ l. AreAbsorbed (4 * setup.processors) l e.history.items e.standing) (logs-are _ _ _ _ _ _ w)
            (subst (λ m. AreAbsorbed (4 * m) (map actions_of lines) e.history.items e.standing) same absorbed)));
        clear = subst (λ (x : Ended). IsClear x.standing) (sym is) empty;
      }

-- the same of a result whose calls are in place
pub finishes : (begun : State) (name : TableId) (setup : Setup) (scripts : Scripts) (actors : List Acting)
    (lines : List Token) (raised : Vec (Vec Raised Global) Global) →
    HaveWorked name setup scripts actors lines raised.items → (e : Ended) → IsSettled begun e
    → map calls_given e.actors.items ≡ map calls_held actors →
    (n : ℕ) → n ≡ setup.processors → AreAbsorbed (4 * n) (map actions_of lines) e.history.items e.standing
    → (r : Result CrewEnd WorkFault) →
    IfOk r (λ c. c.ended ≡ e) → IfOk r (λ c. c.raised ≡ raised)
    → IfOk r (λ _. InPlace (length setup.events.items) (4 * setup.processors) e.history.items) →
    IfOk r (λ _. IsClear e.standing) → IfOk r (IsCrewEnd begun setup scripts)
finishes begun name setup scripts actors lines raised w e settled given n same absorbed =
    of-four (λ c. c.ended ≡ e) (λ c. c.raised ≡ raised)
    (λ _. InPlace (length setup.events.items) (4 * setup.processors) e.history.items) (λ _. IsClear e.standing)
    (IsCrewEnd begun setup scripts)
    (λ c is answers place empty.
    crew-ends begun name setup scripts actors lines raised w e settled given place empty n same absorbed c is
    answers)
