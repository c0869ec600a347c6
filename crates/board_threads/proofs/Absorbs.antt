-- The results of the lines' raises equal what the history absorbed plus the bits that are set, given the actors' calls.
use Rattle.std.proofs.Common.{◌≡◌, ℕ, true, List, [], ◌∷◌, ◌++◌, length, All, map, refl, sym, ap, ◌∙◌, subst}
use Rattle.std.specs.List.{sum_by}
use Rattle.std.proofs.lemmas.List.Elements.{All-head, All-tail}
use mathlib.Core.List.{map-append}
use Rattle.synic_board.specs.declared.history.Entry.{Entry}
use Rattle.posted_words.specs.Settled.{Settled}
use Rattle.posted_words.specs.Words.{Token, token, actions_of}
use Rattle.actor_calls.specs.Calls.{Call}
use Rattle.board_threads.specs.Sharing.{Acting}
use Rattle.actor_calls.specs.Sweeps.{sweeps_of}
use Rattle.actor_calls.specs.Absorbed.{AreAbsorbed, only_raises}
use Rattle.board_threads.specs.Settling.{AreAllOf, calls_held, calls_given}
use Rattle.board_threads.specs.declared.settling.ActorCalls.{ActorCalls}
use Rattle.actor_calls.proofs.Absorbed.{absorbed}
use Rattle.actor_calls.proofs.Absorbed.{sum-map}
use Rattle.board_threads.proofs.Counting.{counted}

abbrev calls_in : ActorCalls → List Call
calls_in a = a.calls.items

abbrev IsOwn : Acting → Type 0
IsOwn a = a.actions ≡ sweeps_of a.calls

-- the logs of the sweepers, given the returned lists
logs-are : (actors : List Acting) (ended : List ActorCalls) → map calls_given ended ≡ map calls_held actors
    → All IsOwn actors → map (λ (a : Acting). a.actions) actors ≡ map sweeps_of (map calls_in ended)
logs-are [] [] is own = refl
logs-are [] (e ∷ ended) is own = absurd (cc)
logs-are (a ∷ actors) [] is own = absurd (cc)
logs-are (a ∷ actors) (e ∷ ended) is own =
    let head : calls_given e ≡ calls_held a = cc in
    let tail : map calls_given ended ≡ map calls_held actors = cc in
    λ i. (All-head IsOwn a actors own ∙ ap (λ (x : ℕ × List Call). sweeps_of x.1) (sym head)) i ∷ logs-are actors
    ended tail (All-tail IsOwn a actors own) i

dids : (actors : List Acting)
    → map actions_of (map (λ (a : Acting). token a.of a.actions) actors) ≡ map (λ (a : Acting). a.actions) actors
dids [] = refl
dids (a ∷ actors) = ap (λ l. a.actions ∷ l) (dids actors)

pub are-absorbed : (n : ℕ) (sweepers : List Token) (actors : List Acting) (ended : List ActorCalls)
    (lines : List Token) (h : List Entry) (standing : List ℕ)
    → sweepers ≡ map (λ (a : Acting). token a.of a.actions) actors → map calls_given ended ≡ map calls_held actors
    → All IsOwn actors → All (λ (t : Token). only_raises t.actions ≡ true) lines
    → AreAllOf h ended → length standing ≡ n → Settled n (map actions_of (sweepers ++ lines)) standing
    → AreAbsorbed n (map actions_of lines) h standing
are-absorbed n sweepers actors ended lines h standing are out own only all width s =
    let both : map actions_of (sweepers ++ lines) ≡ map sweeps_of (map calls_in ended) ++ map actions_of lines =
    map-append actions_of sweepers lines
    ∙ (λ i. (ap (map actions_of) are ∙ dids actors ∙ logs-are actors ended out own) i ++ map actions_of lines) in
    absorbed n (map calls_in ended) lines h standing
    (λ f. counted f h ended all ∙ sym (sum-map (λ cs. sum_by (λ (c : Call). f c.0 c.1) cs) calls_in ended))
    only width (subst (λ l. Settled n l standing) both s)
