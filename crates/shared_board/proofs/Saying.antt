-- What the reference model answers the events of a history.
use Rattle.std.proofs.Common.{◌≡◌, ℕ, ◌<◌, List, [], ◌∷◌, ◌++◌, All, map, refl, ap}
use Rattle.std.proofs.lemmas.List.Elements.{All-nil, All-cons, All-head, All-tail}
use Rattle.synic_board.specs.State.{State}
use Rattle.synic_board.specs.Step.{step}
use Rattle.synic_board.specs.Run.{run_of}
use Rattle.synic_board.specs.History.{IsLegal, leads_to}
use Rattle.synic_board.specs.declared.history.Entry.{Entry}
use Rattle.actor_calls.specs.Calls.{call_of}
use Rattle.shared_board.specs.Calling.{Said, said, said_from, call_in}

pub said-append : (s : State) (h more : List Entry)
    → said_from s (h ++ more) ≡ said_from s h ++ said_from (leads_to s h) more
unfolding said_from run_of
said-append s [] more = refl
said-append s (e ∷ h) more = ap (λ l. said s e ∷ l) (said-append (step s e.event).0 h more)

pub said-push : (s : State) (h : List Entry) (e : Entry)
    → said_from s (h ++ e ∷ []) ≡ said_from s h ++ said (leads_to s h) e ∷ []
unfolding said_from
said-push s h e = said-append s h (e ∷ [])

-- each to the actor of its entry
pub said-few : (n : ℕ) (s : State) (h : List Entry) → All (λ (e : Entry). e.actor < n) h
    → All (λ (x : Said). x.0 < n) (said_from s h)
unfolding said_from
said-few n s [] all = All-nil (λ (x : Said). x.0 < n)
said-few n s (e ∷ h) all =
    All-cons (λ (x : Said). x.0 < n) (said s e) (said_from (step s e.event).0 h)
    (All-head (λ (x : Entry). x.actor < n) e h all)
    (said-few n (step s e.event).0 h (All-tail (λ (x : Entry). x.actor < n) e h all))

-- in a legal history, the events and replies of its entries
pub said-legal : (s : State) (h : List Entry) → IsLegal s h
    → map (λ (x : Said). call_in x.1) (said_from s h) ≡ map call_of h
unfolding said_from run_of
said-legal s [] legal = refl
said-legal s (e ∷ h) legal =
    let first : (step s e.event).1 ≡ e.reply = cc (legal) in
    let rest = said-legal (step s e.event).0 h (cc (legal)) in
    λ i. (e.event, first i) ∷ rest i
