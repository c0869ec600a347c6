-- A history with one more entry.
use Rattle.std.proofs.Common.{◌≡◌, ℕ, List, [], ◌∷◌, ◌++◌, sym, ap, ◌∙◌}
use mathlib.Core.List.{map-append}
use Rattle.synic_board.specs.State.{State}
use Rattle.synic_board.specs.Step.{step}
use Rattle.synic_board.specs.Run.{Run, run_of}
use Rattle.synic_board.specs.History.{events_of, replies_of, IsLegal, leads_to}
use Rattle.synic_board.specs.declared.event.Event.{Event}
use Rattle.synic_board.specs.declared.event.Reply.{Reply}
use Rattle.synic_board.specs.declared.history.Entry.{Entry}
use Rattle.synic_board.proofs.Progress.{run_of-push}
use Rattle.entry_log.specs.Log.{entry}

events-push : (h now : List Entry) (n : ℕ) (e : Event) (r : Reply) → now ≡ h ++ entry n e r ∷ []
    → events_of now ≡ events_of h ++ e ∷ []
events-push h now n e r is = ap events_of is ∙ map-append (λ (x : Entry). x.event) h (entry n e r ∷ [])

-- it stays legal
pub legal-push : (start board : State) (h now : List Entry) (n : ℕ) (e : Event) (r : Reply) → IsLegal start h
    → board ≡ leads_to start h → now ≡ h ++ entry n e r ∷ [] →
    r ≡ (step board e).1 → IsLegal start now
legal-push start board h now n e r legal leads is same =
    ap replies_of is ∙ map-append (λ (x : Entry). x.reply) h (entry n e r ∷ [])
    ∙ (λ i. legal i ++ (same ∙ ap (λ s. (step s e).1) leads) i ∷ [])
    ∙ sym (ap (λ (x : Run). x.1) (run_of-push start (events_of h) e))
    ∙ ap (λ es. (run_of start es).1) (sym (events-push h now n e r is))

-- and leads to the next state
pub leads-push : (start board next : State) (h now : List Entry) (n : ℕ) (e : Event) (r : Reply)
    → board ≡ leads_to start h → now ≡ h ++ entry n e r ∷ [] →
    next ≡ (step board e).0 → next ≡ leads_to start now
leads-push start board next h now n e r leads is goes =
    goes ∙ ap (λ s. (step s e).0) leads ∙ sym (ap (λ (x : Run). x.0) (run_of-push start (events_of h) e))
    ∙ ap (λ es. (run_of start es).0) (sym (events-push h now n e r is))

-- the empty history is legal, and leads to the same state
pub legal-none : (start : State) (h : List Entry) → h ≡ [] → IsLegal start h
unfolding run_of
legal-none start h is = ap replies_of is ∙ ap (λ l. (run_of start (events_of l)).1) (sym is)

pub leads-none : (start : State) (h : List Entry) → h ≡ [] → start ≡ leads_to start h
unfolding run_of
leads-none start h is = ap (λ l. (run_of start (events_of l)).0) (sym is)
