-- What holds under the lock, after a call and after an actor is added.
use Rattle.std.proofs.Common.{◌≡◌, ℕ, ◌+◌, ◌<◌, List, [], ◌∷◌, ◌++◌, All, set, refl, sym, ap, subst, ◌∙◌, arith}
use Rattle.board_terms.specs.declared.notices.Notice.{Notice}
use mathlib.Core.Option.{some}
use lib.ListN.{get_elem?}
use Rattle.entry_log.specs.Log.{entry}
use Rattle.entry_log.proofs.Runs.{legal-none, leads-none, legal-push, leads-push}
use Rattle.synic_board.specs.State.{State, BoardModel, processors}
use Rattle.synic_board.specs.Effects.{Outcome}
use Rattle.synic_board.specs.Performing.{Performs}
use Rattle.synic_board.specs.Sound.{IsSound, PayloadFits}
use Rattle.synic_board.specs.Step.{step}
use Rattle.synic_board.specs.declared.event.Event.{Event}
use Rattle.synic_board.specs.declared.event.Reply.{Reply}
use Rattle.synic_board.specs.declared.history.Entry.{Entry}
use Rattle.synic_board.proofs.keeping.Steps.{keeps-step}
use Rattle.synic_board.specs.History.{leads_to}
use Rattle.ghost_history.specs.Rows.{Answer, answer, Row, row, IsExtended, IsAmong}
use Rattle.shared_board.specs.Calling.{Calling, calling, Said, said, said_from, said_to, calls_by}
use Rattle.shared_board.specs.Witnessed.{Witnessed, witnessed, with_entry}
use Rattle.shared_board.specs.inside.Rostered.{rows_of, IsRostered}
use Rattle.shared_board.proofs.Rows.{row-of, rows-push, rows-more, all-push, all-more}
use Rattle.shared_board.proofs.Saying.{said-push, said-few}

-- a board without actors
pub begins : (start : State) (board : BoardModel) (h : List Entry) (rows : List Row) → h ≡ [] → rows ≡ []
    → board.state ≡ start → IsRostered start (witnessed board h 0) rows
begins start board h rows none empty is = record {
  run = record { legal = legal-none start h none; leads = is ∙ leads-none start h none };
  rows_are = empty;
  all = subst (All (λ (e : Entry). e.actor < 0)) (sym none) (λ k d inside. absurd (omega arith));
  count = ap processors is;
}

-- one more actor
pub enrolls : (start : State) (board : BoardModel) (h : List Entry) (n : ℕ) (rows rows' : List Row)
    → IsRostered start (witnessed board h n) rows → rows' ≡ rows ++ row n [] ∷ []
    → IsRostered start (witnessed board h (n + 1)) rows'
enrolls start board h n rows rows' was is = record {
  run = was.run;
  rows_are = is ∙ ap (λ l. l ++ row n [] ∷ []) was.rows_are
      ∙ rows-more n (said_from start h) (said-few n start h was.all);
  all = all-more n h was.all;
  count = was.count;
}

-- an event leaves the number of processors
stays : (s now : State) (e : Event) (reply : Reply) (notices : List Notice) → PayloadFits e → IsSound s
    → (now, reply, notices) ≡ step s e → processors now ≡ processors s
stays s now e reply notices fits sound is =
    ap (λ (o : Outcome). processors o.0) is
    ∙ (keeps-step (processors s) s e fits
    (record { count = refl; whole = sound.whole; empty = sound.empty })).kept.count

-- the part of an actor is the row at its number
part-of : (n : ℕ) (h : List Said) (rows : List Row) (own : Row) (k : ℕ) → rows ≡ rows_of n h
    → get_elem? rows k ≡ some own → (k < n) × (own ≡ row k (said_to k h))
part-of n h rows own k are at = row-of n k h own (ap (λ l. get_elem? l k) (sym are) ∙ at)

-- and has the calls of its actor
pub owns : (start : State) (w : Witnessed) (rows : List Row) (own : Row) → IsRostered start w rows → IsAmong rows own
    → (own.0 < w.actors) × (own.1 ≡ calls_by own.0 start w.history)
owns start w rows own was at =
    let part = part-of w.actors (said_from start w.history) rows own at.0 was.rows_are at.1 in
    let same : at.0 ≡ own.0 = sym (ap (λ (r : Row). r.0) part.1) in
    let below = part.0 in
    (omega arith, ap (λ (r : Row). r.1) part.1 ∙ ap (λ k. calls_by k start w.history) same)

pub finds : (start : State) (w now : Witnessed) (rows : List Row) (own : Row) (number : ℕ) (a : Calling)
    → IsRostered start w rows → IsAmong rows own → own.0 ≡ number → w ≡ now → calling number own.1 ≡ a
    → calls_by a.number start now.history ≡ a.calls
finds start w now rows own number a was at named same view =
    subst (λ (x : Witnessed). calls_by a.number start x.history ≡ a.calls) same
    (subst (λ (x : Calling). calls_by x.number start w.history ≡ x.calls) view
    (ap (λ n. calls_by n start w.history) (sym named) ∙ sym (owns start w rows own was at).1))

-- one more call
pub performs : (start : State) (old now : BoardModel) (h h' : List Entry) (n number : ℕ) (e : Event) (reply : Reply)
    (notices : List Notice) (rows rows' : List Row) (own own' : Row)
    → IsRostered start (witnessed old h n) rows → PayloadFits e → IsSound old.state → Performs old e now reply notices
    → h' ≡ with_entry h number e reply → own.0 ≡ number
    → IsExtended rows own (answer e reply notices) rows' own' → IsRostered start (witnessed now h' n) rows'
performs start old now h h' n number e reply notices rows rows' own own' was fits sound does is named more =
    let k : ℕ = more.1 in
    let all : List Said = said_from start h in
    let part = part-of n all rows own k was.rows_are more.2 in
    let same : k ≡ number = sym (ap (λ (r : Row). r.0) part.1) ∙ named in
    let x : Entry = entry number e reply in
    let one : Answer = answer e reply notices in
    let told : (number, one) ≡ said (leads_to start h) x =
    ap (λ (o : Outcome). (number, answer e o.1 o.2)) does.step
    ∙ ap (λ (s : State). said s x) was.run.leads in
    let row_is : own' ≡ row k (said_to k all ++ one ∷ []) =
    more.0 ∙ ap (λ (r : Row). row r.0 (r.1 ++ one ∷ [])) part.1 in
    record {
      run = record {
        legal = legal-push start old.state h h' number e reply was.run.legal was.run.leads is
            (ap (λ (o : Outcome). o.1) does.step);
        leads = leads-push start old.state now.state h h' number e reply was.run.leads is
            (ap (λ (o : Outcome). o.0) does.step);
      };
      rows_are = more.3 ∙ (λ i. set (was.rows_are i) k (row_is i)) ∙ rows-push n k all (number, one) part.0 (sym same)
          ∙ ap (λ y. rows_of n (all ++ y ∷ [])) told ∙ ap (rows_of n) (sym (said-push start h x))
          ∙ ap (λ l. rows_of n (said_from start l)) (sym is);
      all = subst (All (λ (y : Entry). y.actor < n)) (sym is)
          (all-push n h x was.all (let below = part.0 in omega arith));
      count = stays old.state now.state e reply notices fits sound does.step ∙ was.count;
    }
