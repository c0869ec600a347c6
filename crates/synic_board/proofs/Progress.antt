-- A run continues by one event.
use Rattle.std.proofs.Common.{◌≡◌, ℕ, ◌+◌, ◌<◌, ◌≤◌, List, [], ◌∷◌, ◌++◌, refl, ap, sym, subst, ◌∙◌, arith, append_assoc, append-nil, length, take, get_or}
use Rattle.std.proofs.lemmas.List.{take_more}
use Rattle.board_terms.specs.declared.notices.Notice.{Notice}
use Rattle.synic_board.specs.declared.event.Event.{Event}
use Rattle.synic_board.specs.declared.event.Reply.{Reply}
use Rattle.synic_board.specs.State.{State}
use Rattle.synic_board.specs.Effects.{Outcome}
use Rattle.synic_board.specs.Step.{step}
use Rattle.synic_board.specs.Locations.{Conserves}
use Rattle.synic_board.specs.Run.{Run, run_of, followed_by, with_earlier_notices}
use Rattle.synic_board.specs.inside.Progress.{HasPerformed}
use Rattle.synic_board.proofs.keeping.Wholes.{still, conserves-after}

abbrev pub goes_on : Run → Event → Run
goes_on r e = ((step r.0 e).0, r.1 ++ (step r.0 e).1 ∷ [], r.2 ++ (step r.0 e).2)

pub run_of-push : (s : State) (es : List Event) (e : Event) → run_of s (es ++ e ∷ []) ≡ goes_on (run_of s es) e
unfolding run_of
run_of-push s [] e = ap (λ ns. ((step s e).0, (step s e).1 ∷ [], ns)) (append-nil (step s e).2)
run_of-push s (x ∷ es) e =
    ap (followed_by (step s x)) (run_of-push (step s x).0 es e)
    ∙ ap (λ ns. ((
      (step (run_of (step s x).0 es).0 e).0,
      (step s x).1 ∷ (run_of (step s x).0 es).1 ++ (step (run_of (step s x).0 es).0 e).1 ∷ [],
      ns,
    )))
    (sym (append_assoc (step s x).2 (run_of (step s x).0 es).2 (step (run_of (step s x).0 es).0 e).2))

pub behind_none : (s : State) (es : List Event) (before : List Notice) (replies : List Reply) → replies ≡ []
    → HasPerformed s es 0 before s replies before
unfolding run_of
behind_none s es before replies e = record {
  is = ap (λ rs. (s, rs, before)) e ∙ ap (λ ns. (s, [], ns)) (sym (append-nil before));
  conserves = still s s [] (record { queues = refl; slots = refl; next = refl }) (λ t. refl);
  tickets_monotone = omega arith;
}

pub behind_more : (s : State) (es : List Event) (i : ℕ) (e : Event) (before : List Notice) (now next : State)
    (replies more : List Reply) (reply : Reply) (emitted louder ns : List Notice) →
    i < length es → e ≡ get_or es i e → HasPerformed s es i before now replies emitted
    → (next, reply, ns) ≡ step now e → Conserves now next ns →
    now.next_ticket ≤ next.next_ticket → more ≡ replies ++ reply ∷ [] → louder ≡ emitted ++ ns →
    HasPerformed s es (i + 1) before next more louder
behind_more s es i e before now next replies more reply emitted louder ns lt at h stepped conserves tickets_monotone m
    l =
    let r : Run = run_of s (take i es) in
    let whole : run_of s (take (i + 1) es) ≡ goes_on r e =
    ap (run_of s) (take_more es i e lt ∙ ap (λ x. take i es ++ x ∷ []) (sym at)) ∙ run_of-push s (take i es) e in
    let a : now ≡ r.0 = ap (λ (x : Run). x.0) h.is in
    let b : replies ≡ r.1 = ap (λ (x : Run). x.1) h.is in
    let c : emitted ≡ before ++ r.2 = ap (λ (x : Run). x.2) h.is in
    let d : (next, reply, ns) ≡ step r.0 e = stepped ∙ ap (λ x. step x e) a in
    let f : next ≡ (step r.0 e).0 = ap (λ (x : Outcome). x.0) d in
    let g : more ≡ r.1 ++ (step r.0 e).1 ∷ [] =
    m ∙ ap (λ xs. xs ++ reply ∷ []) b ∙ ap (λ (x : Outcome). r.1 ++ x.1 ∷ []) d in
    let k : louder ≡ before ++ (r.2 ++ (step r.0 e).2) =
    l ∙ ap (λ xs. xs ++ ns) c ∙ ap (λ (x : Outcome). (before ++ r.2) ++ x.2) d
    ∙ append_assoc before r.2 (step r.0 e).2 in
    let all : (run_of s (take (i + 1) es)).2 ≡ r.2 ++ ns =
    ap (λ (x : Run). x.2) whole ∙ ap (λ (x : Outcome). r.2 ++ x.2) (sym d) in
    record {
      is = (λ j. (f j, g j, k j)) ∙ sym (ap (with_earlier_notices before) whole);
      conserves = subst (Conserves s next) (sym all)
          (conserves-after s (now, r.2) (next, ns) h.tickets_monotone tickets_monotone h.conserves conserves);
      tickets_monotone = omega (arith, h.tickets_monotone, tickets_monotone);
    }
