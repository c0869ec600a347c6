-- The run of the reference model that explains a run of a live board.
use Rattle.std.proofs.Common.{◌≡◌, ◌<◌, arith, append_assoc, ◌⊎◌, inl, inr, ℕ, zero, suc, ◌*◌, ◌/◌, Bool, true, false, nat_lt, List, [], ◌∷◌, ◌++◌, get_or, Option, None, Some, refl, sym, ap, ◌∙◌, subst, All, append-nil}
use Rattle.std.proofs.lemmas.List.Elements.{All-append, All-cons, All-nil, All-head, All-tail}
use Rattle.board_terms.specs.declared.notices.Notice.{Notice}
use Rattle.board_terms.specs.declared.pages.Kind.{Kind}
use Rattle.board_terms.specs.declared.pages.Kind.TheVariants.{Sim, Sief}
use Rattle.board_terms.specs.declared.refusal.Refusal.TheVariants.{Elsewhere}
use Rattle.gpa_space.specs.Space.{is_covered, owner_of, page_of}
use Rattle.synic_regs.specs.declared.register.Register.{Register}
use Rattle.synic_regs.specs.declared.register.Register.TheVariants as register
use Rattle.synic_regs.specs.Registers.{register_of}
use Rattle.synic_board.specs.declared.event.Event.{Event}
use Rattle.synic_board.specs.declared.event.Event.TheVariants.{OpenPort, ClosePort, Write, Read, Post, Signal, Assert, Absorb, Store, Load, Tick, Take, Suspend, Resume, Reset, Send}
use Rattle.synic_board.specs.declared.event.Reply.{Reply}
use Rattle.synic_board.specs.declared.event.Reply.TheVariants.{Refused}
use Rattle.synic_board.specs.State.{State, processors, space_of}
use Rattle.synic_board.specs.Effects.{Outcome}
use Rattle.synic_board.specs.Locations.{Conserves}
use Rattle.synic_board.specs.Run.{Run, run_of}
use Rattle.synic_board.specs.Sound.{IsSound, PayloadFits}
use Rattle.live_pages.specs.declared.access.Access.{Access}
use Rattle.live_board.specs.Live.{LiveModel, IsLive, IsQuietly, IsOwnStore, has_processor, log_of, all_done, explained, explained_after, looked_from, marked_from}
use Rattle.board_terms.specs.declared.pages.Owner.{Owner}
use Rattle.board_terms.specs.declared.pages.Owner.TheVariants as owner
use Rattle.live_board.specs.Hiding.{IsRefreshedIf, IsRefreshedUnder, IsHiding}
use Rattle.live_board.specs.Acting.{Acts, IsRegisterWrite, IsTimedWrite, IsTimedPaid, IsTickedPaid, IsPaid, ArePaid, IsAccess, IsResetOf, eom_by, written_value}
use Rattle.live_board.specs.Timers.{is_direct_write}
use Rattle.live_board.specs.Runs.{Call, AreCalls, IsGuestStore, IsEomIf, HaveEoms, HaveAllEoms, HasBetween, notices_of, IsRunOf}
use Rattle.live_board.proofs.Guests.{guest-stores, late-stores, kept-by}
use Rattle.live_board.proofs.Joined.{run-append, joined, done-append}
use Rattle.live_board.proofs.Ticked.{none-owed}

-- one call: a run of its event with stores of the guest around it, or nothing
record IsAround (s : State) (event : Event) (now : State) (reply : Reply) (owed : ℕ) (notices : List Notice)
    : Type 0 where
  before : List Event
  after : List Event
  stores-before : All IsGuestStore before
  eoms-after : HaveAllEoms owed after
  run : run_of s (before ++ event ∷ after) ≡ (now, all_done before ++ reply ∷ all_done after, notices)

abbrev IsExplained : State → Event → State → Reply → ℕ → List Notice → Type 0
IsExplained s event now reply owed notices =
    ((reply ≡ Refused Elsewhere) × (now ≡ s) × (notices ≡ [])) ⊎ IsAround s event now reply owed notices

-- stores of the guest alone, where no processor is owed an EOM
no-eoms : (es : List Event) → All IsGuestStore es → HaveAllEoms 0 es
no-eoms es h = (0, (λ p _. none-owed p), h)

-- stores of a word of an own page
own-stores : (s : State) (p : ℕ) (k : Kind) (es : List Event) → All (IsOwnStore s p k) es → All IsGuestStore es
own-stores s p k [] h = All-nil IsGuestStore
own-stores s p k (e ∷ es) h =
    let one = All-head (IsOwnStore s p k) e es h in
    All-cons IsGuestStore e es (_, one.1, one.2) (own-stores s p k es (All-tail (IsOwnStore s p k) e es h))

looks-stores : (s : State) (p : ℕ) (k : Kind) (news log : List Access) → All IsGuestStore (explained s p k news log)
looks-stores s p k news log = own-stores s p k (explained s p k news log) (guest-stores s p k news log)

marks-stores : (s : State) (p : ℕ) (marks log : List Access) → All IsGuestStore (explained_after s p marks log)
marks-stores s p marks log = own-stores s p Sim (explained_after s p marks log) (late-stores s p marks log)

looked-stores : (m k : ℕ) (s : State) (pages : List (List Access)) (looks : ℕ → List Access)
    → All IsGuestStore (looked_from s pages looks k m)
looked-stores zero k s pages looks = All-nil IsGuestStore
looked-stores (suc m) k s pages looks =
    All-append IsGuestStore (explained s k Sim (looks k) (get_or pages (2 * k) []))
    (looked_from s pages looks (suc k) m) (looks-stores s k Sim (looks k) (get_or pages (2 * k) []))
    (looked-stores m (suc k) s pages looks)

marked-stores : (m k : ℕ) (s : State) (pages : List (List Access)) (looks stores marks : ℕ → List Access)
    → All IsGuestStore (marked_from s pages looks stores marks k m)
marked-stores zero k s pages looks stores marks = All-nil IsGuestStore
marked-stores (suc m) k s pages looks stores marks =
    All-append IsGuestStore (marked_from s pages looks stores marks (suc k) m)
    (explained_after s k (marks k) (stores k ++ (looks k ++ get_or pages (2 * k) [])))
    (marked-stores m (suc k) s pages looks stores marks)
    (marks-stores s k (marks k) (stores k ++ (looks k ++ get_or pages (2 * k) [])))

of-live : (old now : LiveModel) (event : Event) (reply : Reply) (notices : List Notice)
    → IsLive old event now reply notices → IsExplained old.board.state event now.board.state reply 0 notices
of-live old now event reply notices h = inr (record {
  before = explained old.board.state h.vp h.kind h.news (log_of old h.vp h.kind);
  after = [];
  stores-before = looks-stores old.board.state h.vp h.kind h.news (log_of old h.vp h.kind);
  eoms-after = no-eoms [] (All-nil IsGuestStore);
  run = h.run;
})

of-quiet : (old now : LiveModel) (event : Event) (reply : Reply) (notices : List Notice)
    → IsQuietly old event now reply notices → IsExplained old.board.state event now.board.state reply 0 notices
unfolding run_of
of-quiet old now event reply notices h = inr (record {
  before = [];
  after = [];
  stores-before = All-nil IsGuestStore;
  eoms-after = no-eoms [] (All-nil IsGuestStore);
  run = ap (λ (o : Outcome). (o.0, o.1 ∷ [], o.2 ++ [])) (sym h.performs.step)
      ∙ ap (λ (ns : List Notice). (now.board.state, reply ∷ [], ns)) (append-nil notices);
})

-- the EOM of a processor that is owed one
paid-one : (b : Bool) (p : ℕ) (old now : LiveModel) (notices : List Notice) → IsPaid b p old now notices
    → (es : List Event) × IsEomIf b p es × (run_of old.board.state es ≡ (now.board.state, all_done es, notices))
unfolding run_of
paid-one false p old now notices (same, none) = ([], refl, (λ i. ((sym same i).board.state, [], sym none i)))
paid-one true p old now notices (h, _, _, _) =
    let stores : List Event = explained old.board.state h.vp h.kind h.news (log_of old h.vp h.kind) in (
      stores ++ eom_by p ∷ [],
      (stores, looks-stores old.board.state h.vp h.kind h.news (log_of old h.vp h.kind), refl),
      h.run ∙ ap (λ (rs : List Reply). (now.board.state, rs, notices)) (sym (done-append stores (eom_by p ∷ []))),
    )

-- those of several, after stores of the guest
paid-all : (owed n : ℕ) (old now : LiveModel) (notices : List Notice) (stores : List Event) → All IsGuestStore stores
    → ArePaid owed n old now notices
    → (es : List Event) × HaveEoms owed n (stores ++ es)
    × (run_of old.board.state es ≡ (now.board.state, all_done es, notices))
unfolding run_of
paid-all owed zero old now notices stores h (same, none) =
    ([], subst (All IsGuestStore) (sym (append-nil stores)) h, (λ i. ((sym same i).board.state, [], sym none i)))
paid-all owed (suc n) old now notices stores h (mid, first, last, before, one, together) =
    let a = paid-all owed n old mid first stores h before in
    let b = paid-one (has_processor owed n) n mid now last one in (
      a.0 ++ b.0,
      (stores ++ a.0, b.0, sym (append_assoc stores a.0 b.0), a.1, b.1),
      run-append old.board.state a.0 b.0 ∙ ap (λ (r : Run). joined r (run_of r.0 b.0)) a.2
          ∙ ap (joined (mid.board.state, all_done a.0, first)) b.2
          ∙ (λ i. (now.board.state, sym (done-append a.0 b.0) i, sym together i)),
    )

-- a call, and what is paid after it
run-after : (s mid now : State) (event : Event) (reply : Reply) (before after es : List Event)
    (first last notices : List Notice)
    → run_of s (before ++ event ∷ after) ≡ (mid, all_done before ++ reply ∷ all_done after, first)
    → run_of mid es ≡ (now, all_done es, last) → notices ≡ first ++ last
    → run_of s (before ++ event ∷ (after ++ es)) ≡ (now, all_done before ++ reply ∷ all_done (after ++ es), notices)
run-after s mid now event reply before after es first last notices one two together =
    ap (run_of s) (sym (append_assoc before (event ∷ after) es)) ∙ run-append s (before ++ event ∷ after) es
    ∙ ap (λ (r : Run). joined r (run_of r.0 es)) one
    ∙ ap (joined (mid, all_done before ++ reply ∷ all_done after, first)) two
    ∙ (λ i. (now, replies i, sym together i))
  where
    replies : (all_done before ++ reply ∷ all_done after) ++ all_done es
        ≡ all_done before ++ reply ∷ all_done (after ++ es)
    replies =
        append_assoc (all_done before) (reply ∷ all_done after) (all_done es)
        ∙ ap (λ (rs : List Reply). all_done before ++ reply ∷ rs) (sym (done-append after es))

-- none of the processors below n is owed one
none-before : (owed n : ℕ) (es : List Event) → ((q : ℕ) → q < n → has_processor owed q ≡ false) → All IsGuestStore es
    → HaveEoms owed n es
none-before owed zero es none h = h
none-before owed (suc n) es none h = (
  es,
  [],
  sym (append-nil es),
  none-before owed n es (λ q low. none q (omega (arith, low))) h,
  subst (λ b. IsEomIf b n []) (sym (none n (omega arith))) refl,
)

-- no processor is owed one
with-none : (s now : State) (event : Event) (reply : Reply) (owed : ℕ) (notices : List Notice) → owed ≡ 0
    → IsExplained s event now reply 0 notices → IsExplained s event now reply owed notices
with-none s now event reply owed notices none h =
    subst (λ n. IsExplained s event now reply n notices) (sym none) h

of-quietly : (old now : LiveModel) (event : Event) (reply : Reply) (owed : ℕ) (notices : List Notice)
    → IsQuietly old event now reply notices × (owed ≡ 0)
    → IsExplained old.board.state event now.board.state reply owed notices
of-quietly old now event reply owed notices (h, none) =
    with-none old.board.state now.board.state event reply owed notices none (of-quiet old now event reply notices h)

of-paid : (p : ℕ) (old now : LiveModel) (event : Event) (reply : Reply) (owed : ℕ) (notices : List Notice)
    → IsTimedPaid p old event now reply owed notices
    → IsExplained old.board.state event now.board.state reply owed notices
of-paid p old now event reply owed notices h =
    let s : State = old.board.state in
    let t = h.timed in
    let after : List Event = explained_after s p t.marks (t.stores ++ (t.looks ++ log_of old p Sim)) in
    let stores = marks-stores s p t.marks (t.stores ++ (t.looks ++ log_of old p Sim)) in
    let e = paid-one (has_processor owed p) p h.mid now h.last h.paid in
    inr (record {
      before = explained s p Sim t.looks (log_of old p Sim);
      after = after ++ e.0;
      stores-before = looks-stores s p Sim t.looks (log_of old p Sim);
      eoms-after = (
        suc p,
        (λ q above. h.unowed q (λ same. omega (arith, same, above))),
        (
          after,
          e.0,
          refl,
          none-before owed p after (λ q below. h.unowed q (λ same. omega (arith, same, below))) stores,
          e.1,
        ),
      );
      run = run-after s h.mid.board.state now.board.state event reply
          (explained s p Sim t.looks (log_of old p Sim)) after e.0 h.first h.last notices t.run e.2 h.joined;
    })

of-timed : (b d : Bool) (p : ℕ) (old now : LiveModel) (event : Event) (reply : Reply) (owed : ℕ)
    (notices : List Notice) → IsTimedWrite b d p old event now reply owed notices
    → IsExplained old.board.state event now.board.state reply owed notices
of-timed true false p old now event reply owed notices h = of-paid p old now event reply owed notices h
of-timed true true p old now event reply owed notices h = of-quietly old now event reply owed notices h
of-timed false true p old now event reply owed notices h = of-quietly old now event reply owed notices h
of-timed false false p old now event reply owed notices h = of-quietly old now event reply owed notices h

-- stores of the guest alone
record IsBefore (s now : State) (notices : List Notice) : Type 0 where
  events : List Event
  stores : All IsGuestStore events
  run : run_of s events ≡ (now, all_done events, notices)

nothing-before : (s now : State) (notices : List Notice) → now ≡ s → notices ≡ [] → IsBefore s now notices
unfolding run_of
nothing-before s now notices same none = record {
  events = [];
  stores = All-nil IsGuestStore;
  run = (λ i. (sym same i, [], sym none i));
}

both-before : (s mid now : State) (first second : List Notice) → IsBefore s mid first → IsBefore mid now second
    → IsBefore s now (first ++ second)
both-before s mid now first second a b = record {
  events = a.events ++ b.events;
  stores = All-append IsGuestStore a.events b.events a.stores b.stores;
  run = run-append s a.events b.events ∙ ap (λ (r : Run). joined r (run_of r.0 b.events)) a.run
      ∙ ap (joined (mid, all_done a.events, first)) b.run
      ∙ ap (λ (rs : List Reply). (now, rs, first ++ second)) (sym (done-append a.events b.events));
}

before-if : (b : Bool) (p : ℕ) (old now : LiveModel) (notices : List Notice) → IsRefreshedIf b p old now notices
    → IsBefore old.board.state now.board.state notices
before-if true p old now notices h = record {
  events = explained old.board.state p Sim h.messages (log_of old p Sim)
      ++ explained old.board.state p Sief h.flags (log_of old p Sief);
  stores = All-append IsGuestStore (explained old.board.state p Sim h.messages (log_of old p Sim))
      (explained old.board.state p Sief h.flags (log_of old p Sief))
      (looks-stores old.board.state p Sim h.messages (log_of old p Sim))
      (looks-stores old.board.state p Sief h.flags (log_of old p Sief));
  run = h.run;
}
before-if false p old now notices (same, none) =
    nothing-before old.board.state now.board.state notices (ap (λ (m : LiveModel). m.board.state) same) none

before-under : (o : Owner) (old now : LiveModel) (notices : List Notice) → IsRefreshedUnder o old now notices
    → IsBefore old.board.state now.board.state notices
before-under (owner.Sim p) old now notices h = before-if (nat_lt p (processors old.board.state)) p old now notices h
before-under (owner.Sief p) old now notices h = before-if (nat_lt p (processors old.board.state)) p old now notices h
before-under owner.Guest old now notices (same, none) =
    nothing-before old.board.state now.board.state notices (ap (λ (m : LiveModel). m.board.state) same) none
before-under owner.Nothing old now notices (same, none) =
    nothing-before old.board.state now.board.state notices (ap (λ (m : LiveModel). m.board.state) same) none

of-hiding : (p value : ℕ) (old now : LiveModel) (event : Event) (reply : Reply) (notices : List Notice)
    → IsHiding p value old event now reply notices → IsExplained old.board.state event now.board.state reply 0 notices
unfolding run_of
of-hiding p value old now event reply notices h =
    let s : State = old.board.state in
    let mid : State = h.under.board.state in
    let b : IsBefore s mid (h.first ++ h.second) = both-before s h.own.board.state mid h.first h.second
    (before-if (nat_lt p (processors s)) p old h.own h.first h.refreshed)
    (before-under (owner_of (space_of h.own.board.state) (page_of value)) h.own h.under h.second h.refreshed_under) in
    let one : run_of mid (event ∷ []) ≡ (now.board.state, reply ∷ [], h.last) =
    ap (λ (o : Outcome). (o.0, o.1 ∷ [], o.2 ++ [])) (sym h.performs)
    ∙ ap (λ (ns : List Notice). (now.board.state, reply ∷ [], ns)) (append-nil h.last) in
    inr (record {
      before = b.events;
      after = [];
      stores-before = b.stores;
      eoms-after = no-eoms [] (All-nil IsGuestStore);
      run = run-append s b.events (event ∷ []) ∙ ap (λ (r : Run). joined r (run_of r.0 (event ∷ []))) b.run
          ∙ ap (joined (mid, all_done b.events, h.first ++ h.second)) one
          ∙ ap (λ (ns : List Notice). (now.board.state, all_done b.events ++ reply ∷ [], ns)) (sym h.told);
    })

of-register : (o : Option Register) (p : ℕ) (old now : LiveModel) (event : Event) (reply : Reply) (owed : ℕ)
    (notices : List Notice) → IsRegisterWrite o p old event now reply owed notices
    → IsExplained old.board.state event now.board.state reply owed notices
of-register None p old now event reply owed notices h = of-quietly old now event reply owed notices h
of-register (Some register.Eom) p old now event reply owed notices h =
    with-none old.board.state now.board.state event reply owed notices h.1 (of-live old now event reply notices h.0.0)
of-register (Some (register.TimerConfig n)) p old now event reply owed notices h =
    of-timed (nat_lt p (processors old.board.state)) (is_direct_write old.board.state event) p old now event reply owed
    notices h
of-register (Some (register.TimerCount n)) p old now event reply owed notices h =
    of-timed (nat_lt p (processors old.board.state)) (is_direct_write old.board.state event) p old now event reply owed
    notices h
of-register (Some register.ReferenceCounter) p old now event reply owed notices h =
    of-quietly old now event reply owed notices h
of-register (Some register.Eoi) p old now event reply owed notices h = of-quietly old now event reply owed notices h
of-register (Some register.Tpr) p old now event reply owed notices h = of-quietly old now event reply owed notices h
of-register (Some register.Control) p old now event reply owed notices h = of-quietly old now event reply owed notices h
of-register (Some register.Version) p old now event reply owed notices h = of-quietly old now event reply owed notices h
of-register (Some register.Sief) p old now event reply owed notices h =
    with-none old.board.state now.board.state event reply owed notices h.1
    (of-hiding p (written_value event) old now event reply notices h.0)
of-register (Some register.Sim) p old now event reply owed notices h =
    with-none old.board.state now.board.state event reply owed notices h.1
    (of-hiding p (written_value event) old now event reply notices h.0)
of-register (Some (register.Source n)) p old now event reply owed notices h =
    of-quietly old now event reply owed notices h

of-access : (b : Bool) (old now : LiveModel) (event : Event) (reply : Reply) (notices : List Notice)
    → IsAccess b old event now reply notices → IsExplained old.board.state event now.board.state reply 0 notices
of-access true old now event reply notices (same, refused, none) =
    inl (refused, ap (λ (m : LiveModel). m.board.state) same, none)
of-access false old now event reply notices quiet = of-quiet old now event reply notices quiet

of-ticked : (old now : LiveModel) (moment : ℕ) (reply : Reply) (owed : ℕ) (notices : List Notice)
    → IsTickedPaid old moment now reply owed notices
    → IsExplained old.board.state (Tick moment) now.board.state reply owed notices
of-ticked old now moment reply owed notices h =
    let s : State = old.board.state in
    let t = h.ticked in
    let before : List Event = looked_from s old.pages t.looks 0 (processors s) in
    let after : List Event = marked_from s old.pages t.looks t.stores t.marks 0 (processors s) in
    let e = paid-all owed (processors s) h.mid now h.last after
    (marked-stores (processors s) 0 s old.pages t.looks t.stores t.marks) h.paid in
    inr (record {
      before = before;
      after = after ++ e.0;
      stores-before = looked-stores (processors s) 0 s old.pages t.looks;
      eoms-after = (processors s, t.unowed, e.1);
      run = run-after s h.mid.board.state now.board.state (Tick moment) reply before after e.0 h.first h.last notices
          t.run e.2 h.joined;
    })

of-reset : (b : Bool) (p : ℕ) (old now : LiveModel) (reply : Reply) (notices : List Notice)
    → IsResetOf b p old now reply notices → IsExplained old.board.state (Reset p) now.board.state reply 0 notices
of-reset true p old now reply notices r = inr (record {
  before = explained old.board.state p Sim r.looks (log_of old p Sim);
  after = [];
  stores-before = looks-stores old.board.state p Sim r.looks (log_of old p Sim);
  eoms-after = no-eoms [] (All-nil IsGuestStore);
  run = r.run;
})
of-reset false p old now reply notices quiet = of-quiet old now (Reset p) reply notices quiet

-- any event
acts-explained : (old now : LiveModel) (event : Event) (reply : Reply) (owed : ℕ) (notices : List Notice)
    → Acts old event now reply owed notices
    → IsExplained old.board.state event now.board.state reply owed notices
acts-explained old now (Post port kind payload) reply owed notices h =
    with-none old.board.state now.board.state _ reply owed notices h.4
    (of-live old now (Post port kind payload) reply notices h.0)
acts-explained old now (Signal port flag) reply owed notices h =
    with-none old.board.state now.board.state _ reply owed notices h.3
    (of-live old now (Signal port flag) reply notices h.0)
acts-explained old now (Write p number value) reply owed notices h =
    of-register (register_of number) p old now (Write p number value) reply owed notices h
acts-explained old now (Store address bytes) reply owed notices h =
    with-none old.board.state now.board.state _ reply owed notices h.1
    (of-access (is_covered (space_of old.board.state) (address / 4096)) old now (Store address bytes) reply notices h.0)
acts-explained old now (Load address count) reply owed notices h =
    with-none old.board.state now.board.state _ reply owed notices h.1
    (of-access (is_covered (space_of old.board.state) (address / 4096)) old now (Load address count) reply notices h.0)
acts-explained old now (Tick moment) reply owed notices h = of-ticked old now moment reply owed notices h
acts-explained old now (Reset p) reply owed notices h =
    with-none old.board.state now.board.state _ reply owed notices h.1
    (of-reset (nat_lt p (processors old.board.state)) p old now reply notices h.0)
acts-explained old now (OpenPort port p i shape) reply owed notices h = of-quietly old now _ reply owed notices h
acts-explained old now (ClosePort port) reply owed notices h = of-quietly old now _ reply owed notices h
acts-explained old now (Read p number) reply owed notices h = of-quietly old now _ reply owed notices h
acts-explained old now (Assert p v) reply owed notices h = of-quietly old now _ reply owed notices h
acts-explained old now (Absorb p part bits) reply owed notices h = of-quietly old now _ reply owed notices h
acts-explained old now (Take p) reply owed notices h = of-quietly old now _ reply owed notices h
acts-explained old now (Suspend p) reply owed notices h = of-quietly old now _ reply owed notices h
acts-explained old now (Resume p) reply owed notices h = of-quietly old now _ reply owed notices h
acts-explained old now (Send v mask) reply owed notices h = of-quietly old now _ reply owed notices h

pub run-explained : (calls : List Call) (old now : LiveModel) → AreCalls old calls now
    → IsRunOf calls old.board.state now.board.state
unfolding run_of
run-explained [] old now is =
    record {
      events = [];
      replies = [];
      between = (refl, refl);
      run = ap (λ (m : LiveModel). (m.board.state, [], [])) (sym is);
    }
run-explained (c ∷ calls) old now (mid, acts, rest) =
    more (acts-explained old mid c.event c.reply c.owed c.notices acts) (run-explained calls mid now rest)
  where
    more : IsExplained old.board.state c.event mid.board.state c.reply c.owed c.notices
        → IsRunOf calls mid.board.state now.board.state → IsRunOf (c ∷ calls) old.board.state now.board.state
    more (inl (refused, same, none)) later = record {
      events = later.events;
      replies = later.replies;
      between = inl (refused, later.between);
      run = ap (λ t. run_of t later.events) (sym same) ∙ later.run
          ∙ ap (λ (ns : List Notice). (now.board.state, later.replies, ns ++ notices_of calls)) (sym none);
    }
    more (inr one) later = record {
      events = (one.before ++ c.event ∷ one.after) ++ later.events;
      replies = (all_done one.before ++ c.reply ∷ all_done one.after) ++ later.replies;
      between = inr (
        one.before,
        one.after,
        later.events,
        later.replies,
        one.stores-before,
        one.eoms-after,
        refl,
        refl,
        later.between,
      );
      run = run-append old.board.state (one.before ++ c.event ∷ one.after) later.events
          ∙ ap (λ (r : Run). joined r (run_of r.0 later.events)) one.run
          ∙ ap (joined (mid.board.state, all_done one.before ++ c.reply ∷ all_done one.after, c.notices))
          later.run;
    }

-- the events of calls whose payloads fit, and stores of the guest
stores-fit : (es : List Event) → All IsGuestStore es → All PayloadFits es
stores-fit [] h = All-nil PayloadFits
stores-fit (e ∷ es) h =
    All-cons PayloadFits e es (subst PayloadFits (sym (All-head IsGuestStore e es h).2) tt)
    (stores-fit es (All-tail IsGuestStore e es h))

eoms-fit : (owed n : ℕ) (es : List Event) → HaveEoms owed n es → All PayloadFits es
eoms-fit owed zero es h = stores-fit es h
eoms-fit owed (suc n) es (before, after, is, first, last) = subst (All PayloadFits) (sym is)
    (All-append PayloadFits before after (eoms-fit owed n before first) (by (has_processor owed n) last))
  where
    by : (b : Bool) → IsEomIf b n after → All PayloadFits after
    by false none = subst (All PayloadFits) (sym none) (All-nil PayloadFits)
    by true (stores, h, is) = subst (All PayloadFits) (sym is)
        (All-append PayloadFits stores (eom_by n ∷ []) (stores-fit stores h)
        (All-cons PayloadFits (eom_by n) [] tt (All-nil PayloadFits)))

pub between-fits : (calls : List Call) (events : List Event) (replies : List Reply)
    → All (λ (c : Call). PayloadFits c.event) calls → HasBetween calls events replies → All PayloadFits events
between-fits [] events replies fits (none, _) = subst (All PayloadFits) (sym none) (All-nil PayloadFits)
between-fits (c ∷ calls) events replies fits (inl (refused, rest)) =
    between-fits calls events replies (All-tail (λ (c : Call). PayloadFits c.event) c calls fits) rest
between-fits (c ∷ calls) events replies fits
    (inr (before, after, later, more, stores-before, (n, _, eoms), is, _, rest)) = subst (All PayloadFits) (sym is)
    (All-append PayloadFits (before ++ c.event ∷ after) later
    (All-append PayloadFits before (c.event ∷ after) (stores-fit before stores-before)
    (All-cons PayloadFits c.event after (All-head (λ (c : Call). PayloadFits c.event) c calls fits)
    (eoms-fit c.owed n after eoms)))
    (between-fits calls later more (All-tail (λ (c : Call). PayloadFits c.event) c calls fits) rest))

pub run-conserves : (calls : List Call) (old now : LiveModel) → IsSound old.board.state
    → All (λ (c : Call). PayloadFits c.event) calls → AreCalls old calls now → IsSound now.board.state
    × Conserves old.board.state now.board.state (notices_of calls)
run-conserves calls old now sound fits are =
    let r = run-explained calls old now are in
    kept-by old.board.state now.board.state r.events r.replies (notices_of calls)
    (between-fits calls r.events r.replies fits r.between) sound r.run
