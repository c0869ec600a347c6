-- A reset of another processor, and looks at all words of its pages.
use Rattle.std.proofs.Common.{◌≡◌, ◌≢◌, ℕ, zero, suc, ◌+◌, ◌*◌, ◌≤◌, Bool, true, false, List, [], ◌∷◌, ◌++◌, length, get_or, set, refl, sym, ap, ◌∙◌, subst, arith, All, length-set}
use Rattle.std.specs.Prelude.{◌==◌, nat_lt}
use Rattle.std.proofs.lemmas.Bool.Decides.{nat_tests}
use Rattle.std.proofs.lemmas.List.{get_or-set_other}
use Rattle.std.proofs.lemmas.List.Elements.{All-append, All-cons, All-nil}
use Rattle.board_terms.specs.declared.notices.Notice.{Notice}
use Rattle.board_terms.specs.declared.pages.Kind.{Kind}
use Rattle.board_terms.specs.declared.pages.Kind.TheVariants.{Sim, Sief}
use Rattle.board_terms.specs.declared.pages.Owner.{Owner}
use Rattle.board_terms.specs.declared.pages.Owner.TheVariants as owner
use Rattle.gpa_space.specs.Space.{overlay_of, owner_of, page_of}
use Rattle.synic_board.specs.declared.event.Event.{Event}
use Rattle.synic_board.specs.declared.event.Event.TheVariants.{Write, Reset}
use Rattle.synic_board.specs.declared.event.Reply.{Reply}
use Rattle.synic_board.specs.Effects.{Outcome}
use Rattle.synic_board.specs.Run.{run_of}
use Rattle.synic_board.specs.Sound.{IsSound, PayloadFits}
use Rattle.synic_board.specs.State.{State, processors, space_of}
use Rattle.live_pages.specs.declared.access.Access.{Access}
use Rattle.live_board.specs.Hiding.{IsRefreshedIf, IsRefreshedUnder, IsHiding}
use Rattle.live_board.specs.Live.{LiveModel, IsReset, FindInPage, log_of, explained}
use Rattle.live_board.specs.Refreshing.{IsRefreshed, AreAllLoads, AreLoads}
use Rattle.live_board.proofs.Guests.{Rest, guest-stores, fits-all, looks-of, refresh-changes, refresh-conserves}
use Rattle.law_processors.specs.Isolation.{Keeps, Untouched, is_overlay_of, processor_of}
use Rattle.law_processors.proofs.Isolating.{leaves-alone}
use Rattle.law_live.specs.Alone.{IsLeftAlone}
use Rattle.law_live.proofs.Calls.{alone-run, alone-same, alone-then, other-overlay}
use Rattle.law_live.proofs.Stores.{untouched-append, looked-elsewhere, shows-none, page-within, not-same}

-- accesses to both pages of another processor
both-beside : (p q : ℕ) (kind : Kind) (old now : LiveModel) (a b : List Access)
    → now.pages ≡ set (set old.pages (2 * p) a) (2 * p + 1) b → p ≢ q → log_of now q kind ≡ log_of old q kind
both-beside p q kind old now a b is ne =
    ap (λ (ps : List (List Access)). get_or ps (overlay_of q kind) []) is
    ∙ get_or-set_other (set old.pages (2 * p) a) (2 * p + 1) (overlay_of q kind) b []
    (other-overlay p q Sief kind ne)
    ∙ get_or-set_other old.pages (2 * p) (overlay_of q kind) a [] (other-overlay p q Sim kind ne)

both-count : (p : ℕ) (old now : LiveModel) (a b : List Access)
    → now.pages ≡ set (set old.pages (2 * p) a) (2 * p + 1) b → length now.pages ≡ length old.pages
both-count p old now a b is =
    ap (λ (ps : List (List Access)). length ps) is ∙ length-set (set old.pages (2 * p) a) (2 * p + 1) b
    ∙ length-set old.pages (2 * p) a

pub alone-reset : (p q : ℕ) (old now : LiveModel) (reply : Reply) (notices : List Notice) → IsSound old.board.state
    → p ≢ q → IsReset p old now reply notices → IsLeftAlone q old now notices
alone-reset p q old now reply notices sound ne r =
    let s : State = old.board.state in
    let es : List Event = explained s p Sim r.looks (log_of old p Sim) in
    let first = looked-elsewhere s s p q Sim r.looks (log_of old p Sim) refl ne
    (λ shown. page-within r.looks (looks-of 16 r.looks (omega arith) (r.shown shown)))
    (λ no. shows-none s p Sim r.looks (log_of old p Sim) (r.hidden no)) in
    alone-run q old now (es ++ Reset p ∷ []) _ notices sound
    (All-append PayloadFits es (Reset p ∷ [])
    (fits-all s p Sim es (guest-stores s p Sim r.looks (log_of old p Sim)))
    (All-cons PayloadFits (Reset p) [] tt (All-nil PayloadFits)))
    (untouched-append es (Reset p ∷ []) s q first.0 (not-same p q ne, tt)) r.run
    (λ kind. both-beside p q kind old now _ _ r.pages ne) (both-count p old now _ _ r.pages)

loads-within : (n : ℕ) (news : List Access) → n ≤ 512 → AreLoads n news → FindInPage news
loads-within zero news few is = subst FindInPage (sym is) tt
loads-within (suc n) news few (found, rest, is, more) =
    subst FindInPage (sym is) (omega (arith, few), loads-within n rest (omega (arith, few)) more)

-- all words of one page
refreshed-elsewhere : (s t : State) (p q : ℕ) (k : Kind) (news log : List Access) → Rest s t → p ≢ q
    → AreAllLoads s p k news
    → Untouched t (explained s p k news log) q × Rest t (run_of t (explained s p k news log)).0
refreshed-elsewhere s t p q k news log rest ne are =
    looked-elsewhere s t p q k news log rest ne (λ shown. loads-within 512 news (omega arith) (are.shown shown))
    (λ no. shows-none s p k news log (are.hidden no))

pub alone-refreshed : (p q : ℕ) (old now : LiveModel) (notices : List Notice) → IsSound old.board.state → p ≢ q
    → IsRefreshed p old now notices → IsLeftAlone q old now notices
alone-refreshed p q old now notices sound ne t =
    let s : State = old.board.state in
    let ea : List Event = explained s p Sim t.messages (log_of old p Sim) in
    let eb : List Event = explained s p Sief t.flags (log_of old p Sief) in
    let first = refreshed-elsewhere s s p q Sim t.messages (log_of old p Sim) refl ne t.are_messages in
    let last = refreshed-elsewhere s (run_of s ea).0 p q Sief t.flags (log_of old p Sief) first.1 ne t.are_flags in
    alone-run q old now (ea ++ eb) _ notices sound
    (All-append PayloadFits ea eb (fits-all s p Sim ea (guest-stores s p Sim t.messages (log_of old p Sim)))
    (fits-all s p Sief eb (guest-stores s p Sief t.flags (log_of old p Sief))))
    (untouched-append ea eb s q first.0 last.0) t.run (λ kind. both-beside p q kind old now _ _ t.pages ne)
    (both-count p old now _ _ t.pages)

-- what a refreshed board is: sound, and the same except for own pages and tickets of slots
pub record IsLooked (old now : LiveModel) : Type 0 where
  pub sound : IsSound now.board.state
  pub rest : Rest old.board.state now.board.state

looked-same : (old now : LiveModel) → IsSound old.board.state → now ≡ old → IsLooked old now
looked-same old now sound same = record {
  sound = subst (λ (m : LiveModel). IsSound m.board.state) (sym same) sound;
  rest = subst (λ (m : LiveModel). Rest old.board.state m.board.state) (sym same) refl;
}

pub refreshed-if : (on : Bool) (p q : ℕ) (old now : LiveModel) (notices : List Notice) → IsSound old.board.state
    → p ≢ q → IsRefreshedIf on p old now notices → IsLeftAlone q old now notices × IsLooked old now
refreshed-if true p q old now notices sound ne h = (
  alone-refreshed p q old now notices sound ne h,
  record { sound = (refresh-conserves p old now notices sound h).0; rest = refresh-changes p old now notices h },
)
refreshed-if false p q old now notices sound ne h =
    (alone-same q old now notices h.0 h.1, looked-same old now sound h.0)

-- an owner that is not of the processor
pub apart : (p q : ℕ) → (p == q) ≡ false → p ≢ q
apart p q differ e = grind (arith, nat_tests)

pub refreshed-under : (o : Owner) (q : ℕ) (old now : LiveModel) (notices : List Notice) → IsSound old.board.state
    → is_overlay_of q o ≡ false → IsRefreshedUnder o old now notices → IsLeftAlone q old now notices × IsLooked old now
refreshed-under (owner.Sim p) q old now notices sound other h =
    refreshed-if (nat_lt p (processors old.board.state)) p q old now notices sound (apart p q other) h
refreshed-under (owner.Sief p) q old now notices sound other h =
    refreshed-if (nat_lt p (processors old.board.state)) p q old now notices sound (apart p q other) h
refreshed-under owner.Guest q old now notices sound other h =
    (alone-same q old now notices h.0 h.1, looked-same old now sound h.0)
refreshed-under owner.Nothing q old now notices sound other h =
    (alone-same q old now notices h.0 h.1, looked-same old now sound h.0)

-- a write of SIMP or SIEFP of another processor, to a page number where none of this one's pages is seen
pub alone-hiding : (p q number value : ℕ) (old now : LiveModel) (reply : Reply) (notices : List Notice)
    → IsSound old.board.state → p ≢ q → is_overlay_of q (owner_of (space_of old.board.state) (page_of value)) ≡ false
    → IsHiding p value old (Write p number value) now reply notices → IsLeftAlone q old now notices
alone-hiding p q number value old now reply notices sound ne other h =
    subst (IsLeftAlone q old now) (sym h.told)
    (alone-then q old h.under now (h.first ++ h.second) h.last
    (alone-then q old h.own h.under h.first h.second own.0 under.0) last)
  where
    own : IsLeftAlone q old h.own h.first × IsLooked old h.own
    own = refreshed-if (nat_lt p (processors old.board.state)) p q old h.own h.first sound ne h.refreshed

    same-owner : owner_of (space_of h.own.board.state) (page_of value)
        ≡ owner_of (space_of old.board.state) (page_of value)
    same-owner = ap (λ (t : State). owner_of (space_of t) (page_of value)) own.1.rest

    under : IsLeftAlone q h.own h.under h.second × IsLooked h.own h.under
    under = refreshed-under (owner_of (space_of h.own.board.state) (page_of value)) q h.own h.under h.second own.1.sound
        (ap (is_overlay_of q) same-owner ∙ other) h.refreshed_under

    last : IsLeftAlone q h.under now h.last
    last =
        let one = leaves-alone h.under.board.state (Write p number value) q under.1.sound (not-same p q ne) in
        record {
          state = subst (λ (o : Outcome). Keeps q h.under.board.state o.0) (sym h.performs) one.state;
          silent = subst (λ (o : Outcome). All (λ notice. processor_of notice ≢ q) o.2) (sym h.performs) one.notices;
          pages = λ kind. ap (λ (ps : List (List Access)). get_or ps (overlay_of q kind) []) h.pages;
          count = ap (λ (ps : List (List Access)). length ps) h.pages;
        }
