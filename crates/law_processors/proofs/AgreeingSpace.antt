-- States that agree: loads and stores where no overlay but those of processor q is visible, and ticks by which none but
-- its timers is due.
use Rattle.std.proofs.Common.{◌≡◌, ◌≢◌, ℕ, ◌+◌, ◌*◌, ◌/◌, ◌%◌, ◌^◌, ◌<◌, ◌==◌, ◌&&◌, ◌||◌, Bool, true, false, not, nat_lt, nat_le, List, [], length, Option, None, Some, is_none, Ok, Err, set, get_or, take, drop, refl, sym, ap, ◌∙◌, subst, arith}
use Rattle.std.specs.Prelude.{if◌then◌else◌, cond}
use Rattle.std.specs.Option.{option_map_or}
use Rattle.std.proofs.lemmas.Bool.Decides.{nat_tests}
use Rattle.board_terms.specs.declared.pages.Owner.{Owner}
use Rattle.board_terms.specs.declared.pages.Owner.TheVariants as owners
use Rattle.board_terms.specs.declared.refusal.Refusal.{Refusal}
use Rattle.board_terms.specs.declared.refusal.Refusal.TheVariants.{BadLength, OutsideSpace, CrossesPage, Elsewhere, ClockBack}
use Rattle.gpa_space.specs.Page.{overwritten}
use Rattle.gpa_space.specs.Space.{visible, overlay_owner, owner_of, visible_page, with_visible_page, refusal_of, page_count}
use Rattle.stimer_bank.specs.declared.timer.Timer.{Timer}
use Rattle.board_terms.specs.Dues.{Dues, number_of}
use Rattle.deadline_tree.specs.Deadlines.{is_due_by, has_due}
use Rattle.stimer_bank.specs.Bank.{idle_timer, dues, due_list}
use Rattle.stimer_bank.specs.DueList.{Timers, Each, IsDueBy}
use Rattle.stimer_bank.proofs.Members.{each-listed}
use Rattle.stimer_bank.proofs.Sorted.{sorted}
use Rattle.stimer_bank.proofs.Shown.{length-dues, dues-alike}
use Rattle.synic_board.specs.declared.event.Reply.{Reply}
use Rattle.synic_board.specs.declared.event.Reply.TheVariants as replies
use Rattle.synic_board.specs.State.{State, space_of, bank_of, with_space}
use Rattle.synic_board.specs.Effects.{Outcome, answered, unchanged, refused}
use Rattle.synic_board.specs.Stores.{consumed_below, consumed_in, with_bytes, stored_bytes, load_reply, read_bytes}
use Rattle.synic_board.specs.Timers.{attempted_until, most_expiries, at_moment, ticked}
use Rattle.law_processors.specs.Isolation.{is_overlay_of}
use Rattle.law_processors.specs.Influence.{Agree}
use Rattle.synic_board.proofs.keeping.Requests.{either}
use Rattle.law_processors.proofs.Isolating.{there, there-is, inside, none-is-due, both}
use Rattle.law_processors.proofs.Agreeing.{Same, Both, twice, same-own, same-moment, same-shared}
use Rattle.law_processors.proofs.AgreeingTickets.{timers-outside}
use Rattle.law_processors.proofs.AgreeingTicks.{IsOf, both-attempted_until, lists-alike}
use Rattle.law_processors.proofs.AgreeingEffects.{both-consumed_below}
use Rattle.law_processors.proofs.AgreeingSteps.{BothIn, same-agree, both-answered, is-own}

module _ (q : ℕ) (s t : State) (h : Agree q s t) where
  k : Same q s t
  k = same-agree q s t h

  -- loads and stores
  overlay-is : (o : ℕ) → ((r : ℕ) → r ≢ q → is_overlay_of r (overlay_owner o) ≡ false) → o / 2 ≡ q
  overlay-is o =
      either (λ (owner : Owner). ((r : ℕ) → r ≢ q → is_overlay_of r owner ≡ false) → o / 2 ≡ q) (o % 2 == 0)
      (owners.Sim (o / 2)) (owners.Sief (o / 2)) (λ _. is-own q (o / 2)) (λ _. is-own q (o / 2))

  refusal-is : (address count : ℕ) → refusal_of (space_of t) address count ≡ refusal_of (space_of s) address count
  refusal-is address count =
      ap (λ (pages : List (List ℕ)). by pages (visible (space_of t) (address / 4096))) h.pages
      ∙ ap (by s.pages) (h.visible (address / 4096))
    where
      by : List (List ℕ) → Option ℕ → Option Refusal
      by pages o =
          if (count == 0) || nat_lt 8 count then Some BadLength
          else if not (nat_lt (address / 4096) (if length pages == 0 then 2 ^ 52 else length pages))
          then Some OutsideSpace
          else if nat_lt 4096 (address % 4096 + count) then Some CrossesPage
          else if (length pages == 0) && is_none o then Some Elsewhere
          else None

  owner-is : (page : ℕ) → owner_of (space_of t) page ≡ owner_of (space_of s) page
  owner-is page =
      ap (λ (pages : List (List ℕ)). by pages (visible (space_of t) page)) h.pages ∙ ap (by s.pages) (h.visible page)
    where
      by : List (List ℕ) → Option ℕ → Owner
      by pages o =
          if nat_lt page (if length pages == 0 then 2 ^ 52 else length pages)
          then option_map_or overlay_owner o owners.Guest
          else owners.Nothing

  -- the bytes that a guest sees where an overlay of q is visible, or none
  abbrev seen : State → ℕ → Option ℕ → List ℕ
  seen x page o = option_map_or (λ overlay. get_or x.own overlay []) o (get_or x.pages page [])

  seen-is : (page : ℕ) (o : Option ℕ)
      → ((r : ℕ) → r ≢ q → is_overlay_of r (option_map_or overlay_owner o owners.Guest) ≡ false)
      → seen t page o ≡ seen s page o
  seen-is page None alone = ap (λ (pages : List (List ℕ)). get_or pages page []) h.pages
  seen-is page (Some overlay) alone = k.own.1 overlay (overlay-is overlay alone)

  -- what is known of the visible overlay if a page is one of the guest's
  visible-alone : (page : ℕ) → nat_lt page (page_count (space_of s)) ≡ true
      → ((r : ℕ) → r ≢ q → is_overlay_of r (owner_of (space_of s) page) ≡ false) → (r : ℕ) → r ≢ q
      → is_overlay_of r (option_map_or overlay_owner (visible (space_of s) page) owners.Guest) ≡ false
  visible-alone page within alone r apart =
      sym (ap (λ b. is_overlay_of r
      (if b then option_map_or overlay_owner (visible (space_of s) page) owners.Guest else owners.Nothing)) within)
      ∙ alone r apart

  pub read_bytes-is : (address count : ℕ)
      → ((r : ℕ) → r ≢ q → is_overlay_of r (owner_of (space_of s) (address / 4096)) ≡ false)
      → read_bytes t address count ≡ read_bytes s address count
  read_bytes-is address count alone =
      ap (λ (r : Option Refusal). reply t (visible (space_of t) page) r) (refusal-is address count)
      ∙ ap (λ (o : Option ℕ). reply t o (refusal_of (space_of s) address count)) (h.visible page)
      ∙ by (refusal_of (space_of s) address count) refl
    where
      page : ℕ
      page = address / 4096

      reply : State → Option ℕ → Option Refusal → Reply
      reply x o r =
          load_reply
          (option_map_or (λ r. Err r) r (Ok (record { items = take count (drop (address % 4096) (seen x page o)) })))

      by : (r : Option Refusal) → refusal_of (space_of s) address count ≡ r
          → reply t (visible (space_of s) page) r ≡ reply s (visible (space_of s) page) r
      by (Some r) is = refl
      by None is =
          ap (λ (bytes : List ℕ). load_reply (Ok (record { items = take count (drop (address % 4096) bytes) })))
          (seen-is page (visible (space_of s) page) (visible-alone page (inside _ _ _ _ is) alone))

  both-consumed_in : (x y : State) → Same q x y → (owner : Owner)
      → ((r : ℕ) → r ≢ q → is_overlay_of r owner ≡ false) → Both q (consumed_in x owner) (consumed_in y owner)
  both-consumed_in x y same owners.Guest alone = (same, refl)
  both-consumed_in x y same (owners.Sim p) alone =
      subst (λ p. Both q (consumed_below x p 16) (consumed_below y p 16)) (sym (is-own q p alone))
      (both-consumed_below q x y same 16 (omega arith))
  both-consumed_in x y same (owners.Sief p) alone = (same, refl)
  both-consumed_in x y same owners.Nothing alone = (same, refl)

  pub both-stored_bytes : (address : ℕ) (bytes : List ℕ)
      → ((r : ℕ) → r ≢ q → is_overlay_of r (owner_of (space_of s) (address / 4096)) ≡ false)
      → BothIn q (stored_bytes s address bytes) (stored_bytes t address bytes)
  both-stored_bytes address bytes alone =
      subst (λ (r : Option Refusal). BothIn q (stored_bytes s address bytes)
      (option_map_or (refused t) r (answered replies.Done (consumed_in (with_bytes t address bytes)
      (owner_of (space_of t) page))))) (sym (refusal-is address (length bytes)))
      (by (refusal_of (space_of s) address (length bytes)) refl)
    where
      page : ℕ
      page = address / 4096

      new : State → List ℕ
      new x = overwritten (visible_page (space_of x) page) (address % 4096) bytes

      -- what a store makes of a state if it is not refused
      now : (x : State) → refusal_of (space_of x) address (length bytes) ≡ None
          → with_bytes x address bytes ≡ there x page (new x) (visible (space_of x) page)
      now x is =
          ap (λ (r : Option Refusal). with_space x
          (option_map_or (λ _. space_of x) r (with_visible_page (space_of x) page (new x)))) is
          ∙ there-is x page (new x)

      at : (o : Option ℕ) → (a b : List ℕ) → b ≡ a
          → ((r : ℕ) → r ≢ q → is_overlay_of r (option_map_or overlay_owner o owners.Guest) ≡ false)
          → Same q (there s page a o) (there t page b o)
      at None a b is alone =
          same-shared q s t k s.next_ticket t.next_ticket s.ports t.ports (set s.pages page a) (set t.pages page b)
      at (Some overlay) a b is alone = same-own q s t k overlay a b is

      by : (r : Option Refusal) → refusal_of (space_of s) address (length bytes) ≡ r
          → BothIn q
          (option_map_or (refused s) r (answered replies.Done (consumed_in (with_bytes s address bytes)
          (owner_of (space_of s) page))))
          (option_map_or (refused t) r (answered replies.Done (consumed_in (with_bytes t address bytes)
          (owner_of (space_of t) page))))
      by (Some r) is = (k, refl, refl)
      by None is =
          let o : Option ℕ = visible (space_of s) page in
          let known = visible-alone page (inside _ _ _ _ is) alone in
          let bytes-are : new t ≡ new s =
          ap (λ (o : Option ℕ). overwritten (seen t page o) (address % 4096) bytes) (h.visible page)
          ∙ ap (λ (page : List ℕ). overwritten page (address % 4096) bytes) (seen-is page o known) in
          let stored-same : Same q (with_bytes s address bytes) (with_bytes t address bytes) =
          subst (λ (x : State). Same q x (with_bytes t address bytes)) (sym (now s is))
          (subst (λ (y : State). Same q (there s page (new s) o) y)
          (sym (now t (refusal-is address (length bytes) ∙ is) ∙ ap (there t page (new t)) (h.visible page)))
          (at o (new s) (new t) bytes-are known)) in
          subst (λ (owner : Owner). BothIn q
          (answered replies.Done (consumed_in (with_bytes s address bytes) (owner_of (space_of s) page)))
          (answered replies.Done (consumed_in (with_bytes t address bytes) owner))) (sym (owner-is page))
          (both-answered q (consumed_in (with_bytes s address bytes) (owner_of (space_of s) page))
          (consumed_in (with_bytes t address bytes) (owner_of (space_of s) page)) replies.Done replies.Done refl
          (both-consumed_in (with_bytes s address bytes) (with_bytes t address bytes) stored-same
          (owner_of (space_of s) page) alone))

  -- a tick
  own-due : (j : ℕ) → j / 4 ≡ q → get_or (dues (bank_of t)) j None ≡ get_or (dues (bank_of s)) j None
  own-due j at =
      dues-alike (bank_of t) (bank_of s) j k.timers.0
      (ap (λ (b : Bool). if b then None else (get_or t.timers j idle_timer).due) (k.marks.1 (j / 4) at)
      ∙ ap (λ (x : Timer). if get_or s.suspended (j / 4) false then None else x.due) (k.timers.1 j at))

  -- a processor none of whose timers is due
  never-due : (x : State) (moment : ℕ) → nat_lt x.moment moment ≡ true
      → ((r : ℕ) → r ≢ q → (nat_lt x.moment moment && has_due (dues (bank_of x)) moment r) ≡ false)
      → (j : ℕ) → j / 4 ≢ q → is_due_by (dues (bank_of x)) moment j ≡ false
  never-due x moment later alone j apart =
      let none : has_due (dues (bank_of x)) moment (j / 4) ≡ false =
      sym (ap (λ b. b && has_due (dues (bank_of x)) moment (j / 4)) later) ∙ alone (j / 4) apart in
      let number : 4 * (j / 4) + j % 4 ≡ j = omega arith in
      subst (λ i. is_due_by (dues (bank_of x)) moment i ≡ false) number
      (none-is-due (dues (bank_of x)) moment (j / 4) none (j % 4) (omega arith))

  all-own : (moment : ℕ) → ((j : ℕ) → j / 4 ≢ q → is_due_by (dues (bank_of s)) moment j ≡ false)
      → Each (IsOf q) (due_list (dues (bank_of s)) moment)
  all-own moment never =
      both (λ x. x.1 < 4) (IsDueBy m moment (length m)) (IsOf q) each (due_list m moment)
      (each-listed (λ x. x.1 < 4) (λ n. omega arith) m moment) (sorted m moment).each
    where
      m : Dues
      m = dues (bank_of s)

      each : (x : ℕ × ℕ) → x.1 < 4 → IsDueBy m moment (length m) x → IsOf q x
      each x low is = (by (x.0 == q) refl, low)
        where
          reached : is_due_by m moment (number_of x) ≡ true
          reached =
              let before = is.by in
              let late : nat_le is.due moment ≡ true = grind (arith, nat_tests) in
              ap (λ o. option_map_or (λ d. nat_le d moment) o false) is.is ∙ late

          by : (b : Bool) → (x.0 == q) ≡ b → x.0 ≡ q
          by true e = grind (arith, nat_tests)
          by false e =
              let apart : x.0 ≢ q = grind (arith, nat_tests) in
              let other : (4 * x.0 + x.1) / 4 ≢ q = omega (arith, low, apart) in
              let contrary : true ≡ false = sym reached ∙ never (number_of x) other in absurd (cc)

  pub both-ticked : (moment : ℕ)
      → ((r : ℕ) → r ≢ q → (nat_lt s.moment moment && has_due (dues (bank_of s)) moment r) ≡ false)
      → ((r : ℕ) → r ≢ q → (nat_lt t.moment moment && has_due (dues (bank_of t)) moment r) ≡ false)
      → BothIn q (ticked s moment) (ticked t moment)
  both-ticked moment alone alone-there =
      let ts : Timers = due_list (dues (bank_of s)) moment in
      let us : Timers = due_list (dues (bank_of t)) moment in
      let here : Outcome = answered replies.Done (attempted_until most_expiries (at_moment s moment) ts) in
      let there : Outcome = answered replies.Done (attempted_until most_expiries (at_moment t moment) us) in
      twice (BothIn q) (nat_lt moment s.moment) (nat_lt moment t.moment) (refused s ClockBack)
      (cond (moment == s.moment) (unchanged s replies.Done) here) (refused t ClockBack)
      (cond (moment == t.moment) (unchanged t replies.Done) there) (ap (λ m. nat_lt moment m) h.moment)
      (λ _. (k, refl, refl))
      (λ not_back. twice (BothIn q) (moment == s.moment) (moment == t.moment) (unchanged s replies.Done) here
      (unchanged t replies.Done) there (ap (λ m. moment == m) h.moment) (λ _. (k, refl, refl))
      (λ not_now. late not_back not_now))
    where
      late : nat_lt moment s.moment ≡ false → (moment == s.moment) ≡ false
          → BothIn q
          (answered replies.Done
          (attempted_until most_expiries (at_moment s moment) (due_list (dues (bank_of s)) moment)))
          (answered replies.Done
          (attempted_until most_expiries (at_moment t moment) (due_list (dues (bank_of t)) moment)))
      late not_back not_now =
          let later : nat_lt s.moment moment ≡ true = grind (arith, nat_tests) in
          let later-there : nat_lt t.moment moment ≡ true = ap (λ m. nat_lt m moment) h.moment ∙ later in
          let never = never-due s moment later alone in
          let lists : due_list (dues (bank_of t)) moment ≡ due_list (dues (bank_of s)) moment =
          lists-alike q moment (dues (bank_of s)) (dues (bank_of t)) own-due never
          (never-due t moment later-there alone-there)
          (length-dues (bank_of t) ∙ k.timers.0 ∙ sym (length-dues (bank_of s))) in
          let ts : Timers = due_list (dues (bank_of s)) moment in
          subst (λ (us : Timers). BothIn q
          (answered replies.Done (attempted_until most_expiries (at_moment s moment) ts))
          (answered replies.Done (attempted_until most_expiries (at_moment t moment) us))) (sym lists)
          (both-answered q (attempted_until most_expiries (at_moment s moment) ts)
          (attempted_until most_expiries (at_moment t moment) ts) replies.Done replies.Done refl
          (both-attempted_until q most_expiries (at_moment s moment) (at_moment t moment)
          (same-moment q s t k moment) h.tickets (λ n. timers-outside q s t h.buffers.0 h.buffers.1 n) ts
          (all-own moment never)))
