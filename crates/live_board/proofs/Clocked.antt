-- A tick of a live board.
use Rattle.std.proofs.Common.{◌≡◌, ◌≢◌, ◌⊎◌, inl, inr, ℕ, zero, suc, ◌+◌, ◌*◌, ◌/◌, ◌%◌, ◌<◌, ◌≤◌, Bool, true, false, nat_lt, List, [], ◌∷◌, ◌++◌, length, get_or, refl, sym, ap, ◌∙◌, subst, arith, append-nil}
use Rattle.std.specs.Prelude.{◌==◌}
use Rattle.std.proofs.lemmas.Bool.{cases_eq}
use Rattle.std.proofs.lemmas.Bool.Decides.{nat_tests}
use Rattle.board_terms.specs.declared.notices.Notice.{Notice}
use Rattle.synic_board.specs.declared.event.Event.{Event}
use Rattle.synic_board.specs.declared.event.Event.TheVariants.{Tick}
use Rattle.synic_board.specs.declared.event.Reply.{Reply}
use Rattle.synic_board.specs.declared.event.Reply.TheVariants.{Done}
use Rattle.synic_board.specs.State.{State, BoardModel, processors}
use Rattle.synic_board.specs.Effects.{Outcome}
use Rattle.synic_board.specs.Run.{run_of}
use Rattle.synic_board.specs.Sound.{HasShape}
use Rattle.synic_board.specs.Step.{step}
use Rattle.synic_board.specs.Timers.{ticked}
use Rattle.synic_board.proofs.Clocks.{ticked_before}
use Rattle.live_pages.specs.Words.{known}
use Rattle.live_pages.specs.declared.access.Access.{Access}
use Rattle.live_board.specs.Words.{word_of}
use Rattle.live_board.specs.Live.{Shadows, IsTicked, all_done, looked_from, marked_from, is_any_due, AreDueDirect}
use Rattle.live_board.specs.inside.Parts.{IsTickFrom}
use Rattle.live_board.proofs.Shadowed.{live}
use Rattle.live_board.proofs.Ticked.{none-owed}

-- a tick before the earliest deadline changes no own page
own-early : (s : State) (moment : ℕ) → is_any_due s moment ≡ false → (ticked s moment).0.own ≡ s.own
own-early s moment none = by (nat_lt moment s.moment) (moment == s.moment) refl refl
  where
    by : (a b : Bool) → nat_lt moment s.moment ≡ a → (moment == s.moment) ≡ b → (ticked s moment).0.own ≡ s.own
    by true b back same = rw back refl
    by false true back same = rw (back, same) refl
    by false false back same =
        let le : s.moment ≤ moment = grind (arith, nat_tests) in
        let ne : moment ≢ s.moment = grind (arith, nat_tests) in
        ap (λ (o : Outcome). o.0.own) (ticked_before s moment le ne none)

pub early-queues : (s : State) (moment : ℕ) → is_any_due s moment ≡ false → (ticked s moment).0.queues ≡ s.queues
early-queues s moment none = by (nat_lt moment s.moment) (moment == s.moment) refl refl
  where
    by : (a b : Bool) → nat_lt moment s.moment ≡ a → (moment == s.moment) ≡ b → (ticked s moment).0.queues ≡ s.queues
    by true b back same = rw back refl
    by false true back same = rw (back, same) refl
    by false false back same =
        let le : s.moment ≤ moment = grind (arith, nat_tests) in
        let ne : moment ≢ s.moment = grind (arith, nat_tests) in
        ap (λ (o : Outcome). o.0.queues) (ticked_before s moment le ne none)

pub early-own : (s now : State) (moment : ℕ) (reply : Reply) (notices : List Notice) → is_any_due s moment ≡ false
    → (now, reply, notices) ≡ step s (Tick moment) → now.own ≡ s.own
unfolding step
early-own s now moment reply notices none is = ap (λ (o : Outcome). o.0.own) is ∙ own-early s moment none

looked-none : (m k : ℕ) (s : State) (pages : List (List Access)) → looked_from s pages (λ _. []) k m ≡ []
looked-none zero k s pages = refl
looked-none (suc m) k s pages = looked-none m (suc k) s pages

marked-none : (m k : ℕ) (s : State) (pages : List (List Access))
    → marked_from s pages (λ _. []) (λ _. []) (λ _. []) k m ≡ []
marked-none zero k s pages = refl
marked-none (suc m) k s pages =
    append-nil (marked_from s pages (λ _. []) (λ _. []) (λ _. []) (suc k) m) ∙ marked-none m (suc k) s pages

-- a tick at which no timer in message mode is due, without an access
pub ticked-quiet : (old now : BoardModel) (pages : List (List Access)) (moment : ℕ) (reply : Reply)
    (notices : List Notice)
    → (is_any_due old.state moment ≡ true → (p : ℕ) → p < processors old.state → AreDueDirect old.state p moment)
    → (now.state, reply, notices) ≡ step old.state (Tick moment)
    → IsTicked (live old pages) moment (live now pages) reply 0 notices
unfolding run_of
ticked-quiet old now pages moment reply notices direct is = record {
  looks = λ _. [];
  stores = λ _. [];
  marks = λ _. [];
  due = λ yes p low posted. absurd (posted (direct yes p low));
  idle = λ _ p. (refl, refl, refl);
  direct = λ p _ _. (refl, refl, refl);
  logs = λ p _. refl;
  flags = λ p. refl;
  size = refl;
  names = refl;
  run = (λ i. run_of s (looks i ++ Tick moment ∷ marks i)) ∙ ap (λ (o : Outcome). (o.0, o.1 ∷ [], o.2 ++ [])) (sym is)
      ∙ (λ i. (now.state, all_done (sym looks i) ++ reply ∷ all_done (sym marks i), append-nil notices i));
  owes = λ p _. none-owed p;
  unowed = λ p _. none-owed p;
}
  where
    s : State
    s = old.state

    looks : looked_from s pages (λ _. []) 0 (processors s) ≡ []
    looks = looked-none (processors s) 0 s pages

    marks : marked_from s pages (λ _. []) (λ _. []) (λ _. []) 0 (processors s) ≡ []
    marks = marked-none (processors s) 0 s pages

pub ticked-due : (old now : BoardModel) (pages pages-now : List (List Access)) (moment m : ℕ) (reply : Reply)
    (owed : ℕ) (before after : List Notice) → is_any_due old.state moment ≡ true
    → m ≡ processors old.state → before ≡ []
    → IsTickFrom old.state 0 m pages (Tick moment) now.state pages-now reply owed before after
    → IsTicked (live old pages) moment (live now pages-now) reply owed after
ticked-due old now pages pages-now moment m reply owed before after due count empty h = record {
  looks = t.looks;
  stores = t.stores;
  marks = t.marks;
  due = λ _ p less. t.posted p (omega arith) (omega (arith, less));
  idle = λ none. absurd (let e : true ≡ false = sym due ∙ none in cc);
  direct = λ p less. t.direct p (omega arith) (omega (arith, less));
  logs = λ p less. t.logs p (omega arith) (omega (arith, less));
  flags = t.flags;
  size = t.size;
  names = refl;
  run = t.run ∙ ap (λ (ns : List Notice). (
    now.state,
    all_done (looked_from old.state pages t.looks 0 (processors old.state))
        ++ reply ∷ all_done (marked_from old.state pages t.looks t.stores t.marks 0 (processors old.state)),
    ns,
  ))
      (sym (t.notices ∙ ap (λ ns. ns ++ t.emitted) empty));
  owes = λ p less. t.owes p (omega arith) (omega (arith, less));
  unowed = λ p le. t.beyond p (omega (arith, le));
}
  where
    t : IsTickFrom old.state 0 (processors old.state) pages
        (Tick moment) now.state pages-now reply owed before after
    t = subst (λ n. IsTickFrom old.state 0 n pages (Tick moment) now.state pages-now reply owed before after)
        count h

pub ticked-shadows : (s now : State) (pages pages-now : List (List Access)) (m : ℕ) (event : Event) (reply : Reply)
    (owed : ℕ) (before after : List Notice) → m ≡ processors s → HasShape s → Shadows s pages
    → IsTickFrom s 0 m pages event now pages-now reply owed before after → Shadows now pages-now
ticked-shadows s now pages pages-now m event reply owed before after count shape h t = record {
  count = t.size ∙ h.count ∙ sym t.count;
  few = omega (arith, t.size, h.few);
  words = λ j w low small. by j w (omega (arith, low, t.count)) small (cases_eq (j % 2) 0);
}
  where
    by : (j w : ℕ) → j < length s.own → w < 512 → (j % 2 ≡ 0) ⊎ (j % 2 ≢ 0)
        → known (get_or pages-now j []) w ≡ word_of now j w
    by j w low small (inl even) =
        let place : 2 * (j / 2) ≡ j = omega (arith, even) in
        subst (λ i. known (get_or pages-now i []) w ≡ word_of now i w) place
        (t.shadow (j / 2) (omega arith) (omega (arith, low, shape.overlays, count)) w small)
    by j w low small (inr odd) =
        let place : 2 * (j / 2) + 1 ≡ j = omega (arith, odd) in
        subst (λ i. known (get_or pages-now i []) w ≡ word_of now i w) place
        (ap (λ l. known l w) (t.flags (j / 2)) ∙ h.words (2 * (j / 2) + 1) w (omega (arith, place, low)) small
        ∙ sym (t.odd (j / 2) w small))

-- a tick that does not move the clock back is done
pub tick-done : (s now : State) (moment : ℕ) (reply : Reply) (notices : List Notice) → s.moment ≤ moment
    → (now, reply, notices) ≡ step s (Tick moment) → reply ≡ Done
unfolding step
tick-done s now moment reply notices onward is = ap (λ (o : Outcome). o.1) is ∙ by (moment == s.moment) refl
  where
    there : nat_lt moment s.moment ≡ false
    there = grind (arith, nat_tests)

    by : (b : Bool) → (moment == s.moment) ≡ b → (ticked s moment).1 ≡ Done
    by true same = rw (there, same) refl
    by false same = rw (there, same) refl
