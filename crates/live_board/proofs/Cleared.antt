-- The words of a page that is cleared, and of the own pages after a reset.
use Rattle.std.proofs.Common.{◌≡◌, ◌≢◌, ◌⊎◌, inl, inr, ℕ, zero, suc, ◌+◌, ◌*◌, ◌<◌, true, nat_lt, List, [], ◌∷◌, ◌++◌, length, get_or, set, Option, None, Some, refl, sym, ap, ◌∙◌, subst, arith, length-set}
use Rattle.std.specs.Option.{option_map_or}
use Rattle.std.proofs.lemmas.Bool.{cases_eq}
use Rattle.std.proofs.lemmas.Bool.Decides.{nat_tests}
use Rattle.std.proofs.lemmas.List.{get_or-set_same, get_or-set_other, get_or-replicate}
use Rattle.board_terms.specs.declared.notices.Notice.{Notice}
use Rattle.board_terms.specs.declared.pages.Kind.TheVariants.{Sim}
use Rattle.gpa_space.specs.Page.{zero_page}
use Rattle.synic_board.specs.declared.event.Event.{Event}
use Rattle.synic_board.specs.declared.event.Event.TheVariants.{Reset}
use Rattle.synic_board.specs.declared.event.Reply.{Reply}
use Rattle.synic_board.specs.State.{State, processors, slot_of}
use Rattle.synic_board.specs.Effects.{Outcome, nothing}
use Rattle.synic_board.specs.Resetting.{withdrawn_ticket, emptied_below, reset}
use Rattle.synic_board.specs.Step.{step}
use Rattle.live_pages.specs.Words.{known}
use Rattle.live_pages.specs.declared.access.Access.{Access}
use Rattle.live_pages.specs.declared.access.Access.TheVariants.{Store}
use Rattle.live_board.specs.Words.{word_at}
use Rattle.live_board.specs.Live.{explained, all_done, AreClears}
use Rattle.live_board.specs.inside.Parts.{IsCleared, Resets, IsViewed, IsStep, IsResetPart}
use Rattle.live_board.proofs.Bytes.{word-bytes}
use Rattle.live_board.proofs.Filled.{stored-here, stored-other}
use Rattle.live_board.proofs.Part.{run-then}

pub clear-start : (log : List Access) → IsCleared 0 log log
clear-start log = record { news = []; page = refl; clears = refl }

pub clear-more : (n : ℕ) (log now next : List Access) → IsCleared n log now → next ≡ Store n 0 ∷ now
    → IsCleared (n + 1) log next
clear-more n log now next h is = record {
  news = Store n 0 ∷ h.news;
  page = is ∙ ap (λ l. Store n 0 ∷ l) h.page;
  clears = subst (λ m. AreClears m (Store n 0 ∷ h.news)) (let e : suc n ≡ n + 1 = omega arith in e)
      (h.news, refl, h.clears);
}

-- each word is known to be zero
pub clears-known : (n : ℕ) (news log : List Access) → AreClears n news → (x : ℕ) → x < n → known (news ++ log) x ≡ 0
clears-known zero news log h x low = absurd (omega (arith, low))
clears-known (suc n) news log (rest, is, h) x low =
    ap (λ l. known (l ++ log) x) is ∙ by (λ less. clears-known n rest log h x less) (cases_eq x n)
  where
    by : (x < n → known (rest ++ log) x ≡ 0) → (x ≡ n) ⊎ (x ≢ n) → known (Store n 0 ∷ (rest ++ log)) x ≡ 0
    by more (inl e) = stored-here n 0 (rest ++ log) x e
    by more (inr ne) = stored-other n 0 (rest ++ log) x ne ∙ more (omega (arith, low, ne))

-- the own pages after a reset
own-slot : (s : State) (p i : ℕ) (o : Option ℕ) → (option_map_or (withdrawn_ticket s p i) o (nothing s)).0.own ≡ s.own
own-slot s p i None = refl
own-slot s p i (Some t) = refl

own-emptied : (s : State) (p n : ℕ) → (emptied_below s p n).0.own ≡ s.own
unfolding emptied_below
own-emptied s p zero = refl
own-emptied s p (suc i) = let t : State = (emptied_below s p i).0 in own-slot t p i (slot_of t p i) ∙ own-emptied s p i

pages-cleared : List (List ℕ) → ℕ → List (List ℕ)
pages-cleared own p = set (set own (2 * p) zero_page) (2 * p + 1) zero_page

own-reset : (s now : State) (p : ℕ) (reply : Reply) (notices : List Notice) → p < processors s
    → (now, reply, notices) ≡ step s (Reset p) → now.own ≡ pages-cleared s.own p
unfolding step pages-cleared
own-reset s now p reply notices on is =
    let there : nat_lt p (processors s) ≡ true = grind (arith, nat_tests) in
    let state : (step s (Reset p)).0.own ≡ (reset s p).0.own = rw there refl in
    ap (λ (o : Outcome). o.0.own) is ∙ state
    ∙ ap (λ l. set (set l (2 * p) zero_page) (2 * p + 1) zero_page) (own-emptied s p 16)

-- the words of a page of zeros
zero-word : (x : ℕ) → x < 512 → word_at zero_page (8 * x) ≡ 0
zero-word x low =
    let b = λ (i : ℕ) (h : i < 8). get_or-replicate {A = ℕ} 4096 (8 * x + i) 0 0 (omega (arith, low)) in
    word-bytes zero_page (8 * x)
    ∙ rw (
      b 0 (omega arith),
      b 1 (omega arith),
      b 2 (omega arith),
      b 3 (omega arith),
      b 4 (omega arith),
      b 5 (omega arith),
      b 6 (omega arith),
      b 7 (omega arith),
    ) refl

pub reset-words : (s now : State) (p : ℕ) (reply : Reply) (notices : List Notice) → p < processors s
    → 2 * p + 1 < length s.own → (now, reply, notices) ≡ step s (Reset p) → Resets s p now
unfolding pages-cleared
reset-words s now p reply notices on inside is = record {
  count = ap length own ∙ length-set (set s.own (2 * p) zero_page) (2 * p + 1) zero_page
      ∙ length-set s.own (2 * p) zero_page;
  messages = λ x low. ap (λ l. word_at (get_or l (2 * p) []) (8 * x)) own
      ∙ ap (λ l. word_at l (8 * x))
      (get_or-set_other (set s.own (2 * p) zero_page) (2 * p + 1) (2 * p) zero_page [] (λ e. omega (arith, e))
      ∙ get_or-set_same s.own (2 * p) zero_page [] (omega (arith, inside))) ∙ zero-word x low;
  flags = λ x low. ap (λ l. word_at (get_or l (2 * p + 1) []) (8 * x)) own
      ∙ ap (λ l. word_at l (8 * x))
      (get_or-set_same (set s.own (2 * p) zero_page) (2 * p + 1) zero_page []
      (omega (arith, inside, length-set s.own (2 * p) zero_page))) ∙ zero-word x low;
  others = λ j x ne other. ap (λ l. word_at (get_or l j []) (8 * x)) own
      ∙ ap (λ l. word_at l (8 * x))
      (get_or-set_other (set s.own (2 * p) zero_page) (2 * p + 1) j zero_page [] other
      ∙ get_or-set_other s.own (2 * p) j zero_page [] ne);
}
  where
    own : now.own ≡ set (set s.own (2 * p) zero_page) (2 * p + 1) zero_page
    own = own-reset s now p reply notices on is

pub part-reset : (s mid now : State) (p : ℕ) (log log-mid log-now : List Access) (event : Event) (reply : Reply)
    (first after : List Notice) → event ≡ Reset p → p < processors s → 2 * p + 1 < length s.own
    → IsViewed s p log mid log-mid first → IsStep mid event now reply first after
    → IsCleared 512 log-mid log-now → IsResetPart s p log event now log-now reply after
part-reset s mid now p log log-mid log-now event reply first after is on inside v one c = record {
  looks = v.watched.news;
  messages = c.news;
  shown = v.shown;
  hidden = v.hidden;
  clears = c.clears;
  page = c.page ∙ ap (λ l. c.news ++ l) v.watched.page;
  run = run-then s mid now p Sim log log-mid [] event reply first one.emitted v.watched refl one.step
      ∙ ap (λ (ns : List Notice). (now, all_done (explained s p Sim v.watched.news log) ++ reply ∷ [], ns))
      (sym one.notices);
  shadow = λ x low. ap (λ l. known l x) c.page ∙ clears-known 512 c.news log-mid c.clears x low
      ∙ sym (r.messages x low);
  flags = r.flags;
  others = λ j x low ne other. r.others j x ne other ∙ v.watched.others j x low ne;
  count = r.count ∙ v.watched.count;
}
  where
    there : p < processors mid
    there = subst (λ n. p < n) (sym (ap processors v.watched.rest)) on

    r : Resets mid p now
    r = reset-words mid now p reply one.emitted there (omega (arith, inside, v.watched.count))
        (one.step ∙ ap (step mid) is)
