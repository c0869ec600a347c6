-- The states and the run of what is forwarded.
use Rattle.std.proofs.Common.{◌≡◌, ℕ, ◌<◌, Bool, true, false, nat_lt, List, [], ◌∷◌, ◌++◌, Option, None, Some, refl, sym, ap, subst, ◌∙◌, arith, append-nil}
use Rattle.std.specs.Prelude.{if◌then◌else◌}
use Rattle.std.specs.Option.{option_map_or}
use Rattle.std.specs.FinSet as members
use Rattle.std.proofs.lemmas.Bool.Decides.{nat_tests}
use Rattle.std.proofs.lemmas.List.{set-get_or, set-set, length-set, get_or-set_same}
use Rattle.board_terms.specs.declared.notices.Notice.{Notice}
use Rattle.board_terms.specs.declared.refusal.Refusal.TheVariants.{NoSuchProcessor}
use Rattle.lapic_core.specs.Apic.{Apic, empty_apic, next, take_vector, after_end}
use Rattle.synic_regs.specs.Registers.{number_of_register}
use Rattle.synic_regs.specs.declared.register.Register.TheVariants.{Eoi}
use Rattle.synic_regs.specs.Regs.{Regs, auto_vectors}
use Rattle.synic_board.specs.declared.event.Event.{Event}
use Rattle.synic_board.specs.declared.event.Event.TheVariants.{Take, Write}
use Rattle.synic_board.specs.declared.event.Reply.TheVariants.{Done, Taken}
use Rattle.synic_board.specs.State.{State, BoardModel, processors, apic_of, regs_of, with_apic}
use Rattle.synic_board.specs.Effects.{Outcome, refused}
use Rattle.synic_board.specs.Interrupts.{taken, taken_at, ended}
use Rattle.synic_board.specs.Registers.{written}
use Rattle.synic_board.specs.Run.{Run, run_of}
use Rattle.synic_board.specs.Step.{step}
use Rattle.live_board.proofs.Joined.{joined, run-append}
use Rattle.c_handles.specs.declared.forwarding.Forwarded.{Forwarded}
use Rattle.c_handles.specs.Forwarding.{without, takes_and_ends, AreTakenAndEnded, IsForwarded}
use Rattle.c_handles.specs.inside.ForwardingOne.{without_one, is_auto, Forwards}
use Rattle.c_handles.proofs.Leaving.{AreAmong, not-serving, serving, taken-ended, next-awaited, one-more, among-insert, all-left, auto-insert, fewer, none-left, among-none, auto-none}

eoi : ℕ
eoi = number_of_register Eoi

step-take : (s : State) (p v : ℕ) → p < processors s → next (apic_of s p) ≡ Some v
    → step s (Take p) ≡ (with_apic s p (taken_at s p v), Taken (Some v), [])
unfolding step
step-take s p v on is =
    let below : nat_lt p (processors s) ≡ true = grind (arith, nat_tests) in
    ap (λ (b : Bool). if b then taken s p else refused s NoSuchProcessor) below
    ∙ ap (λ (o : Option ℕ). (option_map_or (λ w. with_apic s p (taken_at s p w)) o s, Taken o, [])) is

step-end : (s : State) (p : ℕ) → p < processors s → step s (Write p (number_of_register Eoi) 0) ≡ (ended s p, Done, [])
unfolding step
step-end s p on =
    let below : nat_lt p (processors s) ≡ true = grind (arith, nat_tests) in
    ap (λ (b : Bool). if b then written s p 0x40000070 0 else refused s NoSuchProcessor) below

-- another local APIC of a processor on the board
apic-set : (s : State) (p : ℕ) (a : Apic) → p < processors s → apic_of (with_apic s p a) p ≡ a
apic-set s p a on = get_or-set_same s.apics p a empty_apic on

set-twice : (s : State) (p : ℕ) (a b : Apic) → with_apic (with_apic s p a) p b ≡ with_apic s p b
set-twice s p a b = ap (λ (x : List Apic). record s { apics = x }) (set-set s.apics p a b)

count-set : (s : State) (p : ℕ) (a : Apic) → processors (with_apic s p a) ≡ processors s
count-set s p a = length-set s.apics p a

-- the next vector, as the board was asked for it
pub was-asked : (p : ℕ) {board asked : BoardModel} {a : Apic} {v : ℕ} → asked ≡ board → a ≡ apic_of asked.state p
    → Some v ≡ next a → next (apic_of board.state p) ≡ Some v
was-asked p of-board of-apic found =
    ap (λ (b : BoardModel). next (apic_of b.state p)) (sym of-board) ∙ ap next (sym of-apic) ∙ sym found

-- a vector that is not auto-EOI is taken and ended
module _ (s : State) (p v : ℕ) (on : p < processors s) (is : next (apic_of s p) ≡ Some v) where
  abbrev a : Apic
  a = apic_of s p

  after-take : (b : Bool) → is_auto s p v ≡ b → (step s (Take p)).0 ≡ with_apic s p (take_vector b v a)
  after-take b e =
      ap (λ (o : Outcome). o.0) (step-take s p v on is) ∙ ap (λ (x : Bool). with_apic s p (take_vector x v a)) e

  apic-taken : (b : Bool) → is_auto s p v ≡ b → apic_of (step s (Take p)).0 p ≡ take_vector b v a
  apic-taken b e = ap (λ (t : State). apic_of t p) (after-take b e) ∙ apic-set s p (take_vector b v a) on

  pub still-on : p < processors (step s (Take p)).0
  still-on = subst (λ n. p < n)
      (sym (ap processors (after-take (is_auto s p v) refl) ∙ count-set s p (take_vector (is_auto s p v) v a))) on

  after-end-is : is_auto s p v ≡ false
      → (step (step s (Take p)).0 (Write p (number_of_register Eoi) 0)).0 ≡ with_apic s p (without_one a v)
  after-end-is e =
      ap (λ (o : Outcome). o.0) (step-end (step s (Take p)).0 p still-on)
      ∙ ap (λ (x : Apic). with_apic (step s (Take p)).0 p (after_end x)) (apic-taken false e)
      ∙ ap (λ (t : State). with_apic t p (after_end (take_vector false v a))) (after-take false e)
      ∙ set-twice s p (take_vector false v a) (after_end (take_vector false v a))
      ∙ ap (with_apic s p) (taken-ended a v (next-awaited a v is))

  pub take-quiet : (step s (Take p)).2 ≡ []
  take-quiet = ap (λ (o : Outcome). o.2) (step-take s p v on is)

  pub end-quiet : (step (step s (Take p)).0 (Write p (number_of_register Eoi) 0)).2 ≡ []
  end-quiet = ap (λ (o : Outcome). o.2) (step-end (step s (Take p)).0 p still-on)

  pub end-quiet-of : (mid : State) → mid ≡ (step s (Take p)).0 → (step mid (Write p (number_of_register Eoi) 0)).2 ≡ []
  end-quiet-of mid e = ap (λ (t : State). (step t (Write p (number_of_register Eoi) 0)).2) e ∙ end-quiet

  run-state : (b : Bool) → is_auto s p v ≡ b
      → (run_of s (takes_and_ends p (b ∷ []))).0 ≡ with_apic s p (without_one a v)
  unfolding run_of
  run-state true e = after-take true e
  run-state false e = after-end-is e

  run-quiet : (b : Bool) → (run_of s (takes_and_ends p (b ∷ []))).2 ≡ []
  unfolding run_of
  run-quiet true = append-nil (step s (Take p)).2 ∙ take-quiet
  run-quiet false =
      ap (λ (ns : List Notice). (step s (Take p)).2 ++ (ns ++ [])) end-quiet
      ∙ ap (λ (ns : List Notice). ns ++ []) take-quiet

  module _ (before after : Forwarded) (vectors : after.vectors ≡ members.insert before.vectors v) where
    pub forwards-ended : (mid now : State) → mid ≡ (step s (Take p)).0
        → members.contains (apic_of mid p).in_service v ≡ true → now ≡ (step mid (Write p (number_of_register Eoi) 0)).0
        → after.auto_eoi ≡ before.auto_eoi → Forwards s p v now before after
    forwards-ended mid now from held to auto = by (is_auto s p v) refl
      where
        by : (b : Bool) → is_auto s p v ≡ b → Forwards s p v now before after
        by true e =
            let none = not-serving a v (next-awaited a v is) in
            let found = sym held ∙ ap (λ (t : State). members.contains (apic_of t p).in_service v) from
            ∙ ap (λ (x : Apic). members.contains x.in_service v) (apic-taken true e) ∙ none in
            absurd (cc)
        by false e =
            let state = to ∙ ap (λ (t : State). (step t (Write p (number_of_register Eoi) 0)).0) from
            ∙ after-end-is e in record {
              was_next = is;
              state = state;
              vectors = vectors;
              auto_eoi = auto ∙ ap (λ (b : Bool). if b then members.insert before.auto_eoi v else before.auto_eoi)
                  (sym e);
              run = ap (λ (b : Bool). (run_of s (takes_and_ends p (b ∷ []))).0) e ∙ run-state false e ∙ sym state;
              quiet = run-quiet (is_auto s p v);
            }

    pub forwards-auto : (now : State) → now ≡ (step s (Take p)).0
        → members.contains (apic_of now p).in_service v ≡ false
        → after.auto_eoi ≡ members.insert before.auto_eoi v → Forwards s p v now before after
    forwards-auto now from none auto = by (is_auto s p v) refl
      where
        by : (b : Bool) → is_auto s p v ≡ b → Forwards s p v now before after
        by false e =
            let found = sym none ∙ ap (λ (t : State). members.contains (apic_of t p).in_service v) from
            ∙ ap (λ (x : Apic). members.contains x.in_service v) (apic-taken false e) ∙ serving a v in
            absurd (cc)
        by true e = let state = from ∙ after-take true e in record {
          was_next = is;
          state = state;
          vectors = vectors;
          auto_eoi = auto ∙ ap (λ (b : Bool). if b then members.insert before.auto_eoi v else before.auto_eoi) (sym e);
          run = ap (λ (b : Bool). (run_of s (takes_and_ends p (b ∷ []))).0) e ∙ run-state true e ∙ sym state;
          quiet = run-quiet (is_auto s p v);
        }

-- what has been forwarded so far
pub record Forwarding (s : State) (p : ℕ) (now : State) (forwarded : Forwarded) : Type 0 where
  pub among : AreAmong forwarded.vectors (apic_of s p)
  pub auto : forwarded.auto_eoi ≡ members.intersection forwarded.vectors (auto_vectors (regs_of s p))
  pub state : now ≡ with_apic s p (without (apic_of s p) forwarded.vectors)
  pub run : AreTakenAndEnded p s now

pub forwarding-none : (s : State) (p : ℕ) (forwarded : Forwarded) → forwarded.vectors ≡ members.empty
    → forwarded.auto_eoi ≡ members.empty → Forwarding s p s forwarded
unfolding run_of
forwarding-none s p forwarded vectors auto = record {
  among = subst (λ vs. AreAmong vs (apic_of s p)) (sym vectors) (among-none (apic_of s p));
  auto = auto ∙ sym (auto-none (auto_vectors (regs_of s p)))
      ∙ ap (λ vs. members.intersection vs (auto_vectors (regs_of s p))) (sym vectors);
  state = ap (λ (x : List Apic). record s { apics = x }) (sym (set-get_or s.apics p empty_apic))
      ∙ ap (with_apic s p) (sym (none-left (apic_of s p)) ∙ ap (without (apic_of s p)) (sym vectors));
  run = ([], refl, refl);
}

takes-append : (p : ℕ) (xs ys : List Bool) → takes_and_ends p (xs ++ ys) ≡ takes_and_ends p xs ++ takes_and_ends p ys
takes-append p [] ys = refl
takes-append p (true ∷ xs) ys = ap (λ (es : List Event). Take p ∷ es) (takes-append p xs ys)
takes-append p (false ∷ xs) ys =
    ap (λ (es : List Event). Take p ∷ Write p (number_of_register Eoi) 0 ∷ es) (takes-append p xs ys)

pub run-more : (s mid now : State) (p : ℕ) (b : Bool) → AreTakenAndEnded p s mid
    → (run_of mid (takes_and_ends p (b ∷ []))).0 ≡ now → (run_of mid (takes_and_ends p (b ∷ []))).2 ≡ []
    → AreTakenAndEnded p s now
run-more s mid now p b (autos, to, quiet) rest still =
    let es = takes_and_ends p autos in
    let fs = takes_and_ends p (b ∷ []) in
    let all : run_of s (takes_and_ends p (autos ++ b ∷ [])) ≡ joined (run_of s es) (run_of mid fs) =
    ap (run_of s) (takes-append p autos (b ∷ [])) ∙ run-append s es fs
    ∙ ap (λ (t : State). joined (run_of s es) (run_of t fs)) to in
    (autos ++ b ∷ [], ap (λ (r : Run). r.0) all ∙ rest, ap (λ (r : Run). r.2) all ∙ (λ i. quiet i ++ still i))

module _ (s mid now : State) (p v : ℕ) (on : p < processors s) (before after : Forwarded)
    (h : Forwarding s p mid before) (one : Forwards mid p v now before after) where
  apic-mid : apic_of mid p ≡ without (apic_of s p) before.vectors
  apic-mid = ap (λ (t : State). apic_of t p) h.state ∙ apic-set s p (without (apic_of s p) before.vectors) on

  regs-mid : regs_of mid p ≡ regs_of s p
  regs-mid = ap (λ (t : State). regs_of t p) h.state

  was-next : next (without (apic_of s p) before.vectors) ≡ Some v
  was-next = ap next (sym apic-mid) ∙ one.was_next

  pub forwarding-one : Forwarding s p now after
  forwarding-one = record {
    among = subst (λ vs. AreAmong vs (apic_of s p)) (sym one.vectors)
        (among-insert (apic_of s p) before.vectors v h.among was-next);
    auto = one.auto_eoi ∙ ap
        (λ (r : Regs). if members.contains (auto_vectors r) v then members.insert before.auto_eoi v
        else before.auto_eoi) regs-mid
        ∙ ap (λ vs. if members.contains (auto_vectors (regs_of s p)) v then members.insert vs v else vs) h.auto
        ∙ auto-insert before.vectors (auto_vectors (regs_of s p)) v
        ∙ ap (λ vs. members.intersection vs (auto_vectors (regs_of s p))) (sym one.vectors);
    state = one.state ∙ ap (λ (x : Apic). with_apic mid p (without_one x v)) apic-mid
        ∙ ap (λ (t : State). with_apic t p (without_one (without (apic_of s p) before.vectors) v)) h.state
        ∙ set-twice s p _ _ ∙ ap (with_apic s p)
        (one-more (apic_of s p) before.vectors v ∙ ap (without (apic_of s p)) (sym one.vectors));
    run = run-more s mid now p (is_auto mid p v) h.run one.run one.quiet;
  }

pub forwarding-all : (s now : State) (p : ℕ) (forwarded : Forwarded) → p < processors s → Forwarding s p now forwarded
    → next (apic_of now p) ≡ None → IsForwarded s p now forwarded
forwarding-all s now p forwarded on h none =
    let apic : apic_of now p ≡ without (apic_of s p) forwarded.vectors =
    ap (λ (t : State). apic_of t p) h.state ∙ apic-set s p (without (apic_of s p) forwarded.vectors) on in record {
      vectors = all-left (apic_of s p) forwarded.vectors h.among (ap next (sym apic) ∙ none);
      auto_eoi = h.auto;
      state = h.state;
      run = h.run;
    }

pub stays-on : (s now : State) (p : ℕ) (forwarded : Forwarded) → Forwarding s p now forwarded → p < processors s
    → p < processors now
stays-on s now p forwarded h on =
    subst (λ n. p < n) (sym (ap processors h.state ∙ count-set s p (without (apic_of s p) forwarded.vectors))) on

-- each turn leaves fewer requests
pub fewer-requests : (mid now : State) (p v : ℕ) (before after : Forwarded) → p < processors mid
    → Forwards mid p v now before after
    → members.len (apic_of now p).requested < members.len (apic_of mid p).requested
fewer-requests mid now p v before after on one =
    let apic : apic_of now p ≡ without_one (apic_of mid p) v =
    ap (λ (t : State). apic_of t p) one.state ∙ apic-set mid p (without_one (apic_of mid p) v) on in
    subst (λ (x : Apic). members.len x.requested < members.len (apic_of mid p).requested) (sym apic)
    (fewer (apic_of mid p) v (next-awaited (apic_of mid p) v one.was_next))
