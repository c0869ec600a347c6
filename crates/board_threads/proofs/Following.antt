-- One more step of a worker.
use Rattle.std.proofs.Common.{◌≡◌, ℕ, ◌+◌, ◌/◌, ◌%◌, true, List, [], ◌∷◌, ◌++◌, map, length, length-append, refl, sym, ap, ◌∙◌, subst, arith, append_assoc, reverse}
use mathlib.Core.List.{map-append}
use Rattle.std.specs.List.{AllZip, range_with_len}
use Rattle.std.proofs.lemmas.List.{reverse-append}
use Rattle.std.proofs.lemmas.List.FromFn.{map-range_with_len_more}
use Rattle.synic_board.specs.declared.event.Event.{Event}
use Rattle.synic_board.specs.declared.event.Event.TheVariants.{Absorb}
use Rattle.synic_board.specs.declared.event.Reply.{Reply}
use Rattle.posted_words.specs.declared.rule.Action.{Action}
use Rattle.posted_words.specs.declared.line.Raised.{Raised}
use Rattle.posted_words.specs.Answers.{is_fresh}
use Rattle.posted_words.specs.Words.{raise_of}
use Rattle.actor_calls.specs.Calls.{Call}
use Rattle.board_threads.specs.Sharing.{Acting, acting}
use Rattle.actor_calls.specs.Sweeps.{is_refusal}
use Rattle.board_threads.specs.Crew.{IsStep, AreSteps, acts, last_step, raises_of, log_of}
use Rattle.board_threads.specs.declared.script.Step.{Step}
use Rattle.board_threads.specs.declared.script.Step.TheVariants.{Act, Sweep}

module _ {A B : Type 0} (R : A → B → Type 0) where
  pub zip-push : (xs : List A) (ys : List B) (x : A) (y : B) → AllZip R xs ys → R x y
      → AllZip R (xs ++ x ∷ []) (ys ++ y ∷ [])
  zip-push [] [] x y h r = (r, tt)
  zip-push [] (b ∷ ys) x y h r = absurd h
  zip-push (a ∷ xs) [] x y h r = absurd h
  zip-push (a ∷ xs) (b ∷ ys) x y h r = (h.0, zip-push xs ys x y h.1 r)

-- an actor made one more call, and its number and its words are unchanged
pub record GoesOn (steps : List Step) (start now : Acting) : Type 0 where
  pub of : now.of ≡ start.of
  pub number : now.number ≡ start.number
  pub follows : AreSteps steps now.calls

went_on : (front more : List Step) (s : Step) (start old new : Acting) (e : Event) (r : Reply) (actions : List Action)
    → more ≡ front ++ s ∷ [] → GoesOn front start old
    → new ≡ acting old.of old.number (old.calls ++ (e, r) ∷ []) actions → IsStep s (e, r) → GoesOn more start new
went_on front more s start old new e r actions is was goes step = record {
  of = ap (λ (a : Acting). a.of) goes ∙ was.of;
  number = ap (λ (a : Acting). a.number) goes ∙ was.number;
  follows = subst (λ (z : List Step × List Call). AllZip IsStep z.0 z.1)
      (λ i. (sym is i, ap (λ (a : Acting). a.calls) (sym goes) i))
      (zip-push IsStep front old.calls s (e, r) was.follows step);
}

-- by its script
pub acted : (front more : List Step) (s : Step) (start old new : Acting) (e e' : Event) (r : Reply)
    (actions : List Action) → more ≡ front ++ s ∷ [] → GoesOn front start old → s ≡ Act e' → e ≡ e'
    → new ≡ acting old.of old.number (old.calls ++ (e, r) ∷ []) actions → GoesOn more start new
acted front more s start old new e e' r actions is was step same goes =
    went_on front more s start old new e r actions is was goes (subst (λ (x : Step). IsStep x (e, r)) (sym step) same)

abbrev bits_of : Event → ℕ
bits_of (Absorb vp part bits) = bits
bits_of _ = 0

abbrev bits_first : List Call → ℕ
bits_first [] = 0
bits_first (c ∷ calls) = bits_of c.0

abbrev rest_of : List Call → List Call
rest_of [] = []
rest_of (c ∷ calls) = calls

-- two absorbs that are the same call have the same bits
same-bits : (calls : List Call) (vp part a b : ℕ) (r : Reply)
    → calls ++ (Absorb vp part a, r) ∷ [] ≡ calls ++ (Absorb vp part b, r) ∷ [] → a ≡ b
same-bits [] vp part a b r is = ap bits_first is
same-bits (c ∷ calls) vp part a b r is = same-bits calls vp part a b r (ap rest_of is)

no-bits : (old new : Acting) (vp part bits : ℕ) (r : Reply) (actions : List Action)
    → new ≡ acting old.of old.number (old.calls ++ (Absorb vp part bits, r) ∷ []) actions
    → (is_refusal r ≡ true → new.calls ≡ old.calls ++ (Absorb vp part 0, r) ∷ []) → is_refusal r ≡ true → bits ≡ 0
no-bits old new vp part bits r actions goes none refused =
    same-bits old.calls vp part bits 0 r (sym (ap (λ (a : Acting). a.calls) goes) ∙ none refused)

pub swept_on : (front more : List Step) (s : Step) (start old new : Acting) (vp part bits : ℕ) (r : Reply)
    (actions : List Action) → more ≡ front ++ s ∷ [] → GoesOn front start old → s ≡ Sweep vp part
    → new ≡ acting old.of old.number (old.calls ++ (Absorb vp part bits, r) ∷ []) actions
    → (is_refusal r ≡ true → new.calls ≡ old.calls ++ (Absorb vp part 0, r) ∷ []) → GoesOn more start new
swept_on front more s start old new vp part bits r actions is was step goes none =
    went_on front more s start old new (Absorb vp part bits) r actions is was goes
    (subst (λ (x : Step). IsStep x (Absorb vp part bits, r)) (sym step)
    (bits, refl, no-bits old new vp part bits r actions goes none))

-- by an event of the setup
pub performed : (front more : List Event) (e e' : Event) (start old new : Acting) (r : Reply) (actions : List Action)
    → more ≡ front ++ e ∷ [] → GoesOn (acts front) start old
    → new ≡ acting old.of old.number (old.calls ++ (e', r) ∷ []) actions → e' ≡ e → GoesOn (acts more) start new
performed front more e e' start old new r actions is was goes same =
    went_on (acts front) (acts more) (Act e) start old new e' r actions
    (ap acts is ∙ map-append (λ x. Act x) front (e ∷ [])) was goes same

-- by one of the last absorbs
pub absorbed : (k : ℕ) (start old new : Acting) (calls more : List Call) (bits : ℕ) (r : Reply)
    (actions : List Action) → old.calls ≡ calls ++ more → AreSteps (map last_step (range_with_len 0 k)) more
    → new ≡ acting old.of old.number (old.calls ++ (Absorb (k / 4) (k % 4) bits, r) ∷ []) actions
    → (is_refusal r ≡ true → new.calls ≡ old.calls ++ (Absorb (k / 4) (k % 4) 0, r) ∷ [])
    → (new.calls ≡ calls ++ (more ++ (Absorb (k / 4) (k % 4) bits, r) ∷ []))
    × AreSteps (map last_step (range_with_len 0 (k + 1))) (more ++ (Absorb (k / 4) (k % 4) bits, r) ∷ [])
absorbed k start old new calls more bits r actions was follows goes none =
    let c : Call = (Absorb (k / 4) (k % 4) bits, r) in (
      ap (λ (a : Acting). a.calls) goes ∙ ap (λ (l : List Call). l ++ c ∷ []) was ∙ append_assoc calls more (c ∷ []),
      subst (λ (l : List Step). AreSteps l (more ++ c ∷ []))
          (sym (map-range_with_len_more last_step 0 k k (omega arith)))
          (zip-push IsStep (map last_step (range_with_len 0 k)) more (last_step k) c follows
          (bits, refl, no-bits old new (k / 4) (k % 4) bits r actions goes none)),
    )

raises-push : (script : List (ℕ × ℕ)) (answers : List Raised) (s : ℕ × ℕ) (a : Raised)
    → length answers ≡ length script →
    raises_of (script ++ s ∷ []) (answers ++ a ∷ []) ≡ raises_of script answers ++ raise_of s.0 s.1 (is_fresh a) ∷ []
raises-push [] [] s a e = refl
raises-push [] (b ∷ answers) s a e = absurd (omega arith)
raises-push (t ∷ script) [] s a e = absurd (omega arith)
raises-push (t ∷ script) (b ∷ answers) s a e =
    ap (λ l. raise_of t.0 t.1 (is_fresh b) ∷ l) (raises-push script answers s a (omega arith))

-- a line raised one more vector
pub raised-on : (front more : List (ℕ × ℕ)) (old new : List Raised) (log longer : List Action) (s : ℕ × ℕ)
    (a : Raised) → more ≡ front ++ s ∷ [] → length old ≡ length front → log ≡ log_of front old
    → new ≡ old ++ a ∷ [] → longer ≡ raise_of s.0 s.1 (is_fresh a) ∷ log → (length new ≡ length more)
    × (longer ≡ log_of more new)
raised-on front more old new log longer s a is each was goes step = (
  omega (
    arith,
    each,
    ap (λ (l : List (ℕ × ℕ)). length l) is,
    ap (λ (l : List Raised). length l) goes,
    length-append front (s ∷ []),
    length-append old (a ∷ []),
  ),
  step ∙ ap (λ l. raise_of s.0 s.1 (is_fresh a) ∷ l) was
      ∙ sym (ap reverse (raises-push front old s a each)
      ∙ reverse-append (raises_of front old) (raise_of s.0 s.1 (is_fresh a) ∷ []))
      ∙ (λ i. log_of (sym is i) (sym goes i)),
)
