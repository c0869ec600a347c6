-- Threads that were started, and their results.
use Rattle.std.proofs.Common.{◌≡◌, ℕ, List, [], ◌∷◌, length, map, Vec, Global, refl, ap, subst, ◌∙◌}
use Rattle.std.specs.List.{AllZip}
use Rattle.atomic_table.specs.Seated.{TableId}
use Rattle.posted_words.specs.declared.line.Raised.{Raised}
use Rattle.posted_words.specs.Words.{Token}
use Rattle.board_threads.specs.Crew.{AreSteps, log_of}
use Rattle.board_threads.specs.Sharing.{Acting}
use Rattle.board_threads.specs.inside.Work.{HasActed, HasRaised}
use Rattle.board_threads.specs.declared.script.Step.{Step}

abbrev pub pair : {A B : Type 0} → A → B → A × B
pair a b = (a, b)

-- The results of the threads of a list of handles satisfy the list of their postconditions, one by one.
pub given : {H T S X : Type 0} (R : H → T → Type 0) (Q : S → T → Type 0) (f : H → X) (g : S → X)
    → ((h : H) (s : S) (t : T) → f h ≡ g s → R h t → Q s t)
    → (hs : List H) (ss : List S) (ts : List T) → map f hs ≡ map g ss → AllZip R hs ts → AllZip Q ss ts
given R Q f g step [] [] [] is all = tt
given R Q f g step [] [] (t ∷ ts) is all = absurd all
given R Q f g step [] (s ∷ ss) ts is all = absurd (cc)
given R Q f g step (h ∷ hs) [] ts is all = absurd (cc)
given R Q f g step (h ∷ hs) (s ∷ ss) [] is all = absurd all
given R Q f g step (h ∷ hs) (s ∷ ss) (t ∷ ts) is all =
    let head : f h ≡ g s = cc in
    let tail : map f hs ≡ map g ss = cc in
    (step h s t head all.0, given R Q f g step hs ss ts tail all.1)

-- a number that each thread preserves
pub numbers-kept : {H T : Type 0} (R : H → T → Type 0) (f : H → ℕ) (g : T → ℕ) → ((h : H) (t : T) → R h t → g t ≡ f h)
    → (hs : List H) (ts : List T) → AllZip R hs ts → map g ts ≡ map f hs
numbers-kept R f g step [] [] all = refl
numbers-kept R f g step [] (t ∷ ts) all = absurd all
numbers-kept R f g step (h ∷ hs) [] all = absurd all
numbers-kept R f g step (h ∷ hs) (t ∷ ts) all = λ i. step h t all.0 i ∷ numbers-kept R f g step hs ts all.1 i

module _ (name name' : TableId) where
  -- an actor that was to run a script on a board's words ran it
  pub acted : (n : ℕ) (script : List Step) (s : Vec Step Global) (a : Acting) → pair name' script ≡ pair name s.items
      → HasActed name' n script a → HasActed name a.number s.items a
  acted n script s a is h = record {
    of = h.of ∙ ap (λ (p : TableId × List Step). p.0) is;
    same = refl;
    follows = subst (λ (l : List Step). AreSteps l a.calls) (ap (λ (p : TableId × List Step). p.1) is) h.follows;
  }

  pub raised : (script : List (ℕ × ℕ)) (s : Vec (ℕ × ℕ) Global) (x : Token × Vec Raised Global)
      → pair name' script ≡ pair name s.items →
      HasRaised name' script x.0 x.1.items → HasRaised name s.items x.0 x.1.items
  raised script s x is h = record {
    of = h.of ∙ ap (λ (p : TableId × List (ℕ × ℕ)). p.0) is;
    each = h.each ∙ ap (λ (p : TableId × List (ℕ × ℕ)). length p.1) is;
    actions = h.actions ∙ ap (λ (p : TableId × List (ℕ × ℕ)). log_of p.1 x.1.items) is;
  }
