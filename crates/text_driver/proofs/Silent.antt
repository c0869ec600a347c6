-- A `Judge` of which a part of the state is enough, and one that answers nothing.
use Rattle.std.proofs.Common.{ℕ, List, [], refl, sym, append-nil}
use Rattle.text_driver.specs.Judging.{Judges, Puts, Answers}
use Rattle.text_driver.specs.declared.judge.Taken.{Taken}
use Rattle.text_driver.specs.declared.judge.Taken.TheVariants as taken

puts-nothing : {F : Type 0} (result : Taken F) (text : List ℕ) → Puts result [] text text
puts-nothing taken.Good text = sym (append-nil text)
puts-nothing (taken.Wrong fault) text = refl
puts-nothing taken.Memory text = refl

module _ {J S F : Type 0} (seen : J → S) (good : S → List ℕ → List ℕ → S → Type 0) (wrong : S → List ℕ → F → Type 0)
  where
    abbrev pub Good : J → List ℕ → List ℕ → J → Type 0
    Good old line answer new = good (seen old) line answer (seen new)

    abbrev pub Wrong : J → List ℕ → F → Type 0
    Wrong old line fault = wrong (seen old) line fault

    judges-seen : (result : Taken F) (old new : J) (line answer : List ℕ)
        → Judges good wrong result (seen old) (seen new) line answer → Judges Good Wrong result old new line answer
    judges-seen taken.Good old new line answer h = h
    judges-seen (taken.Wrong fault) old new line answer h = h
    judges-seen taken.Memory old new line answer h = tt

    pub answers-seen : (result : Taken F) (old new : J) (line before after : List ℕ)
        → Answers good wrong result (seen old) (seen new) line before after
        → Answers Good Wrong result old new line before after
    answers-seen result old new line before after h = (h.0, judges-seen result old new line h.0 h.1, h.2)

    pub silent : (result : Taken F) (old new : J) (line text : List ℕ)
        → Judges good wrong result (seen old) (seen new) line [] → Answers Good Wrong result old new line text text
    silent result old new line text h = ([], judges-seen result old new line [] h, puts-nothing result text)
