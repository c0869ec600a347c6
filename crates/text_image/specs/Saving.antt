-- The result of a save.
use Rattle.std.specs.Prelude.{◌≡◌, ℕ, List, [], ◌++◌, Option}
use Rattle.std.specs.Io.KnownBytes.{Appends}
use Rattle.synic_board.specs.State.{State}
use Rattle.text_image.specs.Image.{image}
use Rattle.text_image.specs.declared.stream.SaveEnd.{SaveEnd}
use Rattle.text_image.specs.declared.stream.SaveEnd.TheVariants as ends

-- what is left to write at such an end
abbrev pub Leaves : SaveEnd → List ℕ → Type 0
Leaves ends.Done rest = rest ≡ []
Leaves ends.Writing rest = Unit {0}

-- The image was written, or a prefix of it if a write failed.
pub record Saves (end : SaveEnd) (s : State) (w0 w1 : Option (List ℕ)) : Type 0 where
  pub sent : List ℕ
  pub rest : List ℕ
  pub writes : Appends w0 w1 sent
  pub whole : image s ≡ sent ++ rest
  pub leaves : Leaves end rest
