-- A text that is written to a stream through a buffer.
use Rattle.std.specs.Prelude.{◌≡◌, ℕ, Bool, false, List, [], ◌++◌, Option}
use Rattle.std.specs.Io.KnownBytes.{Appends}

pub record Written : Type 0 where
  -- the reference to the stream
  pub name : ℕ
  -- what the stream held at first, and what it holds
  pub start : Option (List ℕ)
  pub now : Option (List ℕ)
  -- what was put, and the end of it that is not written yet
  pub text : List ℕ
  pub held : List ℕ
  -- whether a write failed
  pub failed : Bool

-- The text was written, or a prefix of it if a write failed.
pub record Holds (start now : Option (List ℕ)) (text : List ℕ) (failed : Bool) : Type 0 where
  pub sent : List ℕ
  pub rest : List ℕ
  pub writes : Appends start now sent
  pub whole : text ≡ sent ++ rest
  pub all : failed ≡ false → rest ≡ []

-- The same stream, and the same text was put.
pub record HasSame (old new : Written) : Type 0 where
  pub name : new.name ≡ old.name
  pub start : new.start ≡ old.start
  pub text : new.text ≡ old.text

-- All of the text was written.
pub record IsWritten (output : Written) : Type 0 where
  pub whole : output.failed ≡ false
  pub empty : output.held ≡ []
