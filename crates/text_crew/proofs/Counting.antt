-- The number of entries of a crew.
use Rattle.std.proofs.Common.{◌≡◌, ℕ, ◌+◌, ◌<◌, ◌*◌, ◌⊎◌, Bool, true, false, List, [], ◌∷◌, length, vec_len, Vec, Global, IsTrue, nat_lt, refl, sym, ap, arith}
use mathlib.Core.Logic.{inl, inr}
use Rattle.std.specs.List.{sum_by}
use Rattle.std.proofs.lemmas.Bool.Decides.{Decides-ltb}
use Rattle.std.proofs.lemmas.List.Sums.{sum_by-append, sum_by-cons}
use Rattle.board_threads.specs.Crew.{lists}
use Rattle.board_threads.specs.declared.script.Step.{Step}
use Rattle.text_crew.specs.Crew.{entries}
use Rattle.text_crew.specs.inside.View.{crew_of}
use Rattle.text_crew.specs.declared.held.CrewScript.{CrewScript}
use Rattle.text_crew.specs.declared.held.Section.{Section}
use Rattle.text_crew.specs.declared.held.Section.TheVariants as held

pub lengths : (scripts : List (Vec Step Global))
    → sum_by (λ (s : List Step). length s) (lists scripts) ≡ sum_by (λ (s : Vec Step Global). vec_len s) scripts
lengths [] = refl
lengths (s ∷ scripts) =
    omega (
      arith,
      s.ok.0,
      lengths scripts,
      sum_by-cons (λ (x : List Step). length x) s.items (lists scripts),
      sum_by-cons (λ (x : Vec Step Global). vec_len x) s scripts,
    )

-- the steps of the current section, if it is an actor's
abbrev pub open_of : Section → ℕ
open_of held.Setup = 0
open_of (held.Actor steps) = vec_len steps
open_of (held.Line raises) = 0

by-section : (c : CrewScript) (section : Section) → c.section ≡ section →
    entries (crew_of c) ≡ vec_len c.setup.events +
    (sum_by (λ (s : Vec Step Global). vec_len s) c.scripts.actors.items + open_of section) + 4 * c.setup.processors
by-section c held.Setup is = rw is (omega (arith, lengths c.scripts.actors.items, c.setup.events.ok.0))
by-section c (held.Actor steps) is =
    rw is (omega (
      arith,
      lengths c.scripts.actors.items,
      c.setup.events.ok.0,
      steps.ok.0,
      sum_by-append (λ (x : List Step). length x) (lists c.scripts.actors.items) (steps.items ∷ []),
      sum_by-cons (λ (x : List Step). length x) steps.items [],
    ))
by-section c (held.Line raises) is = rw is (omega (arith, lengths c.scripts.actors.items, c.setup.events.ok.0))

pub entries-are : (c : CrewScript)
    → entries (crew_of c) ≡ vec_len c.setup.events +
    (sum_by (λ (s : Vec Step Global). vec_len s) c.scripts.actors.items + open_of c.section) + 4 * c.setup.processors
entries-are c = by-section c c.section refl

pub no-steps : (c : CrewScript) → (c.section ≡ held.Setup)
    ⊎ ((raises : Vec (ℕ × ℕ) Global) × (c.section ≡ held.Line raises)) → 0 ≡ open_of c.section
no-steps c (inl is) = ap open_of (sym is)
no-steps c (inr is) = ap open_of (sym is.1)

-- a test that decides whether one number is below another
pub tells : (b : Bool) (y m : ℕ) → (IsTrue b → y < m) → (y < m → IsTrue b) → b ≡ nat_lt y m
tells true y m f g = sym ((Decides-ltb y m).1 (f refl))
tells false y m f g = one (nat_lt y m) refl
  where
    one : (c : Bool) → nat_lt y m ≡ c → false ≡ c
    one true is = let h : false ≡ true = g ((Decides-ltb y m).0 is) in absurd (cc)
    one false is = refl
