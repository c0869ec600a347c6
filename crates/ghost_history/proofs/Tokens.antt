-- What a roster and a part own, and that both may go to another thread. Assumes `Logic`.
use Rattle.std.proofs.Common.{◌≡◌, ℕ, zero, suc, List, [], ◌∷◌, refl, sym, ap, set}
use mathlib.Core.Option.{some, some-injective, some-ne-none}
use lib.ListN.{get_elem?}
use Rattle.std.specs.contracts.marker.PhantomData as marker
use seplogic.Ra.Ura.{Ura}
use mir.Syntax.{Sym}
use mir.Val.{Val, vstruct, vcons, vnil}
use base.Logic.{emp, ent}
use base.Fml.{Fml}
use base.Share.{three_quarters}
use denote.Param.Send.{IsSend}
use denote.Builtin.{unit}
use denote.Shadow.{makes_shadow}
use denote.Struct.Struct.{Struct}
use types.Keyed.{entry_keyless}
use types.Logic.{Logic, sem}
use Rattle.atomic_table.specs.Seated.{halved, seen}
use Rattle.atomic_table.proofs.Sent.{roster_keyless}
use Rattle.ghost_history.specs.Rows.{Row}
use Rattle.ghost_history.specs.inside.Codes.{row_coded}
use Rattle.ghost_history.specs.contracts.roster.Roster as rosters
use Rattle.ghost_history.specs.contracts.roster.Part as parts

-- the machine value of a struct whose one field has no bytes, and what such a struct of this name owns
abbrev pub token : Val
token = vstruct (vcons (vstruct vnil) vnil)

abbrev pub bare : Sym → Fml
bare name = (Struct
    (record { name = name; args = []; types = []; fields = (marker.the_field unit).row ∷ [] })).own_val (tt, tt)
    (token ∷ [])

pub bare_made : {M : Type 1} {𝓤 : Ura M} (𝓛 : Logic 𝓤) (name : Sym) → ent 𝓤 (emp 𝓤) (sem 𝓛 (bare name))
bare_made 𝓛 name =
    makes_shadow 𝓛 (bare name) (λ vss. (tt, ((λ uss. (tt, tt)), tt)))
    ((vstruct vnil ∷ [], tt), (refl, ((tt, (refl, tt)), tt)))

-- an actor's three quarters of its row, at a key
abbrev pub held : ℕ → Row → ℕ → Fml
held name row k = seen row_coded.code name k three_quarters row

pub roster_send : IsSend rosters.the_row
roster_send =
    record {
      owned = λ r vs. ((λ vss. (tt, ((λ uss. (tt, tt)), tt))), roster_keyless row_coded.code r.name 0 r.rows);
      leaving = λ k d w. tt;
    }

pub part_send : IsSend parts.the_row
part_send = record {
  owned = λ p vs. ((λ vss. (tt, ((λ uss. (tt, tt)), tt))), (λ k. entry_keyless halved p.name k _));
  leaving = λ k d w. tt;
}

-- setting a row to itself changes nothing
pub set-same : (rows : List Row) (k : ℕ) (x : Row) → get_elem? rows k ≡ some x → set rows k x ≡ rows
set-same [] k x at = absurd (some-ne-none x (sym at))
set-same (y ∷ rows) zero x at = let is = some-injective y x at in λ i. sym is i ∷ rows
set-same (y ∷ rows) (suc k) x at = ap (λ l. y ∷ l) (set-same rows k x at)
