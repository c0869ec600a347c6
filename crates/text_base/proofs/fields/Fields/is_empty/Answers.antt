use Rattle.std.proofs.Common.{◌≡◌, List, ℕ, [], Option, Some, None, Bool, true, false, not, is_some, refl, sym, ◌∙◌}
use Rattle.std.specs.Bool.{IsTrue}
use Rattle.std.specs.Borrow.{Bor}
use Rattle.text_base.specs.inside.Parsing.{fields_left}
use Rattle.text_base.proofs.FieldLemmas.{some_field}
use Rattle.text_base.proofs.fields.Fields.is_empty.Goals as goal

empty_by : (rest : Option (Bor (List ℕ))) (fields : List (List ℕ)) (b : Bool) → fields_left rest ≡ fields
    → is_some rest ≡ not b → (IsTrue b → fields ≡ []) × (fields ≡ [] → IsTrue b)
empty_by None fields true e i = (λ h. sym e, λ h. refl)
empty_by None fields false e i = cc
empty_by (Some rest) fields true e i = cc
empty_by (Some rest) fields false e i = (λ (h : IsTrue false). cc, λ none. absurd (some_field rest.now (e ∙ none)))

pub returns : goal.returns
returns c = empty_by c.self.inside.rest c.args.self.now c.is_none.result c.self.view_is c.is_none.ensures
