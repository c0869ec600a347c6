use Rattle.std.proofs.Common.{◌∷◌, [], ℕ, List, nat_eq, arith, ap, sym, ◌∙◌, ◌<◌, length}
use Rattle.std.proofs.lemmas.List.{take_all}
use Rattle.std.proofs.lemmas.List.Splits.{slice_split_none}
use Rattle.text_base.proofs.FieldLemmas.{at_space}
use Rattle.text_base.proofs.fields.Fields.past.Goals as goal

pub returns-then-end-text-clause-found : goal.returns-then-end-text-clause-found
returns-then-end-text-clause-found c =
    let all = take_all c.args.end c.args.text.now (omega (arith, c.if-end-text.true)) in
    slice_split_none (λ b. nat_eq b 32) c.args.text.now (rw all at c.requires.field)
    ∙ ap (λ (field : List ℕ). field ∷ []) (sym all)

pub returns-clause-found : goal.returns-clause-found
returns-clause-found c =
    let within : c.args.end < length c.args.text.now = omega (arith, c.requires.within, c.if-end-text.false) in
    at_space c.args.text.now c.args.end within c.requires.field c.if-text-end-ne32.false
