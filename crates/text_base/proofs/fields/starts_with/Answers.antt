use Rattle.std.proofs.Common.{◌≡◌, Bool, true, false, ℕ, List, take, get_or, refl, sym, ap, ◌∙◌, arith}
use Rattle.std.specs.Str.{bytes_eq}
use Rattle.std.proofs.lemmas.List.{take_all, get_or-take}
use Rattle.std.proofs.lemmas.Slice.Eq.{bytes_eq-Decides}
use Rattle.text_base.proofs.fields.starts_with.Goals as goal

pub returns-then-text-i : goal.returns-then-text-i
returns-then-text-i g c = go (bytes_eq (take g.row.N c.args.text.now) c.args.word.now) refl
  where
    go : (b : Bool) → bytes_eq (take g.row.N c.args.text.now) c.args.word.now ≡ b → false ≡ b
    go false e = refl
    go true e =
        let same = ap (λ (w : List ℕ). get_or w c.loop-i.i 0) ((bytes_eq-Decides _ _).0 e) in
        absurd (c.if-text-i.true (sym (get_or-take g.row.N c.args.text.now c.loop-i.i 0 c.loop-i-test.true) ∙ same))

pub returns : goal.returns
returns g c =
    let whole : c.loop-i.i ≡ g.row.N = omega (arith, c.loop-i.invariant.0, c.loop-i.auto.i-end, c.loop-i-test.false) in
    sym ((bytes_eq-Decides _ _).1
    (rw whole at c.loop-i.invariant.1 ∙ take_all g.row.N c.args.word.now (omega (arith, c.told-word))))
