use Rattle.std.proofs.Common.{◌≡◌, ◌≤◌, List, ℕ, take, length, ap, arith, subst, sym, ◌∙◌}
use Rattle.std.proofs.lemmas.List.{length-take}
use Rattle.std.proofs.lemmas.Slice.Eq.{bytes_eq-Decides}
use Rattle.text_base.specs.inside.Parsing.{HasNoSpace}
use Rattle.text_base.proofs.ByteLemmas.{unfound}
use Rattle.text_base.proofs.FieldLemmas.{one_field, first-begins, first-ends}
use Rattle.text_base.proofs.fields.Fields.after.Goals as goal

pub returns-then-not-starts_with-clause-none : goal.returns-then-not-starts_with-clause-none
returns-then-not-starts_with-clause-none g c rest is =
    let whole = rw c.in_ok-rest.was at c.self.view_is in
    let text = c.in_ok-rest.rest.now in
    let word = c.args.word.now in
    let long : length word ≡ g.row.N = c.told-word in
    let found = (bytes_eq-Decides (take g.row.N text) word).1
    (ap (λ (n : ℕ). take n text) (sym long) ∙ first-begins text word rest (whole ∙ is)) in
    let never = sym found ∙ sym c.starts_with.ensures ∙ c.if-not-starts_with.true in
    cc

pub past-requires : goal.past-requires
past-requires g c =
    record { within = rw long at within; field = subst HasNoSpace (sym begins) (one_field word c.requires) }
  where
    text : List ℕ
    text = c.in_ok-rest.rest.now

    word : List ℕ
    word = c.args.word.now

    long : length word ≡ g.row.N
    long = c.told-word

    begins : take g.row.N text ≡ word
    begins = (bytes_eq-Decides (take g.row.N text) word).0 (sym c.starts_with.ensures ∙ c.if-not-starts_with.false)

    within : length word ≤ length text
    within = omega (arith, length-take g.row.N text, ap length begins, long)

pub returns-clause-none : goal.returns-clause-none
returns-clause-none g c = unfound c.past.result c.past.ensures.none (λ other rest is.
    let whole = rw c.in_ok-rest.was at c.self.view_is in
    let long : length c.args.word.now ≡ g.row.N = c.told-word in
    let space = first-ends c.in_ok-rest.rest.now c.args.word.now rest (whole ∙ is)
    (λ same. omega (arith, same, long, other.0)) in
    other.1 (rw long at space))
