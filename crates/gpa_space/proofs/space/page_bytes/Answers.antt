use Rattle.std.proofs.Common.{◌<◌, inl, inr, ℕ, length, sym, subst, ◌∙◌, arith}
use Rattle.std.specs.Prelude.{slice_index_or}
use Rattle.std.proofs.lemmas.Bool.{cases_eq}
use Rattle.std.proofs.lemmas.List.{get_or_default}
use Rattle.board_terms.specs.Ranges.{AreBytes}
use Rattle.gpa_space.proofs.space.page_bytes.Goals as goal

pub returns : goal.returns
returns c k d below = c.loop-page.invariant k d (omega arith)

pub loop-page-preserved : goal.loop-page-preserved
loop-page-preserved c k d below =
    let pages = c.args.pages.now in
    let at = c.loop-page.page-index in
    let within : at < length pages = omega arith in
    let here = subst AreBytes (c.page-item.is ∙ get_or_default pages at c.page-item.result d within) c.facts.ensures in
    elim (cases_eq k at) as (λ _. AreBytes (slice_index_or pages k d)) [
      | inl same ↦ subst (λ (j : ℕ). AreBytes (slice_index_or pages j d)) (sym same) here
      | inr ne ↦ c.loop-page.invariant k d (omega (arith, ne, below))
    ]
