use Rattle.std.proofs.Common.{◌≡◌, ◌<◌, inl, inr, ℕ, length, sym, ap, ◌∙◌, arith}
use Rattle.std.specs.Prelude.{slice_index_or}
use Rattle.std.proofs.lemmas.Bool.{cases_eq}
use Rattle.std.proofs.lemmas.List.{get_or_default}
use Rattle.gpa_space.proofs.space.page_lengths.Goals as goal

pub returns : goal.returns
returns c k d below = c.loop-page.invariant k d (omega arith)

pub loop-page-preserved : goal.loop-page-preserved
loop-page-preserved c k d below =
    let pages = c.args.pages.now in
    let at = c.loop-page.page-index in
    let within : at < length pages = omega arith in
    let here = sym (ap length (c.page-item.is ∙ get_or_default pages at c.page-item.result d within))
    ∙ sym (ap length c.as_slice.ensures.value) ∙ c.as_slice.ensures.len in
    elim (cases_eq k at) as (λ _. length (slice_index_or pages k d) ≡ 4096) [
      | inl same ↦ ap (λ (j : ℕ). length (slice_index_or pages j d)) same ∙ here
      | inr ne ↦ c.loop-page.invariant k d (omega (arith, ne, below))
    ]
