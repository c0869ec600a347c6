use Rattle.std.proofs.Common.{List, ℕ, ap, sym, subst, ◌∙◌}
use Rattle.atomic_table.specs.Table.{Me}
use Rattle.ghost_history.specs.declared.history.History.{History}
use Rattle.synic_board.specs.State.{State, BoardModel}
use Rattle.published_words.specs.declared.rule.View.{View}
use Rattle.published_words.specs.Words.{Logs, no_logs}
use Rattle.published_words.specs.inside.Rule.{AreOpening, AreSpread, HasValues, start_of, logs_of, is_writer}
use Rattle.published_words.proofs.Steps.{opens, opens-values}
use Rattle.published_words.proofs.words.PublishedWords.open.Goals as goal

pub of_words-requires : goal.of_words-requires
of_words-requires c =
    let values : List ℕ = c.in_ok-values.values.items in
    opens c.of.result values c.as_slice-2.result.now
    (subst (λ (b : BoardModel). AreOpening b.state values) (sym c.of.ensures) c.in_ok-values.ensures)
    (subst (λ (z : List ℕ × List ℕ). AreSpread z.0 z.1)
    (λ i. (c.as_slice.ensures.value i, sym c.as_slice-2.ensures.value i)) c.in_ok-spread.ensures)

pub invariant_of-result : goal.invariant_of-result
invariant_of-result c =
    let me = c.in_ok-table.ensures.4 in
    let start = c.args.board.now.state in
    let from = ap (λ (b : BoardModel). b.state) c.of.ensures in
    let has = opens-values start c.in_ok-values.values.items c.in_ok-values.ensures in (
      ap (λ (m : Me History View). is_writer m.0) me,
      ap (λ (m : Me History View). m.1) me,
      subst (λ (z : State × Logs). HasValues z.0 z.1 c.in_ok-values.values.items)
          (λ i. (
            (sym from ∙ ap (λ (m : Me History View). start_of m.0) (sym me)) i,
            (ap no_logs (sym from) ∙ ap (λ (m : Me History View). logs_of m.0) (sym me)) i,
          )) has,
    )
