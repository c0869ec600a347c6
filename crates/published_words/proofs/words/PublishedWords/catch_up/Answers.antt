use Rattle.std.proofs.Common.{◌<◌, ap, sym, ◌∙◌, arith}
use Rattle.published_words.specs.Words.{Words, Watching, Published}
use Rattle.published_words.proofs.Steps.{raises}
use Rattle.published_words.proofs.words.PublishedWords.catch_up.Goals as goal

pub join_seat-requires : goal.join_seat-requires
join_seat-requires c =
    let of = ap (λ (w : Watching). w.of) c.watcher.view_is ∙ c.requires.watcher ∙ sym c.self.view_is in
    let from = ap (λ (p : Published). p.of) c.checkpoint.view_is ∙ c.requires.checkpoint ∙ sym c.self.view_is in
    let wide : 0 < c.self.inside.table.shared.table_id.words = omega (arith, c.self.invariant.2) in (
      ap (λ (w : Words). w.name) of,
      ap (λ (w : Words). w.name) from,
      c.checkpoint.invariant.1,
      wide,
      raises _ _ _ _ _ _ c.watcher.invariant.0 c.checkpoint.invariant.0,
    )
