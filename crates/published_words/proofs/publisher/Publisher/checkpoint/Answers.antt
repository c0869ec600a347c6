use Rattle.std.proofs.Common.{◌<◌, ap, sym, ◌∙◌, arith}
use Rattle.published_words.specs.Words.{Words, Published}
use Rattle.published_words.proofs.Steps.{marks}
use Rattle.published_words.proofs.publisher.Publisher.checkpoint.Goals as goal

pub split_seat-requires : goal.split_seat-requires
split_seat-requires c =
    let of = ap (λ (p : Published). p.of) c.self.view_is ∙ c.requires.own ∙ sym c.words.view_is in
    let wide : 0 < c.words.inside.table.shared.table_id.words = omega (arith, c.words.invariant.2) in
    (ap (λ (w : Words). w.name) of, wide, marks _ _ _ c.self.invariant.0)
