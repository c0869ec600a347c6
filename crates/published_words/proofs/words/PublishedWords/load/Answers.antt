use Rattle.std.proofs.Common.{◌<◌, ◌*◌, ap, sym, subst, ◌∙◌, arith}
use Rattle.synic_board.specs.State.{State}
use Rattle.published_words.specs.Values.{word_count}
use Rattle.published_words.specs.Words.{Words, Watching}
use Rattle.published_words.proofs.Steps.{loads}
use Rattle.published_words.proofs.words.PublishedWords.load.Goals as goal

pub load-requires : goal.load-requires
load-requires c =
    let of = ap (λ (w : Watching). w.of) c.watcher.view_is ∙ c.requires.own ∙ sym c.self.view_is in
    let start = ap (λ (w : Words). w.start) c.self.view_is in
    let word = ap (λ (w : Watching). w.word) c.watcher.view_is in
    let there : c.from-word.result < word_count c.self.inside.table.shared.key.value.state =
    subst (λ (s : State). c.from-word.result < word_count s) (sym start)
    (omega (arith, c.requires.there, word, c.from-word.ensures)) in
    let wide : 8 * c.from-word.result < c.self.inside.table.shared.table_id.words =
    omega (arith, there, c.self.invariant.2) in (
      ap (λ (w : Words). w.name) of,
      wide,
      loads _ _ _ _ _ _ c.watcher.invariant.0 c.watcher.invariant.1 c.from-word.ensures there,
    )
