use Rattle.std.proofs.Common.{◌<◌, ◌*◌, [], ap, sym, subst, ◌∙◌, arith}
use Rattle.synic_board.specs.State.{State}
use Rattle.published_words.specs.Values.{word_count}
use Rattle.published_words.specs.Words.{Words, words_of, watching, no_logs}
use Rattle.published_words.specs.inside.Rule.{seen_of}
use Rattle.published_words.proofs.Steps.{begins}
use Rattle.published_words.proofs.Told.{began}
use Rattle.published_words.proofs.words.PublishedWords.watch.Goals as goal

pub load_new_seat-seat-requires : goal.load_new_seat-seat-requires
load_new_seat-seat-requires c =
    let start = ap (λ (w : Words). w.start) c.self.view_is in
    let there : c.from.result < word_count c.self.inside.table.shared.key.value.state =
    subst (λ (s : State). c.from.result < word_count s) (sym start) (omega (arith, c.requires, c.from.ensures)) in
    let wide : 8 * c.from.result < c.self.inside.table.shared.table_id.words =
    omega (arith, there, c.self.invariant.2) in
    (wide, begins _ _ _ there)

pub invariant_of-result : goal.invariant_of-result
invariant_of-result c =
    let e = c.load_new_seat-seat.ensures in
    ((began _ (no_logs c.self.inside.table.shared.key.value.state) _ _ _ c.from.ensures e.2).reader, e.1)

pub returns : goal.returns
returns c =
    let e = c.load_new_seat-seat.ensures in
    let new = began _ (no_logs c.self.inside.table.shared.key.value.state) _ _ _ c.from.ensures e.2 in
    (λ i. watching (words_of (e.0 i) (new.start i)) c.args.word (seen_of c.load_new_seat-seat.result.1.me.0)
    (new.floor i))
    ∙ ap (λ (w : Words). watching w c.args.word (seen_of c.load_new_seat-seat.result.1.me.0) []) c.self.view_is
