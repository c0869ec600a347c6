use Rattle.std.proofs.Common.{◌<◌, ap, sym, subst, ◌∙◌, arith}
use Rattle.atomic_table.specs.Table.{Me}
use Rattle.ghost_history.specs.declared.history.History.{History}
use Rattle.published_words.specs.declared.rule.View.{View}
use Rattle.published_words.specs.Words.{Words, Watching, Published}
use Rattle.published_words.specs.inside.Rule.{start_of, logs_of, HasValues, is_writer, is_reader, met, Compared}
use Rattle.published_words.proofs.Comparing.{copies, meets, finds, compared}
use Rattle.published_words.proofs.publisher.Publisher.compare.Goals as goal

pub split_seat-copy-requires : goal.split_seat-copy-requires
split_seat-copy-requires c =
    let of = ap (λ (w : Watching). w.of) c.watcher.view_is ∙ c.requires.watcher ∙ sym c.words.view_is in
    let wide : 0 < c.words.inside.table.shared.table_id.words = omega (arith, c.words.invariant.2) in
    (ap (λ (w : Words). w.name) of, wide, copies _ _ _ _ c.watcher.invariant.0)

pub join_seat-requires : goal.join_seat-requires
join_seat-requires c =
    let own = ap (λ (p : Published). p.of) c.self.view_is ∙ c.requires.own ∙ sym c.words.view_is in
    let of = ap (λ (w : Watching). w.of) c.watcher.view_is ∙ c.requires.watcher ∙ sym c.words.view_is in
    let wide : 0 < c.words.inside.table.shared.table_id.words = omega (arith, c.words.invariant.2) in
    let copy = c.split_seat-copy.ensures in
    let reader = ap (λ (m : Me History View). is_reader c.watcher.inside.word m.0) copy.4 ∙ c.watcher.invariant.0 in (
      ap (λ (w : Words). w.name) own,
      copy.3 ∙ ap (λ (w : Words). w.name) of,
      ap (λ (m : Me History View). m.1) copy.4,
      wide,
      meets _ _ _ _ _ _ c.self.invariant.0 reader,
    )

pub load-requires : goal.load-requires
load-requires c =
    let own = ap (λ (p : Published). p.of) c.self.view_is ∙ c.requires.own ∙ sym c.words.view_is in
    let wide : 0 < c.words.inside.table.shared.table_id.words = omega (arith, c.words.invariant.2) in
    let reader =
    ap (λ (m : Me History View). is_reader c.watcher.inside.word m.0) c.split_seat-copy.ensures.4
    ∙ c.watcher.invariant.0 in
    let v = c.self.inside.seat.me.0 in
    let w = c.split_seat-copy.result.me.0 in
    let met_them = c.join_seat.ensures in (
      met_them.0 ∙ ap (λ (w : Words). w.name) own,
      wide,
      finds _ _ _ _ v w _ c.self.invariant.0 reader (met_them.2 ∙ ap (λ l. (met v w, l)) c.self.invariant.1),
    )

pub invariant_of-self : goal.invariant_of-self
invariant_of-self c =
    let reader =
    ap (λ (m : Me History View). is_reader c.watcher.inside.word m.0) c.split_seat-copy.ensures.4
    ∙ c.watcher.invariant.0 in
    let after = c.load.new.seat.me.0 in
    let values = c.self.inside.values.items in
    let did = subst (λ (m : Me History View). Compared m.0 after) c.join_seat.ensures.2 c.load.ensures.2.0 in
    let is = compared _ _ _ after c.self.invariant.0 reader did in (
      ap is_writer is.same ∙ c.self.invariant.0,
      c.load.ensures.2.1 ∙ ap (λ (m : Me History View). m.1) c.join_seat.ensures.2 ∙ c.self.invariant.1,
      subst (λ (z : View). HasValues (start_of z) (logs_of z) values) (sym is.same) c.self.invariant.2,
    )
