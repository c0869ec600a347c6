use Rattle.std.proofs.Common.{◌≡◌, ℕ, ◌<◌, ◌*◌, length, set, refl, ap, sym, subst, ◌∙◌, arith}
use Rattle.std.proofs.lemmas.List.{get_or_default}
use mathlib.Core.List.{IsPrefix}
use Rattle.atomic_table.specs.Table.{Me}
use Rattle.ghost_history.specs.declared.history.History.{History}
use Rattle.synic_board.specs.State.{State}
use Rattle.published_words.specs.declared.rule.View.{View}
use Rattle.published_words.specs.Values.{word_count}
use Rattle.published_words.specs.Words.{Words, Published, Logs, words_of, log_at}
use Rattle.published_words.specs.inside.Rule.{IsRight, start_of, logs_of, HasValues, IsStoredAt}
use Rattle.published_words.proofs.Stores.{stores}
use Rattle.published_words.proofs.Told.{wrote, values-stored, stored-at}
use Rattle.published_words.proofs.publisher.Publisher.store.Goals as goal

pub compare_exchange_with-requires : goal.compare_exchange_with-requires
compare_exchange_with-requires c =
    let of = ap (λ (p : Published). p.of) c.self.view_is ∙ c.requires.own ∙ sym c.words.view_is in
    let start = ap (λ (w : Words). w.start) of in
    let k = c.words.inside.table.shared.key.value.state in
    let i = c.from-index.result in
    let here : k ≡ c.args.words.now.start = ap (λ (w : Words). w.start) c.words.view_is in
    let there : i < word_count k =
    subst (λ (s : State). i < word_count s) (sym here) (omega (arith, c.requires.there, c.from-index.ensures)) in
    let wide : 8 * i < c.words.inside.table.shared.table_id.words = omega (arith, there, c.words.invariant.2) in
    let has : HasValues k (logs_of c.self.inside.seat.me.0) c.self.inside.values.items =
    subst (λ s. HasValues s (logs_of c.self.inside.seat.me.0) c.self.inside.values.items) start
    c.self.invariant.2 in
    let later = subst (λ (z : Logs × ℕ). IsPrefix (log_at z.0 z.1) c.args.history.now.entries)
    (λ j. (ap (λ (p : Published). p.logs) (sym c.self.view_is) j, sym c.from-index.ensures j)) c.requires.later in
    let right = subst (λ (z : State × ℕ). IsRight z.0 z.1 c.args.history.now.entries c.args.value)
    (λ j. (sym here j, sym c.from-index.ensures j)) c.requires.right in
    let inside : i < length c.self.inside.values.items = subst (λ n. i < n) (sym has.lengths) there in
    let was = c.index-old.ensures ∙ get_or_default c.self.inside.values.items i c.index-old.result.now 0 inside
    ∙ has.each i there in (
      ap (λ (w : Words). w.name) of,
      wide,
      stores _ _ _ _ _ _ _ _ c.self.invariant.0 c.self.invariant.1 there later right was,
    )

pub invariant_of-self : goal.invariant_of-self
invariant_of-self c =
    let me = c.self.inside.seat.me in
    let i = c.from-index.result in
    let from : start_of me.0 ≡ c.args.words.now.start =
    ap (λ (p : Published). p.of.start) c.self.view_is ∙ ap (λ (w : Words). w.start) c.requires.own in
    let told = c.compare_exchange_with.ensures.2 i c.args.history.now refl refl in
    let w = wrote i c.args.history.now.entries me.0 c.compare_exchange_with.new.seat.me.0 c.self.invariant.0
    (ap (λ (m : Me History View). m.0) told) in
    let there : i < word_count (start_of me.0) =
    subst (λ (s : State). i < word_count s) (sym from) (omega (arith, c.requires.there, c.from-index.ensures)) in
    let right = subst (λ (z : State × ℕ). IsRight z.0 z.1 c.args.history.now.entries c.args.value)
    (λ j. (sym from j, sym c.from-index.ensures j)) c.requires.right in
    let has = values-stored (start_of me.0)
    (logs_of me.0) c.self.inside.values.items i c.args.value c.args.history.now.entries c.self.invariant.2 there
    right in (
      w.writer,
      ap (λ (m : Me History View). m.1) told ∙ c.self.invariant.1,
      subst (λ (z : State × Logs). HasValues z.0 z.1 (set c.self.inside.values.items i c.args.value))
          (λ j. (sym w.start j, sym w.logs j)) has,
    )

pub returns-then-old-value-clause-own : goal.returns-then-old-value-clause-own
returns-then-old-value-clause-own c =
    let me = c.self.inside.seat.me in
    let told = c.compare_exchange_with.ensures.2 c.from-index.result c.args.history.now refl refl in
    let w = wrote c.from-index.result c.args.history.now.entries me.0 c.compare_exchange_with.new.seat.me.0
    c.self.invariant.0 (ap (λ (m : Me History View). m.0) told) in
    (λ j. words_of (c.compare_exchange_with.ensures.0 j) (w.start j)) ∙ ap (λ (p : Published). p.of) c.self.view_is

pub returns-then-old-value-clause-stored : goal.returns-then-old-value-clause-stored
returns-then-old-value-clause-stored c =
    let me = c.self.inside.seat.me in
    let i = c.from-index.result in
    let h = c.args.history.now.entries in
    let from : start_of me.0 ≡ c.args.words.now.start =
    ap (λ (p : Published). p.of.start) c.self.view_is ∙ ap (λ (w : Words). w.start) c.requires.own in
    let told = c.compare_exchange_with.ensures.2 i c.args.history.now refl refl in
    let w = wrote i h me.0 c.compare_exchange_with.new.seat.me.0 c.self.invariant.0
    (ap (λ (m : Me History View). m.0) told) in
    let has = c.self.invariant.2 in
    let there : i < word_count (start_of me.0) =
    subst (λ (s : State). i < word_count s) (sym from) (omega (arith, c.requires.there, c.from-index.ensures)) in
    let inside : i < length c.self.inside.values.items = subst (λ n. i < n) (sym has.lengths) there in
    let logs : i < length (logs_of me.0) = subst (λ n. i < n) (sym has.count) there in
    let was = c.index-old.ensures ∙ get_or_default c.self.inside.values.items i c.index-old.result.now 0 inside
    ∙ has.each i there in
    let right = subst (λ (z : State × ℕ). IsRight z.0 z.1 h c.args.value)
    (λ j. (sym from j, sym c.from-index.ensures j)) c.requires.right in
    let at = stored-at (start_of me.0) i c.index-old.result.now c.args.value h
    (logs_of me.0) logs was right.is c.if-old-value.true in
    let moved : IsStoredAt c.args.words.now.start c.args.word h (logs_of me.0)
    (logs_of c.compare_exchange_with.new.seat.me.0)
    = subst (λ (z : State × (ℕ × Logs)). IsStoredAt z.0 z.1.0 h (logs_of me.0) z.1.1)
    (λ j. (from j, (c.from-index.ensures j, sym w.logs j))) at in
    subst (λ l. IsStoredAt c.args.words.now.start c.args.word h l (logs_of c.compare_exchange_with.new.seat.me.0))
    (ap (λ (p : Published). p.logs) c.self.view_is) moved
