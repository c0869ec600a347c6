use Rattle.std.proofs.Common.{rules, ap, ◌∙◌, Some}
use Rattle.std.proofs.lemmas.List.Elements.{All-pop}
use Rattle.atomic_table.specs.Table.{Me}
use Rattle.posted_words.specs.declared.rule.View.{View}
use Rattle.posted_words.specs.Words.{IsOf}
use Rattle.posted_words.proofs.Seats.{joins}
use Rattle.posted_words.proofs.words.join_all.Goals as goal

pub join_seat-requires : goal.join_seat-requires
join_seat-requires c =
    let i = c.loop-token.invariant in
    let own = All-pop (IsOf c.args.places.now.table_id) _ _ (Some c.in-Some.token) c.in-Some.ensures.items i.5 in (
      search rules,
      c.into_seat.ensures.own ∙ own.1,
      ap (λ (m : Me (Unit {0}) View). m.1) c.into_seat.ensures.alone,
      search rules,
      joins _ _ _ _ _ i.2,
    )
