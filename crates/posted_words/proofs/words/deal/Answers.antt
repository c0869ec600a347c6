use Rattle.std.proofs.Common.{ap, ◌∙◌, arith}
use Rattle.atomic_table.specs.Table.{Me}
use Rattle.posted_words.specs.declared.rule.View.{View}
use Rattle.posted_words.proofs.Seats.{deals}
use Rattle.posted_words.proofs.words.deal.Goals as goal

pub split_seat-requires : goal.split_seat-requires
split_seat-requires c =
    let i = c.loop.invariant in
    let r = c.requires in
    (i.0 ∙ r.own, r.some_word, deals _ _ _ (omega (arith, ap (λ (m : Me (Unit {0}) View). m.0.parts) i.1, r.enough)))
