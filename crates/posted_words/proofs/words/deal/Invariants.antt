use Rattle.std.proofs.Common.{◌≡◌, ◌-◌, [], ◌∷◌, replicate}
use Rattle.posted_words.specs.inside.Posted.{view_of}
use Rattle.posted_words.specs.Words.{token}
use Rattle.posted_words.proofs.words.deal.Given as goal

abbrev pub invariant-loop : goal.invariant-loop
invariant-loop l =
    (l.seat.table_id ≡ l.fn.seat.table_id) × (l.seat.me ≡ (view_of (l.fn.seat.me.0.parts - l.counter) ([] ∷ []), []))
    × (l.tokens.items ≡ replicate l.counter (token l.fn.seat.table_id []))
