use Rattle.std.proofs.Common.{◌≡◌, ◌+◌, ◌<◌, [], ◌++◌, map, vec_len, All}
use Rattle.posted_words.specs.Words.{IsOf, actions_of}
use Rattle.posted_words.proofs.words.join_all.Given as goal

abbrev pub invariant-loop-token : goal.invariant-loop-token
invariant-loop-token l =
    (l.seat.table_id ≡ l.fn.seat.table_id) × (l.seat.me.1 ≡ []) × (0 < l.seat.me.0.parts)
    × (l.seat.me.0.parts + vec_len l.tokens ≡ l.fn.seat.me.0.parts + vec_len l.fn.tokens)
    × (map actions_of l.tokens.items ++ l.seat.me.0.logs ≡ map actions_of l.fn.tokens.items ++ l.fn.seat.me.0.logs)
    × All (IsOf l.places.table_id) l.tokens.items

abbrev pub decreases-loop-token : goal.decreases-loop-token
decreases-loop-token l = goal.left-loop-token l
