-- The cached lengths of the queues.
use Rattle.std.proofs.Common.{◌≡◌, ℕ, ◌<◌, List, [], map, length, sym, ap, ◌∙◌, get_or, set}
use Rattle.std.specs.Prelude.{Option}
use Rattle.std.proofs.lemmas.List.{get_or-set_same, map-set}
use Rattle.lapic_core.specs.Vectors.{Vectors}
use Rattle.board_terms.specs.declared.messages.Message.{Message}
use Rattle.board_terms.specs.declared.pages.Owner.{Owner}
use Rattle.message_queues.specs.Queues.{Queues}
use Rattle.synic_board.specs.Summaries.{Values}

-- the length of the one queue that changed is written
lengths-set : (qs now : Queues) (k n : ℕ) (q : List Message) → now ≡ set qs k q → k < length qs
    → n ≡ length (get_or now k []) → set (map length qs) k n ≡ map length now
lengths-set qs now k n q is h count =
    let e : n ≡ length q = count ∙ ap (λ xs. length (get_or xs k [])) is ∙ ap length (get_or-set_same qs k q [] h) in
    ap (set (map length qs) k) e ∙ sym (map-set length qs k q) ∙ ap (map length) (sym is)

pub summary_of-queued : (nexts : List (Option ℕ)) (autos : List Vectors) (owners : List Owner)
    (earliest : Option (ℕ × (ℕ × ℕ))) (qs now : Queues) (k n : ℕ)
    (q : List Message) (before after : Values) →
    now ≡ set qs k q → k < length qs → n ≡ length (get_or now k []) →
    before ≡ record { nexts = nexts; autos = autos; owners = owners; queued = map length qs; earliest = earliest }
    → after ≡ record before { queued = set before.queued k n } →
    after ≡ record { nexts = nexts; autos = autos; owners = owners; queued = map length now; earliest = earliest }
summary_of-queued nexts autos owners earliest qs now k n q before after is h count start written =
    written ∙ ap (λ (v : Values). record v { queued = set v.queued k n }) start
    ∙ ap (λ xs. record { nexts = nexts; autos = autos; owners = owners; queued = xs; earliest = earliest })
    (lengths-set qs now k n q is h count)
