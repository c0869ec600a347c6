use Rattle.std.proofs.Common.{◌≡◌, ℕ, ◌<◌, ◌≤◌, ◌+◌, List, [], ◌∷◌, ◌++◌, map, min, take, drop, length, ap, sym, ◌∙◌, arith, get_or}
use Rattle.std.specs.Prelude.{Some, slice_get}
use Rattle.std.specs.Option.{option_copied}
use Rattle.std.proofs.lemmas.List.{take_more, take_min, drop_more, drop_min, get_or-set_same, set-set, map_push}
use Rattle.board_terms.specs.declared.messages.Message.{Message}
use Rattle.board_terms.specs.Messages.{ticket_of}
use Rattle.board_terms.specs.Sources.{source_number}
use Rattle.message_queues.specs.Queues.{Queues, queue_of, with_queue, after_place}
use Rattle.message_queues.proofs.queues.Queues.withdraw_front.Goals as goal

-- one more message is removed
taken : (qs now : Queues) (p i k : ℕ) (m : Message) → source_number p i < length qs → k < length (queue_of qs p i)
    → now ≡ with_queue qs p i (drop k (queue_of qs p i)) →
    Some m ≡ slice_get (queue_of now p i) 0 →
    (after_place now p i ≡ with_queue qs p i (drop (k + 1) (queue_of qs p i)))
    × (take (k + 1) (queue_of qs p i) ≡ take k (queue_of qs p i) ++ m ∷ [])
taken qs now p i k m within less is head =
    let q : List Message = queue_of qs p i in
    let at : queue_of now p i ≡ drop k q =
    ap (λ (x : Queues). queue_of x p i) is ∙ get_or-set_same qs (source_number p i) (drop k q) [] within in
    let more : drop k q ≡ get_or q k m ∷ drop (k + 1) q = drop_more q k m less in
    let one : Some m ≡ Some (get_or q k m) = head ∙ ap (λ (x : List Message). slice_get x 0) (at ∙ more) in
    let same : get_or q k m ≡ m = cc in (
      ap (λ (x : List Message). with_queue now p i (drop 1 x)) (at ∙ more)
          ∙ ap (λ (x : Queues). with_queue x p i (drop (k + 1) q)) is
          ∙ set-set qs (source_number p i) (drop k q) (drop (k + 1) q),
      take_more q k m less ∙ ap (λ (x : Message). take k q ++ x ∷ []) same,
    )

pub loop-preserved : goal.loop-preserved
loop-preserved c =
    let step = taken c.args.self.now c.loop.self c.args.vp c.args.sint c.loop.counter c.unwrap.result.now c.requires
    (omega (arith, c.loop-test.true, c.count.ensures.value, c.min-count.ensures)) c.loop.invariant.rest
    (ap option_copied (sym c.unwrap.ensures) ∙ c.head.ensures) in
    record {
      tickets = c.push.ensures.items ∙ (λ i. c.loop.invariant.tickets i ++ c.ticket.ensures i ∷ [])
          ∙ sym (ap (map ticket_of) step.1
          ∙ map_push ticket_of (take c.loop.counter (queue_of c.args.self.now c.args.vp c.args.sint))
          c.unwrap.result.now);
      rest = c.drop_head.ensures.rest ∙ step.0;
    }

-- as many are removed as there are, or 320
counted : (counter count limit : ℕ) (q : List Message) → limit ≤ counter → counter ≤ limit → limit ≡ min count 320
    → count ≡ length q → counter ≡ min 320 (length q)
counted counter count limit q ended most is all = omega (arith, ended, most, is, all)

pub returns-clause-tickets : goal.returns-clause-tickets
returns-clause-tickets c =
    let q : List Message = queue_of c.args.self.now c.args.vp c.args.sint in
    let all = counted c.loop.counter c.count.result c.min-count.result q c.loop-test.false c.loop.auto.counter-end
    c.min-count.ensures c.count.ensures.value in
    c.loop.invariant.tickets ∙ ap (λ (k : ℕ). map ticket_of (take k q)) all ∙ ap (map ticket_of) (take_min 320 q)

pub returns-clause-rest : goal.returns-clause-rest
returns-clause-rest c =
    let q : List Message = queue_of c.args.self.now c.args.vp c.args.sint in
    let all = counted c.loop.counter c.count.result c.min-count.result q c.loop-test.false c.loop.auto.counter-end
    c.min-count.ensures c.count.ensures.value in
    c.loop.invariant.rest ∙ ap (λ (k : ℕ). with_queue c.args.self.now c.args.vp c.args.sint (drop k q)) all
    ∙ ap (with_queue c.args.self.now c.args.vp c.args.sint) (drop_min 320 q)
