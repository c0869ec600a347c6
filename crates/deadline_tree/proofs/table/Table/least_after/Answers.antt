use Rattle.std.proofs.Common.{◌≡◌, ℕ, ◌+◌, ◌<◌, length, ap, sym, ◌∙◌, arith, get_or}
use Rattle.std.specs.Prelude.{Option, None, Some}
use Rattle.std.specs.Option.{option_map_or}
use Rattle.std.proofs.lemmas.List.{get_or-map, length-map}
use Rattle.board_terms.specs.Dues.{Dues, timer_of, earlier, least_below, if_later, later_than}
use Rattle.deadline_tree.specs.inside.Table.{tree_in, count, dues}
use Rattle.deadline_tree.proofs.Edits.{length-dues}
use Rattle.deadline_tree.proofs.Leasts.{least-none, least-more, least-is-found, least-is-none}
use Rattle.deadline_tree.proofs.table.Table.least_after.Goals as goal
use Rattle.deadline_tree.proofs.table.Table.least_after.Goals.{in-Some, in_default}

pub loop-at-init : goal.loop-at-init
loop-at-init c = sym (least-none (later_than c.args.moment (dues (tree_in c.args.self.now))))

pub loop-at-preserved : goal.loop-at-preserved
loop-at-preserved c =
    let m = later_than c.args.moment (dues (tree_in c.args.self.now)) in
    let n = c.loop-at.at in
    let within : n < length (dues (tree_in c.args.self.now)) = omega (arith, length-dues (tree_in c.args.self.now)) in
    let here : get_or m n None ≡ c.later.result =
    get_or-map (if_later c.args.moment) (dues (tree_in c.args.self.now)) n None None within ∙ sym c.later.ensures in
    let next = λ (o : Option ℕ). option_map_or (λ d. Some (earlier (least_below m n) (d, n))) o (least_below m n) in
    elim c.match-later.branch as
    (λ _. c.match-later.first
    ≡ least_below (later_than c.args.moment (dues (tree_in c.args.self.now))) (c.loop-at.at + 1)) [
      | in-Some w ↦
          w.first-is ∙ ap Some w.earlier.ensures
          ∙ ap (λ (o : Option (ℕ × ℕ)). Some (earlier o (w.in-Some.due, n))) c.loop-at.invariant
          ∙ sym (least-more m n ∙ ap next (here ∙ w.in-Some.is))
      | in_default w ↦ w.first-is ∙ c.loop-at.invariant ∙ sym (least-more m n ∙ ap next (here ∙ w.in_default.is))
    ]

-- all timers were looked at
all-seen : (m : Dues) (n : ℕ) (o : Option (ℕ × ℕ)) → n ≡ length m → o ≡ least_below m n → o ≡ least_below m (length m)
all-seen m n o e h = h ∙ ap (least_below m) e

pub unwrap-requires : goal.unwrap-requires
unwrap-requires c =
    let d = dues (tree_in c.args.self.now) in
    let m = later_than c.args.moment d in
    let many : length m ≡ count (tree_in c.args.self.now) =
    length-map d (if_later c.args.moment) ∙ length-dues (tree_in c.args.self.now) in
    let seen = all-seen m c.loop-at.at c.loop-at.first
    (omega (arith, many, c.requires.tree.bound)) c.loop-at.invariant in
    let low = (least-is-found m c.in-Some-first.due c.in-Some-first.number (sym c.in-Some-first.is ∙ seen)).0 in
    c.from_number.ensures.valid.1 (omega (arith, low, many, c.requires.tree.bound))

pub returns-in-Some-first : goal.returns-in-Some-first
returns-in-Some-first c =
    let d = dues (tree_in c.args.self.now) in
    let m = later_than c.args.moment d in
    let many : length m ≡ count (tree_in c.args.self.now) =
    length-map d (if_later c.args.moment) ∙ length-dues (tree_in c.args.self.now) in
    let seen = all-seen m c.loop-at.at c.loop-at.first
    (omega (arith, many, c.requires.tree.bound)) c.loop-at.invariant in
    let timer : c.unwrap.result ≡ timer_of c.in-Some-first.number =
    rw c.unwrap.ensures at c.from_number.ensures.value in
    (λ i. Some (c.in-Some-first.due, timer i))
    ∙ (least-is-found m c.in-Some-first.due c.in-Some-first.number (sym c.in-Some-first.is ∙ seen)).1

pub returns-in-None : goal.returns-in-None
returns-in-None c =
    let d = dues (tree_in c.args.self.now) in
    let m = later_than c.args.moment d in
    let many : length m ≡ count (tree_in c.args.self.now) =
    length-map d (if_later c.args.moment) ∙ length-dues (tree_in c.args.self.now) in
    let seen = all-seen m c.loop-at.at c.loop-at.first
    (omega (arith, many, c.requires.tree.bound)) c.loop-at.invariant in
    least-is-none m (sym c.in-None.is ∙ seen)
