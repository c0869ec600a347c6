use Rattle.std.proofs.Common.{rules, ◌≡◌, inl, inr, true, List, [], ◌++◌, sym, ap, subst}
use Rattle.board_terms.specs.declared.notices.Notice.{Notice}
use Rattle.synic_board.specs.State.{processors}
use Rattle.live_board.specs.Acting.{IsTickedPaid}
use Rattle.live_board.proofs.Paid.{none-paid}
use Rattle.live_board.proofs.live.LiveBoard.tick.Goals as goal

pub returns-then-tick_directly-clause-ticked : goal.returns-then-tick_directly-clause-ticked
returns-then-tick_directly-clause-ticked c =
    let yes : c.tick_directly.result ≡ true = search rules in
    record {
      mid = c.tick_directly.new.self;
      first = c.tick_directly.new.notices;
      last = [];
      ticked = c.tick_directly.ensures.done yes;
      paid = none-paid (processors c.args.self.now.board.state) c.tick_directly.new.self;
      joined = ap (λ (l : List Notice). c.tick_directly.new.notices ++ l) c.requires;
    }

pub returns-then-tick_directly-clause-one : goal.returns-then-tick_directly-clause-one
returns-then-tick_directly-clause-one c = inr c.requires

pub returns-clause-ticked : goal.returns-clause-ticked
returns-clause-ticked c =
    let no = c.tick_directly.ensures.left (search rules) in
    subst (λ (ns : List Notice). IsTickedPaid c.args.self.now c.args.moment c.tick_paid.new.self c.tick_paid.result.0
    c.tick_paid.result.1 ns) (ap (λ (l : List Notice). l ++ c.tick_paid.new.notices) (sym c.tick_paid.ensures.empty))
    (subst (λ m. IsTickedPaid m c.args.moment c.tick_paid.new.self c.tick_paid.result.0 c.tick_paid.result.1
    c.tick_paid.new.notices) no c.tick_paid.ensures.ticked)

pub returns-clause-one : goal.returns-clause-one
returns-clause-one c = inl c.tick_paid.ensures.empty
