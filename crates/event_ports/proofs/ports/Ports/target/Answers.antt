use Rattle.std.proofs.Common.{◌≡◌, ◌∙◌, ap, sym, arith, slice_index_or}
use Rattle.std.specs.Prelude.{None, Some}
use Rattle.event_ports.specs.Ports.{Ports}
use Rattle.event_ports.proofs.ports.Ports.target.Goals as goal

pub returns-in-Some-Some-clause-on_the_board : goal.returns-in-Some-Some-clause-on_the_board
returns-in-Some-Some-clause-on_the_board c =
    let here : slice_index_or c.self.inside.ports.items c.args.port None ≡ Some c.in-Some-Some.target =
    rw (← c.deref.ensures.value) (sym (c.in-Some-Some.ensures.lookup.3.1 None) ∙ c.in-Some-Some.field-0-is) in
    let on_the_board = c.self.invariant.on_the_board c.args.port c.in-Some-Some.target here in
    let same = ap (λ (s : Ports). s.processors) c.self.view_is in
    omega arith
