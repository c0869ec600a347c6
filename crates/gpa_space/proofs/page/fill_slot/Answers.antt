use Rattle.std.proofs.Common.{drop, ℕ, List, ap}
use Rattle.gpa_space.proofs.Messages.{filled}
use Rattle.gpa_space.proofs.page.fill_slot.Goals as goal

pub returns-clause-after : goal.returns-clause-after
returns-clause-after c =
    let zeros = ap (λ (xs : List ℕ). drop 16 xs) c.assign.ensures.after in
    rw (c.fill.ensures.after, c.assign-2.ensures.after)
    (filled c.args.header.now c.args.payload.now _ zeros c.told-header c.requires.fits)
