use Rattle.std.proofs.Common.{ap, ◌∙◌}
use Rattle.std.specs.Prelude.{Some, None}
use Rattle.gpa_space.specs.Space.{Space}
use Rattle.gpa_space.proofs.Next.{next-overlay}
use Rattle.gpa_space.proofs.space.Space.next_overlay.Goals as goal

pub returns-in-Some : goal.returns-in-Some
returns-in-Some c =
    let registers = c.as_slice.ensures.value ∙ ap (λ (s : Space). s.registers) c.self.view_is in
    let next = next-overlay c.args.self.now c.as_slice.result.now c.args.from c.page_count.result
    (Some c.in-Some.page) registers c.page_count.ensures
    (rw c.in-Some.is at c.least_page.ensures) in
    (next.0, next.1, c.owner.ensures, next.3)

pub returns-in-None : goal.returns-in-None
returns-in-None c =
    let registers = c.as_slice.ensures.value ∙ ap (λ (s : Space). s.registers) c.self.view_is in
    next-overlay c.args.self.now c.as_slice.result.now c.args.from c.page_count.result None registers
    c.page_count.ensures (rw c.in-None.is at c.least_page.ensures)
