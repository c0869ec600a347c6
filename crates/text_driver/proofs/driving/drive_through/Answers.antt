use Rattle.std.proofs.Common.{◌≡◌, ◌∙◌, false, sym, true}
use Rattle.text_driver.proofs.Written.{all-written, part-written, within-limit}
use Rattle.text_driver.proofs.driving.drive_through.Goals as goal

true-false : true ≡ false → ⊥
true-false e = cc

pub returns-then-not-sent-clause-lines : goal.returns-then-not-sent-clause-lines
returns-then-not-sent-clause-lines g c =
    let opened = c.new-output.result in
    let put = c.take_lines.new.output in
    let holds = rw (c.take_lines.ensures.start, c.new-output.ensures.start) at c.end-writer.ensures.written in
    part-written _ _ put.text (rw c.new-output.ensures.text at c.take_lines.ensures.lines) _ holds

pub returns-then-not-sent-clause-limit : goal.returns-then-not-sent-clause-limit
returns-then-not-sent-clause-limit g c =
    within-limit c.take_lines.result c.take_lines.new.output _ _
    (λ written. true-false (sym (c.end-writer.ensures.whole written) ∙ c.if-not-sent.true))
    c.take_lines.ensures.written c.take_lines.ensures.limit

pub returns-clause-lines : goal.returns-clause-lines
returns-clause-lines g c =
    let put = c.take_lines.new.output in
    let holds = rw (c.take_lines.ensures.start, c.new-output.ensures.start, c.if-not-sent.false) at
    c.end-writer.ensures.written in
    all-written _ _ put.text (rw c.new-output.ensures.text at c.take_lines.ensures.lines) holds
