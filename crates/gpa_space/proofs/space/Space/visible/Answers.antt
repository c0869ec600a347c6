use Rattle.std.proofs.Common.{◌<◌, length, ap, ◌∙◌, arith}
use Rattle.gpa_space.specs.Space.{visible}
use Rattle.gpa_space.proofs.Visible.{lowest-visible}
use Rattle.gpa_space.proofs.space.Space.visible.Goals as goal

pub returns-clause-value : goal.returns-clause-value
returns-clause-value c =
    let words = c.self.inside.mapped.words.items in
    let within : c.args.page < length words =
    omega (arith, c.requires, ap (λ s. length s.pages) c.self.view_is, c.self.invariant.each) in
    lowest-visible c.self.inside.registers.items words c.args.page _ c.self.invariant.mapped within
    (c.self.invariant.dense (λ none. omega (arith, within, none, c.self.invariant.each))) c.first.ensures
    ∙ ap (λ s. visible s c.args.page) c.self.view_is
