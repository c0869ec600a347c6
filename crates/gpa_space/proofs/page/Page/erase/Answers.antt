use Rattle.std.proofs.Common.{◌≡◌, ℕ, replicate, vec_len, ap, ◌∙◌, arith}
use Rattle.gpa_space.proofs.page.Page.erase.Goals as goal

pub returns : goal.returns
returns c =
    let whole : vec_len c.self.inside.bytes ≡ 4096 = omega (arith, c.self.invariant, c.self.inside.bytes.ok) in
    c.fill.ensures.items (λ y e. e) ∙ ap (λ (n : ℕ). replicate n 0) whole
