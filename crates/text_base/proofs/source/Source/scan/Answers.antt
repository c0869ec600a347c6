use Rattle.std.proofs.Common.{◌+◌, ◌-◌, drop, length, refl, sym, ap, ◌∙◌, arith}
use Rattle.text_base.proofs.SourceLemmas.{near-line, near-all, near-long, take_short}
use Rattle.text_base.proofs.source.Source.scan.Goals as goal

pub returns-in-Some : goal.returns-in-Some
returns-in-Some c =
    let i = c.self.inside in
    let value = c.deref.ensures.value in
    let e = rw value at c.in-Some.ensures in
    let waiting = ap (λ h. h.waiting) c.self.view_is in
    let budget = ap (λ h. h.budget) c.self.view_is in
    let found = near-line i.bytes.items i.at i.end c.min.result c.self.invariant.2
    (rw value at c.min.ensures) c.in-Some.k e.0 e.1 e.2 in
    let bound = take_short (i.end - (i.at + (c.in-Some.k + 1))) (drop (i.at + (c.in-Some.k + 1)) i.bytes.items) in
    (sym waiting ∙ found.0, found.1, found.2, budget, omega (arith, bound, c.self.invariant.3))

pub returns-then-near-gt-LONGEST : goal.returns-then-near-gt-LONGEST
returns-then-near-gt-LONGEST c =
    let i = c.self.inside in
    let value = c.deref.ensures.value in
    let waiting = ap (λ h. h.waiting) c.self.view_is in
    let found = rw waiting at
    (near-long i.bytes.items i.at i.end c.min.result c.self.invariant.2 (rw value at c.min.ensures)
    (rw value at c.in_default.ensures) (rw value at c.if-near-gt-LONGEST.true)) in
    let bound = take_short (i.end - i.at) (drop i.at i.bytes.items) in
    (found.0, found.1, omega (arith, bound, ap length waiting, c.self.invariant.3), refl)

pub returns : goal.returns
returns c =
    let i = c.self.inside in
    let value = c.deref.ensures.value in
    let waiting = ap (λ h. h.waiting) c.self.view_is in
    let found = rw waiting at
    (near-all i.bytes.items i.at i.end c.min.result c.self.invariant.2 (rw value at c.min.ensures)
    (rw value at c.in_default.ensures) (rw value at c.if-near-gt-LONGEST.false)) in
    (found.0, found.1, refl)
