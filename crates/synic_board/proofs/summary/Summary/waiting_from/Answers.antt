use Rattle.std.proofs.Common.{div-le_self, ◌/◌, ◌^◌, ◌<◌, get_or, sym, ap, ◌∙◌, subst, arith}
use Rattle.std.specs.Int.{w32}
use Rattle.synic_board.specs.Summaries.{StoredSummary}
use Rattle.synic_board.specs.inside.Waiting.{AreWaiting}
use Rattle.synic_board.proofs.Waiting.{none-waits, first-waits}
use Rattle.synic_board.proofs.Words.{next-bit}
use Rattle.synic_board.proofs.summary.Summary.waiting_from.Goals as goal

pub returns-then-left-eq0 : goal.returns-then-left-eq0
returns-then-left-eq0 c =
    let are = subst (λ q. AreWaiting q c.self.inside.waiting)
    (ap (λ (k : StoredSummary). k.values.queued) c.self.view_is) c.self.invariant in
    let word = c.from.ensures ∙ ap (λ p. get_or c.self.inside.waiting p 0) c.number.ensures.value in
    none-waits c.args.self.now.values.queued c.self.inside.waiting c.args.vp c.args.from are
    (omega (arith, c.number.ensures)) (sym c.if-left-eq0.true ∙ ap (λ w. w / 2 ^ c.args.from) word)

pub returns : goal.returns
returns c =
    let are = subst (λ q. AreWaiting q c.self.inside.waiting)
    (ap (λ (k : StoredSummary). k.values.queued) c.self.view_is) c.self.invariant in
    let word = c.from.ensures ∙ ap (λ p. get_or c.self.inside.waiting p 0) c.number.ensures.value in
    let left = ap (λ w. w / 2 ^ c.args.from) word in
    let small : get_or c.self.inside.waiting c.args.vp 0 < 2 ^ 32 = omega (arith, word, c.from.type_inv) in
    let next = next-bit w32 32 (get_or c.self.inside.waiting c.args.vp 0)
    (c.from.result / 2 ^ c.args.from) c.args.from small left (omega (arith, c.if-left-eq0.false))
    (omega (arith, c.from.type_inv, div-le_self c.from.result (2 ^ c.args.from))) in
    first-waits c.args.self.now.values.queued c.self.inside.waiting c.args.vp c.args.from _ c.new.result are
    (omega (arith, c.number.ensures)) next c.new.ensures.valid c.new.ensures.value
