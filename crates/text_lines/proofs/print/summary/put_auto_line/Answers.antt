use Rattle.std.proofs.Common.{slice_index_or, sym, ◌∙◌, ap, arith, ℕ, ◌≡◌, ◌++◌}
use Rattle.std.specs.FinSet as set
use Rattle.std.proofs.lemmas.Result.{on_ok_weaker}
use Rattle.text_lines.specs.Printing.{below}
use Rattle.text_lines.specs.inside.Autos.{is_some_vector, auto_text}
use Rattle.text_lines.proofs.SummaryLemmas.{auto-step, auto-ended, auto-absent}
use Rattle.text_lines.proofs.print.summary.put_auto_line.Goals as goal

pub loop-above-preserved : goal.loop-above-preserved
loop-above-preserved g c =
    let auto = slice_index_or c.args.summary.now.values.autos c.args.vp set.empty in
    auto-step c.args.vp c.loop-above.above auto c.loop-above.any _ (g.S.Sink.text c.args.out.now)
    (g.S.Sink.text c.loop-above.out) (g.S.Sink.text c.put_if_auto.new.out) c.loop-above.invariant.0
    c.loop-above.invariant.1 c.in_ok-any.ensures.begun c.in_ok-any.ensures.written

pub returns-then-not-any : goal.returns-then-not-any
returns-then-not-any g c =
    let auto = slice_index_or c.args.summary.now.values.autos c.args.vp set.empty in
    let all : c.loop-above.above ≡ 240 = omega arith in
    let before =
    c.loop-above.invariant.0 ∙ ap (λ (n : ℕ). g.S.Sink.text c.args.out.now ++ auto_text c.args.vp (below n auto)) all in
    let begun = sym c.if-not-any.true ∙ c.loop-above.invariant.1 ∙ ap (λ (n : ℕ). is_some_vector (below n auto)) all in
    auto-absent c.args.vp (below 240 auto) (g.S.Sink.text c.args.out.now) (g.S.Sink.text c.loop-above.out) before begun

pub returns : goal.returns
returns g c =
    let auto = slice_index_or c.args.summary.now.values.autos c.args.vp set.empty in
    let all : c.loop-above.above ≡ 240 = omega arith in
    let before =
    c.loop-above.invariant.0 ∙ ap (λ (n : ℕ). g.S.Sink.text c.args.out.now ++ auto_text c.args.vp (below n auto)) all in
    let begun = sym c.if-not-any.false ∙ c.loop-above.invariant.1 ∙ ap (λ (n : ℕ). is_some_vector (below n auto)) all in
    on_ok_weaker c.put.result (auto-ended c.args.vp (below 240 auto) (g.S.Sink.text c.args.out.now)
    (g.S.Sink.text c.loop-above.out) _ before begun) c.put.ensures
