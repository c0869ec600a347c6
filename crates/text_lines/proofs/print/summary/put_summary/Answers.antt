use Rattle.std.proofs.Common.{ap, ◌≡◌, ◌++◌, ◌∙◌, Option, ℕ}
use Rattle.text_base.specs.Fields.{line_of}
use Rattle.text_lines.specs.Printing.{text_of, numbered, queue_lines, timer_line, summary_lines}
use Rattle.std.proofs.lemmas.Result.{on_ok_weaker}
use Rattle.text_lines.proofs.SummaryLemmas.{parts}
use Rattle.text_lines.proofs.print.summary.put_summary.Goals as goal

pub returns : goal.returns
returns g c =
    let values = c.args.summary.now.values in
    let timer = c.in_ok-put_earliest.ensures
    ∙ ap (λ (earliest : Option (ℕ × (ℕ × ℕ))). g.S.Sink.text c.put_autos.new.out ++ line_of (timer_line earliest))
    c.earliest.ensures in
    let last : (g.S.Sink.text c.put_queues.new.out)
    ≡ g.S.Sink.text c.put_pages.new.out ++ text_of (numbered queue_lines 0 values.queued) →
    g.S.Sink.text c.put_queues.new.out ≡ g.S.Sink.text c.args.out.now ++ text_of (summary_lines values) =
    parts values (g.S.Sink.text c.args.out.now) (g.S.Sink.text c.put_nexts.new.out)
    (g.S.Sink.text c.put_autos.new.out) (g.S.Sink.text c.put_earliest.new.out) (g.S.Sink.text c.put_pages.new.out)
    (g.S.Sink.text c.put_queues.new.out) c.in_ok-put_nexts.ensures c.in_ok-put_autos.ensures timer
    c.in_ok-put_pages.ensures in
    on_ok_weaker c.put_queues.result last c.put_queues.ensures
