use Rattle.std.proofs.lemmas.Result.{on_ok_weaker}
use Rattle.text_history.specs.declared.format.Format.TheVariants.{Three}
use Rattle.text_history.proofs.PrintLemmas.{trace-parts}
use Rattle.text_history.proofs.print.put_trace_from_image.Goals as goal

pub returns-clause-written : goal.returns-clause-written
returns-clause-written c =
    on_ok_weaker c.put_rest.result
    (λ h. trace-parts Three c.args.image.now c.args.history.now c.args.next_ticket c.args.out.now.items _ _ _
    c.in_ok-put_title.ensures c.in_ok-extend_from_slice.ensures.items h)
    c.put_rest.ensures.written
