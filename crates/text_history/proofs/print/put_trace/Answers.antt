use Rattle.std.proofs.Common.{◌≡◌, ◌++◌, ℕ, List, OnOk, subst}
use Rattle.std.proofs.lemmas.Result.{on_ok_weaker}
use Rattle.text_history.specs.declared.format.Format.{Format}
use Rattle.text_history.specs.Trace.{board_text, trace_text}
use Rattle.text_history.proofs.PrintLemmas.{trace-parts, all-written}
use Rattle.text_history.proofs.print.put_trace.Goals as goal

pub returns-clause-written : goal.returns-clause-written
returns-clause-written c =
    let beginning : List ℕ = board_text c.args.processors c.args.pages c.args.first_ticket in
    let history = c.args.history.now in
    let next = c.args.next_ticket in
    subst (λ (f : Format). OnOk c.put_rest.result
    (c.put_rest.new.out.items
    ≡ c.args.out.now.items ++ trace_text f beginning history next)) c.format_for-format.ensures
    (on_ok_weaker c.put_rest.result
    (λ h. trace-parts c.format_for-format.result beginning history next c.args.out.now.items _ _ _
    c.in_ok-put_title.ensures c.in_ok-put_opening.ensures h)
    c.put_rest.ensures.written)

pub returns-clause-fits : goal.returns-clause-fits
returns-clause-fits c =
    on_ok_weaker c.put_rest.result (λ fits. all-written c.args.pages c.args.history.now fits) c.put_rest.ensures.fits
