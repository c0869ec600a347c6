use Rattle.std.proofs.Common.{List, ◌<◌, ◌^◌, Some, subst, arith, ◌∙◌}
use Rattle.std.specs.List.{All}
use Rattle.synic_board.specs.declared.history.Entry.{Entry}
use Rattle.text_history.specs.Trace.{IsEntry, format_for, board_text}
use Rattle.text_history.proofs.BeginningLemmas.{line-begins, trace-is}
use Rattle.c_handles.specs.Histories.{start_of}
use Rattle.c_terms.proofs.history.trace_of.Goals as goal

pub returns-clause-legal : goal.returns-clause-legal
returns-clause-legal c =
    let h = c.args.history.now in
    let e = c.in_ok-entries.ensures in
    let given : h.first_ticket < 2 ^ 64 = omega (arith, c.first_ticket.type_inv, c.first_ticket.ensures) in
    let format = format_for (Some h.pages) h.entries in
    trace-is format (board_text h.processors (Some h.pages) h.first_ticket) (start_of h) h.entries
    (line-begins h.processors (Some h.pages) h.first_ticket h.entries e.sizes given)
    (subst (λ (entries : List Entry). All (IsEntry (format_for (Some h.pages) entries)) entries)
    (c.as_slice.ensures.value ∙ e.entries) c.in_ok-put_trace.ensures.fits) e.legal
