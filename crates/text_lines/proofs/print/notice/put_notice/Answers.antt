use Rattle.text_lines.proofs.print.notice.put_notice.Goals as goal

pub returns-in-Requested : goal.returns-in-Requested
returns-in-Requested g c = rw (c.in-Requested.is, ← c.number.ensures.value) c.put_request.ensures

pub returns-in-Withdrawn : goal.returns-in-Withdrawn
returns-in-Withdrawn g c = rw c.in-Withdrawn.is c.put_message-in-Withdrawn.ensures
