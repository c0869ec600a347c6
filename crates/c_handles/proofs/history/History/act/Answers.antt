use Rattle.std.proofs.Common.{List, [], ◌∷◌, ◌++◌, sym, ap, ◌∙◌}
use Rattle.synic_board.specs.State.{opened}
use Rattle.synic_board.specs.Effects.{Outcome}
use Rattle.synic_board.specs.declared.history.Entry.{Entry}
use Rattle.entry_log.specs.Log.{entry}
use Rattle.entry_log.proofs.Runs.{legal-push, leads-push}
use Rattle.c_handles.specs.Histories.{end_of}
use Rattle.c_handles.proofs.history.History.act.Goals as goal

pub invariant_of-self-2 : goal.invariant_of-self-2
invariant_of-self-2 c =
    let s = c.self.inside in
    let now = c.push.ensures
    ∙ ap (λ (es : List Entry). es ++ entry c.args.actor c.args.event.now c.perform-reply.result ∷ [])
    c.reserve.ensures.entries in (
      c.self.invariant.0,
      legal-push (opened s.processors s.pages s.first_ticket) c.args.board.now.board.state s.log.entries
          c.push.new.self.entries c.args.actor c.args.event.now
          c.perform-reply.result c.self.invariant.1 (c.requires ∙ sym (ap end_of c.self.view_is)) now
          (ap (λ (o : Outcome). o.1) c.perform-reply.ensures.performs.step),
    )

pub returns-clause-leads : goal.returns-clause-leads
returns-clause-leads c =
    let s = c.self.inside in
    let now = c.push.ensures
    ∙ ap (λ (es : List Entry). es ++ entry c.args.actor c.args.event.now c.perform-reply.result ∷ [])
    c.reserve.ensures.entries in
    leads-push (opened s.processors s.pages s.first_ticket) c.args.board.now.board.state
    c.perform-reply.new.self.board.state s.log.entries c.push.new.self.entries c.args.actor
    c.args.event.now c.perform-reply.result (c.requires ∙ sym (ap end_of c.self.view_is)) now
    (ap (λ (o : Outcome). o.0) c.perform-reply.ensures.performs.step)
