use Rattle.std.proofs.Common.{ap, ◌∙◌}
use Rattle.synic_board.specs.Effects.{Outcome}
use Rattle.entry_log.proofs.Runs.{legal-push, leads-push}
use Rattle.board_threads.proofs.Counts.{count-kept}
use Rattle.board_threads.proofs.recorded.Recorded.perform.Goals as goal

pub invariant_of-self : goal.invariant_of-self
invariant_of-self g c =
    let s = c.args.self.now in
    let start = g.S.Origin.start in
    let next = c.perform-reply.new.self.state in
    let event = c.args.event.now in
    let reply = c.perform-reply.result in
    let is = c.perform-reply.ensures.performs.step in
    let now = c.push.ensures in
    record {
      legal = legal-push start s.board.state s.history.entries c.push.new.self.entries c.args.actor event reply
          s.legal s.leads now (ap (λ (o : Outcome). o.1) is);
      leads = leads-push start s.board.state next s.history.entries c.push.new.self.entries c.args.actor event reply
          s.leads now (ap (λ (o : Outcome). o.0) is);
      count = count-kept s.board.state next event reply c.perform-reply.new.notices c.fits.ensures
          c.facts.ensures.sound is ∙ s.count;
    }
