use Rattle.std.proofs.Common.{◌≡◌, sym, ap, subst, ◌∙◌}
use Rattle.ghost_history.specs.Rows.{Answer, answer, IsExtended}
use Rattle.shared_board.specs.Calling.{Calling}
use Rattle.shared_board.specs.Witnessed.{witnessed, with_entry}
use Rattle.shared_board.proofs.Runs.{performs, finds}
use Rattle.shared_board.proofs.locked.LockedBoard.perform.Goals as goal

pub invariant_of-self : goal.invariant_of-self
invariant_of-self g c =
    let s = c.self.inside in
    let number = c.actor.inside.number in
    let event = c.args.event.now in
    let reply = c.perform-reply.result in
    let named : c.number.result ≡ number =
    c.number.ensures ∙ sym (ap (λ (a : Calling). a.number) c.actor.view_is) in
    let more : c.with.result.entries ≡ with_entry s.history.entries number event reply =
    c.with.ensures ∙ ap (λ n. with_entry s.history.entries n event reply) named in
    let told : answer c.of.result.value c.of-2.result.value c.of-3.result.value
    ≡ answer event reply c.perform-reply.new.notices =
    λ i. answer (c.of.ensures i) (c.of-2.ensures i) (c.of-3.ensures i) in (
      c.extend.ensures.names.0 ∙ c.self.invariant.0,
      performs g.S.Sharing.start s.board c.perform-reply.new.self s.history.entries c.with.result.entries
          s.actors number event reply c.perform-reply.new.notices
          s.roster.rows c.extend.new.self.rows c.actor.inside.part.row c.extend.new.part.row
          c.self.invariant.1 c.fits.ensures c.facts.ensures.sound
          c.perform-reply.ensures.performs more c.actor.invariant.1
          (subst (λ (x : Answer). IsExtended s.roster.rows c.actor.inside.part.row x c.extend.new.self.rows
          c.extend.new.part.row) told c.extend.ensures.rows),
    )

pub returns-clause-own : goal.returns-clause-own
returns-clause-own g c =
    let s = c.self.inside in
    finds g.S.Sharing.start (witnessed s.board s.history.entries s.actors) c.args.self.now s.roster.rows
    c.actor.inside.part.row c.actor.inside.number c.args.actor.now c.self.invariant.1
    (c.extend.ensures.rows.1, c.extend.ensures.rows.2) c.actor.invariant.1 c.self.view_is c.actor.view_is
