use Rattle.std.proofs.Common.{sym, subst, ◌≡◌, true}
use Rattle.std.specs.Prelude.{IsTrue, ◌↔◌}
use Rattle.board_terms.specs.declared.messages.Message.{Message}
use Rattle.event_ports.specs.Ports.{is_posted_type}
use Rattle.synic_board.specs.Buffers.{IsHome}
use Rattle.synic_board.specs.Restoring.{IsWithinShare}
use Rattle.synic_board.proofs.draft.Draft.is_home.Goals as goal

pub returns-else-not-is_posted_type : goal.returns-else-not-is_posted_type
returns-else-not-is_posted_type c =
    let typed : is_posted_type c.in-FromPort.kind ≡ true = cc in
    let free = c.has_buffer_for.ensures in
    subst (λ (m : Message). IsTrue c.has_buffer_for.result ↔
    (IsHome c.args.self.now.ports c.args.vp c.args.sint m × IsWithinShare c.args.self.now m)) (sym c.in-FromPort.is)
    (λ yes. ((typed, (free.0 yes).0), (free.0 yes).1), λ home. free.1 (home.0.1, home.1))
