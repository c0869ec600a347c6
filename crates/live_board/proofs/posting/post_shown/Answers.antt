use Rattle.std.proofs.Common.{rules, ◌≡◌, ◌≢◌, ◌++◌, sym, ap, ◌∙◌, subst, Some}
use Rattle.event_ports.specs.Ports.{port_at}
use Rattle.live_pages.specs.Words.{type_of}
use Rattle.synic_board.specs.State.{State, ports_of}
use Rattle.live_board.specs.inside.Parts.{IsFound}
use Rattle.live_board.proofs.Part.{made, part-kept, part-filled, left-type, header-bytes, looked-more}
use Rattle.live_board.proofs.Placed.{placed-filled, placed-none}
use Rattle.live_board.proofs.posting.post_shown.Goals as goal

pub post_into-requires-clause-like : goal.post_into-requires-clause-like
post_into-requires-clause-like c =
    let f = c.find_header-header.ensures.found in
    left-type c.args.board.now.state c.args.number c.args.kind c.args.port.now _ _ f.exact ∙ ap type_of (sym f.here)

pub returns-then-is_empty-clause-part : goal.returns-then-is_empty-clause-part
returns-then-is_empty-clause-part c =
    let mid : State = c.find_header-header.new.board.state in
    let f = c.find_header-header.ensures.found in
    let into = c.post_into.ensures.into in
    let there : port_at (ports_of mid) c.args.number ≡ Some c.args.port.now =
    ap (λ (t : State). port_at (ports_of t) c.args.number) f.watched.rest ∙ c.requires.open in
    let reached = c.facts.ensures.sound.whole.ports c.args.number c.args.port.now there in
    let bytes = header-bytes mid c.args.port.now.vp c.args.port.now.sint c.facts.ensures.shape c.facts.ensures.ranges
    reached.0 reached.1 in
    let m = made mid _ _ _ _ _ _ c.args.port.now into.step.step there c.facts.ensures.sound c.requires.fits bytes in
    let empty : type_of c.find_header-header.result.0 ≡ 0 = search rules in
    part-filled _ mid _ c.args.number c.args.kind c.args.port.now _ _ _ _ _ _ _ _ _ reached.1 f.watched
    (f.notices ∙ ap (λ ns. ns ++ f.emitted) c.requires.empty) f.others into m
    (λ _. left-type c.args.board.now.state c.args.number c.args.kind c.args.port.now _ _ f.exact ∙ empty)

pub returns-clause-part : goal.returns-clause-part
returns-clause-part c =
    let mid : State = c.find_header-header.new.board.state in
    let f = c.find_header-header.ensures.found in
    let one = c.perform_post.ensures in
    let there : port_at (ports_of mid) c.args.number ≡ Some c.args.port.now =
    ap (λ (t : State). port_at (ports_of t) c.args.number) f.watched.rest ∙ c.requires.open in
    let reached = c.facts.ensures.sound.whole.ports c.args.number c.args.port.now there in
    let bytes = header-bytes mid c.args.port.now.vp c.args.port.now.sint c.facts.ensures.shape c.facts.ensures.ranges
    reached.0 reached.1 in
    let m = made mid _ _ _ _ _ _ c.args.port.now one.step there c.facts.ensures.sound c.requires.fits bytes in
    let full : type_of c.find_header-header.result.0 ≢ 0 = search rules in
    let found = subst (λ ns.
    IsFound c.args.board.now.state c.args.number c.args.kind c.args.port.now c.args.page.now.log mid
    c.find_header-header.new.page.log c.find_header-header.result.0 c.find_header-header.result.1 ns
    c.find_header-header.new.notices) c.requires.empty f in
    part-kept _ mid _ c.args.number c.args.kind c.args.port.now _ _ _ _ _ _ _ _ reached.1 bytes found one m full

pub returns-then-is_empty-clause-looked : goal.returns-then-is_empty-clause-looked
returns-then-is_empty-clause-looked c =
    looked-more _ _ _ _ c.post_into.ensures.into.filled.news c.post_into.ensures.into.filled.page
    c.find_header-header.ensures.found.looked

pub returns-clause-looked : goal.returns-clause-looked
returns-clause-looked c = c.find_header-header.ensures.found.looked

pub returns-then-is_empty-clause-placed : goal.returns-then-is_empty-clause-placed
returns-then-is_empty-clause-placed c =
    placed-filled c.post_into.new.board.state c.args.port.now.vp c.args.port.now.sint _ _ _ _ _ _
    c.find_header-header.ensures.found.reads c.find_header-header.ensures.found.watched.page
    c.post_into.ensures.into.are c.post_into.ensures.into.filled

pub returns-clause-placed : goal.returns-clause-placed
returns-clause-placed c =
    placed-none c.perform_post.new.board.state c.args.port.now.vp c.args.port.now.sint _ _ _
    c.find_header-header.ensures.found.reads c.find_header-header.ensures.found.watched.page
