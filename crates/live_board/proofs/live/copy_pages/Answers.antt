use Rattle.std.proofs.Common.{rules, ◌≡◌, ◌+◌, ◌*◌, length, ap, arith}
use Rattle.board_terms.specs.declared.pages.Kind.TheVariants.{Sim, Sief}
use Rattle.gpa_space.specs.Space.{overlay_of}
use Rattle.synic_board.specs.State.{processors}
use Rattle.live_board.specs.inside.Parts.{IsCopied}
use Rattle.live_board.proofs.Named.{copied-pair, copied-shadows}
use Rattle.live_board.proofs.live.copy_pages.Goals as goal

pub loop-number-preserved : goal.loop-number-preserved
loop-number-preserved c =
    let same : c.in-Some.vp ≡ c.loop-number.number = search rules in
    let one : IsCopied c.args.board.now.state (overlay_of c.in-Some.vp Sim) c.loop-number.pages.items
    c.loop-number.guests.items c.push_page.new.pages.items c.push_page.new.guests.items = search rules in
    let two : IsCopied c.args.board.now.state (overlay_of c.in-Some.vp Sief) c.push_page.new.pages.items
    c.push_page.new.guests.items c.push_page-in-loop-number.new.pages.items
    c.push_page-in-loop-number.new.guests.items = search rules in
    copied-pair c.args.board.now.state c.loop-number.number _ _ _ _ _ _ _ _ c.loop-number.invariant
    (ap (λ n. 2 * n) same) (ap (λ n. 2 * n + 1) same) one two

pub returns-clause-pages : goal.returns-clause-pages
returns-clause-pages c =
    let end : c.loop-number.number ≡ processors c.args.board.now.state =
    omega (arith, c.loop-number.auto.number-end, c.loop-number-test.false, c.processors-number-end.ensures.count) in
    let all : 2 * c.loop-number.number ≡ length c.args.board.now.state.own =
    omega (arith, end, c.facts.ensures.shape.overlays) in
    copied-shadows c.args.board.now.state (2 * c.loop-number.number) _ _ c.loop-number.invariant all
    (omega (arith, end, c.requires))
