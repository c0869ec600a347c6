use Rattle.std.proofs.lemmas.Result.{on_ok_weaker}
use Rattle.board_terms.specs.declared.pages.Kind.TheVariants.{Sim, Sief}
use Rattle.text_image.specs.Image.{own_page_lines}
use Rattle.text_image.proofs.Rows.{both}
use Rattle.text_image.proofs.pages.put_own_pages_of.Goals as goal

pub returns : goal.returns
returns g c =
    let s = c.args.board.now.state in
    on_ok_weaker c.put_own_page-2.result
    (λ h. both (own_page_lines s c.args.vp Sim) (own_page_lines s c.args.vp Sief) (g.S.Sink.text c.args.out.now)
    (g.S.Sink.text c.put_own_page.new.out) (g.S.Sink.text c.put_own_page-2.new.out)
    c.in_ok-put_own_page.ensures h)
    c.put_own_page-2.ensures
