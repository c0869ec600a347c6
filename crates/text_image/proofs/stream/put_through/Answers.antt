use Rattle.std.proofs.Common.{◌++◌, List, ℕ, not, ap, subst, ◌∙◌}
use Rattle.std.specs.Prelude.{Option}
use Rattle.text_base.specs.Outputs.{Holds}
use Rattle.text_base.proofs.OutputLemmas.{framed-same, framed-more}
use Rattle.text_image.specs.Image.{image}
use Rattle.text_image.proofs.stream.put_through.Goals as goal

pub returns : goal.returns
returns g c =
    let text = image c.args.board.now.state in
    let opened = c.new-output.result in
    let put = c.put_image.new.out in
    let is = c.new-output.ensures in
    let same = framed-same put.name opened.name put.start opened.start put.text (opened.text ++ text)
    (c.in-Ok.ensures {u = tt} ∙ framed-more opened.name opened.start opened.text text) in
    let now : Option (List ℕ) = g.W.Write.contents c.finish-writer.result.0.now in
    let failed = not c.finish-writer.result.1 in
    record {
      name = c.finish-writer.ensures.name ∙ same.name ∙ is.name;
      written = subst (λ (t : List ℕ). Holds (g.W.Write.contents c.args.writer.now) now t failed)
          (same.text ∙ ap (λ (t : List ℕ). t ++ text) is.text)
          (subst (λ (s : Option (List ℕ)). Holds s now put.text failed)
          (same.start ∙ is.start) c.finish-writer.ensures.written);
    }
