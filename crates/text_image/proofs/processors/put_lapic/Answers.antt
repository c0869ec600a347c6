use Rattle.std.proofs.Common.{◌≡◌, ◌++◌, ◌∷◌, [], OnOk, codes, decimal, rules}
use Rattle.std.proofs.lemmas.Result.{on_ok_weaker}
use Rattle.text_base.specs.Numbers.{hex}
use Rattle.text_base.specs.Fields.{spaced}
use Rattle.lapic_core.specs.Vectors.{word_of}
use Rattle.synic_board.specs.State.{apic_of}
use Rattle.text_image.specs.Image.{words, status_word}
use Rattle.text_image.proofs.Rows.{lapic-row}
use Rattle.text_image.proofs.processors.put_lapic.Goals as goal

pub returns : goal.returns
returns g c =
    let p = c.args.vp in
    let a = apic_of c.args.board.now.state p in
    let number : (g.S.Sink.text c.put_decimal_field.new.out) ≡ (g.S.Sink.text c.put.new.self) ++ 32 ∷ decimal p =
    search rules in
    let requested : (g.S.Sink.text c.put_vectors.new.out)
    ≡ (g.S.Sink.text c.put_decimal_field.new.out) ++ 32 ∷ spaced (words a.requested) = search rules in
    let in_service : (g.S.Sink.text c.put_vectors-2.new.out)
    ≡ (g.S.Sink.text c.put_vectors.new.out) ++ 32 ∷ spaced (words a.in_service) = search rules in
    let priority : (g.S.Sink.text c.put_hex_field.new.out)
    ≡ (g.S.Sink.text c.put_vectors-2.new.out) ++ 32 ∷ hex a.task_priority = search rules in
    let status : OnOk c.put_status.result
    ((g.S.Sink.text c.put_status.new.out)
    ≡ (g.S.Sink.text c.put_hex_field.new.out) ++ 32 ∷ (status_word a.suspended ++ 10 ∷ [])) = search rules in
    on_ok_weaker c.put_status.result
    (λ h. lapic-row (g.S.Sink.text c.args.out.now) (codes "lapic") (decimal p) (hex (word_of a.requested 0))
    (hex (word_of a.requested 1)) (hex (word_of a.requested 2)) (hex (word_of a.requested 3))
    (hex (word_of a.in_service 0)) (hex (word_of a.in_service 1)) (hex (word_of a.in_service 2))
    (hex (word_of a.in_service 3)) (hex a.task_priority) (status_word a.suspended)
    _ _ _ _ _ _ c.in_ok-put.ensures.appended number requested in_service priority h)
    status
