use Rattle.std.proofs.Common.{◌≡◌, ◌++◌, ◌∷◌, [], OnOk, length, rules, codes}
use Rattle.std.proofs.lemmas.Result.{on_ok_weaker}
use Rattle.synic_board.specs.State.{processors}
use Rattle.text_lines.specs.Printing.{text_of}
use Rattle.text_image.specs.Image.{image, each_below, head_lines, lapic_lines, register_lines, guest_lines, own_lines, port_lines, timers_lines, queues_lines, slots_lines}
use Rattle.text_image.proofs.Rows.{sections}
use Rattle.text_image.proofs.image.put_image.Goals as goal

pub returns : goal.returns
unfolding image
returns g c =
    let s = c.args.board.now.state in
    let n = processors s in
    let last : OnOk c.put.result
    ((g.S.Sink.text c.put.new.self) ≡ (g.S.Sink.text c.put_slots.new.out) ++ text_of ((codes "end" ∷ []) ∷ [])) =
    search rules in
    on_ok_weaker c.put.result
    (λ h. sections (head_lines s) (each_below n (lapic_lines s)) (each_below n (register_lines s))
    (each_below (length s.pages) (guest_lines s))
    (each_below n (own_lines s)) (each_below (length s.ports) (port_lines s))
    (each_below n (timers_lines s)) (each_below n (queues_lines s)) (each_below n (slots_lines s))
    ((codes "end" ∷ []) ∷ [])
    (g.S.Sink.text c.args.out.now) (g.S.Sink.text c.put_head.new.out) (g.S.Sink.text c.put_lapics.new.out)
    (g.S.Sink.text c.put_registers.new.out) (g.S.Sink.text c.put_guest_pages.new.out)
    (g.S.Sink.text c.put_own_pages.new.out) (g.S.Sink.text c.put_ports.new.out)
    (g.S.Sink.text c.put_timers.new.out) (g.S.Sink.text c.put_queues.new.out) (g.S.Sink.text c.put_slots.new.out)
    (g.S.Sink.text c.put.new.self)
    c.in_ok-put_head.ensures c.in_ok-put_lapics.ensures c.in_ok-put_registers.ensures c.in_ok-put_guest_pages.ensures
    c.in_ok-put_own_pages.ensures c.in_ok-put_ports.ensures
    c.in_ok-put_timers.ensures c.in_ok-put_queues.ensures c.in_ok-put_slots.ensures h)
    last
