use Rattle.std.proofs.Common.{◌/◌, ◌<◌, length, slice_set, ap, sym, ◌∙◌, arith, map, length-set, slice_index_or, get_or}
use Rattle.std.proofs.lemmas.List.{get_or_default}
use Rattle.lapic_core.specs.Apic.{next}
use Rattle.synic_regs.specs.Regs.{Regs, reset_regs, stores, after_write, value_of, auto_vectors}
use Rattle.gpa_space.specs.Space.{Space, overlay_of}
use Rattle.board_terms.specs.Dues.{least}
use Rattle.stimer_bank.specs.Bank.{dues}
use Rattle.synic_board.specs.State.{BoardModel, processors, space_of}
use Rattle.synic_board.specs.Restoring.{overlay_register}
use Rattle.synic_board.specs.inside.View.{state_of}
use Rattle.synic_board.specs.Summaries.{Values}
use Rattle.synic_board.proofs.Overlays.{length-owners, length-looked_up, overlay-read, overlay-stores, overlay-auto, overlay-tied, summary_of-moved}
use Rattle.synic_board.proofs.machine.Machine.write_overlay.Goals as goal

pub look_up-requires-clause-owners : goal.look_up-requires-clause-owners
look_up-requires-clause-owners c =
    ap (λ (v : Values). length v.owners) c.self.invariant.summary ∙ length-owners (space_of (state_of c.self.inside))
    ∙ sym (ap (λ (s : Space). length s.pages) c.set_overlay.ensures)

pub look_up-requires-2-clause-owners : goal.look_up-requires-2-clause-owners
look_up-requires-2-clause-owners c =
    ap (λ (v : Values). length v.owners) c.look_up.ensures.values
    ∙ length-looked_up c.set_overlay.new.self c.self.inside.summary.values.owners (c.read-before.result / 4096)
    ∙ ap (λ (v : Values). length v.owners) c.self.invariant.summary
    ∙ length-owners (space_of (state_of c.self.inside))
    ∙ sym (ap (λ (s : Space). length s.pages) c.set_overlay.ensures)

pub invariant_of-self : goal.invariant_of-self
invariant_of-self c =
    let rs = c.self.inside.regs.items in
    let on = ap (λ (h : BoardModel). processors h.state) c.self.view_is in
    let same = c.number.ensures.value in
    let within : c.number.result < length rs = omega (arith, c.self.invariant.registers, on, c.requires, same) in
    let was = c.index_mut-regs.ensures.value
    ∙ get_or_default rs c.number.result c.index_mut-regs.result.now reset_regs within in
    let moved = c.set_overlay.ensures
    ∙ ap (λ p.
    record c.self.inside.space {
      registers = slice_set c.self.inside.space.registers
          (overlay_of p c.args.kind) c.args.value;
    }) (sym same) in
    let now = c.write.ensures.after
    ∙ ap (λ r. after_write c.index_mut-regs.result.now r c.args.value) c.overlay_register-2.ensures in
    let tied = overlay-tied c.self.inside.space c.set_overlay.new.self rs c.number.result c.args.value c.args.kind
    c.index_mut-regs.result.now c.write.new.self within
    c.self.invariant.overlays was now moved in
    record {
      some_processor = c.self.invariant.some_processor;
      processor_bound = c.self.invariant.processor_bound;
      dense_bound = c.self.invariant.dense_bound;
      registers = length-set rs c.number.result c.write.new.self ∙ c.self.invariant.registers;
      page_count = c.self.invariant.page_count ∙ sym (ap (λ (s : Space). length s.pages) c.set_overlay.ensures);
      page_bound = c.self.invariant.page_bound;
      two_overlays =
          ap (λ (s : Space). length s.registers) moved
          ∙ length-set c.self.inside.space.registers (overlay_of c.number.result c.args.kind) c.args.value
          ∙ c.self.invariant.two_overlays;
      overlays = tied;
      ports = c.self.invariant.ports;
      port_count = c.self.invariant.port_count;
      queues = c.self.invariant.queues;
      slots = c.self.invariant.slots;
      timers = c.self.invariant.timers;
      summary = summary_of-moved c.self.inside.space c.set_overlay.new.self rs c.number.result
          (overlay_of c.number.result c.args.kind) c.read-before.result c.args.value c.write.new.self
          (map next c.self.inside.lapics.items) (map length c.self.inside.queues)
          (least (dues c.self.inside.timers))
          c.self.inside.summary.values c.look_up.new.summary.values c.look_up-2.new.summary.values
          c.self.invariant.overlays moved
          (ap (λ rs. slice_index_or rs (overlay_of c.number.result c.args.kind) 0) c.self.invariant.overlays
          ∙ overlay-read rs c.number.result c.args.kind within
          ∙ sym (c.read-before.ensures ∙ (λ i. value_of (was i) (c.overlay_register.ensures i))))
          tied (ap auto_vectors (now ∙ ap (λ (r : Regs). after_write r (overlay_register c.args.kind) c.args.value) was)
          ∙ overlay-auto (get_or rs c.number.result reset_regs) c.args.kind
          c.args.value) c.self.invariant.summary c.look_up.ensures.values c.look_up-2.ensures.values;
    }

pub read-before-requires : goal.read-before-requires
read-before-requires c = ap stores c.overlay_register.ensures ∙ overlay-stores c.args.kind

pub write-requires : goal.write-requires
write-requires c = ap stores c.overlay_register-2.ensures ∙ overlay-stores c.args.kind
