use Rattle.std.proofs.Common.{◌<◌, length, length-set, map, ap, sym, ◌∙◌, arith}
use Rattle.std.proofs.lemmas.List.{get_or_default}
use Rattle.lapic_core.specs.Apic.{next}
use Rattle.synic_regs.specs.Regs.{Regs, reset_regs, auto_vectors}
use Rattle.board_terms.specs.Dues.{least}
use Rattle.stimer_bank.specs.Bank.{dues}
use Rattle.synic_board.specs.State.{BoardModel, processors}
use Rattle.synic_board.proofs.Overlays.{overlays-kept, summary_of-kept}
use Rattle.synic_board.proofs.machine.Machine.write_control.Goals as goal

pub invariant_of-self : goal.invariant_of-self
invariant_of-self c =
    let rs = c.self.inside.regs.items in
    let on = ap (λ (h : BoardModel). processors h.state) c.self.view_is in
    let within : c.number.result < length rs =
    omega (arith, c.self.invariant.registers, on, c.requires, c.number.ensures.value) in
    let was = c.index_mut.ensures.value ∙ get_or_default rs c.number.result c.index_mut.result.now reset_regs within in
    let now = c.write.ensures.after ∙ ap (λ (r : Regs). record r { control = c.args.value }) was in
    let sim = ap (λ (r : Regs). r.sim) now in
    let sief = ap (λ (r : Regs). r.sief) now in
    record {
      some_processor = c.self.invariant.some_processor;
      processor_bound = c.self.invariant.processor_bound;
      dense_bound = c.self.invariant.dense_bound;
      registers = length-set rs c.number.result c.write.new.self ∙ c.self.invariant.registers;
      page_count = c.self.invariant.page_count;
      page_bound = c.self.invariant.page_bound;
      two_overlays = c.self.invariant.two_overlays;
      overlays = c.self.invariant.overlays ∙ sym (overlays-kept rs c.number.result c.write.new.self within sim sief);
      ports = c.self.invariant.ports;
      port_count = c.self.invariant.port_count;
      queues = c.self.invariant.queues;
      slots = c.self.invariant.slots;
      timers = c.self.invariant.timers;
      summary = summary_of-kept c.self.inside.space.pages c.self.inside.space.own rs c.number.result c.write.new.self
          (map next c.self.inside.lapics.items)
          (map length c.self.inside.queues)
          (least (dues c.self.inside.timers)) c.self.inside.summary.values within sim sief
          (ap auto_vectors now) c.self.invariant.summary;
    }
