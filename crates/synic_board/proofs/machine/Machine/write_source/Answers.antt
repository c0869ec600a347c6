use Rattle.std.proofs.Common.{◌<◌, length, length-set, map, ap, sym, ◌∙◌, arith}
use Rattle.std.proofs.lemmas.List.{get_or_default}
use Rattle.lapic_core.specs.Apic.{next}
use Rattle.synic_regs.specs.Regs.{Regs, reset_regs}
use Rattle.board_terms.specs.Dues.{least}
use Rattle.stimer_bank.specs.Bank.{dues}
use Rattle.synic_board.specs.State.{BoardModel, processors}
use Rattle.synic_board.specs.Summaries.{StoredSummary}
use Rattle.synic_board.proofs.Overlays.{overlays-kept, summary_of-source, source-sim, source-sief}
use Rattle.synic_board.proofs.machine.Machine.write_source.Goals as goal

pub invariant_of-self-2 : goal.invariant_of-self-2
invariant_of-self-2 c =
    let rs = c.self.inside.regs.items in
    let on = ap (λ (h : BoardModel). processors h.state) c.self.view_is in
    let within : c.number.result < length rs =
    omega (arith, c.self.invariant.registers, on, c.requires, c.number.ensures.value) in
    let was = c.index_mut-regs.ensures.value
    ∙ get_or_default rs c.number.result c.index_mut-regs.result.now reset_regs within in
    let sim = ap (λ (r : Regs). r.sim) c.write.ensures.after
    ∙ source-sim c.index_mut-regs.result.now c.args.sint c.args.value ∙ ap (λ (r : Regs). r.sim) was in
    let sief = ap (λ (r : Regs). r.sief) c.write.ensures.after
    ∙ source-sief c.index_mut-regs.result.now c.args.sint c.args.value ∙ ap (λ (r : Regs). r.sief) was in
    record {
      some_processor = c.self.invariant.some_processor;
      processor_bound = c.self.invariant.processor_bound;
      dense_bound = c.self.invariant.dense_bound;
      registers = length-set rs c.number.result c.write.new.self ∙ c.self.invariant.registers;
      page_count = c.self.invariant.page_count;
      page_bound = c.self.invariant.page_bound;
      two_overlays = c.self.invariant.two_overlays;
      overlays = c.self.invariant.overlays ∙ sym (overlays-kept rs c.number.result c.write.new.self within sim sief);
      ports = c.self.invariant.ports;
      port_count = c.self.invariant.port_count;
      queues = c.self.invariant.queues;
      slots = c.self.invariant.slots;
      timers = c.self.invariant.timers;
      summary = summary_of-source c.self.inside.space.pages c.self.inside.space.own rs c.number.result c.args.vp
          c.write.new.self c.copy-auto.result
          (map next c.self.inside.lapics.items) (map length c.self.inside.queues) (least (dues c.self.inside.timers))
          c.self.inside.summary.values c.write-2.new.self.values within sim sief c.number.ensures.value
          (c.copy-auto.ensures ∙ c.auto_set.ensures) c.self.invariant.summary
          (ap (λ (k : StoredSummary). k.values) c.write-2.ensures);
    }
