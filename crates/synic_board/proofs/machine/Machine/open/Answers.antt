use Rattle.std.proofs.Common.{◌≡◌, ◌*◌, ap, sym, ◌∙◌, length, replicate, nat_eq, arith}
use Rattle.std.proofs.lemmas.List.{length-replicate}
use Rattle.lapic_core.specs.Apic.{empty_apic}
use Rattle.synic_regs.specs.Regs.{reset_regs}
use Rattle.event_ports.specs.declared.ports.Port.{Port}
use Rattle.event_ports.specs.Ports.{Ports, port_count}
use Rattle.std.specs.Prelude.{ℕ, List, [], Option, None}
use Rattle.board_terms.specs.declared.messages.Message.{Message}
use Rattle.gpa_space.specs.Page.{zero_page}
use Rattle.gpa_space.specs.Space.{Space}
use Rattle.stimer_bank.specs.Bank.{Bank, idle_timer}
use Rattle.synic_board.specs.Summaries.{summary_of}
use Rattle.synic_board.specs.State.{overlay_registers}
use Rattle.synic_board.proofs.Openings.{overlays-opened, summary_of-opened, state-opened}
use Rattle.synic_board.proofs.Repeated.{repeated}
use Rattle.synic_board.proofs.machine.Machine.open.Goals as goal

lapics-opened : (c : goal.In_ok-regs) → c.in_ok-lapics.lapics.items ≡ replicate c.args.processors empty_apic
lapics-opened c =
    let made =
    c.in_ok-lapics.ensures {u = tt} in
    repeated _ empty_apic (λ p x q s. search) _ _ c.args.processors made.made made.each

regs-opened : (c : goal.In_ok-regs) → c.in_ok-regs.regs.items ≡ replicate c.args.processors reset_regs
regs-opened c =
    let made =
    c.in_ok-regs.ensures {u = tt} in repeated _ reset_regs (λ p x q s. search) _ _ c.args.processors made.made made.each

pub invariant_of-result : goal.invariant_of-result
invariant_of-result c =
    let n = c.args.processors in
    let pages = c.args.pages in
    let lapics = lapics-opened c in
    let regs = regs-opened c in
    let space = c.in_ok-space.ensures {u = tt} in
    let summary = c.in_ok-summary.ensures {u = tt} in
    let queues = c.in_ok-queues.ensures {u = tt} in
    let slots = c.in_ok-slots.ensures {u = tt} in
    let state = state-opened n pages c.args.first_ticket c.in_ok-lapics.lapics.items c.in_ok-regs.regs.items
    c.in_ok-space.space c.in_ok-ports.ports c.in_ok-queues.queues
    c.in_ok-slots.slots.items c.in_ok-timers.timers lapics regs space (c.in_ok-ports.ensures {u = tt}) queues slots
    (c.in_ok-timers.ensures {u = tt}) in
    record {
      some_processor = omega (arith, c.requires.some_processor, ap length lapics, length-replicate n empty_apic);
      processor_bound = omega (arith, c.requires.processor_bound, ap length lapics, length-replicate n empty_apic);
      dense_bound = λ some. omega (arith, c.requires.dense some, ap length lapics, length-replicate n empty_apic);
      registers = ap length regs ∙ length-replicate n reset_regs
          ∙ sym (ap length lapics ∙ length-replicate n empty_apic);
      page_count = sym (ap (λ (s : Space). length s.pages) space ∙ length-replicate pages zero_page);
      page_bound = c.requires.page_bound;
      two_overlays =
          omega (
            arith,
            ap (λ (s : Space). length s.registers) space,
            length-replicate {A = ℕ} (2 * n) 0,
            ap length lapics,
            length-replicate n empty_apic,
          );
      overlays = ap (λ (s : Space). s.registers) space ∙ sym (overlays-opened n) ∙ ap overlay_registers (sym regs);
      ports = ap (λ (p : Ports). p.processors) (c.in_ok-ports.ensures {u = tt})
          ∙ sym (ap length lapics ∙ length-replicate n empty_apic);
      port_count =
          ap (λ (p : Ports). length p.ports) (c.in_ok-ports.ensures {u = tt})
          ∙ length-replicate {A = Option Port} (port_count n (nat_eq pages 0)) None
          ∙ ap (λ m. port_count m (nat_eq pages 0)) (sym (ap length lapics ∙ length-replicate n empty_apic));
      queues = omega (
        arith,
        ap length queues,
        length-replicate {A = List Message} (16 * n) [],
        ap length lapics,
        length-replicate n empty_apic,
      );
      slots = omega (
        arith,
        ap length slots,
        length-replicate {A = Option ℕ} (16 * n) None,
        ap length lapics,
        length-replicate n empty_apic,
      );
      timers = omega (
        arith,
        ap (λ (b : Bank). length b.timers) (c.in_ok-timers.ensures {u = tt}),
        length-replicate (4 * n) idle_timer,
        ap length lapics,
        length-replicate n empty_apic,
      );
      summary = summary_of-opened n pages c.args.first_ticket c.in_ok-summary.summary.values summary.nexts
          summary.autos summary.owners summary.queued summary.earliest ∙ ap summary_of (sym state);
    }

pub returns-clause-opened : goal.returns-clause-opened
returns-clause-opened c =
    state-opened c.args.processors c.args.pages c.args.first_ticket c.in_ok-lapics.lapics.items
    c.in_ok-regs.regs.items c.in_ok-space.space c.in_ok-ports.ports
    c.in_ok-queues.queues c.in_ok-slots.slots.items c.in_ok-timers.timers
    (lapics-opened c) (regs-opened c) (c.in_ok-space.ensures {u = tt}) (c.in_ok-ports.ensures {u = tt})
    (c.in_ok-queues.ensures {u = tt}) (c.in_ok-slots.ensures {u = tt}) (c.in_ok-timers.ensures {u = tt})
