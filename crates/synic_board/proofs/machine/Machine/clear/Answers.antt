use Rattle.std.proofs.Common.{◌≡◌, ap, ◌∙◌, List, set}
use Rattle.std.proofs.lemmas.List.{set-set}
use Rattle.synic_regs.specs.Regs.{Regs, reset_regs, with_value}
use Rattle.synic_regs.specs.declared.register.Register.TheVariants.{Sim, Sief}
use Rattle.lapic_core.specs.Apic.{empty_apic}
use Rattle.gpa_space.specs.Space.{after_clearing}
use Rattle.stimer_bank.specs.Bank.{reset as bank_reset}
use Rattle.synic_board.specs.State.{State, regs_of, space_of, bank_of, with_apic, with_regs, with_space, with_bank}
use Rattle.synic_board.proofs.machine.Machine.clear.Goals as goal

pub returns-clause-state : goal.returns-clause-state
returns-clause-state c =
    let s : State = c.args.self.now.state in
    let p = c.args.vp in
    let a : List Regs = set s.regs p (with_value (regs_of s p) Sim 0) in
    let one : State = record s { regs = a } in
    let b = with_value (regs_of one p) Sief 0 in
    let regs : set (set a p b) p reset_regs ≡ set s.regs p reset_regs =
    set-set a p b reset_regs ∙ set-set s.regs p (with_value (regs_of s p) Sim 0) reset_regs in
    let first = c.write_overlay.ensures.state in
    let second =
    c.write_overlay-2.ensures.state ∙ ap (λ (t : State). with_regs t p (with_value (regs_of t p) Sief 0)) first in
    let third = c.clear_registers.ensures.state ∙ ap (λ (t : State). with_regs t p reset_regs) second
    ∙ ap (λ (rs : List Regs). record s { regs = rs }) regs in
    let fourth = c.clear_lapic.ensures.state ∙ ap (λ (t : State). with_apic t p empty_apic) third in
    let fifth = c.clear_timers.ensures.state ∙ ap (λ (t : State). with_bank t (bank_reset (bank_of t) p)) fourth in
    c.clear_pages.ensures.state ∙ ap (λ (t : State). with_space t (after_clearing (space_of t) p)) fifth
