-- How contracts encode values that they compare whole: as tuples of their parts.
use Rattle.std.specs.Prelude.{ℕ, Bool, List, Option, refl}
use Rattle.std.specs.FinSet as set
use Rattle.std.specs.Coded.{Coded, code_by, coded×, coded_ℕ, coded_bool, coded_list, coded_option}
use Rattle.board_terms.specs.declared.messages.Message.{Message}
use Rattle.board_terms.specs.contracts.messages.Message as message
use Rattle.board_terms.specs.declared.pages.Owner.{Owner}
use Rattle.board_terms.specs.contracts.pages.Owner as owner
use Rattle.lapic_core.specs.Vectors.{Vectors}
use Rattle.lapic_core.specs.Apic.{Apic}
use Rattle.lapic_core.specs.inside.Codes.{apic_code}
use Rattle.synic_regs.specs.Regs.{Regs}
use Rattle.synic_regs.specs.inside.Codes.{regs_code}
use Rattle.event_ports.specs.declared.ports.Port.{Port}
use Rattle.event_ports.specs.contracts.ports.Port as port
use Rattle.stimer_bank.specs.declared.timer.Timer.{Timer}
use Rattle.stimer_bank.specs.contracts.timer.Timer as timer
use Rattle.synic_board.specs.State.{State, BoardModel}
use Rattle.synic_board.specs.Summaries.{StoredSummary}

abbrev pub state_code : Coded State
state_code =
    code_by (ℕ ×
    (ℕ × (List Apic × (List Regs
    × (List (List ℕ) × (List (List ℕ)
    × (List (Option Port) × (List (List Message) × (List (Option ℕ) × (List Timer × List Bool))))))))))
    (coded× coded_ℕ (coded× coded_ℕ
    (coded× (coded_list apic_code)
    (coded× (coded_list regs_code)
    (coded× (coded_list (coded_list coded_ℕ)) (coded× (coded_list (coded_list coded_ℕ))
    (coded× (coded_list (coded_option port.the_row.coded))
    (coded× (coded_list (coded_list message.the_row.coded))
    (coded× (coded_list (coded_option coded_ℕ))
    (coded× (coded_list timer.the_row.coded) (coded_list coded_bool)))))))))))
    (λ s. (
      s.moment,
      (
        s.next_ticket,
        (s.apics, (s.regs, (s.pages, (s.own, (s.ports, (s.queues, (s.slots, (s.timers, s.suspended)))))))),
      ),
    ))
    (λ p. record {
      moment = p.0;
      next_ticket = p.1.0;
      apics = p.1.1.0;
      regs = p.1.1.1.0;
      pages = p.1.1.1.1.0;
      own = p.1.1.1.1.1.0;
      ports = p.1.1.1.1.1.1.0;
      queues = p.1.1.1.1.1.1.1.0;
      slots = p.1.1.1.1.1.1.1.1.0;
      timers = p.1.1.1.1.1.1.1.1.1.0;
      suspended = p.1.1.1.1.1.1.1.1.1.1;
    }) (λ _. refl)

abbrev pub model_code : Coded BoardModel
model_code =
    code_by (State × ℕ) (coded× state_code coded_ℕ) (λ h. (h.state, h.writes))
    (λ p. record { state = p.0; writes = p.1 }) (λ _. refl)

abbrev pub stored_summary_code : Coded StoredSummary
stored_summary_code =
    code_by (List (Option ℕ) × (List Vectors × (List Owner × (List ℕ × (Option (ℕ × (ℕ × ℕ)) × ℕ)))))
    (coded× (coded_list (coded_option coded_ℕ))
    (coded× (coded_list (set.code coded_ℕ))
    (coded× (coded_list owner.the_row.coded)
    (coded× (coded_list coded_ℕ) (coded× (coded_option (coded× coded_ℕ (coded× coded_ℕ coded_ℕ))) coded_ℕ)))))
    (λ k. (k.values.nexts, (k.values.autos, (k.values.owners, (k.values.queued, (k.values.earliest, k.writes))))))
    (λ p. record {
      values = record {
        nexts = p.0;
        autos = p.1.0;
        owners = p.1.1.0;
        queued = p.1.1.1.0;
        earliest = p.1.1.1.1.0;
      };
      writes = p.1.1.1.1.1;
    }) (λ _. refl)
