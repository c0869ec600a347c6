-- The summary of a newly opened board.
use Rattle.std.proofs.Common.{◌≡◌, ℕ, ◌*◌, ◌<◌, Bool, true, false, cond, List, [], ◌∷◌, map, replicate, length, refl, sym, ap, ◌∙◌, zero, suc, arith, nat_eq, nat_lt}
use Rattle.std.specs.Prelude.{Option, None, Some, not, if◌then◌else◌}
use Rattle.std.specs.Option.{option_map_or, option_map}
use Rattle.std.specs.Ordering.{nat_cmp}
use Rattle.std.specs.FinSet as set
use Rattle.std.specs.FinSet.{nat_cmp-IsAntisymmetric}
use Rattle.std.specs.Cmp.{nat_cmp_total}
use Rattle.std.specs.List.{list_any, prefix_len}
use Rattle.std.proofs.lemmas.List.{length-replicate, get_or-replicate}
use Rattle.std.proofs.lemmas.List.Folds.{prefix_len-replicate}
use Rattle.std.proofs.lemmas.List.FromFn.{fill_by_all}
use Rattle.std.proofs.lemmas.Bool.Decides.{nat_tests}
use Rattle.lapic_core.specs.Apic.{Apic, next, empty_apic}
use Rattle.lapic_core.proofs.Priority.{next-empty}
use Rattle.synic_regs.specs.Regs.{Regs, reset_regs, masked, is_auto_source, auto_vectors}
use Rattle.synic_regs.proofs.AutoVectors.{contains-auto_vectors}
use Rattle.board_terms.specs.declared.pages.Owner.TheVariants.{Guest, Nothing}
use Rattle.gpa_space.specs.Space.{Space, is_mapped_at, visible, page_count, owner_of, overlay_owner, opened as opened_space}
use Rattle.event_ports.specs.Ports.{Ports, no_ports}
use Rattle.message_queues.specs.Queues.{Queues, no_messages}
use Rattle.board_terms.specs.Dues.{least, least_below, earlier, timer_of}
use Rattle.stimer_bank.specs.Bank.{Bank, dues, opened as no_timers}
use Rattle.stimer_bank.proofs.Shown.{dues-opened}
use Rattle.synic_board.specs.State.{bank_of, opened, overlay_registers, space_of}
use Rattle.synic_board.specs.Summaries.{Values, owners_of, summary_of}

map-replicate : {A B : Type 0} (f : A → B) (n : ℕ) (x : A) → map f (replicate n x) ≡ replicate n (f x)
map-replicate f zero x = refl
map-replicate f (suc n) x = ap (λ xs. f x ∷ xs) (map-replicate f n x)

pub overlays-opened : (n : ℕ) → overlay_registers (replicate n reset_regs) ≡ replicate (2 * n) 0
overlays-opened zero = refl
overlays-opened (suc n) =
    let twice : 2 * suc n ≡ suc (suc (2 * n)) = omega arith in
    ap (λ xs. 0 ∷ 0 ∷ xs) (overlays-opened n) ∙ ap (λ k. replicate k 0) (sym twice)

none_auto : (v n : ℕ) → list_any (is_auto_source v) (replicate n masked) ≡ false
none_auto v zero = refl
none_auto v (suc n) = none_auto v n

-- after reset no vector is auto-EOI
pub auto-reset : auto_vectors reset_regs ≡ set.empty
auto-reset =
    set.same_set nat_cmp_total nat_cmp-IsAntisymmetric _ _
    (λ v. contains-auto_vectors reset_regs v ∙ none_auto v 16 ∙ sym (set.contains-empty nat_cmp v))

-- no overlay is visible if all are disabled
none-visible : (s : Space) (n page : ℕ) → s.registers ≡ replicate n 0 → visible s page ≡ None
none-visible s n page e =
    let p : ℕ → Bool = is_mapped_at page in
    ap (λ rs. cond (nat_lt (prefix_len (λ r. not (p r)) rs) (length rs)) (Some (prefix_len (λ r. not (p r)) rs)) None) e
    ∙ ap (λ b. cond b (Some (prefix_len (λ r. not (p r)) (replicate n 0))) None)
    (all_behind _ _ n (prefix_len-replicate (λ r. not (p r)) n 0 refl) (length-replicate n 0))
  where
    all_behind : (i l n : ℕ) → i ≡ n → l ≡ n → nat_lt i l ≡ false
    all_behind i l n at long = grind (arith, nat_tests)

owner-opened : (s : Space) (n page : ℕ) → s.registers ≡ replicate n 0 → page < length s.pages → owner_of s page ≡ Guest
owner-opened s n page e h =
    let on : nat_lt page (page_count s) ≡ true = grind (arith, nat_tests) in
    ap (λ b. if b then option_map_or overlay_owner (visible s page) Guest else Nothing) on
    ∙ ap (λ o. option_map_or overlay_owner o Guest) (none-visible s n page e)

owners-opened : (s : Space) (n k : ℕ) → s.registers ≡ replicate n 0 → length s.pages ≡ k
    → replicate k Guest ≡ owners_of s
owners-opened s n k e l =
    fill_by_all (owner_of s) (replicate k Guest) (length s.pages) Guest (length-replicate k Guest ∙ sym l)
    (λ i h. get_or-replicate k i Guest Guest (omega arith) ∙ sym (owner-opened s n i e h))

-- no timer has a deadline
none_below : (n k : ℕ) → least_below (dues (no_timers n)) k ≡ None
unfolding least_below
none_below n zero = refl
none_below n (suc k) =
    ap (λ o. option_map_or (λ d. Some (earlier (least_below (dues (no_timers n)) k) (d, k))) o
    (least_below (dues (no_timers n)) k)) (dues-opened n k) ∙ none_below n k

none-due : (n : ℕ) → least (dues (no_timers n)) ≡ None
unfolding least
none-due n = ap (option_map (λ (r : ℕ × ℕ). (r.0, timer_of r.1))) (none_below n (length (dues (no_timers n))))

-- the cached summary when a board is opened
pub summary_of-opened : (n pages ticket : ℕ) (v : Values) → v.nexts ≡ replicate n None
    → v.autos ≡ replicate n set.empty → v.owners ≡ replicate pages Guest →
    v.queued ≡ replicate (16 * n) 0 → v.earliest ≡ None → v ≡ summary_of (opened n pages ticket)
summary_of-opened n pages ticket v nexts autos owners queued earliest =
    let s = opened n pages ticket in
    let a : v.nexts ≡ map next s.apics =
    nexts ∙ ap (replicate n) (sym next-empty) ∙ sym (map-replicate next n empty_apic) in
    let b : v.autos ≡ map auto_vectors s.regs =
    autos ∙ ap (replicate n) (sym auto-reset) ∙ sym (map-replicate auto_vectors n reset_regs) in
    let c : v.owners ≡ owners_of (space_of s) =
    owners ∙ owners-opened (space_of s) (2 * n) pages (overlays-opened n) (length-replicate pages _) in
    let d : v.queued ≡ map length s.queues = queued ∙ sym (map-replicate length (16 * n) []) in
    let e : v.earliest ≡ least (dues (bank_of s)) = earliest ∙ sym (none-due n) in
    (λ i. record { nexts = a i; autos = b i; owners = c i; queued = d i; earliest = e i })

-- the state of the fields of a newly opened board
pub state-opened : (n pages ticket : ℕ) (apics : List Apic) (regs : List Regs) (space : Space) (ports : Ports)
    (queues : Queues) (slots : List (Option ℕ)) (bank : Bank) →
    apics ≡ replicate n empty_apic → regs ≡ replicate n reset_regs → space ≡ opened_space n pages
    → ports ≡ no_ports n (nat_eq pages 0) → queues ≡ no_messages n → slots ≡ replicate (16 * n) None
    → bank ≡ no_timers n →
    record {
      moment = 0;
      next_ticket = ticket;
      apics = apics;
      regs = regs;
      pages = space.pages;
      own = space.own;
      ports = ports.ports;
      queues = queues;
      slots = slots;
      timers = bank.timers;
      suspended = bank.suspended;
    } ≡ opened n pages ticket
state-opened n pages ticket apics regs space ports queues slots bank a r s p q t b =
    (λ i. record {
      moment = 0;
      next_ticket = ticket;
      apics = a i;
      regs = r i;
      pages = (s i).pages;
      own = (s i).own;
      ports = (p i).ports;
      queues = q i;
      slots = t i;
      timers = (b i).timers;
      suspended = (b i).suspended;
    })
