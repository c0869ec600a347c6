-- Accepted stores, and the page that they write.
use Rattle.std.proofs.Common.{◌≡◌, ℕ, ◌*◌, ◌/◌, ◌%◌, ◌^◌, ◌<◌, true, false, List, [], length, map, set, position, length-set, refl, sym, ap, subst, ◌∙◌, arith, nat_lt}
use Rattle.std.specs.Prelude.{Option, None, Some, ◌==◌, Ok, Err, if◌then◌else◌}
use Rattle.std.specs.Option.{option_map_or}
use Rattle.std.specs.List.{range_with_len}
use Rattle.std.proofs.lemmas.List.Quantifiers.{position-Some}
use Rattle.board_terms.specs.declared.refusal.Refusal.{Refusal}
use Rattle.board_terms.specs.declared.pages.Owner.{Owner}
use Rattle.board_terms.specs.declared.pages.Owner.TheVariants.{Guest, Sim, Sief, Nothing}
use Rattle.gpa_space.specs.Page.{overwritten}
use Rattle.gpa_space.specs.Space.{Space, page_count, refusal_of, owner_of, visible, visible_page, with_visible_page, is_mapped_at, overlay_owner, store_answer, after_store}
use Rattle.synic_board.specs.State.{State, processors, space_of, with_space, overlay_registers}
use Rattle.synic_board.specs.Summaries.{owners_of, summary_of}
use Rattle.synic_board.specs.declared.machine.Machine.TheInside.{Inside}
use Rattle.synic_board.specs.inside.View.{state_of, MachineInvariant}
use Rattle.board_terms.specs.declared.notices.Notice.{Notice}
use Rattle.synic_board.specs.declared.event.Reply.TheVariants.{Done}
use Rattle.synic_board.specs.Effects.{answered, refused}
use Rattle.synic_board.specs.inside.Effected.{preceded}
use Rattle.synic_board.specs.Stores.{consumed_in, with_bytes, stored_bytes}
use Rattle.synic_board.specs.inside.Steps.{IsOn}

-- a store that returns an owner was not refused, and writes the visible page
pub store_is_good : (s : Space) (address : ℕ) (bytes : List ℕ) (owner : Owner)
    → Ok owner ≡ store_answer s address bytes →
    (refusal_of s address (length bytes) ≡ None) × (owner ≡ owner_of s (address / 4096))
store_is_good s address bytes owner e = judged (refusal_of s address (length bytes)) refl
  where
    judged : (o : Option Refusal) → refusal_of s address (length bytes) ≡ o
        → (refusal_of s address (length bytes) ≡ None) × (owner ≡ owner_of s (address / 4096))
    judged None is =
        (is, let f = e ∙ ap (λ o. option_map_or (λ (r : Refusal). Err r) o (Ok (owner_of s (address / 4096)))) is in cc)
    judged (Some r) is =
        let f =
        e ∙ ap (λ o. option_map_or (λ (r : Refusal). Err r) o (Ok (owner_of s (address / 4096)))) is in absurd (cc)

overlay_on : (s : State) (k : ℕ) → k < 2 * processors s → IsOn s (overlay_owner k)
overlay_on s k h =
    elim (k % 2 == 0) as (λ b. IsOn s (if b then Sim (k / 2) else Sief (k / 2))) [
      | true ↦ omega arith
      | false ↦
          omega arith
    ]

shown_on : (s : State) (space : Space) (page : ℕ) (o : Option ℕ) → visible space page ≡ o
    → length space.registers ≡ 2 * processors s → IsOn s (option_map_or overlay_owner o Guest)
shown_on s space page None e h = tt
shown_on s space page (Some k) e h =
    overlay_on s k (omega (arith, (position-Some (is_mapped_at page) space.registers k 0 e).0))

-- the owner of a visible page has its processor on the board
pub owner_on : (s : State) (space : Space) (page : ℕ) (owner : Owner) → length space.registers ≡ 2 * processors s
    → owner ≡ owner_of space page → IsOn s owner
owner_on s space page owner h e =
    subst (IsOn s) (sym e) (elim (nat_lt page (page_count space)) as
    (λ b. IsOn s (if b then option_map_or overlay_owner (visible space page) Guest else Nothing)) [
      | true ↦ shown_on s space page (visible space page) refl h
      | false ↦ tt
    ])

-- after an accepted store, the fields and the consumed messages are those of the definition
pub stored_is : (s now : State) (address : ℕ) (bytes : List ℕ) (b t : Space) (owner : Owner)
    (before emitted : List Notice) →
    b ≡ space_of s → Ok owner ≡ store_answer b address bytes → t ≡ after_store b address bytes → before ≡ []
    → (now, emitted) ≡ preceded before (consumed_in (with_space s t) owner) →
    (now, Done, emitted) ≡ stored_bytes s address bytes
stored_is s now address bytes b t owner before emitted space answer after empty effect =
    let good = store_is_good (space_of s) address bytes owner (answer ∙ ap (λ x. store_answer x address bytes) space) in
    let e : (now, emitted) ≡ consumed_in (with_bytes s address bytes) (owner_of (space_of s) (address / 4096)) =
    effect ∙ (λ i. preceded (empty i)
    (consumed_in (with_space s ((after ∙ ap (λ x. after_store x address bytes) space) i)) (good.1 i))) in
    ap (answered Done) e ∙ ap
    (λ o. option_map_or (refused s) o
    (answered Done (consumed_in (with_bytes s address bytes) (owner_of (space_of s) (address / 4096)))))
    (sym good.0)

-- which page a guest sees depends on the number of pages and on the registers
owners-same : (s t : Space) → length t.pages ≡ length s.pages → t.registers ≡ s.registers → owners_of t ≡ owners_of s
owners-same s t pages registers = (λ i. owners (pages i) (registers i))
  where
    owners : ℕ → List ℕ → List Owner
    owners n rs =
        map (λ page. if nat_lt page (if n == 0 then 2 ^ 52 else n)
        then option_map_or overlay_owner (position (is_mapped_at page) rs) Guest else Nothing) (range_with_len 0 n)

-- a store changes neither
store-leaves : (s : Space) (address : ℕ) (bytes : List ℕ)
    → (length (after_store s address bytes).pages ≡ length s.pages)
    × ((after_store s address bytes).registers ≡ s.registers)
store-leaves s address bytes =
    elim (refusal_of s address (length bytes)) as
    (λ o. Leaves (option_map_or (λ (_ : Refusal). s) o (with_visible_page s (address / 4096) stored))) [
      | Some r ↦ (refl, refl)
      | None ↦ seen (visible s (address / 4096))
    ]
  where
    Leaves : Space → Type 0
    Leaves t = (length t.pages ≡ length s.pages) × (t.registers ≡ s.registers)

    stored : List ℕ
    stored = overwritten (visible_page s (address / 4096)) (address % 4096) bytes

    seen : (o : Option ℕ) → Leaves
        (option_map_or (λ overlay. record s { own = set s.own overlay stored }) o
        (record s { pages = set s.pages (address / 4096) stored }))
    seen None = (length-set s.pages (address / 4096) stored, refl)
    seen (Some overlay) = (refl, refl)

pub kept-stored : (b : Inside) (t : Space) (address : ℕ) (bytes : List ℕ) → MachineInvariant b
    → t ≡ after_store b.space address bytes → MachineInvariant (record b { space = t })
kept-stored b t address bytes h is =
    let same = store-leaves b.space address bytes in
    let pages = ap (λ (x : Space). length x.pages) is ∙ same.0 in
    let registers = ap (λ (x : Space). x.registers) is ∙ same.1 in
    record {
      some_processor = h.some_processor;
      processor_bound = h.processor_bound;
      dense_bound = h.dense_bound;
      registers = h.registers;
      page_count = h.page_count ∙ sym pages;
      page_bound = h.page_bound;
      two_overlays = ap length registers ∙ h.two_overlays;
      overlays = registers ∙ h.overlays;
      ports = h.ports;
      port_count = h.port_count;
      queues = h.queues;
      slots = h.slots;
      timers = h.timers;
      summary = h.summary ∙ ap (λ owners. record (summary_of (state_of b)) { owners = owners })
          (sym (owners-same (record b.space { registers = overlay_registers b.regs.items })
          (record t { registers = overlay_registers b.regs.items }) pages refl));
    }
