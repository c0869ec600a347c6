-- A newly opened board has nothing at any spot.
use Rattle.std.proofs.Common.{◌≡◌, ℕ, zero, suc, ◌+◌, ◌*◌, ◌<◌, Bool, true, false, List, [], ◌∷◌, cond, length, get_or, replicate, refl, ap, ◌∙◌, arith, nat_eq, nat_lt}
use Rattle.std.specs.Prelude.{Option, None, slice_get}
use Rattle.std.specs.Option.{option_map_or}
use Rattle.std.specs.Str.{bytes_eq}
use Rattle.std.proofs.lemmas.Bool.Decides.{nat_tests}
use Rattle.std.proofs.lemmas.List.{get_or-replicate, length-replicate}
use Rattle.std.proofs.lemmas.List.Elements.{All-replicate}
use Rattle.std.proofs.lemmas.Slice.Eq.{bytes_eq-Decides}
use Rattle.board_terms.specs.declared.messages.Message.{Message}
use Rattle.event_ports.specs.declared.ports.Port.{Port}
use Rattle.event_ports.specs.Ports.{port_count}
use Rattle.gpa_space.specs.Page.{zero_page}
use Rattle.gpa_space.specs.Space.{overlay_of}
use Rattle.lapic_core.specs.Apic.{empty_apic}
use Rattle.synic_regs.specs.Regs.{Regs, reset_regs, masked}
use Rattle.stimer_bank.specs.declared.timer.Timer.{Timer}
use Rattle.stimer_bank.specs.Bank.{idle_timer}
use Rattle.synic_board.specs.State.{IsWithinLimits, opened}
use Rattle.text_image.specs.declared.piece.Piece.{Piece}
use Rattle.text_image.specs.declared.piece.Piece.TheVariants as pieces
use Rattle.text_image.specs.Pieces.{piece_fields}
use Rattle.text_image.specs.Image.{each_below, changed_line, source_name, lapic_lines, port_line, timer_line, message_fields, slot_line}
use Rattle.law_images.proofs.Blocks.{zero-block}
use Rattle.law_images.proofs.Spots.{Section, Time, Lapics, Registers, Guests, Owns, Ports, Timers, Queues, Slots, IsSpot}
use Rattle.law_images.proofs.Printed.{printed, register_printed, guest_printed, own_printed, block_printed, block_of, kind_of}
use Rattle.law_images.proofs.Extending.{IsShaped}

pub opened-shaped : (n m ticket : ℕ) → IsShaped n m ticket (opened n m ticket)
opened-shaped n m ticket = record {
  apics = length-replicate n empty_apic;
  pages = length-replicate m zero_page;
  next = refl;
  regs = length-replicate n reset_regs;
  own = length-replicate (2 * n) zero_page;
  ports = length-replicate {A = Option Port} (port_count n (nat_eq m 0)) None;
  timers = length-replicate (4 * n) idle_timer;
  queues = length-replicate {A = List Message} (16 * n) [];
  slots = length-replicate {A = Option ℕ} (16 * n) None;
  sints = All-replicate (λ (r : Regs). length r.sints ≡ 16) n reset_regs (length-replicate {A = ℕ} 16 masked);
  page_bytes = All-replicate (λ (page : List ℕ). length page ≡ 4096) m zero_page (length-replicate {A = ℕ} 4096 0);
  own_bytes = All-replicate (λ (page : List ℕ). length page ≡ 4096) (2 * n) zero_page (length-replicate {A = ℕ} 4096 0);
}

registers-blank : (p b : ℕ) → b < 19 → register_printed p reset_regs b ≡ []
registers-blank p zero h = refl
registers-blank p (suc zero) h = refl
registers-blank p (suc (suc zero)) h = refl
registers-blank p (suc (suc (suc i))) h =
    ap (λ (value : ℕ). changed_line p (source_name i) value masked) (get_or-replicate 16 i masked 0 (omega (arith, h)))

block-blank : (x : Piece) (bytes : List ℕ) → bytes ≡ replicate 256 0 → block_printed x bytes ≡ []
block-blank x bytes is =
    let same : bytes_eq bytes (replicate 256 0) ≡ true =
    (bytes_eq-Decides bytes (replicate 256 0)).1 is in ap (λ (t : Bool). cond t [] (piece_fields x ∷ [])) same

queue-blank : (p i : ℕ) (q : List Message) → q ≡ []
    → each_below (length q) (λ k. option_map_or (λ m. message_fields p i m ∷ []) (slice_get q k) []) ≡ []
unfolding each_below
queue-blank p i q is =
    ap (λ (y : List Message). each_below (length y)
    (λ k. option_map_or (λ m. message_fields p i m ∷ []) (slice_get y k) [])) is

own-in : (n p b : ℕ) → p < n → overlay_of p (kind_of b) < 2 * n
own-in n p zero h = omega arith
own-in n p (suc b) h = omega arith

pub opened-blank : (n m ticket : ℕ) → IsWithinLimits n m → (σ : Section) (a b c : ℕ) → IsSpot n m σ a b c
    → printed (opened n m ticket) 0 σ a b c ≡ []
opened-blank n m ticket sizes Time a b c h = refl
opened-blank n m ticket sizes Lapics p b c h =
    let off : nat_lt p 0 ≡ false =
    grind (arith, nat_tests) in ap (λ (t : Bool). cond t (lapic_lines (opened n m ticket) p) []) off
opened-blank n m ticket sizes Registers p b c h =
    ap (λ (r : Regs). register_printed p r b) (get_or-replicate n p reset_regs reset_regs h.0) ∙ registers-blank p b h.1
opened-blank n m ticket sizes Guests k b c h =
    ap (λ (page : List ℕ). guest_printed k page c) (get_or-replicate m k zero_page [] h.0)
    ∙ block-blank (pieces.Guest k (256 * c) (record { items = block_of zero_page c })) (block_of zero_page c)
    (zero-block c h.2)
opened-blank n m ticket sizes Owns p b c h =
    ap (λ (page : List ℕ). own_printed p (kind_of b) page c)
    (get_or-replicate (2 * n) (overlay_of p (kind_of b)) zero_page [] (own-in n p b h.0))
    ∙ block-blank (pieces.Own p (kind_of b) (256 * c) (record { items = block_of zero_page c }))
    (block_of zero_page c) (zero-block c h.2)
opened-blank n m ticket sizes Ports k b c h =
    ap (λ (o : Option Port). option_map_or (λ port. port_line k port ∷ []) o [])
    (get_or-replicate (port_count n (nat_eq m 0)) k None None h.0)
opened-blank n m ticket sizes Timers p i c h =
    let below = h.0 in let inside = h.1 in
    ap (λ (x : Timer). timer_line (p, i) x.config x.count x.due)
    (get_or-replicate (4 * n) (4 * p + i) idle_timer idle_timer (omega arith))
opened-blank n m ticket sizes Queues p i c h =
    let below = h.0 in let inside = h.1 in
    queue-blank p i (get_or (replicate (16 * n) []) (16 * p + i) [])
    (get_or-replicate (16 * n) (16 * p + i) [] [] (omega arith))
opened-blank n m ticket sizes Slots p i c h =
    let below = h.0 in let inside = h.1 in
    ap (slot_line p i) (get_or-replicate (16 * n) (16 * p + i) None None (omega arith))
