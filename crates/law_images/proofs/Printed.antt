-- What the image of a board has at each spot. These are all its lines after the board line, except the last.
use Rattle.std.proofs.Common.{◌≡◌, ℕ, zero, suc, ◌+◌, ◌*◌, Bool, true, List, [], ◌∷◌, ◌++◌, append_assoc, append-nil, cond, length, Some, refl, sym, ap, ◌∙◌, arith, codes, nat_eq, nat_lt, replicate}
use Rattle.event_ports.specs.Ports.{port_count}
use Rattle.std.specs.Prelude.{slice_index_or, slice_range}
use Rattle.std.specs.Str.{bytes_eq}
use Rattle.std.proofs.lemmas.Bool.Decides.{nat_tests}
use Rattle.board_terms.specs.declared.pages.Kind.{Kind}
use Rattle.board_terms.specs.declared.pages.Kind.TheVariants as kinds
use Rattle.gpa_space.specs.Space.{own_page}
use Rattle.synic_regs.specs.Regs.{Regs, source_of, masked}
use Rattle.synic_board.specs.State.{State, processors, regs_of, space_of}
use Rattle.text_lines.specs.Items.{Opening, item_fields}
use Rattle.text_image.specs.declared.piece.Piece.{Piece}
use Rattle.text_image.specs.declared.piece.Piece.TheVariants as pieces
use Rattle.text_image.specs.Pieces.{piece_fields}
use Rattle.text_image.specs.Image.{Lines, each_below, moment_lines, lapic_lines, changed_line, source_name, port_lines, timer_lines, queue_lines, slot_lines, register_lines, guest_lines, own_lines, timers_lines, queues_lines, slots_lines, end_fields, image_lines}
use Rattle.law_images.proofs.Growing.{each-one, each-same}
use Rattle.law_images.proofs.Spots.{Time, Lapics, Registers, Guests, Owns, Ports, Timers, Queues, Slots, Layout, all_lines, section_lines, section_of}

-- a register, by its number in the order of the image
abbrev pub register_printed : ℕ → Regs → ℕ → Lines
register_printed p r zero = changed_line p (codes "scontrol") r.control 0
register_printed p r (suc zero) = changed_line p (codes "siefp") r.sief 0
register_printed p r (suc (suc zero)) = changed_line p (codes "simp") r.sim 0
register_printed p r (suc (suc (suc i))) = changed_line p (source_name i) (source_of r i) masked

-- a block of a page
abbrev pub block_of : List ℕ → ℕ → List ℕ
block_of page c = slice_range page (256 * c) (256 * c + 256)

abbrev pub block_printed : Piece → List ℕ → Lines
block_printed x bytes = cond (bytes_eq bytes (replicate 256 0)) [] (piece_fields x ∷ [])

abbrev pub guest_printed : ℕ → List ℕ → ℕ → Lines
guest_printed k page c = block_printed (pieces.Guest k (256 * c) (record { items = block_of page c })) (block_of page c)

abbrev pub own_printed : ℕ → Kind → List ℕ → ℕ → Lines
own_printed p kind page c =
    block_printed (pieces.Own p kind (256 * c) (record { items = block_of page c })) (block_of page c)

abbrev pub kind_of : ℕ → Kind
kind_of zero = kinds.Sim
kind_of (suc b) = kinds.Sief

-- what is printed of a board whose first local APICs alone were read
abbrev pub printed : State → ℕ → Layout
printed s lapics Time a b c = moment_lines s.moment
printed s lapics Lapics p b c = cond (nat_lt p lapics) (lapic_lines s p) []
printed s lapics Registers p b c = register_printed p (regs_of s p) b
printed s lapics Guests k b c = guest_printed k (slice_index_or s.pages k []) c
printed s lapics Owns p b c = own_printed p (kind_of b) (own_page (space_of s) p (kind_of b)) c
printed s lapics Ports k b c = port_lines s k
printed s lapics Timers p b c = timer_lines s p b
printed s lapics Queues p b c = queue_lines s p b
printed s lapics Slots p b c = slot_lines s p b

-- the title and the board line
abbrev pub titles : ℕ → ℕ → ℕ → Lines
titles n m ticket = (codes "image" ∷ codes "1" ∷ []) ∷ item_fields (Opening n (Some m) ticket) ∷ []

nine : (f : ℕ → Lines) → each_below 9 f ≡ f 0 ++ (f 1 ++ (f 2 ++ (f 3 ++ (f 4 ++ (f 5 ++ (f 6 ++ (f 7 ++ f 8)))))))
unfolding each_below
nine f = simp append_assoc

first-three : (f : ℕ → Lines) (n : ℕ)
    → each_below (suc (suc (suc n))) f ≡ f 0 ++ (f 1 ++ (f 2 ++ each_below n (λ i. f (suc (suc (suc i))))))
unfolding each_below
first-three f zero = simp (append_assoc, append-nil)
first-three f (suc n) = ap (λ (x : Lines). x ++ f (suc (suc (suc n)))) (first-three f n) ∙ simp append_assoc

registers-printed : (s : State) (p : ℕ)
    → each_below 19 (λ b. each_below 1 (λ c. register_printed p (regs_of s p) b)) ≡ register_lines s p
unfolding each_below
registers-printed s p = first-three (register_printed p (regs_of s p)) 16

lapics-printed : (s : State)
    → each_below (processors s) (λ p. each_below 1 (λ b. each_below 1 (λ c. printed s (processors s) Lapics p b c)))
    ≡ each_below (processors s) (lapic_lines s)
unfolding each_below
lapics-printed s = each-same (processors s) (lapic_lines s) (λ p. printed s (processors s) Lapics p 0 0)
    (λ p below. let is : nat_lt p (processors s) ≡ true = grind (arith, nat_tests) in
    ap (λ (t : Bool). cond t (lapic_lines s p) []) is)

single : (x : Lines) → each_below 1 (λ b. each_below 1 (λ c. x)) ≡ x
unfolding each_below
single x = refl

time-printed : (x : Lines) → each_below 1 (λ a. each_below 1 (λ b. each_below 1 (λ c. x))) ≡ x
unfolding each_below
time-printed x = refl

guests-printed : (s : State)
    → each_below (length s.pages)
    (λ k. each_below 1 (λ b. each_below 16 (λ c. printed s (processors s) Guests k b c)))
    ≡ each_below (length s.pages) (guest_lines s)
guests-printed s =
    each-same (length s.pages) (guest_lines s)
    (λ k. each_below 1 (λ b. each_below 16 (λ c. printed s (processors s) Guests k b c)))
    (λ k below. each-one (λ b. each_below 16 (λ c. printed s (processors s) Guests k b c)))

pair : (f : ℕ → Lines) → each_below 2 f ≡ f 0 ++ f 1
unfolding each_below
pair f = refl

owns-printed : (s : State)
    → each_below (processors s) (λ p. each_below 2 (λ b. each_below 16 (λ c. printed s (processors s) Owns p b c)))
    ≡ each_below (processors s) (own_lines s)
owns-printed s =
    each-same (processors s) (own_lines s)
    (λ p. each_below 2 (λ b. each_below 16 (λ c. printed s (processors s) Owns p b c)))
    (λ p below. pair (λ b. each_below 16 (λ c. printed s (processors s) Owns p b c)))

-- groups of lines on one level, and on two
one-level : (n : ℕ) (f : ℕ → Lines) → each_below n (λ k. each_below 1 (λ b. each_below 1 (λ c. f k))) ≡ each_below n f
one-level n f = each-same n f (λ k. each_below 1 (λ b. each_below 1 (λ c. f k))) (λ k below. single (f k))

two-levels : (n m : ℕ) (f : ℕ → ℕ → Lines)
    → each_below n (λ p. each_below m (λ b. each_below 1 (λ c. f p b))) ≡ each_below n (λ p. each_below m (f p))
two-levels n m f = each-same n (λ p. each_below m (f p)) (λ p. each_below m (λ b. each_below 1 (λ c. f p b)))
    (λ p below. each-same m (f p) (λ b. each_below 1 (λ c. f p b)) (λ b inside. each-one (λ c. f p b)))

sections-printed : (s : State) → length s.ports ≡ port_count (processors s) (nat_eq (length s.pages) 0)
    → all_lines (processors s) (length s.pages) (printed s (processors s)) ≡
    moment_lines s.moment ++
    (each_below (processors s) (lapic_lines s)
    ++ (each_below (processors s) (register_lines s) ++ (each_below (length s.pages) (guest_lines s)
    ++ (each_below (processors s) (own_lines s)
    ++ (each_below (length s.ports) (port_lines s)
    ++ (each_below (processors s) (timers_lines s) ++ (each_below (processors s) (queues_lines s)
    ++ each_below (processors s) (slots_lines s))))))))
sections-printed s h =
    let n = processors s in
    let registers =
    each-same n (register_lines s)
    (λ p. each_below 19 (λ b. each_below 1 (λ c. register_printed p (regs_of s p) b)))
    (λ p below. registers-printed s p) in
    let ports = one-level (port_count n (nat_eq (length s.pages) 0)) (port_lines s)
    ∙ ap (λ (count : ℕ). each_below count (port_lines s)) (sym h) in
    nine (λ k. section_lines n (length s.pages) (printed s n) (section_of k))
    ∙ (λ i. time-printed (moment_lines s.moment) i
    ++ (lapics-printed s i ++ (registers i ++ (guests-printed s i ++ (owns-printed s i ++ (ports i
    ++ (two-levels n 4 (timer_lines s) i
    ++ (two-levels n 16 (queue_lines s) i ++ two-levels n 16 (slot_lines s) i))))))))

in-order : (title opening : List (List ℕ)) (moment a b c d e f g h last : Lines) →
    title ∷ opening ∷ ((moment ++ (a ++ (b ++ (c ++ (d ++ (e ++ (f ++ (g ++ h)))))))) ++ last)
    ≡ (title ∷ opening ∷ moment) ++ ((a ++ (b ++ (c ++ (d ++ (e ++ (f ++ (g ++ h))))))) ++ last)
in-order title opening moment a b c d e f g h last = ap (λ (x : Lines). title ∷ opening ∷ x) (simp append_assoc)

pub image-printed : (s : State) → length s.ports ≡ port_count (processors s) (nat_eq (length s.pages) 0) →
    titles (processors s) (length s.pages) s.next_ticket
    ++ (all_lines (processors s) (length s.pages) (printed s (processors s)) ++ end_fields ∷ []) ≡ image_lines s
image-printed s h =
    let n = processors s in
    ap (λ (x : Lines). titles n (length s.pages) s.next_ticket ++ (x ++ end_fields ∷ [])) (sections-printed s h)
    ∙ in-order (codes "image" ∷ codes "1" ∷ []) (item_fields (Opening n (Some (length s.pages)) s.next_ticket))
    (moment_lines s.moment)
    (each_below n (lapic_lines s)) (each_below n (register_lines s)) (each_below (length s.pages) (guest_lines s))
    (each_below n (own_lines s)) (each_below (length s.ports) (port_lines s))
    (each_below n (timers_lines s)) (each_below n (queues_lines s)) (each_below n (slots_lines s)) (end_fields ∷ [])
