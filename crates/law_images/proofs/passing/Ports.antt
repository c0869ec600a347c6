-- The open ports.
use Rattle.std.proofs.Common.{◌≡◌, ℕ, suc, ◌+◌, ◌<◌, ◌≤◌, Bool, true, false, not, List, [], ◌∷◌, ◌&&◌, cond, length, get_or, set, replicate, refl, sym, ap, ◌∙◌, arith, nat_eq, nat_lt, nat_le, eq-eqb}
use Rattle.std.specs.Prelude.{Option, None, Some, is_some}
use Rattle.std.specs.Option.{option_map_or}
use Rattle.std.proofs.lemmas.Bool.Decides.{nat_tests}
use Rattle.board_terms.specs.declared.messages.PortShape.{PortShape}
use Rattle.board_terms.specs.declared.messages.PortShape.TheVariants.{Messages, Flags}
use Rattle.board_terms.specs.declared.refusal.Refusal.{Refusal}
use Rattle.board_terms.specs.declared.refusal.Refusal.TheVariants.{UnknownPort, PortOpen, BadTarget}
use Rattle.event_ports.specs.declared.ports.Port.{Port}
use Rattle.event_ports.specs.Ports.{port_at, buffers_at, buffers_to, has_room, open_refusal}
use Rattle.gpa_space.specs.Space.{is_sparse}
use Rattle.event_ports.specs.Shapes.{fits, buffers_of}
use Rattle.synic_board.specs.declared.event.Reply.TheVariants.{Done}
use Rattle.synic_board.specs.Effects.{unchanged, refused}
use Rattle.synic_board.specs.Posts.{with_port}
use Rattle.synic_board.specs.State.{State, processors, space_of, ports_of}
use Rattle.text_lines.specs.Events.{IsShape}
use Rattle.text_image.specs.declared.piece.Piece.TheVariants as pieces
use Rattle.text_image.specs.Image.{each_below, port_line, port_lines}
use Rattle.text_restore.specs.Restoring.{rank}
use Rattle.law_images.specs.States.{IsBoardState}
use Rattle.law_images.proofs.Spots.{ports-few}
use Rattle.law_images.proofs.Fronts.{front, length-front, front-none, front-sum-next, front-more, front-still, front-new, front-whole}
use Rattle.law_images.proofs.Walks.{Point, point, Passes, passes-one, passes-none, passes-each, passes-from, passes-to}

shape-fits : (shape : PortShape) → fits shape ≡ true → IsShape shape
shape-fits (Messages buffers) e = by (nat_le 1 buffers) (nat_le buffers 16) refl e
  where
    by : (a b : Bool) → nat_le buffers 16 ≡ b → (a && b) ≡ true → buffers < 256
    by a true is e = grind (arith, nat_tests)
    by true false is e = absurd (cc)
    by false false is e = absurd (cc)
shape-fits (Flags base count) e = by (nat_le 1 count) (nat_le (base + count) 2048) refl e
  where
    by : (a b : Bool) → nat_le (base + count) 2048 ≡ b → (a && b) ≡ true → (base < 65536) × (count < 65536)
    by a true is e = let low : base + count ≤ 2048 = grind (arith, nat_tests) in (omega arith, omega arith)
    by true false is e = absurd (cc)
    by false false is e = absurd (cc)

-- a port that is closed and of the board's, has a target and is in range is not refused, if there is room
not-refused : (k p i n count : ℕ) (shape : PortShape) (room : Bool) (old : Option Port) → k < count → p < n → i < 16
    → fits shape ≡ true → room ≡ true → old ≡ None →
    cond (nat_le count k) (Some UnknownPort)
    (cond (is_some old) (Some PortOpen)
    (cond (not (((nat_lt p n && nat_lt i 16) && fits shape) && room)) (Some BadTarget) None)) ≡ None
not-refused k p i n count shape room old low on source fit left closed =
    let a : nat_le count k ≡ false = grind (arith, nat_tests) in
    let b : nat_lt p n ≡ true = grind (arith, nat_tests) in
    let c : nat_lt i 16 ≡ true = grind (arith, nat_tests) in
    rw (a, closed, b, c, fit, left) refl

module _ (s : State) (h : IsBoardState s) (t : State) (full : processors t ≡ processors s) where
  abbrev with_ports : List (Option Port) → State
  with_ports ports = record t { ports = ports }

  abbrev ports-at : ℕ → Point
  ports-at k = point (with_ports (front k s.ports None)) (processors s) (rank 6 k 0 0)

  port-passed : (k : ℕ) → k < length s.ports → Passes (ports-at k) (port_lines s k) (ports-at (suc k))
  port-passed k inside = by (port_at (ports_of s) k) refl
    where
      board : State
      board = with_ports (front k s.ports None)

      low : k < 256
      low = omega (
        arith,
        inside,
        h.shape.ports,
        ports-few (processors s) (is_sparse (space_of s)) h.sizes.processor_bound,
      )

      room : (port : Port) → port_at (ports_of s) k ≡ Some port → has_room (ports_of board) port.vp port.shape ≡ true
      room port e =
          let next = front-sum-next (buffers_at port.vp) k s.ports None refl inside in
          let here = ap (buffers_at port.vp) e in
          let mine : cond (nat_eq port.vp port.vp) (buffers_of port.shape) 0 ≡ buffers_of port.shape =
          rw (eq-eqb port.vp port.vp refl) refl in
          let left : buffers_to (ports_of board) port.vp + buffers_of port.shape ≤ 256 =
          omega (arith, next, here, mine, h.buffers.few port.vp) in
          grind (arith, nat_tests)

      by : (o : Option Port) → port_at (ports_of s) k ≡ o
          → Passes (ports-at k) (option_map_or (λ (port : Port). port_line k port ∷ []) o []) (ports-at (suc k))
      by None e = passes-none (ports-at k) (ports-at (suc k)) (ap with_ports (front-still k s.ports None e)) refl
          (omega arith)
      by (Some port) e =
          let target = h.sound.whole.ports k port e in
          let none : open_refusal (ports_of board) k port.vp port.sint port.shape ≡ None =
          not-refused k port.vp port.sint (processors t) (length (front k s.ports None)) port.shape
          (has_room (ports_of board) port.vp port.shape) (get_or (front k s.ports None) k None)
          (omega (arith, inside, length-front k s.ports None)) (omega (arith, full, target.0)) target.1
          (h.buffers.shapes k port e) (room port e) (front-new k k s.ports None None (omega arith) inside) in
          let new : with_ports (front (suc k) s.ports None) ≡ with_port board k port =
          ap with_ports (front-more k s.ports None None inside ∙ ap (set (front k s.ports None) k) e) in
          passes-one (ports-at k) (pieces.Port k port.vp port.sint port.shape) (ports-at (suc k)) (record {
            fits = (
              low,
              omega (arith, target.0, h.settled.bound),
              omega (arith, target.1),
              shape-fits port.shape (h.buffers.shapes k port e),
            );
            later = λ last before. before;
            turn = sym full;
            restores = ap (λ (x : State). unchanged x Done) new
                ∙ sym (ap (λ (o : Option Refusal). option_map_or (refused board) o
                (unchanged (with_port board k port) Done)) none);
            count = refl;
            before = omega arith;
          })

  pub ports-passed : (count : ℕ) → count ≡ length s.ports →
      Passes (point (with_ports (replicate count None)) (processors s) (rank 6 0 0 0))
      (each_below (length s.ports) (port_lines s)) (point (with_ports s.ports) (processors s) (rank 7 0 0 0))
  ports-passed count is =
      passes-from (point (with_ports (replicate count None)) (processors s) (rank 6 0 0 0)) (ports-at 0)
      (point (with_ports s.ports) (processors s) (rank 7 0 0 0)) (each_below (length s.ports) (port_lines s))
      (ap with_ports (sym none)) refl (omega arith)
      (passes-to (ports-at 0) (ports-at (length s.ports)) (point (with_ports s.ports) (processors s) (rank 7 0 0 0))
      (each_below (length s.ports) (port_lines s))
      (ap with_ports (sym (front-whole s.ports None (length s.ports) (omega arith)))) refl
      (omega (arith, h.shape.ports, ports-few (processors s) (is_sparse (space_of s)) h.sizes.processor_bound))
      (passes-each (length s.ports) (port_lines s) ports-at port-passed))
    where
      none : replicate count None ≡ front 0 s.ports None
      none = ap (λ (n : ℕ). replicate {A = Option Port} n None) is ∙ front-none s.ports None
