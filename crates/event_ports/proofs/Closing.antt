-- The invariant after a port is closed.
use Rattle.std.proofs.Common.{◌≡◌, ◌≢◌, ◌⊎◌, inl, inr, ◌-◌, ◌<◌, ◌≤◌, ℕ, true, false, length, sym, ap, ◌∙◌, arith, nat_eq}
use Rattle.std.specs.Prelude.{None, Some, Ok, slice_index_or, slice_set}
use Rattle.std.specs.Vec.{with_item}
use Rattle.std.proofs.lemmas.Bool.Decides.{eqb_tells}
use Rattle.std.proofs.lemmas.List.{length-set, get_or_default, get_or-set_same, get_or-set_other}
use Rattle.event_ports.specs.declared.ports.Port.{Port}
use Rattle.event_ports.specs.declared.ports.Ports.TheInside.{Inside}
use Rattle.event_ports.specs.Shapes.{buffers_of}
use Rattle.event_ports.specs.Ports.{Ports, port_at, buffers_to, target_of, without_port}
use Rattle.event_ports.specs.inside.View.{ports_of, PortsInvariant}
use Rattle.event_ports.proofs.Counted.{port-of, port-counts, closed-own, closed-other}

-- how many buffers are counted for the processor of an open port
pub record Open (a : Inside) (n vp counted : ℕ) (x : Port) : Type 0 where
  pub known : n < length a.ports.items
  pub here : port_at (ports_of a) n ≡ Some x
  pub vp_is : vp ≡ x.vp
  pub read : counted ≡ slice_index_or a.buffers.items vp counted

-- the port that a call finds
pub found : (a : Inside) (s : Ports) (n vp counted : ℕ) (x : Port) → ports_of a ≡ s → Ok x ≡ target_of s n
    → n < length s.ports → vp ≡ x.vp → counted ≡ slice_index_or a.buffers.items vp counted → Open a n vp counted x
found a s n vp counted x shown is within vp_is read = record {
  known = omega (arith, within, ap (λ (t : Ports). length t.ports) shown);
  here = port-of (ports_of a) n x (ap (λ (t : Ports). target_of t n) shown ∙ sym is);
  vp_is = vp_is;
  read = read;
}

pub on-board : (a : Inside) (n vp counted : ℕ) (x : Port) → PortsInvariant a → Open a n vp counted x
    → vp < length a.buffers.items
on-board a n vp counted x k o = omega (arith, o.vp_is, k.on_the_board n x o.here)

-- the count of the processor
pub count-of : (a : Inside) (n vp counted : ℕ) (x : Port) → PortsInvariant a → Open a n vp counted x
    → counted ≡ buffers_to (ports_of a) x.vp
count-of a n vp counted x k o =
    let on = on-board a n vp counted x k o in
    o.read ∙ get_or_default a.buffers.items vp counted 0 on ∙ k.counted vp on ∙ ap (buffers_to (ports_of a)) o.vp_is

-- the processor's count has the buffers of the port
pub has-buffers : (a : Inside) (n vp counted : ℕ) (x : Port) → PortsInvariant a → Open a n vp counted x
    → buffers_of x.shape ≤ counted
has-buffers a n vp counted x k o =
    omega (arith, port-counts (ports_of a) n x o.known o.here, count-of a n vp counted x k o)

-- the buffers of each processor, as they are counted afterwards
counts : (a : Inside) (n vp counted w : ℕ) (x : Port) → PortsInvariant a → Open a n vp counted x
    → w ≡ counted - buffers_of x.shape → (p : ℕ) → p < length a.buffers.items
    → slice_index_or (slice_set a.buffers.items vp w) p 0 ≡ buffers_to (without_port (ports_of a) n) p
counts a n vp counted w x k o left p on = go (eqb_tells p vp)
  where
    at : vp < length a.buffers.items
    at = on-board a n vp counted x k o

    go : ((nat_eq p vp ≡ true) × (p ≡ vp)) ⊎ ((nat_eq p vp ≡ false) × (p ≢ vp))
        → slice_index_or (slice_set a.buffers.items vp w) p 0 ≡ buffers_to (without_port (ports_of a) n) p
    go (inl same) =
        let now = get_or-set_same a.buffers.items vp w 0 at in
        let own = closed-own (ports_of a) n x o.known o.here in
        let before = count-of a n vp counted x k o in
        let moved : buffers_to (without_port (ports_of a) n) p ≡ buffers_to (without_port (ports_of a) n) x.vp =
        ap (buffers_to (without_port (ports_of a) n)) (same.1 ∙ o.vp_is) in
        ap (λ (q : ℕ). slice_index_or (slice_set a.buffers.items vp w) q 0) same.1 ∙ now
        ∙ omega (arith, left, own, before, moved)
    go (inr other) =
        get_or-set_other a.buffers.items vp p w 0 other.1 ∙ k.counted p on
        ∙ sym (closed-other (ports_of a) n p x o.known o.here (λ e. other.1 (sym (o.vp_is ∙ e))))

-- another port stays open
still-open : (s : Ports) (n m : ℕ) (y : Port) → n < length s.ports → port_at (without_port s n) m ≡ Some y
    → port_at s m ≡ Some y
still-open s n m y within was = go (eqb_tells m n)
  where
    go : ((nat_eq m n ≡ true) × (m ≡ n)) ⊎ ((nat_eq m n ≡ false) × (m ≢ n)) → port_at s m ≡ Some y
    go (inl same) =
        let gone : port_at (without_port s n) m ≡ None =
        ap (port_at (without_port s n)) same.1 ∙ get_or-set_same s.ports n None None within in
        absurd (let bad : None ≡ Some y = sym gone ∙ was in cc)
    go (inr other) = sym (get_or-set_other s.ports n m None None other.1) ∙ was

pub closed : (a : Inside) (n vp counted w : ℕ) (x : Port) → PortsInvariant a → Open a n vp counted x
    → w ≡ counted - buffers_of x.shape
    → PortsInvariant (record { ports = with_item a.ports n None; buffers = with_item a.buffers vp w })
closed a n vp counted w x k o left =
    let same = length-set a.buffers.items vp w in
    let s = ports_of a in
    record {
      processor_bound = omega (arith, same, k.processor_bound);
      on_the_board = λ m y was. omega (arith, same, k.on_the_board m y (still-open s n m y o.known was));
      fits = λ m y was. k.fits m y (still-open s n m y o.known was);
      counted = λ p on. counts a n vp counted w x k o left p (omega (arith, on, same));
      within = λ p on. fewer p (omega (arith, on, same));
    }
  where
    fewer : (p : ℕ) → p < length a.buffers.items → buffers_to (without_port (ports_of a) n) p ≤ 256
    fewer p on = go (eqb_tells x.vp p)
      where
        go : ((nat_eq x.vp p ≡ true) × (x.vp ≡ p)) ⊎ ((nat_eq x.vp p ≡ false) × (x.vp ≢ p))
            → buffers_to (without_port (ports_of a) n) p ≤ 256
        go (inl same) =
            let own = closed-own (ports_of a) n x o.known o.here in
            let moved = ap (buffers_to (without_port (ports_of a) n)) same.1 in
            let before = ap (buffers_to (ports_of a)) same.1 in
            omega (arith, own, moved, before, k.within p on)
        go (inr other) = omega (arith, closed-other (ports_of a) n p x o.known o.here other.1, k.within p on)
