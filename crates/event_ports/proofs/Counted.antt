-- The message buffers of a processor's ports, after a port is closed.
use Rattle.std.proofs.Common.{◌≡◌, ◌≢◌, ◌+◌, ◌<◌, ◌≤◌, ℕ, length, refl, ap, arith, cond, nat_eq, ne_eqb, eq-eqb}
use Rattle.std.specs.Prelude.{Option, None, Some, Result, Ok, Err}
use Rattle.std.specs.Option.{option_map_or}
use Rattle.std.proofs.lemmas.List.Sums.{sum_by-set, get_or-le-sum_by}
use Rattle.board_terms.specs.declared.refusal.Refusal.{Refusal}
use Rattle.board_terms.specs.declared.refusal.Refusal.TheVariants.{UnknownPort}
use Rattle.event_ports.specs.declared.ports.Port.{Port}
use Rattle.event_ports.specs.Shapes.{buffers_of}
use Rattle.event_ports.specs.Ports.{Ports, port_at, buffers_at, buffers_to, without_port, target_of}

-- the buffers of an open port are among those of its processor
pub port-counts : (s : Ports) (n : ℕ) (x : Port) → n < length s.ports → port_at s n ≡ Some x
    → buffers_of x.shape ≤ buffers_to s x.vp
port-counts s n x within was =
    let least = get_or-le-sum_by (buffers_at x.vp) s.ports n None within in
    let here = ap (buffers_at x.vp) was in
    let mine : cond (nat_eq x.vp x.vp) (buffers_of x.shape) 0 ≡ buffers_of x.shape = rw (eq-eqb x.vp x.vp refl) refl in
    omega (arith, least, here, mine)

-- the port takes its own buffers with it
pub closed-own : (s : Ports) (n : ℕ) (x : Port) → n < length s.ports → port_at s n ≡ Some x
    → buffers_to (without_port s n) x.vp + buffers_of x.shape ≡ buffers_to s x.vp
closed-own s n x within was =
    let sum = sum_by-set (buffers_at x.vp) s.ports n None None within in
    let here = ap (buffers_at x.vp) was in
    let mine : cond (nat_eq x.vp x.vp) (buffers_of x.shape) 0 ≡ buffers_of x.shape = rw (eq-eqb x.vp x.vp refl) refl in
    omega (arith, sum, here, mine)

-- another processor has as many as before
pub closed-other : (s : Ports) (n p : ℕ) (x : Port) → n < length s.ports → port_at s n ≡ Some x → x.vp ≢ p
    → buffers_to (without_port s n) p ≡ buffers_to s p
closed-other s n p x within was other =
    let sum = sum_by-set (buffers_at p) s.ports n None None within in
    let here = ap (buffers_at p) was in
    let none : cond (nat_eq x.vp p) (buffers_of x.shape) 0 ≡ 0 = rw (ne_eqb x.vp p other) refl in
    omega (arith, sum, here, none)

-- a known port is open
pub port-of : (s : Ports) (n : ℕ) (x : Port) → target_of s n ≡ Ok x → port_at s n ≡ Some x
port-of s n x is = go (port_at s n) is
  where
    go : (p : Option Port) → ◌≡◌ {A = Result Port Refusal} (option_map_or (λ y. Ok y) p (Err UnknownPort)) (Ok x)
        → p ≡ Some x
    go (Some y) same = let it : y ≡ x = cc in ap (λ (z : Port). Some z) it
    go None same = absurd (cc)
