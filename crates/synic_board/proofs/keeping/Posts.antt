-- Opening and closing ports, posts and signals.
use Rattle.std.proofs.Common.{◌≡◌, ◌≢◌, ℕ, ◌+◌, ◌^◌, ◌<◌, ◌≤◌, Bool, true, false, ◌&&◌, [], ◌∷◌, length, refl, arith, nat_lt}
use Rattle.std.specs.Prelude.{Option, None, Some, Ok, Err, if◌then◌else◌, not, nat_le, is_some}
use Rattle.std.specs.Option.{option_map_or}
use Rattle.std.proofs.lemmas.Bool.Decides.{nat_tests}
use Rattle.arrayvec.specs.ArrayVec.{ArrayVec}
use Rattle.board_terms.specs.declared.messages.PortShape.{PortShape}
use Rattle.board_terms.specs.declared.messages.PortShape.TheVariants.{Messages, Flags}
use Rattle.board_terms.specs.declared.messages.Message.TheVariants.{FromPort}
use Rattle.board_terms.specs.declared.notices.Notice.TheVariants.{FlagSet}
use Rattle.board_terms.specs.declared.refusal.Refusal.{Refusal}
use Rattle.board_terms.specs.declared.refusal.Refusal.TheVariants.{UnknownPort, PortOpen, WrongKind, BadTarget, BadType, BadFlag, SynicOff}
use Rattle.event_ports.specs.declared.ports.Port.{Port}
use Rattle.event_ports.specs.Ports.{port_at, is_target, has_room, open_refusal, is_posted_type, message_target_at, flag_place_at}
use Rattle.event_ports.specs.Shapes.{fits}
use Rattle.synic_regs.specs.Regs.{has, enable}
use Rattle.gpa_space.specs.Space.{is_flag_set}
use Rattle.synic_board.specs.State.{State, processors, regs_of, space_of, ports_of}
use Rattle.synic_board.specs.Effects.{answered, unchanged, refused}
use Rattle.synic_board.specs.declared.event.Reply.TheVariants.{Done, Accepted, Refused}
use Rattle.synic_board.specs.Interrupts.{raised}
use Rattle.synic_board.specs.Delivery.{delivered}
use Rattle.synic_board.specs.Posts.{with_port, opened_port, withdrawn, without_port, closed_at, closed, post_refusal, posted_at, posted, with_flag, flagged, signalled_place, signalled_at, signalled}
use Rattle.synic_board.proofs.keeping.Left.{leaves-same, leaves-flag}
use Rattle.synic_board.proofs.keeping.Wholes.{IsIntact, KeepsOutcome, AreStill, keeps-still, keeps-unchanged, keeps-after}
use Rattle.synic_board.proofs.keeping.Requests.{either, keeps-raised}
use Rattle.synic_board.proofs.keeping.Attempts.{keeps-delivered, keeps-withdrawn}
use Rattle.synic_board.proofs.keeping.Changes.{kept-port, kept-without_port, kept-flag}

-- what holds where a port is opened
pub record IsOpened (unknown is_open target fitting left : Bool) : Type 0 where
  pub known : unknown ≡ false
  pub closed : is_open ≡ false
  pub reached : target ≡ true
  pub fits : fitting ≡ true
  pub room : left ≡ true

pub not-refused : (a b t f r : Bool) (x y z : Refusal)
    → (if a then Some x else if b then Some y else if not (t && f && r) then Some z else None) ≡ None
    → IsOpened a b t f r
not-refused true b t f r x y z e = absurd (cc)
not-refused false true t f r x y z e = absurd (cc)
not-refused false false false f r x y z e = absurd (cc)
not-refused false false true false r x y z e = absurd (cc)
not-refused false false true true false x y z e = absurd (cc)
not-refused false false true true true x y z e =
    record { known = refl; closed = refl; reached = refl; fits = refl; room = refl }

pub keeps-opened_port : (n : ℕ) (s : State) (port p i : ℕ) (shape : PortShape) → IsIntact n s
    → KeepsOutcome n s (opened_port s port p i shape)
keeps-opened_port n s port p i shape h = judged (open_refusal (ports_of s) port p i shape) refl
  where
    judged : (o : Option Refusal) → open_refusal (ports_of s) port p i shape ≡ o →
        KeepsOutcome n s (option_map_or (refused s) o
        (unchanged (with_port s port (record { vp = p; sint = i; shape = shape })) Done))
    judged (Some r) is = keeps-unchanged n s (Refused r) h
    judged None is =
        let o : IsOpened (nat_le (length s.ports) port) (is_some (port_at (ports_of s) port))
        (is_target (ports_of s) p i) (fits shape) (has_room (ports_of s) p shape) =
        not-refused _ _ _ _ _ UnknownPort PortOpen BadTarget is in
        let good : (nat_lt p (processors s) && nat_lt i 16) ≡ true = o.reached in
        let below : p < n = (let c = h.count in grind (arith, nat_tests)) in
        let under : i < 16 = grind (arith, nat_tests) in
        keeps-still n s (with_port s port (record { vp = p; sint = i; shape = shape }), [])
        (kept-port n s port (record { vp = p; sint = i; shape = shape }) below under h)
        (record { queues = refl; slots = refl; next = refl })
        (leaves-same n s (with_port s port (record { vp = p; sint = i; shape = shape })) refl refl) (λ t. refl)

pub keeps-closed : (n : ℕ) (s : State) (port : ℕ) → IsIntact n s → KeepsOutcome n s (closed s port)
keeps-closed n s port h = found (port_at (ports_of s) port) refl
  where
    found : (o : Option Port) → port_at (ports_of s) port ≡ o
        → KeepsOutcome n s (closed_at s port (option_map_or (λ p. Ok p) o (Err UnknownPort)))
    found None is = keeps-unchanged n s (Refused UnknownPort) h
    found (Some p) is =
        let reached = h.whole.ports port p is in
        let first = keeps-still n s (without_port s port, []) (kept-without_port n s port h)
        (record { queues = refl; slots = refl; next = refl })
        (leaves-same n s (without_port s port) refl refl) (λ t. refl) in
        keeps-after n s (without_port s port, []) (withdrawn (without_port s port) p.vp p.sint port) first
        (keeps-withdrawn n (without_port s port) p.vp p.sint port first.kept reached.0 reached.1)

-- a valid type of a post
some-kind : (kind : ℕ) → is_posted_type kind ≡ true → kind ≢ 0
some-kind kind e z = absurd (grind (arith, nat_tests))

small-kind : (kind : ℕ) → is_posted_type kind ≡ true → kind < 2 ^ 32
small-kind kind e = let low : kind < 0x80000000 = grind (arith, nat_tests) in omega arith

pub keeps-posted : (n : ℕ) (s : State) (port kind : ℕ) (payload : ArrayVec ℕ) → length payload.items ≤ 240
    → IsIntact n s → KeepsOutcome n s (posted s port kind payload)
keeps-posted n s port kind payload size h = found (port_at (ports_of s) port) refl
  where
    judged : (p : Port) → port_at (ports_of s) port ≡ Some p → is_posted_type kind ≡ true
        → KeepsOutcome n s (posted_at s port kind payload (Ok p))
    judged p is good = elim (post_refusal s port p.vp p.shape) as
        (λ o. KeepsOutcome n s (option_map_or (refused s) o
        (answered (Accepted s.next_ticket) (delivered s p.vp p.sint (FromPort s.next_ticket port kind payload))))) [
          | None ↦ let reached =
              h.whole.ports port p is in
              keeps-delivered n s p.vp p.sint (FromPort s.next_ticket port kind payload) h reached.0 reached.1
              (some-kind kind good, small-kind kind good, size) refl
          | Some r ↦ keeps-unchanged n s (Refused r) h
        ]

    shaped : (p : Port) → port_at (ports_of s) port ≡ Some p → (shape : PortShape)
        → KeepsOutcome n s (posted_at s port kind payload (message_target_at kind p shape))
    shaped p is (Messages buffers) =
        either (λ r. KeepsOutcome n s (posted_at s port kind payload r)) (is_posted_type kind) _ _
        (λ good. judged p is good)
        (λ _. keeps-unchanged n s (Refused BadType) h)
    shaped p is (Flags base count) = keeps-unchanged n s (Refused WrongKind) h

    found : (o : Option Port) → port_at (ports_of s) port ≡ o
        → KeepsOutcome n s (posted_at s port kind payload
        (option_map_or (λ p. message_target_at kind p p.shape) o (Err UnknownPort)))
    found None is = keeps-unchanged n s (Refused UnknownPort) h
    found (Some p) is = shaped p is p.shape

keeps-signalled_place : (n : ℕ) (s : State) (p i flag : ℕ) → IsIntact n s → p < n
    → KeepsOutcome n s (signalled_place s (p, i, flag))
keeps-signalled_place n s p i flag h below =
    let quiet : AreStill s (with_flag s p i flag) = record { queues = refl; slots = refl; next = refl } in
    either (KeepsOutcome n s) (not (has (regs_of s p).control enable && has (regs_of s p).sief enable)) _ _
    (λ _. keeps-unchanged n s (Refused SynicOff) h)
    (λ _. either (KeepsOutcome n s) (is_flag_set (space_of s) p i flag) _ _
    (λ _. keeps-still n s (with_flag s p i flag, []) (kept-flag n s p i flag below h) quiet (leaves-flag n s p i flag)
    (λ t. refl))
    (λ _. let first = keeps-still n s (with_flag s p i flag, FlagSet p i flag ∷ [])
    (kept-flag n s p i flag below h) quiet (leaves-flag n s p i flag) (λ t. refl) in
    keeps-after n s (flagged s p i flag) (raised (with_flag s p i flag) p i) first
    (keeps-raised n (with_flag s p i flag) p i first.kept)))

pub keeps-signalled : (n : ℕ) (s : State) (port flag : ℕ) → IsIntact n s → KeepsOutcome n s (signalled s port flag)
keeps-signalled n s port flag h = found (port_at (ports_of s) port) refl
  where
    shaped : (p : Port) → port_at (ports_of s) port ≡ Some p → (shape : PortShape)
        → KeepsOutcome n s (signalled_at s (flag_place_at flag p shape))
    shaped p is (Messages buffers) = keeps-unchanged n s (Refused WrongKind) h
    shaped p is (Flags base count) = either (λ r. KeepsOutcome n s (signalled_at s r)) (nat_lt flag count) _ _
        (λ _. keeps-signalled_place n s p.vp p.sint (base + flag) h (h.whole.ports port p is).0)
        (λ _. keeps-unchanged n s (Refused BadFlag) h)

    found : (o : Option Port) → port_at (ports_of s) port ≡ o
        → KeepsOutcome n s (signalled_at s (option_map_or (λ p. flag_place_at flag p p.shape) o (Err UnknownPort)))
    found None is = keeps-unchanged n s (Refused UnknownPort) h
    found (Some p) is = shaped p is p.shape
