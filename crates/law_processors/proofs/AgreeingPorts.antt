-- States that agree: events at ports of processor q, and interrupts that are sent to it alone.
use Rattle.std.proofs.Common.{◌≡◌, ◌≢◌, ℕ, zero, suc, ◌+◌, ◌%◌, ◌^◌, ◌<◌, ◌==◌, ◌&&◌, Bool, true, false, not, nat_lt, nat_le, List, Option, None, Some, Result, Ok, Err, refl, sym, ap, ◌∙◌, subst, arith}
use Rattle.std.specs.Prelude.{if◌then◌else◌, cond}
use Rattle.std.specs.Option.{option_map_or}
use Rattle.std.specs.Int.{bit_at}
use Rattle.std.proofs.lemmas.Bool.Decides.{nat_tests}
use Rattle.arrayvec.specs.ArrayVec.{ArrayVec}
use Rattle.board_terms.specs.declared.messages.PortShape.{PortShape}
use Rattle.board_terms.specs.declared.messages.PortShape.TheVariants.{Messages, Flags}
use Rattle.board_terms.specs.declared.pages.Kind.TheVariants as kind
use Rattle.board_terms.specs.declared.refusal.Refusal.{Refusal}
use Rattle.board_terms.specs.declared.refusal.Refusal.TheVariants.{UnknownPort, BadType, BadFlag, SynicOff, NoBuffers, TicketsSpent, NoSuchProcessor}
use Rattle.event_ports.specs.declared.ports.Port.{Port}
use Rattle.event_ports.specs.Ports.{Ports, port_at, open_refusal, target_of, is_posted_type, message_target_at, message_target_of, flag_place_at, flag_place_of}
use Rattle.gpa_space.specs.Page.{is_set, with_bit, flag_place}
use Rattle.gpa_space.specs.Space.{own_page, overlay_of, is_flag_set}
use Rattle.lapic_core.specs.Apic.{next}
use Rattle.board_terms.specs.declared.messages.Message.TheVariants.{FromPort}
use Rattle.event_ports.specs.Shapes.{buffers_of}
use Rattle.message_queues.specs.Queues.{is_from_port, port_used}
use Rattle.synic_regs.specs.Regs.{Regs, has, enable}
use Rattle.synic_board.specs.declared.event.Reply.TheVariants as replies
use Rattle.synic_board.specs.State.{State, processors, regs_of, space_of, ports_of}
use Rattle.synic_board.specs.Effects.{Effect, Outcome, nothing, after, answered, unchanged, refused}
use Rattle.synic_board.specs.Interrupts.{requested, raised}
use Rattle.synic_board.specs.Delivery.{delivered}
use Rattle.synic_board.specs.Posts.{with_port, without_port, withdrawn, opened_port, closed_at, closed, post_refusal, posted_at, posted, with_flag, flagged, signalled_place, signalled_at, signalled}
use Rattle.synic_board.specs.Sending.{sent_to, sent_below, sent}
use Rattle.law_processors.specs.Isolation.{is_at}
use Rattle.law_processors.specs.Influence.{Agree}
use Rattle.law_processors.proofs.Agreeing.{Same, Both, twice, both-after, own-same, same-own, same-shared, both-requested, both-raised}
use Rattle.law_processors.proofs.AgreeingTickets.{used-same, port-outside, both-delivered}
use Rattle.law_processors.proofs.AgreeingEffects.{both-withdrawn}
use Rattle.law_processors.proofs.AgreeingSteps.{BothIn, same-agree, both-answered, is-own}

module _ (q : ℕ) (s t : State) (h : Agree q s t) where
  k : Same q s t
  k = same-agree q s t h

  regs-is : regs_of t q ≡ regs_of s q
  regs-is = h.has.regs

  ports-are : ports_of t ≡ ports_of s
  ports-are = ap (λ (n : ℕ). record { processors = n; ports = t.ports }) h.count
      ∙ ap (λ (ports : List (Option Port)). record { processors = processors s; ports = ports }) h.ports

  -- ports
  pub both-opened : (port p i : ℕ) (shape : PortShape)
      → BothIn q (opened_port s port p i shape) (opened_port t port p i shape)
  both-opened port p i shape =
      let x : Port = record { vp = p; sint = i; shape = shape } in
      subst (λ (ports : Ports). BothIn q (opened_port s port p i shape)
      (option_map_or (refused t) (open_refusal ports port p i shape) (unchanged (with_port t port x) replies.Done)))
      (sym ports-are) (by x (open_refusal (ports_of s) port p i shape))
    where
      by : (x : Port) (o : Option Refusal)
          → BothIn q (option_map_or (refused s) o (unchanged (with_port s port x) replies.Done))
          (option_map_or (refused t) o (unchanged (with_port t port x) replies.Done))
      by x None = (
        same-shared q s t k s.next_ticket t.next_ticket (with_port s port x).ports (with_port t port x).ports s.pages
            t.pages,
        refl,
        refl,
      )
      by x (Some r) = (k, refl, refl)

  -- an open port with a target that the event concerns
  target-is : (port : ℕ) (x : Port) → port_at (ports_of s) port ≡ Some x
      → ((r : ℕ) → r ≢ q → is_at r (port_at (ports_of s) port) ≡ false) → x.vp ≡ q
  target-is port x is alone =
      is-own q x.vp (λ r apart. sym (ap (is_at r) is) ∙ alone r apart)

  pub both-closed : (port : ℕ) → ((i : ℕ) (x : Port) → port_at (ports_of s) i ≡ Some x → x.sint < 16)
      → ((r : ℕ) → r ≢ q → is_at r (port_at (ports_of s) port) ≡ false) → BothIn q (closed s port) (closed t port)
  both-closed port sources alone =
      subst (λ (ports : Ports). BothIn q (closed s port) (closed_at t port (target_of ports port))) (sym ports-are)
      (by (port_at (ports_of s) port) refl)
    where
      here : State
      here = without_port s port

      there : State
      there = without_port t port

      found : (x : Port) → port_at (ports_of s) port ≡ Some x → (p : ℕ) → p ≡ q
          → BothIn q (answered replies.Done (withdrawn here p x.sint port))
          (answered replies.Done (withdrawn there p x.sint port))
      found x is p own =
          subst (λ p. BothIn q (answered replies.Done (withdrawn here p x.sint port))
          (answered replies.Done (withdrawn there p x.sint port))) (sym own)
          (both-answered q (withdrawn here q x.sint port) (withdrawn there q x.sint port) replies.Done replies.Done refl
          (both-withdrawn q here there
          (same-shared q s t k s.next_ticket t.next_ticket here.ports there.ports s.pages t.pages) x.sint port
          (sources port x is)))

      by : (o : Option Port) → port_at (ports_of s) port ≡ o
          → BothIn q (closed_at s port (option_map_or (λ p. Ok p) o (Err UnknownPort)))
          (closed_at t port (option_map_or (λ p. Ok p) o (Err UnknownPort)))
      by None is = (k, refl, refl)
      by (Some x) is = found x is x.vp (target-is port x is alone)

  both-signal : (i flag : ℕ) → BothIn q (signalled_place s (q, i, flag)) (signalled_place t (q, i, flag))
  both-signal i flag =
      let here : State = with_flag s q i flag in
      let there : State = with_flag t q i flag in
      let page = own-same q s t k kind.Sief in
      let lit : Same q here there =
      same-own q s t k (overlay_of q kind.Sief)
      (with_bit (own_page (space_of s) q kind.Sief) (flag_place i flag) (flag % 8))
      (with_bit (own_page (space_of t) q kind.Sief) (flag_place i flag) (flag % 8))
      (ap (λ (x : List ℕ). with_bit x (flag_place i flag) (flag % 8)) page) in
      twice (BothIn q) (not (has (regs_of s q).control enable && has (regs_of s q).sief enable))
      (not (has (regs_of t q).control enable && has (regs_of t q).sief enable)) (refused s SynicOff)
      (cond (is_flag_set (space_of s) q i flag) (unchanged here replies.FlagWasSet)
      (answered replies.FlagWasClear (after (flagged s q i flag) (raised here q i)))) (refused t SynicOff)
      (cond (is_flag_set (space_of t) q i flag) (unchanged there replies.FlagWasSet)
      (answered replies.FlagWasClear (after (flagged t q i flag) (raised there q i))))
      (ap (λ (r : Regs). not (has r.control enable && has r.sief enable)) regs-is) (λ _. (k, refl, refl))
      (λ _. twice (BothIn q) (is_flag_set (space_of s) q i flag) (is_flag_set (space_of t) q i flag)
      (unchanged here replies.FlagWasSet)
      (answered replies.FlagWasClear (after (flagged s q i flag) (raised here q i)))
      (unchanged there replies.FlagWasSet)
      (answered replies.FlagWasClear (after (flagged t q i flag) (raised there q i)))
      (ap (λ (x : List ℕ). is_set x (flag_place i flag) (flag % 8)) page) (λ _. (lit, refl, refl))
      (λ _. both-answered q (after (flagged s q i flag) (raised here q i))
      (after (flagged t q i flag) (raised there q i))
      replies.FlagWasClear replies.FlagWasClear refl
      (both-after q (flagged s q i flag) (raised here q i) (flagged t q i flag) (raised there q i) (lit, refl)
      (both-raised q here there lit i))))

  pub both-signalled : (port flag : ℕ) → ((r : ℕ) → r ≢ q → is_at r (port_at (ports_of s) port) ≡ false)
      → BothIn q (signalled s port flag) (signalled t port flag)
  both-signalled port flag alone =
      subst (λ (ports : Ports). BothIn q (signalled s port flag) (signalled_at t (flag_place_of ports port flag)))
      (sym ports-are) (by (port_at (ports_of s) port) refl)
    where
      shaped : (x : Port) (shape : PortShape) → x.vp ≡ q
          → BothIn q (signalled_at s (flag_place_at flag x shape)) (signalled_at t (flag_place_at flag x shape))
      shaped x (Messages buffers) own = (k, refl, refl)
      shaped x (Flags base count) own =
          twice (λ (a b : Result (ℕ × ℕ × ℕ) Refusal). BothIn q (signalled_at s a) (signalled_at t b))
          (nat_lt flag count) (nat_lt flag count) (Ok (x.vp, x.sint, base + flag)) (Err BadFlag)
          (Ok (x.vp, x.sint, base + flag)) (Err BadFlag) refl
          (λ _. subst (λ p. BothIn q (signalled_place s (p, x.sint, base + flag))
          (signalled_place t (p, x.sint, base + flag))) (sym own) (both-signal x.sint (base + flag)))
          (λ _. (k, refl, refl))

      by : (o : Option Port) → port_at (ports_of s) port ≡ o
          → BothIn q (signalled_at s (option_map_or (λ (p : Port). flag_place_at flag p p.shape) o (Err UnknownPort)))
          (signalled_at t (option_map_or (λ (p : Port). flag_place_at flag p p.shape) o (Err UnknownPort)))
      by None is = (k, refl, refl)
      by (Some x) is = shaped x x.shape (target-is port x is alone)

  -- a send
  both-sent_below : (v mask n : ℕ) → ((r : ℕ) → r ≢ q → (bit_at mask r == 1) ≡ false)
      → Both q (sent_below s v mask n) (sent_below t v mask n)
  unfolding sent_below
  both-sent_below v mask zero alone = (k, refl)
  both-sent_below v mask (suc p) alone =
      let e : Effect = sent_below s v mask p in
      let f : Effect = sent_below t v mask p in
      let both = both-sent_below v mask p alone in
      both-after q e (sent_to e.0 v mask p) f (sent_to f.0 v mask p) both
      (by e.0 f.0 both.0 (bit_at mask p == 1) refl (p == q) refl)
    where
      by : (x y : State) → Same q x y → (b : Bool) → (bit_at mask p == 1) ≡ b → (c : Bool) → (p == q) ≡ c
          → Both q (if b then requested x p v else nothing x) (if b then requested y p v else nothing y)
      by x y same false is c at = (same, refl)
      by x y same true is true at =
          let own : p ≡ q = grind (arith, nat_tests) in
          subst (λ p. Both q (requested x p v) (requested y p v)) (sym own) (both-requested q x y same v)
      by x y same true is false at =
          let apart : p ≢ q = grind (arith, nat_tests) in
          let never : (bit_at mask p == 1) ≡ false = alone p apart in absurd (cc)

  pub both-sent : (v mask : ℕ) → ((r : ℕ) → r ≢ q → (bit_at mask r == 1) ≡ false)
      → BothIn q (sent s v mask) (sent t v mask)
  both-sent v mask alone =
      twice (BothIn q) (nat_lt mask (2 ^ processors s)) (nat_lt mask (2 ^ processors t))
      (answered replies.Done (sent_below s v mask 64)) (refused s NoSuchProcessor)
      (answered replies.Done (sent_below t v mask 64)) (refused t NoSuchProcessor)
      (ap (λ n. nat_lt mask (2 ^ n)) h.count)
      (λ _. both-answered q (sent_below s v mask 64) (sent_below t v mask 64) replies.Done replies.Done refl
      (both-sent_below v mask 64 alone)) (λ _. (k, refl, refl))

  -- a post
  port-used-is : (port : ℕ) (x : Port) → port_at (ports_of s) port ≡ Some x → x.vp ≡ q
      → port_used t.queues port ≡ port_used s.queues port
  port-used-is port x is own =
      let there : port_at (ports_of t) port ≡ Some x = ap (λ (ports : Ports). port_at ports port) ports-are ∙ is in
      used-same q (is_from_port port) s t k
      (λ m apart. port-outside q port x t h.buffers.1 there own m apart
      ∙ sym (port-outside q port x s h.buffers.0 is own m apart))

  post_refusal-is : (port : ℕ) (x : Port) (shape : PortShape) → port_at (ports_of s) port ≡ Some x → x.vp ≡ q
      → post_refusal t port q shape ≡ post_refusal s port q shape
  post_refusal-is port x shape is own =
      ap (λ (r : Regs). by (has r.control enable) (port_used t.queues port) t.next_ticket) regs-is
      ∙ ap (λ used. by (has (regs_of s q).control enable) used t.next_ticket) (port-used-is port x is own)
      ∙ ap (by (has (regs_of s q).control enable) (port_used s.queues port)) h.tickets
    where
      by : Bool → ℕ → ℕ → Option Refusal
      by on used next =
          if not on then Some SynicOff
          else if nat_le (buffers_of shape) used then Some NoBuffers
          else if not (nat_lt next 0xffffffffffffffff) then Some TicketsSpent
          else None

  both-post : (port kind : ℕ) (payload : ArrayVec ℕ) (x : Port) → port_at (ports_of s) port ≡ Some x → x.sint < 16
      → (p : ℕ) → p ≡ q → x.vp ≡ p
      → BothIn q
      (option_map_or (refused s) (post_refusal s port p x.shape)
      (answered (replies.Accepted s.next_ticket)
      (delivered s p x.sint (FromPort s.next_ticket port kind payload))))
      (option_map_or (refused t) (post_refusal t port p x.shape)
      (answered (replies.Accepted t.next_ticket)
      (delivered t p x.sint (FromPort t.next_ticket port kind payload))))
  both-post port kind payload x is low p own at =
      subst (λ p. BothIn q
      (option_map_or (refused s) (post_refusal s port p x.shape)
      (answered (replies.Accepted s.next_ticket) (delivered s p x.sint (FromPort s.next_ticket port kind payload))))
      (option_map_or (refused t) (post_refusal t port p x.shape)
      (answered (replies.Accepted t.next_ticket) (delivered t p x.sint (FromPort t.next_ticket port kind payload)))))
      (sym own)
      (subst (λ (o : Option Refusal). BothIn q (option_map_or (refused s) (post_refusal s port q x.shape) here)
      (option_map_or (refused t) o there)) (sym (post_refusal-is port x x.shape is (at ∙ own)))
      (by (post_refusal s port q x.shape)))
    where
      here : Outcome
      here =
          answered (replies.Accepted s.next_ticket) (delivered s q x.sint (FromPort s.next_ticket port kind payload))

      there : Outcome
      there =
          answered (replies.Accepted t.next_ticket) (delivered t q x.sint (FromPort t.next_ticket port kind payload))

      by : (o : Option Refusal)
          → BothIn q (option_map_or (refused s) o here) (option_map_or (refused t) o there)
      by (Some r) = (k, refl, refl)
      by None =
          both-answered q (delivered s q x.sint (FromPort s.next_ticket port kind payload))
          (delivered t q x.sint (FromPort t.next_ticket port kind payload)) (replies.Accepted s.next_ticket)
          (replies.Accepted t.next_ticket) (ap replies.Accepted h.tickets)
          (both-delivered q s t k h.tickets x.sint low (FromPort s.next_ticket port kind payload)
          (FromPort t.next_ticket port kind payload) (ap (λ ticket. FromPort ticket port kind payload) h.tickets))

  pub both-posted : (port kind : ℕ) (payload : ArrayVec ℕ)
      → ((i : ℕ) (x : Port) → port_at (ports_of s) i ≡ Some x → x.sint < 16)
      → ((r : ℕ) → r ≢ q → is_at r (port_at (ports_of s) port) ≡ false)
      → BothIn q (posted s port kind payload) (posted t port kind payload)
  both-posted port kind payload sources alone =
      subst (λ (ports : Ports). BothIn q (posted s port kind payload)
      (posted_at t port kind payload (message_target_of ports port kind))) (sym ports-are)
      (by (port_at (ports_of s) port) refl)
    where
      shaped : (x : Port) (shape : PortShape) → port_at (ports_of s) port ≡ Some x → x.vp ≡ q
          → BothIn q (posted_at s port kind payload (message_target_at kind x shape))
          (posted_at t port kind payload (message_target_at kind x shape))
      shaped x (Messages buffers) is own =
          twice (λ (a b : Result Port Refusal). BothIn q (posted_at s port kind payload a)
          (posted_at t port kind payload b)) (is_posted_type kind) (is_posted_type kind) (Ok x) (Err BadType) (Ok x)
          (Err BadType) refl
          (λ _. both-post port kind payload x is (sources port x is) x.vp own refl) (λ _. (k, refl, refl))
      shaped x (Flags base count) is own = (k, refl, refl)

      by : (o : Option Port) → port_at (ports_of s) port ≡ o
          → BothIn q
          (posted_at s port kind payload
          (option_map_or (λ (p : Port). message_target_at kind p p.shape) o (Err UnknownPort)))
          (posted_at t port kind payload
          (option_map_or (λ (p : Port). message_target_at kind p p.shape) o (Err UnknownPort)))
      by None is = (k, refl, refl)
      by (Some x) is = shaped x x.shape is (target-is port x is alone)
