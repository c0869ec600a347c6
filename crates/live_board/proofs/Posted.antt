-- The words that a post changes.
use Rattle.std.proofs.Common.{◌≡◌, ◌≢◌, ℕ, ◌+◌, ◌*◌, ◌<◌, ◌≤◌, ◌^◌, Bool, true, false, ◌&&◌, List, [], ◌∷◌, ◌++◌, length, get_or, Option, None, Some, Ok, Err, refl, sym, ap, ◌∙◌, subst, arith, nat_lt, All, length-set, length-append}
use Rattle.std.specs.Prelude.{is_none, if◌then◌else◌}
use Rattle.std.specs.Option.{option_map_or}
use Rattle.std.proofs.lemmas.Bool.Decides.{nat_tests}
use Rattle.std.proofs.lemmas.List.{get_or-set_same}
use Rattle.std.proofs.lemmas.List.Elements.{All-set, All-append, All-cons, All-nil}
use Rattle.arrayvec.specs.ArrayVec.{ArrayVec}
use Rattle.board_terms.specs.declared.messages.PortShape.{PortShape}
use Rattle.board_terms.specs.declared.messages.PortShape.TheVariants.{Messages, Flags}
use Rattle.board_terms.specs.declared.messages.Message.{Message}
use Rattle.board_terms.specs.declared.messages.Message.TheVariants.{FromPort}
use Rattle.board_terms.specs.declared.refusal.Refusal.{Refusal}
use Rattle.board_terms.specs.declared.refusal.Refusal.TheVariants.{UnknownPort, BadType}
use Rattle.board_terms.specs.Sources.{source_number}
use Rattle.event_ports.specs.declared.ports.Port.{Port}
use Rattle.event_ports.specs.Ports.{port_at, is_posted_type, message_target_at}
use Rattle.event_ports.specs.Shapes.{takes_messages}
use Rattle.message_queues.specs.Queues.{queue_of}
use Rattle.synic_board.specs.declared.event.Reply.TheVariants.{Accepted}
use Rattle.synic_board.specs.State.{State, processors, ports_of}
use Rattle.synic_board.specs.Effects.{answered, refused}
use Rattle.synic_board.specs.Delivery.{delivers, accepted, delivered}
use Rattle.synic_board.specs.Posts.{post_refusal, posted_at, posted}
use Rattle.synic_board.specs.Sound.{IsSound, IsWhole, IsMessage}
use Rattle.synic_board.proofs.keeping.Placements.{page_of, page-long, queue-good}
use Rattle.live_board.specs.Live.{is_waiting}
use Rattle.live_board.specs.Words.{word_of}
use Rattle.live_board.specs.inside.Parts.{Attempts, is_attempted}
use Rattle.live_board.proofs.Tried.{pages-tried, tries-is}

-- nothing changes
pub still-attempts : (s now : State) (p i : ℕ) (made : Bool) → now.own ≡ s.own → made ≡ false → Attempts s p i made now
still-attempts s now p i made own none = record {
  count = ap length own;
  others = λ j x _ _. ap (λ l. word_of (record s { own = l }) j x) own;
  idle = λ _ j x. ap (λ l. word_of (record s { own = l }) j x) own;
  marks = λ yes _ x _. absurd (let e : true ≡ false = sym yes ∙ none in cc);
  fills = λ yes _. absurd (let e : true ≡ false = sym yes ∙ none in cc);
}

-- a message that is accepted is attempted if the SynIC and its message page are enabled
pub accepted-whole : (n : ℕ) (s : State) (p i : ℕ) (m : Message) → IsWhole n s → p < n → i < 16 → IsMessage m
    → IsWhole n (accepted s p i m).0
accepted-whole n s p i m h below under good =
    let q : List Message = queue_of s.queues p i ++ m ∷ [] in
    let more : All IsMessage q =
    All-append IsMessage (queue_of s.queues p i) (m ∷ []) (queue-good n s p i h below under)
    (All-cons IsMessage m [] good (All-nil IsMessage)) in
    record {
      registers = h.registers;
      own = h.own;
      pages = h.pages;
      queues = length-set s.queues (source_number p i) q ∙ h.queues;
      slots = h.slots;
      ports = h.ports;
      timers = h.timers;
      messages = All-set (All IsMessage) s.queues (source_number p i) q more h.messages;
    }

attempted : (n : ℕ) (s : State) (p i : ℕ) (m : Message) → IsWhole n s → p < n → i < 16 → IsMessage m
    → is_waiting (accepted s p i m).0 p i ≡ delivers s p
attempted n s p i m h below under good =
    let q : List Message = queue_of s.queues p i in
    let there = get_or-set_same s.queues (source_number p i) (q ++ m ∷ []) [] (omega (arith, h.queues)) in
    let long : length (q ++ m ∷ []) ≡ length q + 1 = length-append q (m ∷ []) in
    let some : nat_lt 0 (length (q ++ m ∷ [])) ≡ true = grind (arith, nat_tests) in
    ap (λ (l : List Message). delivers s p && nat_lt 0 (length l)) there ∙ ap (λ b. delivers s p && b) some
    ∙ and-true (delivers s p)
  where
    and-true : (b : Bool) → (b && true) ≡ b
    and-true true = refl
    and-true false = refl

delivered-attempts : (s : State) (p i : ℕ) (m : Message) → IsSound s → p < processors s → i < 16 → IsMessage m
    → ((b : ℕ) → b < 8 → get_or (page_of s p) (8 * (32 * i) + b) 0 < 256)
    → Attempts s p i (delivers s p) (delivered s p i m).0
delivered-attempts s p i m h below under good bytes =
    let n : ℕ = processors s in
    let a : State = (accepted s p i m).0 in
    let pages = pages-tried n a p i (accepted-whole n s p i m h.whole below under good) below under in
    let t = tries-is a (delivered s p i m).0 p i (omega (arith, h.whole.own, below))
    (page-long n s p h.whole below) under bytes pages in
    subst (λ made. Attempts s p i made (delivered s p i m).0) (attempted n s p i m h.whole below under good)
    (record { count = t.count; others = t.others; idle = t.idle; marks = t.marks; fills = t.fills })

-- a valid type of a post
pub some-kind : (kind : ℕ) → is_posted_type kind ≡ true → kind ≢ 0
some-kind kind e z = absurd (grind (arith, nat_tests))

pub small-kind : (kind : ℕ) → is_posted_type kind ≡ true → kind < 2 ^ 32
small-kind kind e = let low : kind < 0x80000000 = grind (arith, nat_tests) in omega arith

pub posted-attempts : (s : State) (number kind : ℕ) (payload : ArrayVec ℕ) (port : Port)
    → port_at (ports_of s) number ≡ Some port → IsSound s → length payload.items ≤ 240
    → ((b : ℕ) → b < 8 → get_or (page_of s port.vp) (8 * (32 * port.sint) + b) 0 < 256)
    → Attempts s port.vp port.sint (is_attempted s number kind port) (posted s number kind payload).0
posted-attempts s number kind payload port is h size bytes =
    subst (λ o. Attempts s p i (is_attempted s number kind port)
    (posted_at s number kind payload
    (option_map_or (λ q. message_target_at kind q q.shape) o (Err UnknownPort))).0) (sym is) (shaped port.shape)
  where
    p : ℕ
    p = port.vp

    i : ℕ
    i = port.sint

    made : PortShape → Bool → Option Refusal → Bool
    made shape valid o = ((takes_messages shape && valid) && is_none o) && delivers s p

    judged : (o : Option Refusal) → is_posted_type kind ≡ true
        → Attempts s p i (is_none o && delivers s p)
        (option_map_or (refused s) o
        (answered (Accepted s.next_ticket) (delivered s p i (FromPort s.next_ticket number kind payload)))).0
    judged None good =
        let reached =
        h.whole.ports number port is in
        delivered-attempts s p i (FromPort s.next_ticket number kind payload) h reached.0 reached.1
        (some-kind kind good, small-kind kind good, size) bytes
    judged (Some r) good = still-attempts s s p i false refl refl

    shaped : (shape : PortShape)
        → Attempts s p i (((takes_messages shape && is_posted_type kind) && is_none (post_refusal s number p shape))
        && delivers s p)
        (posted_at s number kind payload (message_target_at kind (record { vp = p; sint = i; shape = shape }) shape)).0
    shaped (Flags base count) = still-attempts s s p i false refl refl
    shaped (Messages buffers) = valid (is_posted_type kind) refl
      where
        valid : (b : Bool) → is_posted_type kind ≡ b
            → Attempts s p i ((b && is_none (post_refusal s number p (Messages buffers))) && delivers s p)
            (posted_at s number kind payload
            (if b then Ok (record { vp = p; sint = i; shape = Messages buffers }) else Err BadType)).0
        valid true e = judged (post_refusal s number p (Messages buffers)) e
        valid false e = still-attempts s s p i false refl refl
