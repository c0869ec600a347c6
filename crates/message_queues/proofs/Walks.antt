-- The loop that removes a port's messages.
use Rattle.std.proofs.Common.{◌≡◌, ◌≢◌, ℕ, suc, ◌+◌, ◌<◌, ◌≤◌, List, [], ◌∷◌, ◌++◌, length, map, Option, Some, None, refl, sym, ap, ◌∙◌, arith, true, false, not, length-append, append_assoc, append-nil}
use Rattle.std.specs.Prelude.{filter}
use Rattle.std.specs.List.{slice_get}
use Rattle.std.proofs.lemmas.List.{map-append}
use Rattle.std.proofs.lemmas.List.Elements.{filter_map-append, filter-append}
use Rattle.board_terms.specs.Messages.{ticket_of}
use Rattle.board_terms.specs.declared.messages.Message.{Message}
use Rattle.message_queues.specs.inside.Buffers.{Buffer}
use Rattle.message_queues.specs.declared.chains.Chain.{Chain}
use Rattle.message_queues.specs.Queues.{is_from_port, withdrawn_of, left_of}
use Rattle.message_queues.specs.inside.Chains.{Buffers, queue_at, Links, IsChain, AreChains}
use Rattle.message_queues.specs.inside.Moves.{Unlinked, Withdrawn}
use Rattle.message_queues.proofs.ChainLemmas.{message_at, those, row-chain, links-cut, unlink-taken, length-chain, Moved, moved}

abbrev pub first_of : List ℕ → Option ℕ
first_of [] = None
first_of (k ∷ ks) = Some k

links-first_of : (m : Buffers) (o r : ℕ → ℕ) (q low : ℕ) (p s : Option ℕ) (ks : List ℕ) (l : Option ℕ) (top : ℕ)
    → Links m o r q low p s ks None l top → s ≡ first_of ks
links-first_of m o r q low p s [] l top h = h.0
links-first_of m o r q low p s (k ∷ ks) l top h = h.1

-- The loop has passed the messages before `back`: those that stay are in `front`, and `tickets` has the tickets of
-- the others.
pub record Walk (m0 m : Buffers) (o r : ℕ → ℕ) (q : ℕ) (c0 c : Chain) (port : ℕ) (next : Option ℕ) (i : ℕ)
    (tickets : List ℕ) : Type 0 where
  pub now : IsChain m o r q c
  pub front : List ℕ
  pub back : List ℕ
  pub seen : List Message
  pub split : now.keys ≡ front ++ back
  pub total : queue_at m0 c0 ≡ seen ++ those m back
  pub stay : those m front ≡ left_of port seen
  pub tickets_are : tickets ≡ withdrawn_of port seen
  pub count : length seen ≡ i
  pub len : c.len + length tickets ≡ c0.len
  pub next_is : next ≡ first_of back
  pub others : (k : ℕ) → o k ≢ q → m k ≡ m0 k

pub walk-start : (m : Buffers) (o r : ℕ → ℕ) (q : ℕ) (c : Chain) (port : ℕ) → IsChain m o r q c
    → Walk m m o r q c c port c.first 0 []
walk-start m o r q c port h = record {
  now = h;
  front = [];
  back = h.keys;
  seen = [];
  split = refl;
  total = row-chain m o r q c h;
  stay = refl;
  tickets_are = refl;
  count = refl;
  len = omega arith;
  next_is = links-first_of m o r q 0 None c.first h.keys c.last h.top h.links;
  others = λ k ne. refl;
}

-- the loop at a key
pub record AtKey (m0 m : Buffers) (o r : ℕ → ℕ) (q : ℕ) (c0 c : Chain) (port : ℕ) (next : Option ℕ) (i : ℕ)
    (tickets : List ℕ) (key : ℕ) (w : Walk m0 m o r q c0 c port next i tickets) : Type 0 where
  pub rest : List ℕ
  pub back_is : w.back ≡ key ∷ rest
  pub split : w.now.keys ≡ w.front ++ key ∷ rest
  pub b : Buffer
  pub there : m key ≡ Some b
  pub behind : b.behind ≡ first_of rest

pub at_key_now : (m0 m : Buffers) (o r : ℕ → ℕ) (q : ℕ) (c0 c : Chain) (port : ℕ) (next : Option ℕ) (i : ℕ)
    (tickets : List ℕ) (key : ℕ) (w : Walk m0 m o r q c0 c port next i tickets) →
    next ≡ Some key → AtKey m0 m o r q c0 c port next i tickets key w
at_key_now m0 m o r q c0 c port next i tickets key w is = by w.back refl
  where
    by : (ks : List ℕ) → w.back ≡ ks → AtKey m0 m o r q c0 c port next i tickets key w
    by [] e = let bad : None ≡ Some key = sym (w.next_is ∙ ap first_of e) ∙ is in absurd (cc)
    by (k ∷ ks) e =
        let two : Some k ≡ Some key = sym (w.next_is ∙ ap first_of e) ∙ is in
        let same : k ≡ key = cc in
        let back : w.back ≡ key ∷ ks = e ∙ ap (λ (x : ℕ). x ∷ ks) same in
        let split : w.now.keys ≡ w.front ++ key ∷ ks = w.split ∙ ap (λ (x : List ℕ). w.front ++ x) back in
        let cut = links-cut m o r q 0 None c.first w.front (key ∷ ks) None c.last w.now.top
        (rw (← split) w.now.links) in
        record {
          rest = ks;
          back_is = back;
          split = split;
          b = cut.back.0;
          there = cut.back.4;
          behind = links-first_of m o r q (suc (r key)) (Some key) cut.back.0.behind ks c.last w.now.top cut.back.6;
        }

seen_more : (m : Buffers) (key : ℕ) (rest : List ℕ) (b : Buffer) → m key ≡ Some b
    → those m (key ∷ rest) ≡ b.message ∷ those m rest
seen_more m key rest b e = rw e refl

-- before the last iteration there is a key left
pub walk-more : (m0 m : Buffers) (o r : ℕ → ℕ) (q : ℕ) (c0 c : Chain) (port : ℕ) (next : Option ℕ) (i : ℕ)
    (tickets : List ℕ) (w : Walk m0 m o r q c0 c port next i tickets) → IsChain m0 o r q c0 →
    i < c0.len → (key : ℕ) × (next ≡ Some key)
walk-more m0 m o r q c0 c port next i tickets w h0 more = by w.back refl
  where
    by : (ks : List ℕ) → w.back ≡ ks → (key : ℕ) × (next ≡ Some key)
    by [] e =
        let long = length-chain m0 o r q c0 h0 in
        let all : queue_at m0 c0 ≡ w.seen = w.total ∙ rw e (append-nil w.seen) in
        absurd (omega (arith, long, ap length all, w.count, more))
    by (k ∷ ks) e = (k, w.next_is ∙ ap first_of e)

-- after the last iteration there is none
walk-end : (m0 m : Buffers) (o r : ℕ → ℕ) (q : ℕ) (c0 c : Chain) (port : ℕ) (next : Option ℕ) (i : ℕ)
    (tickets : List ℕ) (w : Walk m0 m o r q c0 c port next i tickets) →
    IsChain m0 o r q c0 → c0.len ≤ i → w.back ≡ []
walk-end m0 m o r q c0 c port next i tickets w h0 turns = by w.back refl
  where
    by : (ks : List ℕ) → w.back ≡ ks → w.back ≡ []
    by [] e = e
    by (k ∷ ks) e =
        let a = at_key_now m0 m o r q c0 c port next i tickets k w (w.next_is ∙ ap first_of e) in
        let long = length-chain m0 o r q c0 h0 in
        let total = ap length (w.total
        ∙ ap (λ (x : List Message). w.seen ++ x) (ap (those m) a.back_is ∙ seen_more m k a.rest a.b a.there)) in
        absurd (omega (arith, long, total, w.count, length-append w.seen (a.b.message ∷ those m a.rest)))

pub walk-done : (m0 m : Buffers) (o r : ℕ → ℕ) (q : ℕ) (c0 c : Chain) (port : ℕ) (next : Option ℕ) (i : ℕ)
    (tickets : List ℕ) (w : Walk m0 m o r q c0 c port next i tickets) → IsChain m0 o r q c0 →
    c0.len ≤ i → Withdrawn m0 m o r q c0 c port tickets
walk-done m0 m o r q c0 c port next i tickets w h0 turns =
    let none = walk-end m0 m o r q c0 c port next i tickets w h0 turns in
    let all : queue_at m0 c0 ≡ w.seen = w.total ∙ rw none (append-nil w.seen) in
    let here : w.now.keys ≡ w.front = w.split ∙ rw none (append-nil w.front) in
    record {
      after = w.now;
      stay = row-chain m o r q c w.now ∙ ap (those m) here ∙ w.stay ∙ ap (left_of port) (sym all);
      tickets_are = w.tickets_are ∙ ap (withdrawn_of port) (sym all);
      len = w.len;
      others = w.others;
    }

withdrawn-append : (port : ℕ) (xs ys : List Message)
    → withdrawn_of port (xs ++ ys) ≡ withdrawn_of port xs ++ withdrawn_of port ys
withdrawn-append port xs ys =
    ap (map ticket_of) (filter-append (is_from_port port) xs ys)
    ∙ map-append ticket_of (filter (is_from_port port) xs) (filter (is_from_port port) ys)

-- what one more message adds
record Added (port : ℕ) (seen : List Message) (message : Message) (stay : List Message)
    (tickets : List ℕ) : Type 0 where
  left : left_of port (seen ++ message ∷ []) ≡ left_of port seen ++ stay
  withdrawn : withdrawn_of port (seen ++ message ∷ []) ≡ withdrawn_of port seen ++ tickets

added : (port : ℕ) (seen : List Message) (message : Message) (stay : List Message) (tickets : List ℕ)
    → left_of port (message ∷ []) ≡ stay →
    withdrawn_of port (message ∷ []) ≡ tickets → Added port seen message stay tickets
added port seen message stay tickets l t = record {
  left = filter-append (λ x. not (is_from_port port x)) seen (message ∷ [])
      ∙ ap (λ (x : List Message). left_of port seen ++ x) l;
  withdrawn = withdrawn-append port seen (message ∷ []) ∙ ap (λ (x : List ℕ). withdrawn_of port seen ++ x) t;
}

those_push : (m : Buffers) (front : List ℕ) (key : ℕ) (b : Buffer) → m key ≡ Some b
    → those m (front ++ key ∷ []) ≡ those m front ++ b.message ∷ []
those_push m front key b e =
    filter_map-append (message_at m) front (key ∷ [])
    ∙ ap (λ (x : List Message). those m front ++ x) (seen_more m key [] b e)

-- the message stays
pub walk-keep : (m0 m : Buffers) (o r : ℕ → ℕ) (q : ℕ) (c0 c : Chain) (port : ℕ) (next : Option ℕ) (i : ℕ)
    (tickets : List ℕ) (key : ℕ) (b : Buffer) →
    Walk m0 m o r q c0 c port next i tickets → next ≡ Some key → m key ≡ Some b → is_from_port port b.message ≡ false
    → Walk m0 m o r q c0 c port b.behind (i + 1) tickets
walk-keep m0 m o r q c0 c port next i tickets key b w is there from =
    let a = at_key_now m0 m o r q c0 c port next i tickets key w is in
    let two : Some a.b ≡ Some b = sym a.there ∙ there in
    let same : a.b ≡ b = cc in
    let more = added port w.seen b.message (b.message ∷ []) [] (rw from refl) (rw from refl) in
    record {
      now = w.now;
      front = w.front ++ key ∷ [];
      back = a.rest;
      seen = w.seen ++ b.message ∷ [];
      split = a.split ∙ sym (append_assoc w.front (key ∷ []) a.rest);
      total = w.total ∙ ap (λ (x : List Message). w.seen ++ x)
          (ap (those m) a.back_is ∙ seen_more m key a.rest b there)
          ∙ sym (append_assoc w.seen (b.message ∷ []) (those m a.rest));
      stay = those_push m w.front key b there ∙ ap (λ (x : List Message). x ++ b.message ∷ []) w.stay ∙ sym more.left;
      tickets_are = w.tickets_are ∙ sym (more.withdrawn ∙ append-nil (withdrawn_of port w.seen));
      count = omega (arith, length-append w.seen (b.message ∷ []), w.count);
      len = w.len;
      next_is = ap (λ (x : Buffer). x.behind) (sym same) ∙ a.behind;
      others = w.others;
    }

-- the message leaves
pub walk-take : (m0 m n : Buffers) (o r : ℕ → ℕ) (q : ℕ) (c0 c d : Chain) (port : ℕ) (next : Option ℕ) (i : ℕ)
    (tickets : List ℕ) (key : ℕ) (b b' : Buffer) (message : Message) →
    Walk m0 m o r q c0 c port next i tickets → next ≡ Some key → m key ≡ Some b → is_from_port port b.message ≡ true →
    Unlinked m n c d key b' message → Walk m0 n o r q c0 d port b.behind (i + 1) (tickets ++ ticket_of message ∷ [])
walk-take m0 m n o r q c0 c d port next i tickets key b b' message w is there from move =
    let a = at_key_now m0 m o r q c0 c port next i tickets key w is in
    let t = unlink-taken m n o r q c d key b' message w.now w.front a.rest a.split move in
    let two : Some a.b ≡ Some b = sym a.there ∙ there in
    let same : a.b ≡ b = cc in
    let out : Some b' ≡ Some b = sym move.was ∙ there in
    let same' : b' ≡ b = cc in
    let gone : ticket_of message ≡ ticket_of b.message =
    ap ticket_of (move.message_is ∙ ap (λ (x : Buffer). x.message) same') in
    let more = added port w.seen b.message [] (ticket_of b.message ∷ []) (rw from refl) (rw from refl) in
    record {
      now = t.after;
      front = w.front;
      back = a.rest;
      seen = w.seen ++ b.message ∷ [];
      split = t.keys;
      total = w.total
          ∙ ap (λ (x : List Message). w.seen ++ x)
          (ap (those m) a.back_is ∙ seen_more m key a.rest b there
          ∙ ap (λ (x : List Message). b.message ∷ x) (sym t.back_same))
          ∙ sym (append_assoc w.seen (b.message ∷ []) (those n a.rest));
      stay = t.front_same ∙ w.stay ∙ sym (more.left ∙ append-nil (left_of port w.seen));
      tickets_are =
          ap (λ (x : List ℕ). x ++ ticket_of message ∷ []) w.tickets_are
          ∙ ap (λ (k : ℕ). withdrawn_of port w.seen ++ k ∷ []) gone ∙ sym more.withdrawn;
      count = omega (arith, length-append w.seen (b.message ∷ []), w.count);
      len = omega (arith, w.len, move.len, length-append tickets (ticket_of message ∷ []));
      next_is = ap (λ (x : Buffer). x.behind) (sym same) ∙ a.behind;
      others = λ k ne. t.others k ne ∙ w.others k ne;
    }

-- its ticket fits, and the chain is not empty
pub record Leaves (m0 : Buffers) (c0 c : Chain) (port : ℕ) (tickets : List ℕ) : Type 0 where
  pub room : length tickets < length (withdrawn_of port (queue_at m0 c0))
  pub some : 1 ≤ c.len

pub walk-leaves : (m0 m : Buffers) (o r : ℕ → ℕ) (q : ℕ) (c0 c : Chain) (port : ℕ) (next : Option ℕ) (i : ℕ)
    (tickets : List ℕ) (key : ℕ) (b : Buffer) →
    Walk m0 m o r q c0 c port next i tickets → next ≡ Some key → m key ≡ Some b → is_from_port port b.message ≡ true
    → Leaves m0 c0 c port tickets
walk-leaves m0 m o r q c0 c port next i tickets key b w is there from =
    let a = at_key_now m0 m o r q c0 c port next i tickets key w is in
    let total = w.total ∙ ap (λ (x : List Message). w.seen ++ x)
    (ap (those m) a.back_is ∙ seen_more m key a.rest b there) in
    let one : withdrawn_of port (b.message ∷ those m a.rest)
    ≡ ticket_of b.message ∷ withdrawn_of port (those m a.rest) = rw from refl in
    let all = ap (withdrawn_of port) total ∙ withdrawn-append port w.seen (b.message ∷ those m a.rest)
    ∙ ap (λ (x : List ℕ). withdrawn_of port w.seen ++ x) one in
    record {
      room = omega (
        arith,
        ap length all,
        ap length w.tickets_are,
        length-append (withdrawn_of port w.seen) (ticket_of b.message ∷ withdrawn_of port (those m a.rest)),
      );
      some = omega (arith, w.now.len, ap length a.split, length-append w.front (key ∷ a.rest));
    }

-- the queues after a withdrawal
pub withdrawn-moved : (m n : Buffers) (chains : List Chain) (q : ℕ) (c d : Chain) (port : ℕ) (tickets : List ℕ)
    (k : AreChains m chains) (at : slice_get chains q ≡ Some c) →
    Withdrawn m n k.owner k.rank q c d port tickets → Moved m n chains q d (left_of port (queue_at m c))
withdrawn-moved m n chains q c d port tickets k at w =
    moved m n chains q c d k.owner k.rank (left_of port (queue_at m c)) k at
    (λ i j top ne key. (w.others j (λ is. ne (sym key.owned ∙ is)), key.owned, refl)) w.after w.stay
