-- Chains under a push and a removal.
use Rattle.std.proofs.Common.{reverse, append-nil, append_assoc, ◌≡◌, ◌≢◌, ◌⊎◌, inl, inr, ℕ, zero, suc, ◌+◌, ◌<◌, ◌≤◌, List, [], ◌∷◌, ◌++◌, length, Option, Some, None, refl, sym, ap, ◌∙◌, cond, nat_eq, arith, ne_eqb, eq-eqb, Bool, true, false, length-append, get_or}
use Rattle.std.specs.Option.{option_map}
use Rattle.std.specs.List.{filter_map, slice_get}
use Rattle.std.specs.Prelude.{sum_by, slice_index_or, slice_set}
use Rattle.std.proofs.lemmas.Bool.{eqb-true, eqb-false}
use Rattle.std.proofs.Math.Nat.{zero-add, add-zero}
use Rattle.std.proofs.lemmas.List.{get_or-map, length-map, reverse-append}
use Rattle.std.proofs.lemmas.List.Elements.{filter_map-append}
use Rattle.std.proofs.lemmas.List.Sums.{sum_by-cons, sum_by-set, get_or-le-sum_by}
use Rattle.std.proofs.lemmas.Option.{slice_get_read, get_or_from_slice_get, slice_get_within}
use Rattle.board_terms.specs.declared.messages.Message.{Message}
use Rattle.message_queues.specs.inside.Buffers.{Buffer}
use Rattle.message_queues.specs.declared.chains.Chain.{Chain}
use Rattle.message_queues.specs.Queues.{Queues}
use Rattle.message_queues.specs.inside.Chains.{Buffers, messages, queue_at, queues_at, keys_from, ReadsBothWays, Links, IsChain, AreChains}
use Rattle.message_queues.specs.inside.Moves.{Pushed, Unlinked, with_behind, with_before, if_none}
use Rattle.message_queues.specs.inside.View.{total_of}

-- the message at each key
abbrev pub message_at : Buffers → ℕ → Option Message
message_at buffers key = option_map (λ (b : Buffer). b.message) (buffers key)

abbrev pub those : Buffers → List ℕ → List Message
those buffers keys = filter_map (message_at buffers) keys

-- following the links gives the messages of the keys
pub messages-links : (m : Buffers) (o r : ℕ → ℕ) (q low : ℕ) (p s : Option ℕ) (ks : List ℕ) (l : Option ℕ) (top : ℕ)
    → Links m o r q low p s ks None l top → messages (length ks) m s ≡ those m ks
messages-links m o r q low p s [] l top h = refl
messages-links m o r q low p s (k ∷ ks) l top h =
    rw (h.1, h.4) (ap (λ (x : List Message). h.0.message ∷ x)
    (messages-links m o r q (suc (r k)) (Some k) h.0.behind ks l top h.6))

pub row-chain : (m : Buffers) (o r : ℕ → ℕ) (q : ℕ) (c : Chain) (h : IsChain m o r q c) → queue_at m c ≡ those m h.keys
row-chain m o r q c h = rw h.len (messages-links m o r q 0 None c.first h.keys c.last h.top h.links)

pub links-room : (m : Buffers) (o r : ℕ → ℕ) (q low : ℕ) (p s : Option ℕ) (ks : List ℕ) (t l : Option ℕ) (top : ℕ)
    → Links m o r q low p s ks t l top → low ≤ top
links-room m o r q low p s [] t l top h = h.2
links-room m o r q low p s (k ∷ ks) t l top h =
    let more = links-room m o r q (suc (r k)) (Some k) h.0.behind ks t l top h.6 in let here = h.3 in omega arith

-- a key of the queue, with its rank within these bounds
pub record IsKey (m : Buffers) (o r : ℕ → ℕ) (q low top e : ℕ) : Type 0 where
  pub b : Buffer
  pub owned : o e ≡ q
  pub above : low ≤ r e
  pub below : r e < top
  pub there : m e ≡ Some b

low-more : (a b c : ℕ) → a ≤ b → suc b ≤ c → a ≤ c
low-more a b c x y = omega arith

-- the buffers may get other owners and ranks, if those in the chain keep theirs
pub links-frame : (m n : Buffers) (o r o' r' : ℕ → ℕ) (q low : ℕ) (p s : Option ℕ) (ks : List ℕ) (t l : Option ℕ)
    (top : ℕ) →
    ((k : ℕ) → IsKey m o r q low top k → (n k ≡ m k) × (o' k ≡ q) × (r' k ≡ r k)) → Links m o r q low p s ks t l top
    → Links n o' r' q low p s ks t l top
links-frame m n o r o' r' q low p s [] t l top f h = h
links-frame m n o r o' r' q low p s (k ∷ ks) t l top f h =
    let room = links-room m o r q (suc (r k)) (Some k) h.0.behind ks t l top h.6 in
    let here = f k (record { b = h.0; owned = h.2; above = h.3; below = room; there = h.4 }) in
    let above : low ≤ r k = h.3 in (
      h.0,
      h.1,
      here.1,
      rw here.2 above,
      here.0 ∙ h.4,
      h.5,
      rw here.2 (links-frame m n o r o' r' q (suc (r k)) (Some k) h.0.behind ks t l top
          (λ j w. f j (record {
            b = w.b;
            owned = w.owned;
            above = low-more low (r k) (r j) above w.above;
            below = w.below;
            there = w.there;
          })) h.6),
    )

pub those-frame : (m n : Buffers) (o r : ℕ → ℕ) (q low : ℕ) (p s : Option ℕ) (ks : List ℕ) (t l : Option ℕ) (top : ℕ) →
    ((k : ℕ) → IsKey m o r q low top k → message_at n k ≡ message_at m k) → Links m o r q low p s ks t l top
    → those n ks ≡ those m ks
those-frame m n o r q low p s [] t l top f h = refl
those-frame m n o r q low p s (k ∷ ks) t l top f h =
    let room = links-room m o r q (suc (r k)) (Some k) h.0.behind ks t l top h.6 in
    let above : low ≤ r k = h.3 in
    rw (
      f k (record { b = h.0; owned = h.2; above = h.3; below = room; there = h.4 }),
      those-frame m n o r q (suc (r k)) (Some k) h.0.behind ks t l top
          (λ j w. f j (record {
            b = w.b;
            owned = w.owned;
            above = low-more low (r k) (r j) above w.above;
            below = w.below;
            there = w.there;
          })) h.6,
    ) refl

-- two parts
pub links-join : (m : Buffers) (o r : ℕ → ℕ) (q low mid top : ℕ) (p s : Option ℕ) (xs ys : List ℕ)
    (t l u v : Option ℕ) → Links m o r q low p s xs u v mid →
    Links m o r q mid v u ys t l top → Links m o r q low p s (xs ++ ys) t l top
links-join m o r q low mid top p s [] ys t l u v h k =
    rw (h.0, ← h.1) (links-lower m o r q low mid v u ys t l top h.2 k)
  where
    links-lower : (m : Buffers) (o r : ℕ → ℕ) (q low mid : ℕ) (p s : Option ℕ) (ks : List ℕ) (t l : Option ℕ)
        (top : ℕ) → low ≤ mid → Links m o r q mid p s ks t l top →
        Links m o r q low p s ks t l top
    links-lower m o r q low mid p s [] t l top le h = (h.0, h.1, omega (arith, h.2))
    links-lower m o r q low mid p s (k ∷ ks) t l top le h = (h.0, h.1, h.2, omega (arith, h.3), h.4, h.5, h.6)
links-join m o r q low mid top p s (x ∷ xs) ys t l u v h k =
    (h.0, h.1, h.2, h.3, h.4, h.5, links-join m o r q (suc (r x)) mid top (Some x) h.0.behind xs ys t l u v h.6 k)

-- the last key
pub links-last : (m : Buffers) (o r : ℕ → ℕ) (q low : ℕ) (p s : Option ℕ) (ks : List ℕ) (t l : Option ℕ) (top e : ℕ)
    → Links m o r q low p s ks t l top → l ≡ Some e →
    (p ≡ Some e) ⊎ IsKey m o r q low top e
links-last m o r q low p s [] t l top e h is = inl (sym h.1 ∙ is)
links-last m o r q low p s (k ∷ ks) t l top e h is =
    go (links-last m o r q (suc (r k)) (Some k) h.0.behind ks t l top e h.6 is)
  where
    here : low ≤ r k
    here = h.3

    room : suc (r k) ≤ top
    room = links-room m o r q (suc (r k)) (Some k) h.0.behind ks t l top h.6

    go : (Some k ≡ Some e) ⊎ IsKey m o r q (suc (r k)) top e → (p ≡ Some e) ⊎ IsKey m o r q low top e
    go (inl same) =
        let is : k ≡ e = cc in inr (rw (← is) (record { b = h.0; owned = h.2; above = h.3; below = room; there = h.4 }))
    go (inr w) =
        let up : suc (r k) ≤ r e =
        w.above in inr (record { b = w.b; owned = w.owned; above = omega arith; below = w.below; there = w.there })

abbrev pub new_start : Option ℕ → Option ℕ → List ℕ → Option ℕ
new_start s u [] = u
new_start s u (k ∷ ks) = s

-- another key is linked after the last one
pub links-extend : (m n : Buffers) (o r : ℕ → ℕ) (q low : ℕ) (p s : Option ℕ) (ks : List ℕ) (t l u : Option ℕ)
    (top : ℕ) →
    ((k : ℕ) → IsKey m o r q low top k → l ≢ Some k → n k ≡ m k)
    → ((k : ℕ) → IsKey m o r q low top k → l ≡ Some k → n k ≡ option_map (with_behind u) (m k)) →
    Links m o r q low p s ks t l top → Links n o r q low p (new_start s u ks) ks u l top
links-extend m n o r q low p s [] t l u top others end h = (refl, h.1, h.2)
links-extend m n o r q low p s (k ∷ []) t l u top others end h =
    let here : IsKey m o r q low top k = record { b = h.0; owned = h.2; above = h.3; below = h.6.2; there = h.4 } in (
      with_behind u h.0,
      h.1,
      h.2,
      h.3,
      end k here h.6.1 ∙ ap (option_map (with_behind u)) h.4,
      h.5,
      (refl, h.6.1, h.6.2),
    )
links-extend m n o r q low p s (k ∷ j ∷ ks) t l u top others end h =
    let above : low ≤ r k = h.3 in
    let room = links-room m o r q (suc (r k)) (Some k) h.0.behind (j ∷ ks) t l top h.6 in
    let here : IsKey m o r q low top k = record { b = h.0; owned = h.2; above = h.3; below = room; there = h.4 } in (
      h.0,
      h.1,
      h.2,
      h.3,
      others k here (λ same. later same
          (links-last m o r q (suc (r j)) (Some j) h.6.0.behind ks t l top k h.6.6 same)) ∙ h.4,
      h.5,
      links-extend m n o r q (suc (r k)) (Some k) h.0.behind (j ∷ ks) t l u top (λ i w. others i (weaker i w))
          (λ i w. end i (weaker i w)) h.6,
    )
  where
    weaker : (i : ℕ) → IsKey m o r q (suc (r k)) top i → IsKey m o r q low top i
    weaker i w =
        let up : suc (r k) ≤ r i =
        w.above in let here : low ≤ r k =
        h.3 in record { b = w.b; owned = w.owned; above = omega arith; below = w.below; there = w.there }

    up : suc (r k) ≤ r j
    up = h.6.3

    later : l ≡ Some k → (Some j ≡ Some k) ⊎ IsKey m o r q (suc (r j)) top k → ⊥
    later is (inl same) = let e : j ≡ k = cc in let re : r j ≡ r k = ap r e in omega arith
    later is (inr w) = let a : suc (r j) ≤ r k = w.above in omega arith

abbrev pub new_end : Option ℕ → List ℕ → Option ℕ → Option ℕ
new_end v [] l = v
new_end v (k ∷ ks) l = l

-- another key is linked before the first one, and the lower bound of the ranks decreases
pub links-rebase : (m n : Buffers) (o r : ℕ → ℕ) (q low low' : ℕ) (p s : Option ℕ) (ks : List ℕ) (t l v : Option ℕ)
    (top : ℕ) → low' ≤ low →
    ((k : ℕ) → IsKey m o r q low top k → s ≢ Some k → n k ≡ m k)
    → ((k : ℕ) → IsKey m o r q low top k → s ≡ Some k → n k ≡ option_map (with_before v) (m k)) →
    Links m o r q low p s ks t l top → Links n o r q low' v s ks t (new_end v ks l) top
links-rebase m n o r q low low' p s [] t l v top le others first h = (h.0, refl, omega (arith, h.2))
links-rebase m n o r q low low' p s (k ∷ ks) t l v top le others first h =
    let above : low ≤ r k = h.3 in
    let room = links-room m o r q (suc (r k)) (Some k) h.0.behind ks t l top h.6 in
    let here : IsKey m o r q low top k = record { b = h.0; owned = h.2; above = h.3; below = room; there = h.4 } in (
      with_before v h.0,
      h.1,
      h.2,
      omega arith,
      first k here h.1 ∙ ap (option_map (with_before v)) h.4,
      refl,
      links-frame m n o r o r q (suc (r k)) (Some k) h.0.behind ks t l top
          (λ i w. (others i (weaker i w) (λ same. not_first i w (sym h.1 ∙ same)), w.owned, refl)) h.6,
    )
  where
    weaker : (i : ℕ) → IsKey m o r q (suc (r k)) top i → IsKey m o r q low top i
    weaker i w =
        let up : suc (r k) ≤ r i =
        w.above in let here : low ≤ r k =
        h.3 in record { b = w.b; owned = w.owned; above = omega arith; below = w.below; there = w.there }

    not_first : (i : ℕ) → IsKey m o r q (suc (r k)) top i → Some k ≡ Some i → ⊥
    not_first i w same =
        let e : k ≡ i = cc in let re : r k ≡ r i = ap r e in let up : suc (r k) ≤ r i = w.above in omega arith

-- where a chain is cut
pub record Cut (m : Buffers) (o r : ℕ → ℕ) (q low : ℕ) (p s : Option ℕ) (xs ys : List ℕ) (t l : Option ℕ)
    (top : ℕ) : Type 0 where
  pub mid : ℕ
  pub u : Option ℕ
  pub v : Option ℕ
  pub front : Links m o r q low p s xs u v mid
  pub back : Links m o r q mid v u ys t l top

pub links-cut : (m : Buffers) (o r : ℕ → ℕ) (q low : ℕ) (p s : Option ℕ) (xs ys : List ℕ) (t l : Option ℕ) (top : ℕ)
    → Links m o r q low p s (xs ++ ys) t l top → Cut m o r q low p s xs ys t l top
links-cut m o r q low p s [] ys t l top h =
    record { mid = low; u = s; v = p; front = (refl, refl, omega arith); back = h }
links-cut m o r q low p s (x ∷ xs) ys t l top h =
    let c = links-cut m o r q (suc (r x)) (Some x) h.0.behind xs ys t l top h.6 in
    record { mid = c.mid; u = c.u; v = c.v; front = (h.0, h.1, h.2, h.3, h.4, h.5, c.front); back = c.back }

-- a function with another value at one number
abbrev pub at_key : ℕ → ℕ → (ℕ → ℕ) → ℕ → ℕ
at_key key value f k = cond (nat_eq k key) value (f k)

pub at_key-same : (key value : ℕ) (f : ℕ → ℕ) → at_key key value f key ≡ value
at_key-same key value f = rw (eq-eqb key key refl) refl

pub at_key-other : (key value k : ℕ) (f : ℕ → ℕ) → k ≢ key → at_key key value f k ≡ f k
at_key-other key value k f ne = rw (ne_eqb k key ne) refl

pub not_free : (m : Buffers) (k key : ℕ) (b : Buffer) → m k ≡ Some b → m key ≡ None → k ≢ key
not_free m k key b there free same = let e = ap m same in cc

-- after some key there is a last one
last_there : (m : Buffers) (o r : ℕ → ℕ) (q low k : ℕ) (s : Option ℕ) (ks : List ℕ) (t l : Option ℕ) (top : ℕ)
    → Links m o r q low (Some k) s ks t l top → (e : ℕ) × (l ≡ Some e)
last_there m o r q low k s [] t l top h = (k, h.1)
last_there m o r q low k s (j ∷ ks) t l top h = last_there m o r q (suc (r j)) j h.0.behind ks t l top h.6

-- the first key of a chain in which another key follows these
cut_start : (m : Buffers) (o r : ℕ → ℕ) (q low : ℕ) (s : Option ℕ) (ks : List ℕ) (t l : Option ℕ) (top : ℕ)
    (it : Option ℕ) → Links m o r q low None s ks t l top → if_none l it s ≡ new_start s it ks
cut_start m o r q low s [] t l top it h = rw h.1 refl
cut_start m o r q low s (k ∷ ks) t l top it h = go l (last_there m o r q (suc (r k)) k h.0.behind ks t l top h.6)
  where
    go : (l : Option ℕ) → (e : ℕ) × (l ≡ Some e) → if_none l it s ≡ s
    go None e = absurd (cc (e.1))
    go (Some x) e = refl

-- a push gives the chain with the key at its end
pub push-chain : (m n : Buffers) (o r : ℕ → ℕ) (q : ℕ) (c d : Chain) (message : Message) (key : ℕ)
    (h : IsChain m o r q c) → Pushed m n c d message key →
    (after : IsChain n (at_key key q o) (at_key key h.top r) q d) × (after.keys ≡ h.keys ++ key ∷ [])
push-chain m n o r q c d message key h move = (
  record {
    keys = h.keys ++ key ∷ [];
    top = suc h.top;
    links = rw (move.first ∙ cut_start m o r q 0 c.first h.keys None c.last h.top (Some key) h.links, move.last)
        (links-join n o' r' q 0 h.top (suc h.top) None (new_start c.first (Some key) h.keys) h.keys (key ∷ []) None
        (Some key) (Some key) c.last extended single);
    len = move.len ∙ ap (λ (x : ℕ). x + 1) h.len ∙ sym (length-append h.keys (key ∷ []));
  },
  refl,
)
  where
    o' : ℕ → ℕ
    o' = at_key key q o

    r' : ℕ → ℕ
    r' = at_key key h.top r

    other : (k : ℕ) → IsKey m o r q 0 h.top k → k ≢ key
    other k w = not_free m k key w.b w.there move.free

    renamed : Links m o' r' q 0 None c.first h.keys None c.last h.top
    renamed = links-frame m m o r o' r' q 0 None c.first h.keys None c.last h.top
        (λ k w. (refl, at_key-other key q k o (other k w) ∙ w.owned, at_key-other key h.top k r (other k w))) h.links

    free' : (k : ℕ) → IsKey m o' r' q 0 h.top k → k ≢ key
    free' k w = not_free m k key w.b w.there move.free

    extended : Links n o' r' q 0 None (new_start c.first (Some key) h.keys) h.keys (Some key) c.last h.top
    extended = links-extend m n o' r' q 0 None c.first h.keys None c.last (Some key) h.top
        (λ k w ne. move.others k ne (free' k w)) (λ k w is. move.end k is (free' k w)) renamed

    last_other : c.last ≢ Some key
    last_other is = go (links-last m o r q 0 None c.first h.keys None c.last h.top key h.links is)
      where
        go : (None ≡ Some key) ⊎ IsKey m o r q 0 h.top key → ⊥
        go (inl bad) = cc
        go (inr w) = other key w refl

    single : Links n o' r' q h.top c.last (Some key) (key ∷ []) None (Some key) (suc h.top)
    single = (
      record { message = message; before = c.last; behind = None },
      refl,
      at_key-same key q o,
      omega (arith, at_key-same key h.top r),
      move.here last_other,
      refl,
      (refl, refl, omega (arith, at_key-same key h.top r)),
    )

-- the first key
pub links-first : (m : Buffers) (o r : ℕ → ℕ) (q low : ℕ) (p s : Option ℕ) (ks : List ℕ) (l : Option ℕ) (top e : ℕ)
    → Links m o r q low p s ks None l top → s ≡ Some e → IsKey m o r q low top e
links-first m o r q low p s [] l top e h is = let no-more : None ≡ Some e = sym h.0 ∙ is in absurd (cc)
links-first m o r q low p s (k ∷ ks) l top e h is =
    let same : k ≡ e = cc in
    let room = links-room m o r q (suc (r k)) (Some k) h.0.behind ks None l top h.6 in
    let here : IsKey m o r q low top k = record { b = h.0; owned = h.2; above = h.3; below = room; there = h.4 } in
    rw (← same) here

-- the last key of a chain in which another key precedes these
cut_end : (m : Buffers) (o r : ℕ → ℕ) (q low : ℕ) (p s : Option ℕ) (ks : List ℕ) (l : Option ℕ) (top : ℕ)
    (it : Option ℕ) → Links m o r q low p s ks None l top → if_none s it l ≡ new_end it ks l
cut_end m o r q low p s [] l top it h = rw h.0 refl
cut_end m o r q low p s (k ∷ ks) l top it h = rw h.1 refl

-- unlinking a key joins its predecessor and its successor
pub unlink-chain : (m n : Buffers) (o r : ℕ → ℕ) (q : ℕ) (c d : Chain) (key : ℕ) (b : Buffer) (message : Message)
    (h : IsChain m o r q c) (xs ys : List ℕ) →
    h.keys ≡ xs ++ key ∷ ys → Unlinked m n c d key b message → (after : IsChain n o r q d) × (after.keys ≡ xs ++ ys)
unlink-chain m n o r q c d key b message h xs ys split move = (
  record {
    keys = xs ++ ys;
    top = h.top;
    links = rw (
      move.first ∙ ap (λ (x : Option ℕ). if_none x b.behind c.first) before_is
          ∙ cut_start m o r q 0 c.first xs cut.u cut.v cut.mid b.behind cut.front,
      move.last ∙ ap (λ (x : Option ℕ). if_none b.behind x c.last) before_is
          ∙ cut_end m o r q (suc (r key)) (Some key) b.behind ys c.last h.top cut.v back,
    )
        (links-join n o r q 0 cut.mid h.top None (new_start c.first b.behind xs) xs ys None
        (new_end cut.v ys c.last) b.behind cut.v front' back');
    len = omega (arith, move.len, h.len, ap length split, length-append xs (key ∷ ys), length-append xs ys);
  },
  refl,
)
  where
    cut : Cut m o r q 0 None c.first xs (key ∷ ys) None c.last h.top
    cut = links-cut m o r q 0 None c.first xs (key ∷ ys) None c.last h.top (rw (← split) h.links)

    same : cut.back.0 ≡ b
    same = let e : Some cut.back.0 ≡ Some b = sym cut.back.4 ∙ move.was in cc

    before_is : b.before ≡ cut.v
    before_is = ap (λ (x : Buffer). x.before) (sym same) ∙ cut.back.5

    back : Links m o r q (suc (r key)) (Some key) b.behind ys None c.last h.top
    back = rw same at cut.back.6

    high : cut.mid ≤ r key
    high = cut.back.3

    behind_other : (k : ℕ) → r k < cut.mid → b.behind ≢ Some k
    behind_other k low is =
        let w =
        links-first m o r q (suc (r key)) (Some key) b.behind ys c.last h.top k back is in
        let up : suc (r key) ≤ r k = w.above in omega (arith, high)

    before_other : (k : ℕ) → r key < r k → b.before ≢ Some k
    before_other k up is =
        go (links-last m o r q 0 None c.first xs cut.u cut.v cut.mid k cut.front (sym before_is ∙ is))
      where
        go : (None ≡ Some k) ⊎ IsKey m o r q 0 cut.mid k → ⊥
        go (inl bad) = cc
        go (inr w) = let low : r k < cut.mid = w.below in omega (arith, high)

    key_other : (k : ℕ) → r k ≢ r key → k ≢ key
    key_other k ne is = ne (ap r is)

    front' : Links n o r q 0 None (new_start c.first b.behind xs) xs b.behind cut.v cut.mid
    front' = links-extend m n o r q 0 None c.first xs cut.u cut.v b.behind cut.mid
        (λ k w ne. let low : r k < cut.mid = w.below in
        move.others k (key_other k (omega (arith, high))) (λ is. ne (sym before_is ∙ is)) (behind_other k w.below))
        (λ k w is. let low : r k < cut.mid = w.below in
        move.left k (key_other k (omega (arith, high))) (before_is ∙ is) (behind_other k w.below))
        cut.front

    back' : Links n o r q cut.mid cut.v b.behind ys None (new_end cut.v ys c.last) h.top
    back' = links-rebase m n o r q (suc (r key)) cut.mid (Some key) b.behind ys None c.last cut.v h.top
        (omega (arith, high))
        (λ k w ne. let up : suc (r key) ≤ r k = w.above in
        move.others k (key_other k (omega arith)) (before_other k w.above) ne)
        (λ k w is. let up : suc (r key) ≤ r k = w.above in
        move.right k (key_other k (omega arith)) (before_other k w.above) is
        ∙ ap (λ (x : Option ℕ). option_map (with_before x) (m k)) before_is)
        back

slice_get-set_same : (xs : List Chain) (i : ℕ) (x c : Chain) → slice_get xs i ≡ Some c
    → slice_get (slice_set xs i x) i ≡ Some x
slice_get-set_same [] i x c h = cc
slice_get-set_same (y ∷ xs) zero x c h = refl
slice_get-set_same (y ∷ xs) (suc i) x c h = slice_get-set_same xs i x c h

slice_get-set_other : (xs : List Chain) (i j : ℕ) (x : Chain) → j ≢ i → slice_get (slice_set xs i x) j ≡ slice_get xs j
slice_get-set_other [] i j x h = refl
slice_get-set_other (y ∷ xs) zero zero x h = absurd (h refl)
slice_get-set_other (y ∷ xs) zero (suc j) x h = refl
slice_get-set_other (y ∷ xs) (suc i) zero x h = refl
slice_get-set_other (y ∷ xs) (suc i) (suc j) x h = slice_get-set_other xs i j x (λ e. h (ap (λ (k : ℕ). suc k) e))

-- one chain is replaced, and the others have the same messages
pub queues-set : (m n : Buffers) (chains : List Chain) (q : ℕ) (d : Chain)
    → ((i : ℕ) (c : Chain) → slice_get chains i ≡ Some c → i ≢ q → queue_at n c ≡ queue_at m c) →
    queues_at n (slice_set chains q d) ≡ slice_set (queues_at m chains) q (queue_at n d)
queues-set m n [] q d same = refl
queues-set m n (c ∷ cs) zero d same =
    ap (λ (x : Queues). queue_at n d ∷ x) (all n m cs (λ i e h. same (suc i) e h (omega arith)))
  where
    all : (n m : Buffers) (cs : List Chain)
        → ((i : ℕ) (c : Chain) → slice_get cs i ≡ Some c → queue_at n c ≡ queue_at m c)
        → queues_at n cs ≡ queues_at m cs
    all n m [] f = refl
    all n m (c ∷ cs) f = rw (f 0 c refl, all n m cs (λ i e h. f (suc i) e h)) refl
queues-set m n (c ∷ cs) (suc q) d same =
    rw (same 0 c refl (omega arith), queues-set m n cs q d (λ i e h ne. same (suc i) e h (omega arith))) refl

same_message : (u : Option ℕ) (x : Option Buffer)
    → option_map (λ (b : Buffer). b.message) (option_map (with_behind u) x) ≡ option_map (λ (b : Buffer). b.message) x
same_message u None = refl
same_message u (Some b) = refl

same_message_before : (u : Option ℕ) (x : Option Buffer)
    → option_map (λ (b : Buffer). b.message) (option_map (with_before u) x) ≡ option_map (λ (b : Buffer). b.message) x
same_message_before u None = refl
same_message_before u (Some b) = refl

-- a key is this one, or it is not
pub is_or_not : (x : Option ℕ) (k : ℕ) → (x ≡ Some k) ⊎ (x ≢ Some k)
is_or_not None k = inr (λ e. cc)
is_or_not (Some j) k = go (nat_eq j k) refl
  where
    go : (b : Bool) → nat_eq j k ≡ b → (Some j ≡ Some k) ⊎ (Some j ≢ Some k)
    go true e = inl (ap (λ (x : ℕ). Some x) (eqb-true j k e))
    go false e = inr (λ same. let is : j ≡ k = cc in eqb-false j k e is)

-- The result of a change of one queue: the invariant holds, and the other queues are unchanged.
pub record Moved (m n : Buffers) (chains : List Chain) (q : ℕ) (d : Chain) (after : List Message) : Type 0 where
  pub kept : AreChains n (slice_set chains q d)
  pub view : queues_at n (slice_set chains q d) ≡ slice_set (queues_at m chains) q after

-- A change of one queue moves no buffer of another.
pub moved : (m n : Buffers) (chains : List Chain) (q : ℕ) (c d : Chain) (o' r' : ℕ → ℕ) (after : List Message)
    (k : AreChains m chains) → slice_get chains q ≡ Some c →
    ((i : ℕ) (key : ℕ) (top : ℕ) → i ≢ q → IsKey m k.owner k.rank i 0 top key → (n key ≡ m key) × (o' key ≡ i)
    × (r' key ≡ k.rank key)) →
    IsChain n o' r' q d → queue_at n d ≡ after → Moved m n chains q d after
moved m n chains q c d o' r' after k at others chain view = record {
  kept = record { owner = o'; rank = r'; each = λ i e h. each i e h (is_or_not (Some q) i) };
  view = queues-set m n chains q d same ∙ ap (λ (x : List Message). slice_set (queues_at m chains) q x) view;
}
  where
    each : (i : ℕ) (e : Chain) → slice_get (slice_set chains q d) i ≡ Some e → (Some q ≡ Some i) ⊎ (Some q ≢ Some i)
        → IsChain n o' r' i e
    each i e h (inl here) =
        let is : q ≡ i = cc in
        let two : Some d ≡ Some e =
        sym (slice_get-set_same chains q d c at) ∙ ap (slice_get (slice_set chains q d)) is ∙ h in
        let same : d ≡ e = cc in
        rw (← is, ← same) chain
    each i e h (inr not) =
        let ne : i ≢ q = λ is. not (ap (λ (x : ℕ). Some x) (sym is)) in
        let old = k.each i e (sym (slice_get-set_other chains q i d ne) ∙ h) in
        record {
          keys = old.keys;
          top = old.top;
          links = links-frame m n k.owner k.rank o' r' i 0 None e.first old.keys None e.last old.top
              (λ key w. others i key old.top ne w) old.links;
          len = old.len;
        }

    same : (i : ℕ) (e : Chain) → slice_get chains i ≡ Some e → i ≢ q → queue_at n e ≡ queue_at m e
    same i e h ne =
        let old = k.each i e h in
        let new : IsChain n o' r' i e = record {
          keys = old.keys;
          top = old.top;
          links = links-frame m n k.owner k.rank o' r' i 0 None e.first old.keys None e.last old.top
              (λ key w. others i key old.top ne w) old.links;
          len = old.len;
        } in
        row-chain n o' r' i e new
        ∙ those-frame m n k.owner k.rank i 0 None e.first old.keys None e.last old.top
        (λ key w. ap (option_map (λ (b : Buffer). b.message)) (others i key old.top ne w).0) old.links
        ∙ sym (row-chain m k.owner k.rank i e old)

pub push-moved : (m n : Buffers) (chains : List Chain) (q : ℕ) (c d : Chain) (message : Message) (key : ℕ)
    → AreChains m chains → slice_get chains q ≡ Some c →
    Pushed m n c d message key → Moved m n chains q d (queue_at m c ++ message ∷ [])
push-moved m n chains q c d message key k at move =
    moved m n chains q c d (at_key key q k.owner) (at_key key h.top k.rank)
    (queue_at m c ++ message ∷ []) k at others after.0
    (row-chain n (at_key key q k.owner) (at_key key h.top k.rank) q d after.0 ∙ ap (those n) after.1
    ∙ filter_map-append (message_at n) h.keys (key ∷ [])
    ∙ rw (messages_same, move.here last_other)
    (ap (λ (x : List Message). x ++ message ∷ []) (sym (row-chain m k.owner k.rank q c h))))
  where
    h : IsChain m k.owner k.rank q c
    h = k.each q c at

    after : (a : IsChain n (at_key key q k.owner) (at_key key h.top k.rank) q d) × (a.keys ≡ h.keys ++ key ∷ [])
    after = push-chain m n k.owner k.rank q c d message key h move

    other : (j : ℕ) (b : Buffer) → m j ≡ Some b → j ≢ key
    other j b there = not_free m j key b there move.free

    last_owned : (e : ℕ) → c.last ≡ Some e → IsKey m k.owner k.rank q 0 h.top e
    last_owned e is = go (links-last m k.owner k.rank q 0 None c.first h.keys None c.last h.top e h.links is)
      where
        go : (None ≡ Some e) ⊎ IsKey m k.owner k.rank q 0 h.top e → IsKey m k.owner k.rank q 0 h.top e
        go (inl bad) = cc
        go (inr w) = w

    last_other : c.last ≢ Some key
    last_other is = let w = last_owned key is in other key w.b w.there refl

    others : (i j top : ℕ) → i ≢ q → IsKey m k.owner k.rank i 0 top j → (n j ≡ m j) × (at_key key q k.owner j ≡ i)
        × (at_key key h.top k.rank j ≡ k.rank j)
    others i j top ne w =
        let free = other j w.b w.there in (
          move.others j (λ is. ne (sym w.owned ∙ (last_owned j is).owned)) free,
          at_key-other key q j k.owner free ∙ w.owned,
          at_key-other key h.top j k.rank free,
        )

    messages_same : those n h.keys ≡ those m h.keys
    messages_same =
        those-frame m n k.owner k.rank q 0 None c.first h.keys None c.last h.top
        (λ j w. by j (other j w.b w.there) (is_or_not c.last j)) h.links
      where
        by : (j : ℕ) → j ≢ key → (c.last ≡ Some j) ⊎ (c.last ≢ Some j) → message_at n j ≡ message_at m j
        by j free (inl is) =
            ap (option_map (λ (b : Buffer). b.message)) (move.end j is free) ∙ same_message (Some key) (m j)
        by j free (inr not) = ap (option_map (λ (b : Buffer). b.message)) (move.others j not free)

-- The result of unlinking the key between xs and ys.
pub record Taken (m n : Buffers) (o r : ℕ → ℕ) (q : ℕ) (d : Chain) (xs ys : List ℕ) : Type 0 where
  pub after : IsChain n o r q d
  pub keys : after.keys ≡ xs ++ ys
  pub front_same : those n xs ≡ those m xs
  pub back_same : those n ys ≡ those m ys
  pub others : (j : ℕ) → o j ≢ q → n j ≡ m j

pub unlink-taken : (m n : Buffers) (o r : ℕ → ℕ) (q : ℕ) (c d : Chain) (key : ℕ) (b : Buffer) (message : Message)
    (h : IsChain m o r q c) (xs ys : List ℕ) →
    h.keys ≡ xs ++ key ∷ ys → Unlinked m n c d key b message → Taken m n o r q d xs ys
unlink-taken m n o r q c d key b message h xs ys split move =
    record { after = taken.0; keys = taken.1; front_same = front_same; back_same = back_same; others = others }
  where
    taken : (a : IsChain n o r q d) × (a.keys ≡ xs ++ ys)
    taken = unlink-chain m n o r q c d key b message h xs ys split move

    cut : Cut m o r q 0 None c.first xs (key ∷ ys) None c.last h.top
    cut = links-cut m o r q 0 None c.first xs (key ∷ ys) None c.last h.top (rw (← split) h.links)

    same : cut.back.0 ≡ b
    same = let e : Some cut.back.0 ≡ Some b = sym cut.back.4 ∙ move.was in cc

    back : Links m o r q (suc (r key)) (Some key) b.behind ys None c.last h.top
    back = rw same at cut.back.6

    before_is : b.before ≡ cut.v
    before_is = ap (λ (x : Buffer). x.before) (sym same) ∙ cut.back.5

    before_owned : (e : ℕ) → b.before ≡ Some e → o e ≡ q
    before_owned e is = go (links-last m o r q 0 None c.first xs cut.u cut.v cut.mid e cut.front (sym before_is ∙ is))
      where
        go : (None ≡ Some e) ⊎ IsKey m o r q 0 cut.mid e → o e ≡ q
        go (inl bad) = cc
        go (inr w) = w.owned

    behind_owned : (e : ℕ) → b.behind ≡ Some e → o e ≡ q
    behind_owned e is = (links-first m o r q (suc (r key)) (Some key) b.behind ys c.last h.top e back is).owned

    others : (j : ℕ) → o j ≢ q → n j ≡ m j
    others j ne =
        move.others j (λ is. ne (ap o is ∙ cut.back.2)) (λ is. ne (before_owned j is)) (λ is. ne (behind_owned j is))

    front_same : those n xs ≡ those m xs
    front_same =
        those-frame m n o r q 0 None c.first xs cut.u cut.v cut.mid (λ j w. by j w (is_or_not b.before j)) cut.front
      where
        high : cut.mid ≤ r key
        high = cut.back.3

        apart : (j : ℕ) → r j < cut.mid → j ≢ key
        apart j low is = let e : r j ≡ r key = ap r is in omega (arith, high)

        ahead : (j : ℕ) → r j < cut.mid → b.behind ≢ Some j
        ahead j low is =
            let w =
            links-first m o r q (suc (r key)) (Some key) b.behind ys c.last h.top j back is in
            let up : suc (r key) ≤ r j = w.above in omega (arith, high)

        by : (j : ℕ) → IsKey m o r q 0 cut.mid j → (b.before ≡ Some j) ⊎ (b.before ≢ Some j)
            → message_at n j ≡ message_at m j
        by j w (inl is) =
            ap (option_map (λ (x : Buffer). x.message)) (move.left j (apart j w.below) is (ahead j w.below))
            ∙ same_message b.behind (m j)
        by j w (inr not) =
            ap (option_map (λ (x : Buffer). x.message)) (move.others j (apart j w.below) not (ahead j w.below))

    back_same : those n ys ≡ those m ys
    back_same = those-frame m n o r q (suc (r key)) (Some key) b.behind ys None c.last h.top
        (λ j w. by j w (is_or_not b.behind j)) back
      where
        high : cut.mid ≤ r key
        high = cut.back.3

        apart : (j : ℕ) → r key < r j → j ≢ key
        apart j up is = let e : r j ≡ r key = ap r is in omega arith

        past : (j : ℕ) → r key < r j → b.before ≢ Some j
        past j up is = go (links-last m o r q 0 None c.first xs cut.u cut.v cut.mid j cut.front (sym before_is ∙ is))
          where
            go : (None ≡ Some j) ⊎ IsKey m o r q 0 cut.mid j → ⊥
            go (inl bad) = cc
            go (inr w) = let low : r j < cut.mid = w.below in omega (arith, high)

        by : (j : ℕ) → IsKey m o r q (suc (r key)) h.top j → (b.behind ≡ Some j) ⊎ (b.behind ≢ Some j)
            → message_at n j ≡ message_at m j
        by j w (inl is) =
            ap (option_map (λ (x : Buffer). x.message)) (move.right j (apart j w.above) (past j w.above) is)
            ∙ same_message_before b.before (m j)
        by j w (inr not) =
            ap (option_map (λ (x : Buffer). x.message)) (move.others j (apart j w.above) (past j w.above) not)

-- Unlinking the key between xs and ys removes its message from the queue.
pub unlink-moved : (m n : Buffers) (chains : List Chain) (q : ℕ) (c d : Chain) (key : ℕ) (b : Buffer)
    (message : Message) (k : AreChains m chains)
    (at : slice_get chains q ≡ Some c) (xs ys : List ℕ) → (k.each q c at).keys ≡ xs ++ key ∷ ys
    → Unlinked m n c d key b message →
    Moved m n chains q d (those m xs ++ those m ys) × (queue_at m c ≡ those m xs ++ message ∷ those m ys)
unlink-moved m n chains q c d key b message k at xs ys split move =
    let h = k.each q c at in
    let t = unlink-taken m n k.owner k.rank q c d key b message h xs ys split move in (
      moved m n chains q c d k.owner k.rank (those m xs ++ those m ys) k at
          (λ i j top ne w. (t.others j (λ is. ne (sym w.owned ∙ is)), w.owned, refl)) t.after
          (row-chain n k.owner k.rank q d t.after ∙ ap (those n) t.keys ∙ filter_map-append (message_at n) xs ys
          ∙ rw (t.front_same, t.back_same) refl),
      row-chain m k.owner k.rank q c h ∙ ap (those m) split ∙ filter_map-append (message_at m) xs (key ∷ ys)
          ∙ rw (move.was, move.message_is) refl,
    )

length-those : (m : Buffers) (o r : ℕ → ℕ) (q low : ℕ) (p s : Option ℕ) (ks : List ℕ) (t l : Option ℕ) (top : ℕ)
    → Links m o r q low p s ks t l top → length (those m ks) ≡ length ks
length-those m o r q low p s [] t l top h = refl
length-those m o r q low p s (k ∷ ks) t l top h =
    rw h.4 (ap (λ (x : ℕ). suc x) (length-those m o r q (suc (r k)) (Some k) h.0.behind ks t l top h.6))

pub length-chain : (m : Buffers) (o r : ℕ → ℕ) (q : ℕ) (c : Chain) → IsChain m o r q c → length (queue_at m c) ≡ c.len
length-chain m o r q c h =
    ap length (row-chain m o r q c h) ∙ length-those m o r q 0 None c.first h.keys None c.last h.top h.links ∙ sym h.len

-- the chain of a queue
pub chain_at : (m : Buffers) (chains : List Chain) (view : Queues) (q : ℕ) (c : Chain) → queues_at m chains ≡ view
    → q < length view → c ≡ get_or chains q c → slice_get chains q ≡ Some c
chain_at m chains view q c is within read =
    slice_get_read chains (length view) q c (ap length (sym is) ∙ length-map chains (queue_at m)) within read

pub queue-is : (m : Buffers) (chains : List Chain) (q : ℕ) (c : Chain) → slice_get chains q ≡ Some c
    → slice_index_or (queues_at m chains) q [] ≡ queue_at m c
queue-is m chains q c at =
    get_or-map (queue_at m) chains q c [] (slice_get_within chains q c at)
    ∙ ap (queue_at m) (get_or_from_slice_get chains q c c at)

sum-queues : (m : Buffers) (chains : List Chain)
    → ((q : ℕ) (c : Chain) → slice_get chains q ≡ Some c → length (queue_at m c) ≡ c.len) →
    total_of chains ≡ sum_by (length {A = Message}) (queues_at m chains)
sum-queues m [] f = refl
sum-queues m (c ∷ cs) f = let here = f 0 c refl in let more = sum-queues m cs (λ i e h. f (suc i) e h) in omega
    (arith, sum_by-cons (λ (c : Chain). c.len) c cs, sum_by-cons (length {A = Message}) (queue_at m c) (queues_at m cs))

-- the chains have as many buffers as the queues have messages
pub total-queues : (m : Buffers) (chains : List Chain) → AreChains m chains
    → total_of chains ≡ sum_by (length {A = Message}) (queues_at m chains)
total-queues m chains k = sum-queues m chains (λ q c at. length-chain m k.owner k.rank q c (k.each q c at))

pub total-set : (chains : List Chain) (q : ℕ) (c d : Chain) → slice_get chains q ≡ Some c
    → total_of (slice_set chains q d) + c.len ≡ total_of chains + d.len
total-set chains q c d at =
    let here = ap (λ (x : Chain). x.len) (get_or_from_slice_get chains q c c at) in
    omega (arith, here, sum_by-set (λ (x : Chain). x.len) chains q d c (slice_get_within chains q c at))

pub len-le-total : (chains : List Chain) (q : ℕ) (c : Chain) → slice_get chains q ≡ Some c → c.len ≤ total_of chains
len-le-total chains q c at =
    let here = ap (λ (x : Chain). x.len) (get_or_from_slice_get chains q c c at) in
    omega (arith, here, get_or-le-sum_by (λ (x : Chain). x.len) chains q c (slice_get_within chains q c at))

-- following `behind` from the first key gives the reverse of following `before` from the last
keys-forward : (m : Buffers) (o r : ℕ → ℕ) (q low : ℕ) (p s : Option ℕ) (ks : List ℕ) (t l : Option ℕ) (top : ℕ)
    → Links m o r q low p s ks t l top → keys_from (λ b. b.behind) m (length ks) s ≡ ks
keys-forward m o r q low p s [] t l top h = refl
keys-forward m o r q low p s (k ∷ ks) t l top h =
    rw (h.1, h.4) (ap (λ (x : List ℕ). k ∷ x) (keys-forward m o r q (suc (r k)) (Some k) h.0.behind ks t l top h.6))

keys-backward : (m : Buffers) (o r : ℕ → ℕ) (q low : ℕ) (p s : Option ℕ) (ks : List ℕ) (t l : Option ℕ) (top n : ℕ)
    → Links m o r q low p s ks t l top →
    keys_from (λ b. b.before) m (length ks + n) l ≡ reverse ks ++ keys_from (λ b. b.before) m n p
keys-backward m o r q low p s [] t l top n h =
    ap (λ (x : ℕ). keys_from (λ b. b.before) m x l) (zero-add n) ∙ ap (keys_from (λ b. b.before) m n) h.1
keys-backward m o r q low p s (k ∷ ks) t l top n h =
    let more = keys-backward m o r q (suc (r k)) (Some k) h.0.behind ks t l top (suc n) h.6 in
    let one : keys_from (λ b. b.before) m (suc n) (Some k) ≡ k ∷ keys_from (λ b. b.before) m n p = rw (h.4, h.5) refl in
    let turn : suc (length ks) + n ≡ length ks + suc n = omega arith in
    ap (λ (x : ℕ). keys_from (λ b. b.before) m x l) turn ∙ more ∙ ap (λ (x : List ℕ). reverse ks ++ x) one
    ∙ sym (append_assoc (reverse ks) (k ∷ []) (keys_from (λ b. b.before) m n p))
    ∙ ap (λ (x : List ℕ). x ++ keys_from (λ b. b.before) m n p) (sym (reverse-append (k ∷ []) ks))

pub both-ways : (m : Buffers) (chains : List Chain) → AreChains m chains → (q : ℕ) (c : Chain)
    → slice_get chains q ≡ Some c → ReadsBothWays m c
both-ways m chains k q c at =
    let h = k.each q c at in
    let none : keys_from (λ b. b.before) m 0 None ≡ [] = refl in
    let back = keys-backward m k.owner k.rank q 0 None c.first h.keys None c.last h.top 0 h.links in
    let front = keys-forward m k.owner k.rank q 0 None c.first h.keys None c.last h.top h.links in
    rw h.len (ap (λ (x : ℕ). keys_from (λ b. b.before) m x c.last) (sym (add-zero (length h.keys))) ∙ back
    ∙ append-nil (reverse h.keys) ∙ ap reverse (sym front))

-- the first key of a queue and the keys after it
pub first-split : (m : Buffers) (o r : ℕ → ℕ) (q : ℕ) (c : Chain) (key : ℕ) (h : IsChain m o r q c)
    → c.first ≡ Some key → (ys : List ℕ) × (h.keys ≡ key ∷ ys)
first-split m o r q c key h is = by h.keys h.links
  where
    by : (ks : List ℕ) → Links m o r q 0 None c.first ks None c.last h.top → (ys : List ℕ) × (ks ≡ key ∷ ys)
    by [] l = let bad : None ≡ Some key = sym l.0 ∙ is in absurd (cc)
    by (k ∷ ks) l =
        let two : Some k ≡ Some key = sym l.1 ∙ is in let same : k ≡ key = cc in (ks, ap (λ (x : ℕ). x ∷ ks) same)

pub no-first : (m : Buffers) (o r : ℕ → ℕ) (q : ℕ) (c : Chain) (h : IsChain m o r q c) → c.first ≡ None → h.keys ≡ []
no-first m o r q c h is = by h.keys h.links
  where
    by : (ks : List ℕ) → Links m o r q 0 None c.first ks None c.last h.top → ks ≡ []
    by [] l = refl
    by (k ∷ ks) l = let bad : None ≡ Some k = sym is ∙ l.1 in absurd (cc)
