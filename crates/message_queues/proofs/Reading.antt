-- The message at a place of a chain.
use Rattle.std.proofs.Common.{◌≡◌, ℕ, zero, suc, ◌<◌, List, [], ◌∷◌, length, Option, Some, None, sym, ap, ◌∙◌, arith}
use Rattle.std.specs.Option.{option_and_then}
use Rattle.std.specs.List.{slice_get}
use Rattle.board_terms.specs.declared.messages.Message.{Message}
use Rattle.message_queues.specs.inside.Buffers.{Buffer}
use Rattle.message_queues.specs.declared.chains.Chain.{Chain}
use Rattle.message_queues.specs.inside.Chains.{Buffers, behind_of, put_first, messages, queue_at, key_at, Links, IsChain}

-- place i of a chain from a key on, whose messages are these
pub record At (m : Buffers) (from : Option ℕ) (ms : List Message) (i : ℕ) : Type 0 where
  pub key : ℕ
  pub b : Buffer
  pub is : key_at i m from ≡ Some key
  pub there : m key ≡ Some b
  pub message : slice_get ms i ≡ Some b.message

abbrev next_of : Buffers → Option ℕ → Option ℕ
next_of m o = option_and_then (λ key. behind_of (m key)) o

first-step : (m : Buffers) (i : ℕ) (s : Option ℕ) (k : ℕ) (b : Buffer) → s ≡ Some k → m k ≡ Some b
    → key_at (suc i) m s ≡ key_at i m b.behind
first-step m zero s k b is there = ap (next_of m) is ∙ ap behind_of there
first-step m (suc i) s k b is there = ap (next_of m) (first-step m i s k b is there)

at-links : (m : Buffers) (o r : ℕ → ℕ) (q low : ℕ) (p s : Option ℕ) (ks : List ℕ) (l : Option ℕ) (top : ℕ)
    → Links m o r q low p s ks None l top → (i : ℕ) →
    i < length ks → At m s (messages (length ks) m s) i
at-links m o r q low p s [] l top h i below = absurd (omega arith)
at-links m o r q low p s (k ∷ ks) l top h zero below = record {
  key = k;
  b = h.0;
  is = h.1;
  there = h.4;
  message = ap (λ (from : Option ℕ). slice_get (messages (suc (length ks)) m from) 0) h.1
      ∙ ap (λ (x : Option Buffer). slice_get (put_first x (messages (length ks) m (behind_of x))) 0) h.4;
}
at-links m o r q low p s (k ∷ ks) l top h (suc i) below =
    let rest = at-links m o r q (suc (r k)) (Some k) h.0.behind ks l top h.6 i (omega arith) in
    record {
      key = rest.key;
      b = rest.b;
      is = first-step m i s k h.0 h.1 h.4 ∙ rest.is;
      there = rest.there;
      message = ap (λ (from : Option ℕ). slice_get (messages (suc (length ks)) m from) (suc i)) h.1
          ∙ ap (λ (x : Option Buffer). slice_get (put_first x (messages (length ks) m (behind_of x))) (suc i)) h.4
          ∙ rest.message;
    }

pub at-chain : (m : Buffers) (o r : ℕ → ℕ) (q : ℕ) (c : Chain) (h : IsChain m o r q c) (i : ℕ) → i < c.len
    → At m c.first (queue_at m c) i
at-chain m o r q c h i below =
    rw h.len (at-links m o r q 0 None c.first h.keys c.last h.top h.links i (omega (arith, h.len)))

-- the same of a key that is known to be there
pub record AtKey (m : Buffers) (ms : List Message) (i key : ℕ) : Type 0 where
  pub b : Buffer
  pub there : m key ≡ Some b
  pub message : slice_get ms i ≡ Some b.message

pub at_key : (m : Buffers) (from : Option ℕ) (ms : List Message) (i key : ℕ) → At m from ms i
    → key_at i m from ≡ Some key → AtKey m ms i key
at_key m from ms i key a e =
    let both : Some a.key ≡ Some key = sym a.is ∙ e in
    let same : a.key ≡ key = cc in
    record { b = a.b; there = ap m (sym same) ∙ a.there; message = a.message }

pub behind-key : (m : Buffers) (from : Option ℕ) (ms : List Message) (i key : ℕ) (b : Buffer) → At m from ms (suc i)
    → key_at i m from ≡ Some key → m key ≡ Some b → (next : ℕ) × (b.behind ≡ Some next)
behind-key m from ms i key b a e there = (a.key, sym (ap (next_of m) e ∙ ap behind_of there) ∙ a.is)
