-- The calls of one actor, in the part of the history read so far.
use Rattle.std.proofs.Common.{◌≡◌, ◌≢◌, ℕ, Bool, true, false, List, [], ◌∷◌, ◌++◌, map, refl, sym, ap, ◌∙◌, arith, append-nil}
use Rattle.std.specs.Prelude.{◌==◌, if◌then◌else◌, filter}
use mathlib.Core.List.{map-append}
use Rattle.std.proofs.lemmas.Bool.{eq-eqb}
use Rattle.std.proofs.lemmas.Bool.Decides.{nat_tests}
use Rattle.std.proofs.lemmas.List.Elements.{filter-append}
use Rattle.synic_board.specs.declared.event.Event.{Event}
use Rattle.synic_board.specs.declared.event.Reply.{Reply}
use Rattle.synic_board.specs.declared.history.Entry.{Entry}
use Rattle.actor_calls.specs.Calls.{Call, call_of, calls_by}

pub calls_by-append : (n : ℕ) (g h : List Entry) → calls_by n (g ++ h) ≡ calls_by n g ++ calls_by n h
calls_by-append n g h =
    ap (map call_of) (filter-append (λ (e : Entry). n == e.actor) g h)
    ∙ map-append call_of (filter (λ (e : Entry). n == e.actor) g) (filter (λ (e : Entry). n == e.actor) h)

one : (n : ℕ) (e : Entry) (b : Bool) → (n == e.actor) ≡ b → calls_by n (e ∷ []) ≡ (if b then call_of e ∷ [] else [])
one n e b is = ap (λ (x : Bool). map call_of (if x then e ∷ [] else [])) is ∙ out b
  where
    out : (x : Bool) → map call_of (if x then e ∷ [] else []) ≡ (if x then call_of e ∷ [] else [])
    out true = refl
    out false = refl

pub matched : (n : ℕ) (front more : List Entry) (seen longer : List Call) (e : Entry) (event : Event) (reply : Reply)
    → more ≡ front ++ e ∷ [] → calls_by n front ≡ seen → e.actor ≡ n
    → longer ≡ seen ++ (event, reply) ∷ [] → e.event ≡ event → e.reply ≡ reply → calls_by n more ≡ longer
matched n front more seen longer e event reply is was own goes same answer =
    ap (calls_by n) is ∙ calls_by-append n front (e ∷ [])
    ∙ (λ i. was i ++ one n e true (eq-eqb n e.actor (sym own)) i) ∙ (λ i. seen ++ (same i, answer i) ∷ [])
    ∙ sym goes

pub skipped : (n : ℕ) (front more : List Entry) (seen : List Call) (e : Entry) → more ≡ front ++ e ∷ []
    → calls_by n front ≡ seen → e.actor ≢ n → calls_by n more ≡ seen
skipped n front more seen e is was other =
    let test : (n == e.actor) ≡ false = grind (arith, nat_tests) in
    ap (calls_by n) is ∙ calls_by-append n front (e ∷ []) ∙ (λ i. was i ++ one n e false test i) ∙ append-nil seen
