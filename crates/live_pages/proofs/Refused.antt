-- A host that makes up what it found, or does not store, breaks the rule.
use Rattle.std.proofs.Common.{◌≡◌, ℕ, List, [], ◌∷◌, ◌++◌, set, sym, ap, ◌∙◌, refl, subst, arith}
use Rattle.std.specs.Prelude.{replicate}
use Rattle.std.proofs.lemmas.List.Elements.{All-nil, All-cons, All-head, All-tail}
use prog.Atomic.{either}
use Rattle.atomic_table.specs.Table.{State}
use Rattle.live_pages.specs.declared.access.Access.{Access}
use Rattle.live_pages.specs.declared.access.Access.TheVariants.{Load, FetchOr, Store}
use Rattle.live_pages.specs.declared.access.Turn.{Turn}
use Rattle.live_pages.specs.declared.access.Turn.TheVariants.{ByHost, ByGuest}
use Rattle.live_pages.specs.declared.page.View.{View}
use Rattle.live_pages.specs.Traces.{memory, hosts_turns, Finds, IsHistory, IsTraced}
use Rattle.live_pages.specs.inside.Open.{IsOpen, Fits, host_view, guest_view}
use Rattle.live_pages.specs.inside.Lies.{Allowed, exchanged, LiesAreRefused}
use Rattle.live_pages.proofs.Tracing.{apart, set_at, zeros}

-- the guest has stored 1 in the word 0, and the host has done nothing
abbrev seen : List Turn
seen = ByGuest 0 1 ∷ []

abbrev before : State (Unit {0}) View
before = record { words = set (replicate 512 0) 0 1; homes = []; views = host_view [] ∷ guest_view seen ∷ [] }

is_open : (key : ℕ) → IsOpen key before
is_open key = record {
  log = [];
  seen = seen;
  host = refl;
  guest = refl;
  fits = All-cons (Fits [] seen) (host_view []) (guest_view seen ∷ [])
      (record { host = λ _. refl; guest = λ (e : 0 ≡ 1). absurd (omega (arith, e)) })
      (All-cons (Fits [] seen) (guest_view seen) []
      (record { host = λ (e : 0 ≡ 1). absurd (omega (arith, e)); guest = λ _. refl }) (All-nil (Fits [] seen)));
  width = refl;
  traced = record {
    whole = record { since = []; host = refl; history = tt };
    leaves = set_at (replicate 512 0) (λ _. 0) 0 1 (λ w lt. zeros 512 w);
  };
}

nil_right : (l : List Access) → l ++ [] ≡ l
nil_right [] = refl
nil_right (a ∷ l) = ap (λ t. a ∷ t) (nil_right l)

-- after such a step the access has found what the guest left, and the words are those after it
follows : (key : ℕ) (f : ℕ → ℕ) (a : Access) → Allowed key f a
    → Finds (memory seen) a × (f 1 ≡ memory (ByHost a ∷ seen) 0)
follows key f a allowed =
    let r = allowed before (is_open key) refl refl (omega arith) in
    let view = r.0 in
    let h = r.3 in
    let is = r.4.0 in
    let P = Fits h.log h.seen in
    let log : view.log ≡ h.log =
    (All-head P view (guest_view seen ∷ []) h.fits).host (ap (λ (v : View). v.hosts) is) in
    let same : seen ≡ h.seen =
    (All-head P (guest_view seen) [] (All-tail P view (guest_view seen ∷ []) h.fits)).guest refl in
    let all : a ∷ [] ≡ h.log = sym (ap (λ (v : View). v.log) is) ∙ log in
    let t : IsTraced (set before.words 0 (f 1)) (a ∷ []) seen =
    subst (λ l. IsTraced (set before.words 0 (f 1)) l seen) (sym all)
    (subst (IsTraced (set before.words 0 (f 1)) h.log) (sym same) h.traced) in
    let since : t.whole.since ≡ a ∷ [] = sym (nil_right t.whole.since) ∙ sym t.whole.host in
    let history : IsHistory (ByHost a ∷ seen) =
    subst (λ l. IsHistory (hosts_turns l ++ seen)) since t.whole.history in (
      history.0,
      t.leaves 0 (omega arith) ∙ ap (λ l. memory (hosts_turns l ++ seen) 0) since,
    )

pub lies_are_refused : (key : ℕ) → LiesAreRefused key
lies_are_refused key = record {
  load = λ allowed. (let e = (follows key (λ n. n) (Load 0 0) allowed).0 in omega (arith, e));
  or = λ mask allowed. (let e = (follows key (exchanged mask) (FetchOr 0 mask 0) allowed).0 in omega (arith, e));
  store = λ value other allowed. other (sym (follows key (exchanged value) (Store 0 value) allowed).1
      ∙ ap (λ b. either b value 1) (apart 1 value (λ e. other (sym e))));
}
