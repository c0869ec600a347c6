-- The seats of host and guest: one of them steps, and no other changes; and they meet and part.
use Rattle.std.proofs.Common.{◌≡◌, ℕ, zero, suc, ◌+◌, ◌≤◌, List, [], ◌∷◌, length, set, sym, ap, ◌∙◌, refl, arith, subst, All, ⊎_elim}
use Rattle.std.specs.Prelude.{sum_by}
use Rattle.std.proofs.lemmas.List.Sums.{sum_by-cons, sum_by-append, sum_by-set, get_or-le-sum_by}
use Rattle.std.proofs.lemmas.List.Elements.{All-nil, All-cons, All-head, All-tail, All-push, All-set, All-get_or}
use Rattle.std.proofs.Common.{◌<◌, get_or}
use mathlib.Core.Option.{Option, some, some-ne-none, some-injective}
use lib.ListN.{get_elem?}
use Rattle.atomic_table.specs.Table.{State, Splits, Joins}
use Rattle.atomic_table.proofs.Lists.{at_set}
use Rattle.live_pages.specs.declared.access.Access.{Access}
use Rattle.live_pages.specs.declared.access.Turn.{Turn}
use Rattle.live_pages.specs.declared.page.View.{View}
use Rattle.live_pages.specs.Traces.{IsTraced}
use Rattle.live_pages.specs.inside.Open.{IsOpen, Fits, host_view, guest_view, both_view, spent_view}

module _ {A : Type 0} where
  get_found : (xs : List A) (i : ℕ) (a d : A) → get_elem? xs i ≡ some a → (i < length xs) × (get_or xs i d ≡ a)
  get_found [] i a d e = absurd (some-ne-none a (sym e))
  get_found (x ∷ xs) zero a d e = (omega arith, some-injective x a e)
  get_found (x ∷ xs) (suc i) a d e = let r = get_found xs i a d e in (omega arith, r.1)

  All-found : (P : A → Type 0) (xs : List A) (i : ℕ) (a : A) → get_elem? xs i ≡ some a → All P xs → P a
  All-found P xs i a e all = let f = get_found xs i a a e in subst P f.1 (All-get_or P xs i a f.0 all)

  sum_by-set_found : (f : A → ℕ) (xs : List A) (i : ℕ) (a b : A) → get_elem? xs i ≡ some a
      → sum_by f (set xs i b) + f a ≡ sum_by f xs + f b
  sum_by-set_found f xs i a b e =
      let r = get_found xs i a a e in
      let s = sum_by-set f xs i b a r.0 in
      let here : f (get_or xs i a) ≡ f a = ap f r.1 in
      omega arith

  found-le-sum_by : (f : A → ℕ) (xs : List A) (i : ℕ) (a : A) → get_elem? xs i ≡ some a → f a ≤ sum_by f xs
  found-le-sum_by f xs i a e =
      let r = get_found xs i a a e in
      let l = get_or-le-sum_by f xs i a r.0 in
      let here : f (get_or xs i a) ≡ f a = ap f r.1 in
      omega arith

  -- where g is 0 throughout
  none : (g : A → ℕ) (P Q : A → Type 0) (xs : List A) → sum_by g xs ≡ 0 → ((x : A) → g x ≡ 0 → P x → Q x)
      → All P xs → All Q xs
  none g P Q [] e goes all = All-nil Q
  none g P Q (x ∷ xs) e goes all =
      let G = sum_by-cons g x xs in
      All-cons Q x xs (goes x (omega arith) (All-head P x xs all)) (none g P Q xs (omega arith) goes
      (All-tail P x xs all))

  -- one element has all of g, and is replaced
  only : (g : A → ℕ) (P Q : A → Type 0) (xs : List A) (i : ℕ) (a b : A) → get_elem? xs i ≡ some a → g a ≡ 1
      → sum_by g xs ≡ 1 → ((x : A) → g x ≡ 0 → P x → Q x) → Q b → All P xs → All Q (set xs i b)
  only g P Q [] i a b e one sum goes q all = absurd (some-ne-none a (sym e))
  only g P Q (x ∷ xs) zero a b e one sum goes q all =
      let G = sum_by-cons g x xs in
      let here : g x ≡ g a = ap g (some-injective x a e) in
      All-cons Q b xs q (none g P Q xs (omega arith) goes (All-tail P x xs all))
  only g P Q (x ∷ xs) (suc i) a b e one sum goes q all =
      let G = sum_by-cons g x xs in
      let most = found-le-sum_by g xs i a e in
      All-cons Q x (set xs i b) (goes x (omega arith) (All-head P x xs all))
      (only g P Q xs i a b e one (omega arith) goes q (All-tail P x xs all))

abbrev hosts_of : View → ℕ
hosts_of v = v.hosts

abbrev guests_of : View → ℕ
guests_of v = v.guests

-- the host steps: the guest has seen what it had seen
pub hosts_step : (key id : ℕ) (v : View) (s : State (Unit {0}) View) (words : List ℕ)
    (homes : List (Option (Unit {0}))) (a : Access) → v ≡ host_view v.log → IsOpen key s
    → get_elem? s.views id ≡ some v → length words ≡ length s.words
    → ((log : List Access) (seen : List Turn) → IsTraced s.words log seen → IsTraced words (a ∷ log) seen)
    → IsOpen key record { words = words; homes = homes; views = set s.views id (host_view (a ∷ v.log)) }
hosts_step key id v s words homes a is h at long goes =
    let one : v.hosts ≡ 1 = ap hosts_of is in
    let no : v.guests ≡ 0 = ap guests_of is in
    let log = (All-found (Fits h.log h.seen) s.views id v at h.fits).host one in
    let next = host_view (a ∷ v.log) in
    record {
      log = a ∷ v.log;
      seen = h.seen;
      host = (let e = sum_by-set_found hosts_of s.views id v next at in let p = h.host in omega arith);
      guest = (let e = sum_by-set_found guests_of s.views id v next at in let p = h.guest in omega arith);
      fits = only hosts_of (Fits h.log h.seen) (Fits (a ∷ v.log) h.seen) s.views id v next at one h.host
          (λ x zero fits. record { host = λ e. absurd (omega (arith, zero, e)); guest = fits.guest })
          (record { host = λ _. refl; guest = λ (e : 0 ≡ 1). absurd (omega (arith, e)) }) h.fits;
      width = long ∙ h.width;
      traced = goes v.log h.seen (subst (λ l. IsTraced s.words l h.seen) (sym log) h.traced);
    }

-- what a seat of both knows
pub opens_both : (key id : ℕ) (v : View) (s : State (Unit {0}) View) → v ≡ both_view v.log v.seen → IsOpen key s
    → get_elem? s.views id ≡ some v → IsTraced s.words v.log v.seen
opens_both key id v s is h at =
    let fits = All-found (Fits h.log h.seen) s.views id v at h.fits in
    subst (λ l. IsTraced s.words l v.seen) (sym (fits.host (ap hosts_of is)))
    (subst (IsTraced s.words h.log) (sym (fits.guest (ap guests_of is))) h.traced)

-- the guest steps at such a seat: the host has done what it had done
pub guests_step : (key id : ℕ) (v : View) (s : State (Unit {0}) View) (words : List ℕ)
    (homes : List (Option (Unit {0}))) (seen : List Turn) → v ≡ both_view v.log v.seen → IsOpen key s
    → get_elem? s.views id ≡ some v → length words ≡ length s.words → IsTraced words v.log seen
    → IsOpen key record { words = words; homes = homes; views = set s.views id (both_view v.log seen) }
guests_step key id v s words homes seen is h at long traced =
    let host : v.hosts ≡ 1 = ap hosts_of is in
    let guest : v.guests ≡ 1 = ap guests_of is in
    let log = (All-found (Fits h.log h.seen) s.views id v at h.fits).host host in
    let next = both_view v.log seen in
    record {
      log = h.log;
      seen = seen;
      host = (let e = sum_by-set_found hosts_of s.views id v next at in let p = h.host in omega arith);
      guest = (let e = sum_by-set_found guests_of s.views id v next at in let p = h.guest in omega arith);
      fits = only guests_of (Fits h.log h.seen) (Fits h.log seen) s.views id v next at guest h.guest
          (λ x zero fits. record { host = fits.host; guest = λ e. absurd (omega (arith, zero, e)) })
          (record { host = λ _. log; guest = λ _. refl }) h.fits;
      width = long ∙ h.width;
      traced = subst (λ l. IsTraced words l seen) log traced;
    }

-- the guest's seat leaves the host's
pub parts : (key id : ℕ) (v : View) → v ≡ both_view v.log v.seen
    → Splits (IsOpen key) id v (host_view v.log) (guest_view v.seen)
parts key id v is s h at =
    let host : v.hosts ≡ 1 = ap hosts_of is in
    let guest : v.guests ≡ 1 = ap guests_of is in
    let own = All-found (Fits h.log h.seen) s.views id v at h.fits in
    let left = host_view v.log in
    let right = guest_view v.seen in
    let views : List View = set s.views id left in
    record {
      log = h.log;
      seen = h.seen;
      host = (let e = sum_by-set_found hosts_of s.views id v left at in
          let a = sum_by-append hosts_of views (right ∷ []) in let p = h.host in omega arith);
      guest = (let e = sum_by-set_found guests_of s.views id v left at in
          let a = sum_by-append guests_of views (right ∷ []) in let p = h.guest in omega arith);
      fits = All-push (Fits h.log h.seen) views right
          (All-set (Fits h.log h.seen) s.views id left
          (record { host = λ _. own.host host; guest = λ (e : 0 ≡ 1). absurd (omega (arith, e)) }) h.fits)
          (record { host = λ (e : 0 ≡ 1). absurd (omega (arith, e)); guest = λ _. own.guest guest });
      width = h.width;
      traced = h.traced;
    }

-- the guest's seat joins the host's
pub meets : (key id : ℕ) (v : View) (other : ℕ) (w : View) → v ≡ host_view v.log → w ≡ guest_view w.seen
    → Joins (IsOpen key) id v other w (both_view v.log w.seen) spent_view
meets key id v other w is-host is-guest s h at apart there =
    let host : v.hosts ≡ 1 = ap hosts_of is-host in
    let no-guest : v.guests ≡ 0 = ap guests_of is-host in
    let guest : w.guests ≡ 1 = ap guests_of is-guest in
    let no-host : w.hosts ≡ 0 = ap hosts_of is-guest in
    let both = both_view v.log w.seen in
    let views : List View = set s.views id both in
    let was : get_elem? s.views other ≡ some w =
    ⊎_elim (λ x. absurd (apart x.0)) (λ x. x.1) (at_set s.views id other both w there) in
    let P = Fits h.log h.seen in
    let log = (All-found P s.views id v at h.fits).host host in
    let seen = (All-found P s.views other w was h.fits).guest guest in
    record {
      log = h.log;
      seen = h.seen;
      host = (let e = sum_by-set_found hosts_of s.views id v both at in
          let e' = sum_by-set_found hosts_of views other w spent_view there in let p = h.host in omega arith);
      guest = (let e = sum_by-set_found guests_of s.views id v both at in
          let e' = sum_by-set_found guests_of views other w spent_view there in let p = h.guest in omega arith);
      fits = All-set P views other spent_view
          (record { host = λ (e : 0 ≡ 1). absurd (omega (arith, e)); guest = λ (e : 0 ≡ 1). absurd (omega (arith, e)) })
          (All-set P s.views id both (record { host = λ _. log; guest = λ _. seen }) h.fits);
      width = h.width;
      traced = h.traced;
    }
