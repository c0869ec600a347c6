-- A message page is brought up to date, slot by slot.
use Rattle.std.proofs.Common.{◌≡◌, ◌≢◌, ◌⊎◌, inl, inr, ℕ, ◌+◌, ◌*◌, ◌/◌, ◌%◌, ◌<◌, ◌≤◌, Bool, true, false, List, [], ◌∷◌, ◌++◌, get_or, map, refl, sym, ap, ◌∙◌, subst, arith, append_assoc}
use Rattle.std.proofs.lemmas.Bool.{cases_eq}
use Rattle.std.proofs.lemmas.List.FromFn.{get_or-map-range_with_len}
use Rattle.std.specs.List.{range_with_len}
use Rattle.board_terms.specs.declared.pages.Kind.TheVariants.{Sim}
use Rattle.synic_board.specs.State.{State}
use Rattle.live_pages.specs.Words.{known, type_of}
use Rattle.live_pages.specs.declared.access.Access.{Access}
use Rattle.live_pages.specs.declared.access.Access.TheVariants.{Load, FetchOr, Store}
use Rattle.live_board.specs.Words.{word_of}
use Rattle.live_board.specs.Live.{AreStores, AreCareful}
use Rattle.live_board.specs.inside.Parts.{IsFilledFrom, IsPublished}
use Rattle.live_board.proofs.Placed.{placed-skip, placed-more}
use Rattle.live_board.proofs.Joined.{careful-append}

stores-append : (later news : List Access) → AreStores later → AreStores news → AreStores (later ++ news)
stores-append [] news h g = g
stores-append (Store w v ∷ later) news h g = stores-append later news h g
stores-append (Load w f ∷ later) news h g = absurd h
stores-append (FetchOr w m f ∷ later) news h g = absurd h

pub publish-start : (s : State) (p : ℕ) (shown : Bool) (words : List ℕ) (log : List Access)
    → IsPublished s p shown words 0 log log
publish-start s p shown words log = record {
  news = [];
  page = refl;
  stores = tt;
  placed = refl;
  careful = λ _. tt;
  done = λ x low under _. absurd (omega (arith, under));
  left = λ x low _. refl;
}

no-both : {b : Bool} → b ≡ true → b ≡ false → ⊥
no-both {b} t f = let e : true ≡ false = sym t ∙ f in cc

-- an occupied slot of a page that the guest sees
pub publish-skip : (s : State) (p : ℕ) (shown : Bool) (words : List ℕ) (n : ℕ) (log now : List Access)
    → IsPublished s p shown words n log now → shown ≡ true → type_of (get_or words (32 * n) 0) ≢ 0
    → IsPublished s p shown words (n + 1) log now
publish-skip s p shown words n log now h seen full = record {
  news = h.news;
  page = h.page;
  stores = h.stores;
  placed = placed-skip n log h.news h.placed;
  careful = h.careful;
  done = λ x low under which. by x low which (cases_eq (x / 32) n) under;
  left = λ x low which. h.left x low
      (elim which as (λ _. (n ≤ x / 32)
      ⊎ ((shown ≡ true) × (type_of (get_or words (32 * (x / 32)) 0) ≢ 0))) [
        | inl le ↦
            inl (omega (arith, le))
        | inr both ↦ inr both
      ]);
}
  where
    none : (x : ℕ) → x / 32 ≡ n → (shown ≡ false) ⊎ (type_of (get_or words (32 * (x / 32)) 0) ≡ 0) → ⊥
    none x e (inl hidden) = no-both seen hidden
    none x e (inr empty) = full (ap (λ k. type_of (get_or words (32 * k) 0)) (sym e) ∙ empty)

    by : (x : ℕ) → x < 512 → (shown ≡ false) ⊎ (type_of (get_or words (32 * (x / 32)) 0) ≡ 0) → (x / 32 ≡ n)
        ⊎ (x / 32 ≢ n) → x / 32 < n + 1 → known now x ≡ word_of s (2 * p) x
    by x low which (inl e) under = absurd (none x e which)
    by x low which (inr ne) under = h.done x low (omega (arith, under, ne)) which

-- a slot that the host knows
pub filled-kept : (s : State) (p i header : ℕ) (log : List Access)
    → word_of s (2 * p) (32 * i) ≡ header
    → ((k : ℕ) → k < 32 → known log (32 * i + k) ≡ word_of s (2 * p) (32 * i + k)) → IsFilledFrom s p i header log log
filled-kept s p i header log head knows = record {
  words = words;
  are = are;
  filled = record {
    news = [];
    page = refl;
    stores = tt;
    careful = λ _. tt;
    words = λ k low. knows k low ∙ sym (are k low);
    others = λ x _. refl;
    placed = inl (
      are 0 (omega arith) ∙ ap (word_of s (2 * p)) (let z : 32 * i + 0 ≡ 32 * i = omega arith in z)
          ∙ head,
      refl,
    );
  };
}
  where
    words : List ℕ
    words = map (λ k. word_of s (2 * p) (32 * i + k)) (range_with_len 0 32)

    are : (k : ℕ) → k < 32 → get_or words k 0 ≡ word_of s (2 * p) (32 * i + k)
    are k low = get_or-map-range_with_len (λ k. word_of s (2 * p) (32 * i + k)) 0 32 k k 0 low (omega arith)

-- one slot more
pub publish-more : (s : State) (p : ℕ) (shown : Bool) (words : List ℕ) (n : ℕ) (log now next : List Access) → n < 16
    → IsPublished s p shown words n log now → IsFilledFrom s p n (get_or words (32 * n) 0) now next
    → (shown ≡ false) ⊎ (type_of (get_or words (32 * n) 0) ≡ 0) → IsPublished s p shown words (n + 1) log next
publish-more s p shown words n log now next under h f free = record {
  news = f.filled.news ++ h.news;
  page = f.filled.page ∙ ap (λ l. f.filled.news ++ l) h.page ∙ sym (append_assoc f.filled.news h.news log);
  stores = stores-append f.filled.news h.news f.filled.stores h.stores;
  placed = placed-more n _ _ _ _ _ h.news h.placed h.page f.filled;
  careful = λ seen. careful-append Sim f.filled.news h.news log
      (subst (AreCareful Sim f.filled.news) h.page (f.filled.careful (empty seen free))) (h.careful seen);
  done = λ x low below which. done x low which (cases_eq (x / 32) n) below;
  left = λ x low which. (let ne = apart x which in
      f.filled.others x ne ∙ h.left x low
      (elim which as (λ _. (n ≤ x / 32)
      ⊎ ((shown ≡ true) × (type_of (get_or words (32 * (x / 32)) 0) ≢ 0))) [
        | inl le ↦
            inl (omega (arith, le))
        | inr both ↦ inr both
      ]));
}
  where
    empty : shown ≡ true → (shown ≡ false) ⊎ (type_of (get_or words (32 * n) 0) ≡ 0)
        → type_of (get_or words (32 * n) 0) ≡ 0
    empty seen (inl hidden) = absurd (no-both seen hidden)
    empty seen (inr e) = e

    done : (x : ℕ) → x < 512 → (shown ≡ false) ⊎ (type_of (get_or words (32 * (x / 32)) 0) ≡ 0) → (x / 32 ≡ n)
        ⊎ (x / 32 ≢ n) → x / 32 < n + 1 → known next x ≡ word_of s (2 * p) x
    done x low which (inl e) below =
        let place : 32 * n + x % 32 ≡ x = omega (arith, e) in
        ap (known next) (sym place) ∙ f.filled.words (x % 32) (omega arith) ∙ f.are (x % 32) (omega arith)
        ∙ ap (word_of s (2 * p)) place
    done x low which (inr ne) below = f.filled.others x ne ∙ h.done x low (omega (arith, below, ne)) which

    apart : (x : ℕ) → (n + 1 ≤ x / 32) ⊎ ((shown ≡ true) × (type_of (get_or words (32 * (x / 32)) 0) ≢ 0)) → x / 32 ≢ n
    apart x (inl le) e = omega (arith, le, e)
    apart x (inr (seen, full)) e = full (ap (λ k. type_of (get_or words (32 * k) 0)) e ∙ empty seen free)
