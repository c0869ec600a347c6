-- Filling a slot, word by word.
use Rattle.std.proofs.Common.{◌≡◌, ◌≢◌, ◌⊎◌, inl, inr, ℕ, zero, suc, ◌+◌, ◌*◌, ◌/◌, ◌<◌, ◌≤◌, true, false, List, [], ◌∷◌, length, get_or, set, refl, sym, ap, ◌∙◌, subst, arith, append-nil}
use Rattle.std.specs.Prelude.{◌==◌, slice_index}
use Rattle.std.proofs.lemmas.Bool.{cases_eq}
use Rattle.std.proofs.lemmas.List.{get_or-set_same, get_or-set_other}
use Rattle.std.proofs.lemmas.Bool.Decides.{nat_tests}
use Rattle.board_terms.specs.declared.pages.Kind.{Kind}
use Rattle.board_terms.specs.declared.pages.Kind.TheVariants.{Sim}
use Rattle.synic_board.specs.State.{State}
use Rattle.live_pages.specs.Words.{known, type_of, IsPut}
use Rattle.live_pages.specs.declared.access.Access.{Access}
use Rattle.live_pages.specs.declared.access.Access.TheVariants.{Load, FetchOr, Store}
use Rattle.live_board.specs.Live.{explained, AreStores, AreCareful, ArePuts}
use Rattle.live_board.specs.inside.Parts.{IsFilled, IsFilling}

same : (x h : ℕ) → x ≡ h → (x == h) ≡ true
same x h e = grind (arith, nat_tests)

apart : (x h : ℕ) → x ≢ h → (x == h) ≡ false
apart x h e = grind (arith, nat_tests)

-- an array whose first words are given, and one more
pub extended : (words : List ℕ) (k v : ℕ) (f : ℕ → ℕ) → k < length words → v ≡ f k
    → ((j : ℕ) → j < k → get_or words j 0 ≡ f j) → (j : ℕ) → j < k + 1 → get_or (set words k v) j 0 ≡ f j
extended words k v f long is before j below = by (cases_eq j k)
  where
    by : (j ≡ k) ⊎ (j ≢ k) → get_or (set words k v) j 0 ≡ f j
    by (inl e) = ap (λ n. get_or (set words k v) n 0) e ∙ get_or-set_same words k v 0 long ∙ is ∙ ap f (sym e)
    by (inr ne) = get_or-set_other words k j v 0 ne ∙ before j (omega (arith, ne))

pub stored-here : (w v : ℕ) (log : List Access) (x : ℕ) → x ≡ w → known (Store w v ∷ log) x ≡ v
stored-here w v log x e = rw (same x w e) refl

pub stored-other : (w v : ℕ) (log : List Access) (x : ℕ) → x ≢ w → known (Store w v ∷ log) x ≡ known log x
stored-other w v log x e = rw (apart x w e) refl

-- stores show nothing
pub stores-show : (s : State) (p : ℕ) (k : Kind) (news log : List Access) → AreStores news
    → explained s p k news log ≡ []
stores-show s p k [] log h = refl
stores-show s p k (Store w v ∷ news) log h = append-nil (explained s p k news log) ∙ stores-show s p k news log h
stores-show s p k (Load w f ∷ news) log h = absurd h
stores-show s p k (FetchOr w m f ∷ news) log h = absurd h

pub filling-start : (i header : ℕ) (after : List ℕ) (log : List Access) → known log (32 * i) ≡ header
    → IsFilling i header after 1 log log
filling-start i header after log head = record {
  news = [];
  page = refl;
  placed = λ n e. subst (λ m. ArePuts i (slice_index after) m []) (let z : 0 ≡ n = omega (arith, e) in z) refl;
  stores = tt;
  careful = λ _. tt;
  head = head;
  done = λ j low high. absurd (omega (arith, low, high));
  others = λ x _. refl;
}

-- any store of the next word
filling-any : (i header : ℕ) (after : List ℕ) (k v : ℕ) (log now : List Access) → 1 ≤ k → k < 32
    → (h : IsFilling i header after k log now)
    → (type_of header ≡ 0 → AreCareful Sim (Store (32 * i + k) v ∷ h.news) log)
    × (known (Store (32 * i + k) v ∷ now) (32 * i) ≡ header)
    × ((j : ℕ) → 1 ≤ j → j < k → known (Store (32 * i + k) v ∷ now) (32 * i + j) ≡ slice_index after j)
    × ((x : ℕ) → x / 32 ≢ i → known (Store (32 * i + k) v ∷ now) x ≡ known log x)
filling-any i header after k v log now some low h =
    let w : ℕ = 32 * i + k in
    let slot : 32 * (w / 32) ≡ 32 * i = omega (arith, low) in (
      (λ empty. (
        ap type_of (ap (λ l. known l (32 * (w / 32))) (sym h.page) ∙ ap (known now) slot ∙ h.head) ∙ empty,
        h.careful empty,
      )),
      stored-other w v now (32 * i) (λ e. omega (arith, e, some)) ∙ h.head,
      (λ j above below. stored-other w v now (32 * i + j) (λ e. omega (arith, e, below)) ∙ h.done j above below),
      (λ x ne. stored-other w v now x (λ e. ne (omega (arith, e, low))) ∙ h.others x ne),
    )

pub filling-put : (i header : ℕ) (after : List ℕ) (k : ℕ) (log now next : List Access) → 1 ≤ k → k < 32
    → IsFilling i header after k log now → IsPut (32 * i + k) (slice_index after k) now next
    → IsFilling i header after (k + 1) log next
filling-put i header after k log now next some low h put = by put
  where
    w : ℕ
    w = 32 * i + k

    v : ℕ
    v = slice_index after k

    placed : (news : List Access) → IsPut w v h.news news → (n : ℕ) → k + 1 ≡ n + 1
        → ArePuts i (slice_index after) n news
    placed news new zero e = absurd (omega (arith, e, some))
    placed news new (suc m) e =
        let here : k ≡ suc m = omega (arith, e) in (
          h.news,
          subst (λ n. IsPut (32 * i + n) (slice_index after n) h.news news) here new,
          h.placed m (omega (arith, here)),
        )

    finish : (log : List Access) (j : ℕ) → ((j : ℕ) → 1 ≤ j → j < k → known log (32 * i + j) ≡ slice_index after j)
        → 1 ≤ j → j < k + 1 → (j ≡ k) ⊎ (j ≢ k) → known (Store w v ∷ log) (32 * i + j) ≡ slice_index after j
    finish log j done above below (inl e) =
        stored-here w v log (32 * i + j) (omega (arith, e)) ∙ ap (slice_index after) (sym e)
    finish log j done above below (inr ne) =
        stored-other w v log (32 * i + j) (λ e. ne (omega (arith, e))) ∙ done j above (omega (arith, ne))

    by : IsPut w v now next → IsFilling i header after (k + 1) log next
    by (inl is) =
        let one = filling-any i header after k v log now some low h in
        subst (IsFilling i header after (k + 1) log) (sym is) (record {
          news = Store w v ∷ h.news;
          page = ap (λ l. Store w v ∷ l) h.page;
          placed = placed (Store w v ∷ h.news) (inl refl);
          stores = h.stores;
          careful = one.0;
          head = one.1;
          done = λ j above below. finish now j h.done above below (cases_eq j k);
          others = one.3;
        })
    by (inr (found, is)) =
        let one = filling-any i header after k found log now some low h in
        let slot : 32 * (w / 32) ≡ 32 * i = omega (arith, low) in
        let first : List Access = Store w found ∷ now in
        subst (IsFilling i header after (k + 1) log) (sym is) (record {
          news = Store w v ∷ Store w found ∷ h.news;
          page = ap (λ l. Store w v ∷ Store w found ∷ l) h.page;
          placed = placed (Store w v ∷ Store w found ∷ h.news) (inr (found, refl));
          stores = h.stores;
          careful = λ empty. (
            ap type_of (ap (λ l. known (Store w found ∷ l) (32 * (w / 32))) (sym h.page) ∙ ap (known first) slot
                ∙ one.1) ∙ empty,
            one.0 empty,
          );
          head = stored-other w v first (32 * i) (λ e. omega (arith, e, some)) ∙ one.1;
          done = λ j above below. finish first j one.2 above below (cases_eq j k);
          others = λ x ne. stored-other w v first x (λ e. ne (omega (arith, e, low))) ∙ one.3 x ne;
        })

pub filled-store : (i header : ℕ) (after : List ℕ) (log now next : List Access) → known log (32 * i) ≡ header
    → slice_index after 0 ≢ header → IsFilling i header after 32 log now → next ≡ Store (32 * i) (slice_index after 0)
    ∷ now
    → IsFilled i header after log next
filled-store i header after log now next head new h is = subst (IsFilled i header after log) (sym is) (record {
  news = Store (32 * i) v ∷ h.news;
  page = ap (λ l. Store (32 * i) v ∷ l) h.page;
  stores = h.stores;
  careful = λ empty. (
    ap type_of
        (ap (λ l. known l (32 * ((32 * i) / 32))) (sym h.page) ∙ ap (known now) slot ∙ h.head) ∙ empty,
    h.careful empty,
  );
  words = λ k low. finish k low (cases_eq k 0);
  others = λ x ne. stored-other (32 * i) v now x (λ e. ne (omega (arith, e))) ∙ h.others x ne;
  placed = inr ((h.news, refl, h.placed 31 (omega arith)), (λ e. new (e ∙ head)));
})
  where
    v : ℕ
    v = slice_index after 0

    slot : 32 * ((32 * i) / 32) ≡ 32 * i
    slot = omega arith

    finish : (k : ℕ) → k < 32 → (k ≡ 0) ⊎ (k ≢ 0) → known (Store (32 * i) v ∷ now) (32 * i + k) ≡ slice_index after k
    finish k low (inl e) = stored-here (32 * i) v now (32 * i + k) (omega (arith, e)) ∙ ap (slice_index after) (sym e)
    finish k low (inr ne) =
        stored-other (32 * i) v now (32 * i + k) (λ e. ne (omega (arith, e))) ∙ h.done k (omega (arith, ne)) low

pub filled-none : (i header : ℕ) (after : List ℕ) (log : List Access) → known log (32 * i) ≡ header
    → slice_index after 0 ≡ header → ((k : ℕ) → 1 ≤ k → k < 32 → known log (32 * i + k) ≡ slice_index after k)
    → IsFilled i header after log log
filled-none i header after log head is payload = record {
  news = [];
  page = refl;
  stores = tt;
  careful = λ _. tt;
  words = λ k low. finish k low (cases_eq k 0);
  others = λ x _. refl;
  placed = inl (is, refl);
}
  where
    finish : (k : ℕ) → k < 32 → (k ≡ 0) ⊎ (k ≢ 0) → known log (32 * i + k) ≡ slice_index after k
    finish k low (inl e) =
        ap (known log) (let z : 32 * i + k ≡ 32 * i = omega (arith, e) in z) ∙ head ∙ sym is
        ∙ ap (slice_index after) (sym e)
    finish k low (inr ne) = payload k (omega (arith, ne)) low
