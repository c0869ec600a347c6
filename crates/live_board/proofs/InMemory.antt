-- What memory holds of a slot that the host stored.
use Rattle.std.proofs.Common.{◌≡◌, ◌≢◌, ◌⊎◌, inl, inr, ℕ, zero, suc, ◌+◌, ◌*◌, ◌<◌, ◌≤◌, true, false, List, [], ◌∷◌, ◌++◌, refl, sym, ap, ◌∙◌, arith}
use Rattle.std.specs.Prelude.{◌==◌}
use Rattle.std.proofs.lemmas.Bool.{cases_eq}
use Rattle.std.proofs.lemmas.Bool.Decides.{nat_tests}
use Rattle.live_pages.specs.Words.{known, IsPut}
use Rattle.live_pages.specs.Traces.{memory, accesses, IsHistory}
use Rattle.live_pages.specs.declared.access.Access.{Access}
use Rattle.live_pages.specs.declared.access.Access.TheVariants.{Load, FetchOr, Store}
use Rattle.live_pages.specs.declared.access.Turn.{Turn}
use Rattle.live_pages.specs.declared.access.Turn.TheVariants.{ByHost, ByGuest}
use Rattle.live_board.specs.Live.{ArePuts, IsStored}
use Rattle.live_board.specs.Waking.{IsUntouched}
use Rattle.live_board.proofs.Filled.{stored-here, stored-other}

same : (x h : ℕ) → x ≡ h → (x == h) ≡ true
same x h e = grind (arith, nat_tests)

apart : (x h : ℕ) → x ≢ h → (x == h) ≡ false
apart x h e = grind (arith, nat_tests)

left : (w x : ℕ) (turns : List Turn) → w ≢ x → ((w == x) ≡ true) ⊎ IsUntouched w turns → IsUntouched w turns
left w x turns ne (inl e) = absurd (let f : true ≡ false = sym e ∙ apart w x ne in cc)
left w x turns ne (inr h) = h

-- memory holds what the host knows of a word, unless the guest has stored it since
pub known-in-memory : (turns : List Turn) (w : ℕ) → IsHistory turns → IsUntouched w turns
    → memory turns w ≡ known (accesses turns) w
known-in-memory [] w h free = refl
known-in-memory (ByGuest x value ∷ turns) w h free = rw (apart w x free.0) (known-in-memory turns w h free.1)
known-in-memory (ByHost (Load x found) ∷ turns) w h free =
    by (λ ne. known-in-memory turns w h.1 (left w x turns ne free)) (cases_eq w x)
  where
    by : (w ≢ x → memory turns w ≡ known (accesses turns) w) → (w ≡ x) ⊎ (w ≢ x)
        → memory turns w ≡ known (Load x found ∷ accesses turns) w
    by below (inl e) = rw (same w x e) (ap (memory turns) e ∙ sym h.0)
    by below (inr ne) = rw (apart w x ne) (below ne)
known-in-memory (ByHost (FetchOr x mask found) ∷ turns) w h free =
    by (λ ne. known-in-memory turns w h.1 (left w x turns ne free)) (cases_eq w x)
  where
    by : (w ≢ x → memory turns w ≡ known (accesses turns) w) → (w ≡ x) ⊎ (w ≢ x)
        → memory (ByHost (FetchOr x mask found) ∷ turns) w ≡ known (FetchOr x mask found ∷ accesses turns) w
    by below (inl e) = rw (same w x e) refl
    by below (inr ne) = rw (apart w x ne) (below ne)
known-in-memory (ByHost (Store x value) ∷ turns) w h free =
    by (λ ne. known-in-memory turns w h.1 (left w x turns ne free)) (cases_eq w x)
  where
    by : (w ≢ x → memory turns w ≡ known (accesses turns) w) → (w ≡ x) ⊎ (w ≢ x)
        → memory (ByHost (Store x value) ∷ turns) w ≡ known (Store x value ∷ accesses turns) w
    by below (inl e) = rw (same w x e) refl
    by below (inr ne) = rw (apart w x ne) (below ne)

known-put : (w v : ℕ) (rest news log : List Access) → IsPut w v rest news → (x : ℕ) → x ≡ w
    → known (news ++ log) x ≡ v
known-put w v rest news log (inl is) x e = ap (λ l. known (l ++ log) x) is ∙ stored-here w v (rest ++ log) x e
known-put w v rest news log (inr (f, is)) x e =
    ap (λ l. known (l ++ log) x) is ∙ stored-here w v (Store w f ∷ (rest ++ log)) x e

known-beside : (w v : ℕ) (rest news log : List Access) → IsPut w v rest news → (x : ℕ) → x ≢ w
    → known (news ++ log) x ≡ known (rest ++ log) x
known-beside w v rest news log (inl is) x ne =
    ap (λ l. known (l ++ log) x) is ∙ stored-other w v (rest ++ log) x ne
known-beside w v rest news log (inr (f, is)) x ne =
    ap (λ l. known (l ++ log) x) is ∙ stored-other w v (Store w f ∷ (rest ++ log)) x ne
    ∙ stored-other w f (rest ++ log) x ne

known-puts : (i : ℕ) (image : ℕ → ℕ) (n : ℕ) (news log : List Access) → ArePuts i image n news → (k : ℕ) → 1 ≤ k
    → k ≤ n → known (news ++ log) (32 * i + k) ≡ image k
known-puts i image zero news log h k some low = absurd (omega (arith, some, low))
known-puts i image (suc n) news log h k some low =
    by (λ under. known-puts i image n h.0 log h.2 k some under) (cases_eq k (suc n))
  where
    by : (k ≤ n → known (h.0 ++ log) (32 * i + k) ≡ image k) → (k ≡ suc n) ⊎ (k ≢ suc n)
        → known (news ++ log) (32 * i + k) ≡ image k
    by below (inl e) =
        known-put (32 * i + suc n) (image (suc n)) h.0 news log h.1 (32 * i + k) (ap (λ m. 32 * i + m) e)
        ∙ ap image (sym e)
    by below (inr ne) =
        known-beside (32 * i + suc n) (image (suc n)) h.0 news log h.1 (32 * i + k) (λ e. ne (omega (arith, e)))
        ∙ below (omega (arith, low, ne))

-- the host knows the words of a slot that it stored
pub known-slot : (i : ℕ) (image : ℕ → ℕ) (news log : List Access) → IsStored i image news → (k : ℕ) → k < 32
    → known (news ++ log) (32 * i + k) ≡ image k
known-slot i image news log h k low = ap (λ l. known (l ++ log) (32 * i + k)) h.1 ∙ by (cases_eq k 0)
  where
    rest : List Access
    rest = h.0 ++ log

    by : (k ≡ 0) ⊎ (k ≢ 0) → known (Store (32 * i) (image 0) ∷ rest) (32 * i + k) ≡ image k
    by (inl e) = stored-here (32 * i) (image 0) rest (32 * i + k) (omega (arith, e)) ∙ ap image (sym e)
    by (inr ne) =
        stored-other (32 * i) (image 0) rest (32 * i + k) (λ e. ne (omega (arith, e)))
        ∙ known-puts i image 31 h.0 log h.2 k (omega (arith, ne)) (omega (arith, low))

pub placed-in-memory : (turns : List Turn) (stores log : List Access) (i : ℕ) (image : ℕ → ℕ) (k : ℕ)
    → IsHistory turns → IsStored i image stores → accesses turns ≡ stores ++ log → k < 32
    → IsUntouched (32 * i + k) turns → memory turns (32 * i + k) ≡ image k
placed-in-memory turns stores log i image k h are is low free =
    known-in-memory turns (32 * i + k) h free ∙ ap (λ l. known l (32 * i + k)) is
    ∙ known-slot i image stores log are k low
