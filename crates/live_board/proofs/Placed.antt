-- A slot is stored whole.
use Rattle.std.proofs.Common.{◌≡◌, ◌⊎◌, inl, inr, ℕ, zero, suc, ◌+◌, ◌*◌, ◌<◌, List, [], ◌∷◌, ◌++◌, refl, sym, ap, ◌∙◌, subst, arith}
use Rattle.std.specs.Prelude.{slice_index}
use Rattle.synic_board.specs.State.{State}
use Rattle.live_pages.specs.Words.{IsPut, known}
use Rattle.live_pages.specs.declared.access.Access.{Access}
use Rattle.live_pages.specs.declared.access.Access.TheVariants.{Store}
use Rattle.live_board.specs.Live.{ArePuts, IsStored, IsStoredAnew, slot_word, AreReads, HasPlaced, ArePlaced}
use Rattle.live_board.specs.inside.Parts.{AreSlotWords, IsFilled}

puts-same : (i : ℕ) (f g : ℕ → ℕ) → ((k : ℕ) → k < 32 → f k ≡ g k) → (n : ℕ) → n < 32 → (news : List Access)
    → ArePuts i f n news → ArePuts i g n news
puts-same i f g same zero low news h = h
puts-same i f g same (suc n) low news h = (
  h.0,
  subst (λ v. IsPut (32 * i + suc n) v h.0 news) (same (suc n) low) h.1,
  puts-same i f g same n (omega (arith, low)) h.0 h.2,
)

pub stored-same : (i : ℕ) (f g : ℕ → ℕ) → ((k : ℕ) → k < 32 → f k ≡ g k) → (news : List Access) → IsStored i f news
    → IsStored i g news
stored-same i f g same news h = (
  h.0,
  h.1 ∙ ap (λ v. Store (32 * i) v ∷ h.0) (same 0 (omega arith)),
  puts-same i f g same 31 (omega arith) h.0 h.2,
)

-- what stores nothing, and then a slot that is filled
pub placed-filled : (s : State) (p i header : ℕ) (words : List ℕ) (log mid now reads : List Access) → AreReads i reads
    → mid ≡ reads ++ log → AreSlotWords s p i words → IsFilled i header words mid now
    → HasPlaced i (slot_word s p i) log now
placed-filled s p i header words log mid now reads are is words-are f = (reads, are, by f.placed)
  where
    by : ((slice_index words 0 ≡ header) × (f.news ≡ [])) ⊎ IsStoredAnew i (slice_index words) mid f.news
        → (now ≡ reads ++ log)
        ⊎ ((stores : List Access) × IsStoredAnew i (slot_word s p i) (reads ++ log) stores
        × (now ≡ stores ++ (reads ++ log)))
    by (inl (same, none)) = inl (f.page ∙ ap (λ l. l ++ mid) none ∙ is)
    by (inr (all, new)) = inr (
      f.news,
      (
        stored-same i (slice_index words) (slot_word s p i) words-are f.news all,
        (λ e. new (words-are 0 (omega arith) ∙ e ∙ ap (λ l. known l (32 * i)) (sym is))),
      ),
      f.page ∙ ap (λ l. f.news ++ l) is,
    )

-- what stores nothing
pub placed-none : (s : State) (p i : ℕ) (log now reads : List Access) → AreReads i reads → now ≡ reads ++ log
    → HasPlaced i (slot_word s p i) log now
placed-none s p i log now reads are is = (reads, are, inl is)

-- one slot more of a page
pub placed-empty : (n : ℕ) (log : List Access) → ArePlaced n log []
placed-empty zero log = refl
placed-empty (suc n) log = ([], [], refl, inl refl, placed-empty n log)

pub placed-skip : (n : ℕ) (log news : List Access) → ArePlaced n log news → ArePlaced (n + 1) log news
placed-skip n log news h =
    subst (λ m. ArePlaced m log news) (let e : suc n ≡ n + 1 = omega arith in e) ([], news, refl, inl refl, h)

pub placed-more : (n header : ℕ) (words : List ℕ) (log mid now news : List Access) → ArePlaced n log news
    → mid ≡ news ++ log → (f : IsFilled n header words mid now) → ArePlaced (n + 1) log (f.news ++ news)
placed-more n header words log mid now news h is f =
    subst (λ m. ArePlaced m log (f.news ++ news)) (let e : suc n ≡ n + 1 = omega arith in e)
    (f.news, news, refl, by f.placed, h)
  where
    by : ((slice_index words 0 ≡ header) × (f.news ≡ [])) ⊎ IsStoredAnew n (slice_index words) mid f.news
        → (f.news ≡ []) ⊎ ((image : ℕ → ℕ) × IsStoredAnew n image (news ++ log) f.news)
    by (inl (same, none)) = inl none
    by (inr (all, new)) = inr (slice_index words, (all, (λ e. new (e ∙ ap (λ l. known l (32 * n)) (sym is)))))
