-- The spots of an image, in their order: where lines may be. Spots before a line stay when it is added, and those
-- after it are empty.
use Rattle.std.proofs.Common.{◌≡◌, ◌≢◌, Bool, true, false, nat_eq, ℕ, zero, suc, ◌+◌, ◌*◌, ◌<◌, ◌≤◌, List, [], ◌∷◌, ◌++◌, refl, sym, subst, ◌∙◌, arith}
use Rattle.event_ports.specs.Ports.{port_count}
use Rattle.text_image.specs.Image.{Lines, each_below}
use Rattle.text_restore.specs.Restoring.{rank}
use Rattle.law_images.proofs.Growing.{each-same, each-empty, each-grows}

-- the sections of an image, in its order
pub data Section : Type 0 where
  Time : Section
  Lapics : Section
  Registers : Section
  Guests : Section
  Owns : Section
  Ports : Section
  Timers : Section
  Queues : Section
  Slots : Section

abbrev pub number : Section → ℕ
number Time = 0
number Lapics = 1
number Registers = 2
number Guests = 3
number Owns = 4
number Ports = 5
number Timers = 6
number Queues = 7
number Slots = 8

abbrev pub section_of : ℕ → Section
section_of zero = Time
section_of (suc zero) = Lapics
section_of (suc (suc zero)) = Registers
section_of (suc (suc (suc zero))) = Guests
section_of (suc (suc (suc (suc zero)))) = Owns
section_of (suc (suc (suc (suc (suc zero))))) = Ports
section_of (suc (suc (suc (suc (suc (suc zero)))))) = Timers
section_of (suc (suc (suc (suc (suc (suc (suc zero))))))) = Queues
section_of k = Slots

-- how many numbers a section has at each level, on a board of n processors and m guest pages
abbrev pub first_size : ℕ → ℕ → Section → ℕ
first_size n m Time = 1
first_size n m Guests = m
first_size n m Ports = port_count n (nat_eq m 0)
first_size n m section = n

abbrev pub second_size : Section → ℕ
second_size Registers = 19
second_size Owns = 2
second_size Timers = 4
second_size Queues = 16
second_size Slots = 16
second_size section = 1

abbrev pub third_size : Section → ℕ
third_size Guests = 16
third_size Owns = 16
third_size section = 1

-- the lines at each spot of an image
abbrev pub Layout : Type 0
Layout = Section → ℕ → ℕ → ℕ → Lines

abbrev pub section_lines : ℕ → ℕ → Layout → Section → Lines
section_lines n m lines section =
    each_below (first_size n m section)
    (λ a. each_below (second_size section) (λ b. each_below (third_size section) (λ c. lines section a b c)))

abbrev pub all_lines : ℕ → ℕ → Layout → Lines
all_lines n m lines = each_below 9 (λ k. section_lines n m lines (section_of k))

-- the rank of a spot; a page has sixteen blocks
abbrev pub rank_at : Section → ℕ → ℕ → ℕ → ℕ
rank_at section a b c = rank (number section + 1) a b (256 * c)

abbrev pub IsSpot : ℕ → ℕ → Section → ℕ → ℕ → ℕ → Type 0
IsSpot n m section a b c = (a < first_size n m section) × (b < second_size section) × (c < third_size section)

-- two layouts differ at this rank at most
abbrev pub AgreeElsewhere : ℕ → ℕ → ℕ → Layout → Layout → Type 0
AgreeElsewhere n m at old new =
    (σ : Section) (i j k : ℕ) → IsSpot n m σ i j k → rank_at σ i j k ≢ at → new σ i j k ≡ old σ i j k

-- a layout has no lines after this rank
abbrev pub IsEmptyAfter : ℕ → ℕ → ℕ → Layout → Type 0
IsEmptyAfter n m at lines = (σ : Section) (i j k : ℕ) → IsSpot n m σ i j k → at < rank_at σ i j k → lines σ i j k ≡ []

-- A layout gets one more line, at the end of a spot, and has no lines after that spot.
pub record AddsLine (n m : ℕ) (old new : Layout) (at : ℕ) (x : List (List ℕ)) : Type 0 where
  pub section : Section
  pub a : ℕ
  pub b : ℕ
  pub c : ℕ
  pub spot : IsSpot n m section a b c
  pub is : at ≡ rank_at section a b c
  pub frame : AgreeElsewhere n m at old new
  pub blank : IsEmptyAfter n m at old
  pub added : new section a b c ≡ old section a b c ++ x ∷ []

pub all-empty : (n m : ℕ) (lines : Layout) → ((σ : Section) (a b c : ℕ) → IsSpot n m σ a b c → lines σ a b c ≡ [])
    → all_lines n m lines ≡ []
all-empty n m lines h = each-empty 9 (λ k. section_lines n m lines (section_of k)) (λ q _. none (section_of q))
  where
    none : (σ : Section) → section_lines n m lines σ ≡ []
    none σ = each-empty (first_size n m σ)
        (λ a. each_below (second_size σ) (λ b. each_below (third_size σ) (λ c. lines σ a b c)))
        (λ a below. each-empty (second_size σ) (λ b. each_below (third_size σ) (λ c. lines σ a b c))
        (λ b middle. each-empty (third_size σ) (λ c. lines σ a b c) (λ c inside. h σ a b c (below, middle, inside))))

numbered : (k : ℕ) → k < 9 → number (section_of k) ≡ k
numbered zero h = refl
numbered (suc zero) h = refl
numbered (suc (suc zero)) h = refl
numbered (suc (suc (suc zero))) h = refl
numbered (suc (suc (suc (suc zero)))) h = refl
numbered (suc (suc (suc (suc (suc zero))))) h = refl
numbered (suc (suc (suc (suc (suc (suc zero)))))) h = refl
numbered (suc (suc (suc (suc (suc (suc (suc zero))))))) h = refl
numbered (suc (suc (suc (suc (suc (suc (suc (suc k)))))))) h = omega (arith, h)

sectioned : (σ : Section) → section_of (number σ) ≡ σ
sectioned Time = refl
sectioned Lapics = refl
sectioned Registers = refl
sectioned Guests = refl
sectioned Owns = refl
sectioned Ports = refl
sectioned Timers = refl
sectioned Queues = refl
sectioned Slots = refl

few : (σ : Section) → number σ < 9
few Time = omega arith
few Lapics = omega arith
few Registers = omega arith
few Guests = omega arith
few Owns = omega arith
few Ports = omega arith
few Timers = omega arith
few Queues = omega arith
few Slots = omega arith

pub ports-few : (n : ℕ) (sparse : Bool) → n ≤ 64 → port_count n sparse ≤ 256
unfolding port_count
ports-few n true processors = omega arith
ports-few n false processors = omega arith

first-few : (n m : ℕ) → n ≤ 64 → m ≤ 64 → (σ : Section) → first_size n m σ ≤ 256
first-few n m processors pages Time = omega arith
first-few n m processors pages Guests = omega arith
first-few n m processors pages Ports = ports-few n (nat_eq m 0) processors
first-few n m processors pages Lapics = omega arith
first-few n m processors pages Registers = omega arith
first-few n m processors pages Owns = omega arith
first-few n m processors pages Timers = omega arith
first-few n m processors pages Queues = omega arith
first-few n m processors pages Slots = omega arith

second-few : (σ : Section) → second_size σ ≤ 19
second-few Registers = omega arith
second-few Owns = omega arith
second-few Timers = omega arith
second-few Queues = omega arith
second-few Slots = omega arith
second-few Time = omega arith
second-few Guests = omega arith
second-few Ports = omega arith
second-few Lapics = omega arith

third-few : (σ : Section) → third_size σ ≤ 16
third-few Guests = omega arith
third-few Owns = omega arith
third-few Registers = omega arith
third-few Timers = omega arith
third-few Queues = omega arith
third-few Slots = omega arith
third-few Time = omega arith
third-few Ports = omega arith
third-few Lapics = omega arith

-- Numbers are so low that the places are in the order of the spots.
record IsLow (n m : ℕ) (σ : Section) (a b c : ℕ) : Type 0 where
  first : a < 256
  second : b < 19
  third : c < 16

low : (n m : ℕ) → n ≤ 64 → m ≤ 64 → (σ : Section) (a b c : ℕ) → IsSpot n m σ a b c → IsLow n m σ a b c
low n m processors pages σ a b c h = record {
  first = omega (arith, h.0, first-few n m processors pages σ);
  second = omega (arith, h.1, second-few σ);
  third = omega (arith, h.2, third-few σ);
}

-- all spots are before the end
pub before-end : (n m : ℕ) → n ≤ 64 → m ≤ 64 → (σ : Section) (a b c : ℕ) → IsSpot n m σ a b c
    → rank_at σ a b c < rank 10 0 0 0
before-end n m processors pages σ a b c spot =
    let l = low n m processors pages σ a b c spot in omega (arith, l.first, l.second, l.third, few σ)

-- All lines get that line at their end.
module _ (n m : ℕ) (processors : n ≤ 64) (pages : m ≤ 64) (old new : Layout) (at : ℕ) (x : List (List ℕ))
    (h : AddsLine n m old new at x) where
  here : IsLow n m h.section h.a h.b h.c
  here = low n m processors pages h.section h.a h.b h.c h.spot

  in-row : each_below (third_size h.section) (new h.section h.a h.b)
      ≡ each_below (third_size h.section) (old h.section h.a h.b) ++ x ∷ []
  in-row = each-grows (third_size h.section) h.c (old h.section h.a h.b) (new h.section h.a h.b) x (record {
    within = h.spot.2;
    others = λ k below other.
        h.frame h.section h.a h.b k (h.spot.0, h.spot.1, below) (λ e. omega (arith, e, h.is, other));
    empty = λ k below later. h.blank h.section h.a h.b k (h.spot.0, h.spot.1, below) (omega (arith, h.is, later));
    here = h.added;
  })

  in-group : each_below (second_size h.section) (λ b. each_below (third_size h.section) (new h.section h.a b)) ≡
      each_below (second_size h.section) (λ b. each_below (third_size h.section) (old h.section h.a b)) ++ x ∷ []
  in-group = each-grows (second_size h.section) h.b (λ b. each_below (third_size h.section) (old h.section h.a b))
      (λ b. each_below (third_size h.section) (new h.section h.a b)) x (record {
        within = h.spot.1;
        others = λ j below other. each-same (third_size h.section) (old h.section h.a j) (new h.section h.a j)
            (λ k inside. let s : IsSpot n m h.section h.a j k = (h.spot.0, below, inside) in
            h.frame h.section h.a j k s (λ e. apart j k (low n m processors pages h.section h.a j k s) other e));
        empty = λ j below later. each-empty (third_size h.section) (old h.section h.a j)
            (λ k inside. let s : IsSpot n m h.section h.a j k = (h.spot.0, below, inside) in
            h.blank h.section h.a j k s (after j k (low n m processors pages h.section h.a j k s) later));
        here = in-row;
      })
    where
      apart : (j k : ℕ) → IsLow n m h.section h.a j k → j ≢ h.b → rank_at h.section h.a j k ≢ at
      apart j k l other e = omega (arith, e, h.is, other, l.third, here.third)

      after : (j k : ℕ) → IsLow n m h.section h.a j k → h.b < j → at < rank_at h.section h.a j k
      after j k l later = omega (arith, h.is, later, here.third)

  in-section : section_lines n m new h.section ≡ section_lines n m old h.section ++ x ∷ []
  in-section = each-grows (first_size n m h.section) h.a
      (λ a. each_below (second_size h.section) (λ b. each_below (third_size h.section) (old h.section a b)))
      (λ a. each_below (second_size h.section) (λ b. each_below (third_size h.section) (new h.section a b))) x (record {
        within = h.spot.0;
        others = λ i below other.
            each-same (second_size h.section) (λ b. each_below (third_size h.section) (old h.section i b))
            (λ b. each_below (third_size h.section) (new h.section i b))
            (λ j middle. each-same (third_size h.section) (old h.section i j) (new h.section i j)
            (λ k inside. let s : IsSpot n m h.section i j k = (below, middle, inside) in
            h.frame h.section i j k s (λ e. apart i j k (low n m processors pages h.section i j k s) other e)));
        empty = λ i below later.
            each-empty (second_size h.section) (λ b. each_below (third_size h.section) (old h.section i b))
            (λ j middle. each-empty (third_size h.section) (old h.section i j)
            (λ k inside. h.blank h.section i j k (below, middle, inside) (after i j k later)));
        here = in-group;
      })
    where
      apart : (i j k : ℕ) → IsLow n m h.section i j k → i ≢ h.a → rank_at h.section i j k ≢ at
      apart i j k l other e = omega (arith, e, h.is, other, l.second, l.third, here.second, here.third)

      after : (i j k : ℕ) → h.a < i → at < rank_at h.section i j k
      after i j k later = omega (arith, h.is, later, here.second, here.third)

  pub all-grow : all_lines n m new ≡ all_lines n m old ++ x ∷ []
  all-grow = each-grows 9 (number h.section) (λ k. section_lines n m old (section_of k))
      (λ k. section_lines n m new (section_of k)) x (record {
        within = few h.section;
        others = λ q below other. same (section_of q) (λ e. other (sym (numbered q below) ∙ e));
        empty = λ q below later. none (section_of q) (omega (arith, numbered q below, later));
        here = subst (λ (σ : Section). section_lines n m new σ ≡ section_lines n m old σ ++ x ∷ [])
            (sym (sectioned h.section)) in-section;
      })
    where
      apart : (σ : Section) (i j k : ℕ) → IsLow n m σ i j k → number σ ≢ number h.section → rank_at σ i j k ≢ at
      apart σ i j k l other e =
          omega (arith, e, h.is, other, l.first, l.second, l.third, here.first, here.second, here.third)

      after : (σ : Section) (i j k : ℕ) → number h.section < number σ → at < rank_at σ i j k
      after σ i j k later = omega (arith, h.is, later, here.first, here.second, here.third)

      same : (σ : Section) → number σ ≢ number h.section → section_lines n m new σ ≡ section_lines n m old σ
      same σ other = each-same (first_size n m σ)
          (λ a. each_below (second_size σ) (λ b. each_below (third_size σ) (old σ a b)))
          (λ a. each_below (second_size σ) (λ b. each_below (third_size σ) (new σ a b)))
          (λ i below. each-same (second_size σ) (λ b. each_below (third_size σ) (old σ i b))
          (λ b. each_below (third_size σ) (new σ i b))
          (λ j middle. each-same (third_size σ) (old σ i j) (new σ i j)
          (λ k inside. let s : IsSpot n m σ i j k = (below, middle, inside) in
          h.frame σ i j k s (λ e. apart σ i j k (low n m processors pages σ i j k s) other e))))

      none : (σ : Section) → number h.section < number σ → section_lines n m old σ ≡ []
      none σ later =
          each-empty (first_size n m σ) (λ a. each_below (second_size σ) (λ b. each_below (third_size σ) (old σ a b)))
          (λ i below. each-empty (second_size σ) (λ b. each_below (third_size σ) (old σ i b))
          (λ j middle. each-empty (third_size σ) (old σ i j)
          (λ k inside. h.blank σ i j k (below, middle, inside) (after σ i j k later))))
