-- One notice for each ticket, in order.
use Rattle.std.proofs.Common.{◌≡◌, ℕ, ◌+◌, ◌<◌, ◌≤◌, List, [], ◌∷◌, ◌++◌, map, take, length, sym, ap, ◌∙◌, arith, append_assoc, append-nil, get_or, length-append, length-take}
use Rattle.std.proofs.lemmas.List.{take_more, take_all, map-append, length-map}
use Rattle.board_terms.specs.declared.notices.Notice.{Notice}

-- the notices for the first i tickets follow those before
abbrev pub Told : (ℕ → Notice) → List Notice → List ℕ → ℕ → List Notice → Type 0
Told f before tickets i now = now ≡ before ++ map f (take i tickets)

pub told_none : (f : ℕ → Notice) (before : List Notice) (tickets : List ℕ) → Told f before tickets 0 before
told_none f before tickets = sym (append-nil before)

pub told_more : (f : ℕ → Notice) (before now more : List Notice) (tickets : List ℕ) (i : ℕ) → i < length tickets
    → Told f before tickets i now →
    more ≡ now ++ f (get_or tickets i 0) ∷ [] → Told f before tickets (i + 1) more
told_more f before now more tickets i h so_far pushed =
    pushed ∙ ap (λ ns. ns ++ f (get_or tickets i 0) ∷ []) so_far
    ∙ append_assoc before (map f (take i tickets)) (f (get_or tickets i 0) ∷ [])
    ∙ ap (λ ns. before ++ ns)
    (sym (map-append f (take i tickets) (get_or tickets i 0 ∷ [])) ∙ ap (map f) (sym (take_more tickets i 0 h)))

pub told_all : (f : ℕ → Notice) (before now : List Notice) (tickets : List ℕ) (i : ℕ) → length tickets ≤ i
    → Told f before tickets i now → now ≡ before ++ map f tickets
told_all f before now tickets i h so_far = so_far ∙ ap (λ xs. before ++ map f xs) (take_all i tickets h)

pub emitted-room : (f : ℕ → Notice) (before now : List Notice) (tickets : List ℕ) (i : ℕ) → i < length tickets
    → Told f before tickets i now → length before + length tickets ≤ 320 → length now < 320
emitted-room f before now tickets i h so_far room =
    omega (
      arith,
      ap length so_far,
      length-append before (map f (take i tickets)),
      length-map (take i tickets) f,
      length-take i tickets,
    )
