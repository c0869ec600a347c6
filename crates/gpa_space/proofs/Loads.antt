-- A guest loads the bytes that it stored.
use Rattle.std.proofs.Common.{◌≡◌, ℕ, ◌+◌, ◌/◌, ◌%◌, ◌<◌, ◌≤◌, List, [], ◌++◌, length, get_or, set, take, drop, None, Some, Ok, refl, ap, ◌∙◌, arith}
use Rattle.std.proofs.lemmas.Bool.Decides.{nat_tests}
use Rattle.std.proofs.lemmas.List.{append_assoc, get_or-set_same, length-set, length-take-le}
use Rattle.std.proofs.lemmas.List.Quantifiers.{position-Some}
use Rattle.std.proofs.Math.Seq.{take-append_seam, drop-append_seam}
use Rattle.gpa_space.specs.Page.{overwritten}
use Rattle.gpa_space.specs.Space.{Space, is_mapped_at, visible, visible_page, with_visible_page, refusal_of, loaded}
use Rattle.gpa_space.specs.Laws.{IsWholeSpace, StoredBytesAreLoaded}

-- the bytes that were written at an offset are there
put_there : (page bytes : List ℕ) (at : ℕ) → at ≤ length page
    → take (length bytes) (drop at (overwritten page at bytes)) ≡ bytes
put_there page bytes at h =
    let rest : List ℕ = drop (at + length bytes) page in
    let joined = ap (drop at) (append_assoc (take at page) bytes rest) in
    let seam = rw (length-take-le at page h) at (drop-append_seam (take at page) (bytes ++ rest)) in
    ap (take (length bytes)) (joined ∙ seam) ∙ take-append_seam bytes rest

-- if the access is not refused and no overlay is visible there, its first byte is in a page that the space holds
inside : (s : Space) (address count : ℕ) → refusal_of s address count ≡ None → visible s (address / 4096) ≡ None
    → address / 4096 < length s.pages
inside s address count none below = grind (arith, nat_tests)

abbrev Loads : Space → ℕ → List ℕ → Type 0
Loads t address bytes = loaded t address (length bytes) ≡ Ok (record { items = bytes })

-- what is loaded from a page whose bytes were replaced
loads : (t : Space) (address : ℕ) (page bytes : List ℕ) → refusal_of t address (length bytes) ≡ None →
    visible_page t (address / 4096) ≡ overwritten page (address % 4096) bytes → length page ≡ 4096
    → Loads t address bytes
loads t address page bytes none is len = rw (none, is, put_there page bytes (address % 4096) (omega arith)) refl

-- a store to the guest page
below : (s : Space) (address : ℕ) (bytes : List ℕ) → IsWholeSpace s → refusal_of s address (length bytes) ≡ None
    → visible s (address / 4096) ≡ None →
    Loads (with_visible_page s (address / 4096)
    (overwritten (visible_page s (address / 4096)) (address % 4096) bytes)) address bytes
below s address bytes whole none e =
    let g : ℕ = address / 4096 in
    let page : List ℕ = get_or s.pages g [] in
    let stored : List ℕ = overwritten page (address % 4096) bytes in
    let within : g < length s.pages = inside s address (length bytes) none e in
    rw e (loads (record s { pages = set s.pages g stored }) address page bytes (rw (length-set s.pages g stored) none)
    (rw e (get_or-set_same s.pages g stored [] within)) (whole.pages g [] within))

-- a store to an overlay
above : (s : Space) (address : ℕ) (bytes : List ℕ) (k : ℕ) → IsWholeSpace s
    → refusal_of s address (length bytes) ≡ None → visible s (address / 4096) ≡ Some k →
    Loads (with_visible_page s (address / 4096)
    (overwritten (visible_page s (address / 4096)) (address % 4096) bytes)) address bytes
above s address bytes k whole none e =
    let g : ℕ = address / 4096 in
    let page : List ℕ = get_or s.own k [] in
    let stored : List ℕ = overwritten page (address % 4096) bytes in
    let first : k < length s.registers = (position-Some (is_mapped_at g) s.registers k 0 e).0 in
    let within : k < length s.own = omega (arith, whole.each) in
    rw e (loads (record s { own = set s.own k stored }) address page bytes none
    (rw e (get_or-set_same s.own k stored [] within)) (whole.own k [] within))

pub stored_are_loaded : StoredBytesAreLoaded
stored_are_loaded s address bytes whole none =
    rw none (elim (visible s (address / 4096)) as
    (λ o. visible s (address / 4096) ≡ o
    → Loads (with_visible_page s (address / 4096)
    (overwritten (visible_page s (address / 4096)) (address % 4096) bytes)) address bytes) [
      | None ↦ λ e. below s address bytes whole none e
      | Some k ↦ λ e. above s address bytes k whole none e
    ] refl)
