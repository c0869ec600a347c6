-- Which lines open a board.
use Rattle.std.proofs.Common.{◌≡◌, ℕ, List, [], ◌∷◌, Option, Some, None, true, false, refl, sym, ap, subst, ◌∙◌, codes, decimal, ◌≢◌, ◌<◌, ◌≤◌, ◌⊎◌, inl, inr, arith}
use Rattle.std.proofs.lemmas.Bool.{cases_lt}
use Rattle.std.specs.Str.{bytes_eq}
use Rattle.text_base.specs.Fields.{fields_of}
use Rattle.synic_board.specs.State.{IsWithinLimits}
use Rattle.text_lines.specs.Items.{Opening, pages_field}
use Rattle.text_lines.specs.Reading.{Fields, parse_item, parse_opening, item_at}
use Rattle.text_lines.proofs.ReadLemmas.{reading-means, says-opening}
use Rattle.text_restore.specs.inside.Stages.{OpensNone}

parsed : (word : List ℕ) (fields : Fields) (n : ℕ) (p : Option ℕ) (t : ℕ) → bytes_eq word (codes "board") ≡ true
    → parse_opening fields ≡ Some (n, p, t) →
    parse_item (word ∷ fields) ≡ Some (Opening n p t)
parsed word fields n p t is read = rw (is, read) refl

-- the item of a board line
pub item : (line word : List ℕ) (fields : Fields) (n : ℕ) (p : Option ℕ) (t : ℕ) → fields_of line ≡ word ∷ fields
    → bytes_eq word (codes "board") ≡ true → parse_opening fields ≡ Some (n, p, t) →
    item_at line ≡ Some (Opening n p t)
unfolding item_at
item line word fields n p t cut is read = ap parse_item cut ∙ parsed word fields n p t is read

-- a board line without a number of pages
pub no-pages : (line : List ℕ) (n t : ℕ) → item_at line ≡ Some (Opening n None t) → OpensNone line
no-pages line n t is = λ new h.
    let both : Some (Opening h.count (Some h.pages) h.ticket) ≡ Some (Opening n None t) = sym h.item ∙ is in cc

pub no-word : (line : List ℕ) → fields_of line ≡ [] → OpensNone line
no-word line cut = λ new h.
    let d = (reading-means line (Opening h.count (Some h.pages) h.ticket)).0 h.item in
    let e : [] ≡ codes "board" ∷ decimal h.count ∷ pages_field (Some h.pages) ∷ decimal h.ticket ∷ [] =
    sym cut ∙ d.fields in cc

pub other-word : (line word : List ℕ) (fields : Fields) → fields_of line ≡ word ∷ fields
    → bytes_eq word (codes "board") ≡ false → OpensNone line
other-word line word fields cut other = λ new h.
    let d = (reading-means line (Opening h.count (Some h.pages) h.ticket)).0 h.item in
    let e : word ∷ fields ≡ codes "board" ∷ decimal h.count ∷ pages_field (Some h.pages) ∷ decimal h.ticket ∷ [] =
    sym cut ∙ d.fields in
    let same : word ≡ codes "board" = cc in
    let off : true ≡ false = sym (ap (λ (w : List ℕ). bytes_eq w (codes "board")) same) ∙ other in cc

apart : (sizes : ℕ × Option ℕ × ℕ) → None ≡ Some sizes → ⊥
apart sizes e = cc

pub no-sizes : (line word : List ℕ) (fields : Fields) → fields_of line ≡ word ∷ fields → parse_opening fields ≡ None
    → OpensNone line
no-sizes line word fields cut none = λ new h.
    let d = (reading-means line (Opening h.count (Some h.pages) h.ticket)).0 h.item in
    let e : word ∷ fields ≡ codes "board" ∷ decimal h.count ∷ pages_field (Some h.pages) ∷ decimal h.ticket ∷ [] =
    sym cut ∙ d.fields in
    let rest : fields ≡ decimal h.count ∷ pages_field (Some h.pages) ∷ decimal h.ticket ∷ [] = cc in
    apart (h.count, Some h.pages, h.ticket)
    (sym none ∙ ap parse_opening rest ∙ says-opening h.count (Some h.pages) h.ticket d.fits)

pub bad-sizes : (line : List ℕ) (n p t : ℕ) → item_at line ≡ Some (Opening n (Some p) t) → (IsWithinLimits n p → ⊥)
    → OpensNone line
bad-sizes line n p t is off = λ new h.
    let both : Some (Opening h.count (Some h.pages) h.ticket) ≡ Some (Opening n (Some p) t) = sym h.item ∙ is in
    let count : h.count ≡ n = cc in
    let pages : h.pages ≡ p = cc in
    off (subst (λ (k : ℕ). IsWithinLimits n k) pages (subst (λ (k : ℕ). IsWithinLimits k h.pages) count h.sizes))

-- sizes that are not outside the limits are within them
pub within-limits : (n p : ℕ) → ((IsWithinLimits n p → ⊥) → ⊥) → IsWithinLimits n p
within-limits n p inside = record {
  some_processor = some (cases_lt 0 n);
  processor_bound = bound (cases_lt 64 n);
  dense_bound = λ held. dense held (cases_lt 8 n);
  page_bound = pages (cases_lt 64 p);
}
  where
    some : (0 < n) ⊎ (n ≤ 0) → 1 ≤ n
    some (inl h) = omega (arith, h)
    some (inr h) = absurd (inside (λ w. let l = w.some_processor in omega (arith, h, l)))

    bound : (64 < n) ⊎ (n ≤ 64) → n ≤ 64
    bound (inl h) = absurd (inside (λ w. let l = w.processor_bound in omega (arith, h, l)))
    bound (inr h) = h

    dense : p ≢ 0 → (8 < n) ⊎ (n ≤ 8) → n ≤ 8
    dense held (inl h) = absurd (inside (λ w. let l = w.dense_bound held in omega (arith, h, l)))
    dense held (inr h) = h

    pages : (64 < p) ⊎ (p ≤ 64) → p ≤ 64
    pages (inl h) = absurd (inside (λ w. let l = w.page_bound in omega (arith, h, l)))
    pages (inr h) = h
