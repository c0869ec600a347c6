-- Lemmas for the theorems about traces.
use Rattle.std.proofs.Common.{◌≡◌, ◌⊎◌, inl, inr, ℕ, ◌+◌, ◌<◌, ◌≤◌, List, [], ◌∷◌, ◌++◌, length, length-append, take, drop, append_assoc, sym, ap, subst, ◌∙◌, arith, zero, suc}
use Rattle.std.proofs.lemmas.Bool.{cases_order}
use Rattle.std.proofs.lemmas.List.{take-append-drop, take-take}
use Rattle.text_base.specs.Lines.{lines_of, joined}
use Rattle.text_base.proofs.LineLemmas.{joined-append}
use Rattle.text_history.specs.Trace.{IsTrace, Begins}
use Rattle.text_trace.specs.inside.Stages.{Stage, Title, Over}
use Rattle.text_trace.specs.Verdicts.{FirstIllegal}
use Rattle.text_trace.proofs.StageLemmas.{Continues, Fits, back, one-follow, reached, Starts, starts}

begins-front : (text more : List ℕ) → Begins (text ++ more) → Begins text
begins-front text more b =
    record {
      rest = more ++ b.rest;
      entries = b.entries;
      whole = subst (λ (x : List ℕ). IsTrace x b.entries) (append_assoc text more b.rest) b.whole;
    }

begins-fewer : (lines : List (List ℕ)) (m n : ℕ) → m ≤ n → Begins (joined (take n lines))
    → Begins (joined (take m lines))
begins-fewer lines m n le b =
    let split : take n lines ≡ take m lines ++ drop m (take n lines) =
    sym (take-append-drop m (take n lines))
    ∙ ap (λ (x : List (List ℕ)). x ++ drop m (take n lines)) (take-take m n lines le) in
    begins-front (joined (take m lines)) (joined (drop m (take n lines)))
    (subst (λ (x : List ℕ). Begins x) (ap joined split ∙ joined-append (take m lines) (drop m (take n lines))) b)

not-before : (text : List ℕ) (k l : ℕ) (a : FirstIllegal text k) (b : FirstIllegal text l) → a.before < b.before → ⊥
not-before text k l a b less =
    a.wrong (omega (arith, b.there)) (begins-fewer (lines_of text) (a.before + 1) b.before (omega arith) b.good)

pub wrong-once : (text : List ℕ) (k l : ℕ) → FirstIllegal text k → FirstIllegal text l → k ≡ l
wrong-once text k l a b = by (cases_order a.before b.before)
  where
    by : (a.before ≡ b.before) ⊎ ((a.before < b.before) ⊎ (b.before < a.before)) → k ≡ l
    by (inl h) = omega (arith, a.number, b.number)
    by (inr (inl h)) = absurd (not-before text k l a b h)
    by (inr (inr h)) = absurd (not-before text l k b a h)

abbrev SameCount : ℕ → Type 0
SameCount fuel =
    (stage : Stage) (ys : List ℕ) (m n : ℕ) → Fits stage → length ys ≤ fuel → Continues stage ys m
    → Continues stage ys n → m ≡ n

over : (stage : Stage) (m n : ℕ) → stage ≡ Over m → stage ≡ Over n → m ≡ n
over stage m n e f = let same : Over m ≡ Over n = sym e ∙ f in cc

same-line : (fuel : ℕ) (stage : Stage) (ys : List ℕ) (m n : ℕ) → SameCount fuel → Fits stage → length ys ≤ suc fuel
    → Continues stage ys m → Continues stage ys n → Starts ys → m ≡ n
same-line fuel stage ys m n rest fits small h k s =
    let f = back stage s.line s.rest m fits s.one (subst (λ (x : List ℕ). Continues stage x m) s.text h) in
    let g = back stage s.line s.rest n fits s.one (subst (λ (x : List ℕ). Continues stage x n) s.text k) in
    let same : Continues f.next s.rest n =
    subst (λ (x : Stage). Continues x s.rest n) (one-follow stage s.line g.next f.next g.is f.is) g.on in
    rest f.next s.rest m n ((reached stage f.next s.line f.is).fits fits)
    (omega (arith, ap length s.text, length-append s.line (10 ∷ s.rest))) f.on same

same-count : (fuel : ℕ) → SameCount fuel
same-count zero stage ys m n fits small h k = by (starts stage ys m fits h) (starts stage ys n fits k)
  where
    by : ((stage ≡ Over m) × (ys ≡ [])) ⊎ Starts ys → ((stage ≡ Over n) × (ys ≡ [])) ⊎ Starts ys → m ≡ n
    by (inl e) (inl f) = over stage m n e.0 f.0
    by (inl e) (inr s) = absurd (omega (arith, ap length s.text, length-append s.line (10 ∷ s.rest)))
    by (inr s) f = absurd (omega (arith, ap length s.text, length-append s.line (10 ∷ s.rest)))
same-count (suc fuel) stage ys m n fits small h k =
    by (same-line fuel stage ys m n (same-count fuel) fits small h k) (starts stage ys m fits h)
    (starts stage ys n fits k)
  where
    by : (Starts ys → m ≡ n) → ((stage ≡ Over m) × (ys ≡ [])) ⊎ Starts ys → ((stage ≡ Over n) × (ys ≡ [])) ⊎ Starts ys
        → m ≡ n
    by line (inl e) (inl f) = over stage m n e.0 f.0
    by line (inl e) (inr s) = line s
    by line (inr s) f = line s

pub count-once : (text : List ℕ) (m n : ℕ) → IsTrace text m → IsTrace text n → m ≡ n
count-once text m n h k = same-count (length text) Title text m n tt (omega arith) h k
