-- The lines of a summary, one part after another.
use Rattle.std.proofs.Common.{◌≡◌, ◌+◌, ℕ, List, [], ◌∷◌, ◌++◌, ◌||◌, map, cond, Bool, true, false, refl, sym, ap, ◌∙◌, append_assoc, append-nil, decimal, arith}
use Rattle.std.specs.FinSet as set
use Rattle.std.proofs.Math.Bool.{or-true, or-false}
use Rattle.std.proofs.lemmas.List.{map-append}
use Rattle.std.proofs.lemmas.List.FromFn.{filter_of_map_range_with_len_more}
use Rattle.lapic_core.specs.Vectors.{Vectors}
use Rattle.synic_board.specs.Summaries.{Values}
use Rattle.text_base.specs.Numbers.{two_digits}
use Rattle.text_base.specs.Fields.{spaced, line_of}
use Rattle.text_lines.specs.Printing.{text_of, numbered, next_lines, auto_lines, auto_line, auto_fields, below, timer_line, page_lines, queue_lines, summary_lines}
use Rattle.text_lines.specs.inside.Autos.{auto_part, auto_text, is_some_vector}
use Rattle.text_lines.proofs.PrintLemmas.{text_of-append}

words-more : (x : List ℕ) (xs : List (List ℕ)) (y : List ℕ) → spaced (x ∷ (xs ++ y ∷ [])) ≡ spaced (x ∷ xs) ++ 32 ∷ y
words-more x [] y = refl
words-more x (b ∷ xs) y =
    ap (λ (rest : List ℕ). x ++ 32 ∷ rest) (words-more b xs y) ∙ sym (append_assoc x (32 ∷ spaced (b ∷ xs)) (32 ∷ y))

text-more : (p v : ℕ) (found : List ℕ)
    → auto_text p (found ++ v ∷ []) ≡ auto_text p found ++ auto_part p v (is_some_vector found)
text-more p v [] = refl
text-more p v (u ∷ found) =
    ap (λ (digits : List (List ℕ)). spaced ((58 ∷ []) ∷ (97 ∷ 117 ∷ 116 ∷ 111 ∷ []) ∷ decimal p ∷ digits))
    (map-append two_digits (u ∷ found) (v ∷ []))
    ∙ words-more (58 ∷ []) ((97 ∷ 117 ∷ 116 ∷ 111 ∷ []) ∷ decimal p ∷ map two_digits (u ∷ found)) (two_digits v)

some-more : (v : ℕ) (found : List ℕ) → is_some_vector (found ++ v ∷ []) ≡ true
some-more v [] = refl
some-more v (u ∷ found) = refl

below-more : (n : ℕ) (vectors : Vectors)
    → below (n + 1) vectors ≡ below n vectors ++ cond (set.contains vectors (16 + n)) ((16 + n) ∷ []) []
below-more n vectors =
    filter_of_map_range_with_len_more (λ (v : ℕ). set.contains vectors v) (λ (i : ℕ). 16 + i) 0 n n (omega arith)

pub auto-step : (p n : ℕ) (vectors : Vectors) (any now : Bool) (start so_far new : List ℕ)
    → so_far ≡ start ++ auto_text p (below n vectors) → any ≡ is_some_vector (below n vectors) →
    now ≡ (any || set.contains vectors (16 + n))
    → new ≡ so_far ++ cond (set.contains vectors (16 + n)) (auto_part p (16 + n) any) [] →
    (new ≡ start ++ auto_text p (below (n + 1) vectors)) × (now ≡ is_some_vector (below (n + 1) vectors))
auto-step p n vectors any now start so_far new before begun after written =
    rw (below-more n vectors) (go (set.contains vectors (16 + n)) (below n vectors) before begun after written)
  where
    go : (t : Bool) (found : List ℕ) → so_far ≡ start ++ auto_text p found → any ≡ is_some_vector found
        → now ≡ (any || t) → new ≡ so_far ++ cond t (auto_part p (16 + n) any) [] →
        (new ≡ start ++ auto_text p (found ++ cond t ((16 + n) ∷ []) []))
        × (now ≡ is_some_vector (found ++ cond t ((16 + n) ∷ []) []))
    go true found before begun after written = (
      written ∙ ap (λ (x : List ℕ). x ++ auto_part p (16 + n) any) before
          ∙ ap (λ (a : Bool). (start ++ auto_text p found) ++ auto_part p (16 + n) a) begun
          ∙ append_assoc start (auto_text p found) (auto_part p (16 + n) (is_some_vector found))
          ∙ ap (λ (x : List ℕ). start ++ x) (sym (text-more p (16 + n) found)),
      after ∙ or-true any ∙ sym (some-more (16 + n) found),
    )
    go false found before begun after written = (
      written ∙ append-nil so_far ∙ before ∙ ap (λ (x : List ℕ). start ++ auto_text p x) (sym (append-nil found)),
      after ∙ or-false any ∙ begun ∙ ap is_some_vector (sym (append-nil found)),
    )

-- a line that was begun is ended, and one that was not is left out
pub auto-ended : (p : ℕ) (found start so_far new : List ℕ) → so_far ≡ start ++ auto_text p found
    → true ≡ is_some_vector found → new ≡ so_far ++ 10 ∷ [] → new ≡ start ++ text_of (auto_line p found)
auto-ended p [] start so_far new before begun written = cc
auto-ended p (v ∷ found) start so_far new before begun written =
    written ∙ ap (λ (x : List ℕ). x ++ 10 ∷ []) before ∙ append_assoc start (auto_text p (v ∷ found)) (10 ∷ [])
    ∙ ap (λ (x : List ℕ). start ++ x) (sym (append-nil (line_of (auto_fields p (v ∷ found)))))

pub auto-absent : (p : ℕ) (found start so_far : List ℕ) → so_far ≡ start ++ auto_text p found
    → false ≡ is_some_vector found → so_far ≡ start ++ text_of (auto_line p found)
auto-absent p [] start so_far before begun = before
auto-absent p (v ∷ found) start so_far before begun = cc

together : (values : Values) → text_of (summary_lines values) ≡
    text_of (numbered next_lines 0 values.nexts) ++
    (text_of (numbered auto_lines 0 values.autos)
    ++ (line_of (timer_line values.earliest)
    ++ (text_of (numbered page_lines 0 values.owners) ++ text_of (numbered queue_lines 0 values.queued))))
together values =
    let autos = numbered auto_lines 0 values.autos in
    let timer = timer_line values.earliest in
    let pages = numbered page_lines 0 values.owners in
    let queues = numbered queue_lines 0 values.queued in
    text_of-append (numbered next_lines 0 values.nexts) (autos ++ timer ∷ (pages ++ queues))
    ∙ ap (λ (x : List ℕ). text_of (numbered next_lines 0 values.nexts) ++ x)
    (text_of-append autos (timer ∷ (pages ++ queues))
    ∙ ap (λ (x : List ℕ). text_of autos ++ (line_of timer ++ x)) (text_of-append pages queues))

in_a_row : (out n a t p q : List ℕ) → ((((out ++ n) ++ a) ++ t) ++ p) ++ q ≡ out ++ (n ++ (a ++ (t ++ (p ++ q))))
in_a_row out n a t p q = simp append_assoc

pub parts : (values : Values) (out a b c d e : List ℕ) → a ≡ out ++ text_of (numbered next_lines 0 values.nexts) →
    b ≡ a ++ text_of (numbered auto_lines 0 values.autos) → c ≡ b ++ line_of (timer_line values.earliest) →
    d ≡ c ++ text_of (numbered page_lines 0 values.owners) → e ≡ d ++ text_of (numbered queue_lines 0 values.queued)
    → e ≡ out ++ text_of (summary_lines values)
parts values out a b c d e h i j k l =
    let n = text_of (numbered next_lines 0 values.nexts) in
    let v = text_of (numbered auto_lines 0 values.autos) in
    let t = line_of (timer_line values.earliest) in
    let p = text_of (numbered page_lines 0 values.owners) in
    let q = text_of (numbered queue_lines 0 values.queued) in
    l ∙ ap (λ (x : List ℕ). x ++ q)
    (k ∙ ap (λ (x : List ℕ). x ++ p) (j ∙ ap (λ (x : List ℕ). x ++ t) (i ∙ ap (λ (x : List ℕ). x ++ v) h)))
    ∙ in_a_row out n v t p q ∙ ap (λ (x : List ℕ). out ++ x) (sym (together values))
